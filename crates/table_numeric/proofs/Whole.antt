-- Unicode's list of numeric is the ASCII digits and the table's flat list, whose numbers start at 0xB2. Computed.
-- Assumes nothing.
use Rattle.std.specs.Prelude.{ℕ, List, [], ◌∷◌}
use mathlib.Core.Path.{refl}
use Rattle.sets.specs.Lists.{edges}
use Rattle.sets.proofs.Members.{rising}
use Rattle.bitset.specs.Bitsets.{all_below}
use Rattle.unicode_laws.proofs.Parts.{Parts}
use Rattle.table_numeric.specs.Flat.{flat}
use Rattle.table_numeric.specs.Unicode.{unicode}

abbrev pub ascii : List ℕ
ascii = 0x30 ∷ 0x39 ∷ []

pub parts : Parts unicode ascii flat 0xB2
unfolding unicode flat edges rising all_below
parts = record { whole = refl; pairs = refl; low = refl; high = refl }
