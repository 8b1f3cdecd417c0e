-- Unicode's list of uppercase is the ASCII capital letters and the table's flat list, whose numbers start at 0xC0. Computed.
-- Assumes nothing.
use Rattle.std.specs.Prelude.{ℕ, List, [], ◌∷◌}
use mathlib.Core.Path.{refl}
use Rattle.sets.specs.Lists.{edges}
use Rattle.sets.proofs.Members.{rising}
use Rattle.bitset.specs.Bitsets.{all_below}
use Rattle.unicode_laws.proofs.Parts.{Parts}
use Rattle.table_uppercase.specs.Flat.{flat}
use Rattle.table_uppercase.specs.Unicode.{unicode}

abbrev pub ascii : List ℕ
ascii = 0x41 ∷ 0x5A ∷ []

pub parts : Parts unicode ascii flat 0xC0
unfolding unicode flat edges rising all_below
parts = record { whole = refl; pairs = refl; low = refl; high = refl }
