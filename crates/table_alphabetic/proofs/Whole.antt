-- Unicode's list of alphabetic is the ASCII letters and the table's flat list, whose numbers start at 0xAA. Computed.
-- Assumes nothing.
use Rattle.std.specs.Prelude.{ℕ, List, [], ◌∷◌}
use mathlib.Core.Path.{refl}
use Rattle.sets.specs.Lists.{edges}
use Rattle.sets.proofs.Members.{rising}
use Rattle.bitset.specs.Bitsets.{all_below}
use Rattle.unicode_laws.proofs.Parts.{Parts}
use Rattle.table_alphabetic.specs.Flat.{flat}
use Rattle.table_alphabetic.specs.Unicode.{unicode}

abbrev pub ascii : List ℕ
ascii = 0x41 ∷ 0x5A ∷ 0x61 ∷ 0x7A ∷ []

pub parts : Parts unicode ascii flat 0xAA
unfolding unicode flat edges rising all_below
parts = record { whole = refl; pairs = refl; low = refl; high = refl }
