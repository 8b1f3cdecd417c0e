-- Unicode's list of whitespace is its two ASCII ranges and the other spaces, which start at 0x85: computed. So below 0x85 a number is no
-- space where it is none of ASCII's. Assumes nothing.
use Rattle.std.specs.Prelude.{◌≡◌, ℕ, ◌<◌, false, List, [], ◌∷◌}
use mathlib.Core.Path.{refl}
use native.Mathlib.Omega.{arith}
use Rattle.scalar.specs.Scalars.{between}
use Rattle.sets.specs.Lists.{edges, holds}
use Rattle.sets.proofs.Members.{rising}
use Rattle.bitset.specs.Bitsets.{all_below}
use Rattle.unicode_laws.proofs.Parts.{Parts, ascii_no}
use Rattle.properties.specs.WhiteSpace.{unicode}
use Rattle.properties.specs.Properties.{other_spaces}
use Rattle.properties.proofs.Ranges.{outside}

abbrev pub ascii : List ℕ
ascii = 9 ∷ 13 ∷ 0x20 ∷ 0x20 ∷ []

pub parts : Parts unicode ascii other_spaces 0x85
unfolding unicode edges rising all_below
parts = record { whole = refl; pairs = refl; low = refl; high = refl }

pub no_space_below : (n : ℕ) → between 9 13 n ≡ false → (n ≡ 0x20 → ⊥) → n < 0x85 → false ≡ holds unicode n
unfolding holds
no_space_below n none other low =
    ascii_no unicode ascii other_spaces 0x85 parts n (rw (none, outside 0x20 0x20 n (λ p q. other (omega arith))) refl) low
