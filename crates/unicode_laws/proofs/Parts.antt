-- The argument for every property, made once. Unicode's list is an ASCII part and the flat list of a table. Below the
-- floor, the least number that the table may hold, a number is in Unicode's list exactly if the ASCII part holds it;
-- from 0x80 on exactly if the flat list does. Assumes nothing.
use Prim.Native.Nat.{ℕ, ◌%◌, ◌≤◌, ◌<◌}
use mathlib.Core.Path.{◌≡◌, refl, sym, ap, ◌∙◌}
use mathlib.Core.Bool.{Bool, true, false, ◌||◌, ◌&&◌}
use Rattle.std.proofs.Math.Bool.{or-false, or_assoc}
use mathlib.Core.List.{List, [], ◌∷◌, ◌++◌}
use native.Mathlib.Omega.{arith}
use lib.ListN.{length}
use lib.Dec.{leb}
use borrow.Author.Tests.{le-leb, lt-leb}
use mathlib.Core.Logic.{⊎_elim}
use Rattle.sets.proofs.Decide.{split}
use Rattle.scalar.specs.Scalars.{between}
use Rattle.sets.specs.Lists.{edges, holds}
use Rattle.sets.proofs.Members.{rising, none_below}
use Rattle.bitset.specs.Bitsets.{all_below}
use Rattle.bitset.proofs.Equal.{none_past}

pub record Parts (unicode ascii flat : List ℕ) (floor : ℕ) : Type 0 where
  pub whole : unicode ≡ ascii ++ flat
  pub pairs : length ascii % 2 ≡ 0
  pub low : all_below 0x80 ascii ≡ true
  pub high : rising floor (edges flat) ≡ true

-- two lists together hold what either holds
pub both_hold : (x : ℕ) (a b : List ℕ) → length a % 2 ≡ 0 → holds (a ++ b) x ≡ (holds a x || holds b x)
unfolding holds
both_hold x [] b e = refl
both_hold x (p ∷ []) b e = absurd (omega arith)
both_hold x (p ∷ (q ∷ a)) b e =
    ap (λ (t : Bool). between p q x || t) (both_hold x a b (omega arith)) ∙ sym (or_assoc (between p q x) (holds a x) (holds b x))

module _ (unicode ascii flat : List ℕ) (floor : ℕ) (parts : Parts unicode ascii flat floor) (x : ℕ) where
  either : holds unicode x ≡ (holds ascii x || holds flat x)
  either = ap (λ (l : List ℕ). holds l x) parts.whole ∙ both_hold x ascii flat parts.pairs

  pub below_floor : x < floor → holds unicode x ≡ holds ascii x
  below_floor h = either ∙ ap (λ (t : Bool). holds ascii x || t) (none_below x floor flat parts.high h).1 ∙ or-false (holds ascii x)

  -- what an entry answers: what the ASCII part says, and from the floor on what the flat list says
  pub in_parts : holds unicode x ≡ (holds ascii x || (leb floor x && holds flat x))
  in_parts =
      ⊎_elim
      (λ h. rw (le-leb floor x h) either)
      (λ h. rw (lt-leb floor x h, or-false (holds ascii x)) (below_floor h))
      (split floor x)

  pub from_ascii : 0x80 ≤ x → holds unicode x ≡ holds flat x
  from_ascii h = either ∙ ap (λ (t : Bool). t || holds flat x) (none_past x 0x80 ascii parts.low h)

  -- what an entry's three ways to answer cite: the ASCII part holds x; it does not, and x is below the floor; the table's answer
  pub ascii_yes : holds ascii x ≡ true → true ≡ holds unicode x
  ascii_yes e = sym (either ∙ ap (λ (t : Bool). t || holds flat x) e)

  pub ascii_no : holds ascii x ≡ false → x < floor → false ≡ holds unicode x
  ascii_no e h = sym (below_floor h ∙ e)

  pub from_table : (r : Bool) → 0x80 ≤ x → r ≡ holds flat x → r ≡ holds unicode x
  from_table r h e = e ∙ sym (from_ascii h)
