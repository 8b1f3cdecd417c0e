-- The lists that pass 3, 4 and 5: what each range of one keeps, and that its boundaries rise to 0x110000 at most.
-- Callers cite `Good`, `good_rises`, `good_bounds`, `good_member` and `edges_length`. Assumes nothing.
use Rattle.std.specs.Prelude.{◌≡◌, ℕ, zero, suc, ◌+◌, ◌%◌, ◌<◌, ◌≤◌, Bool, true, false, cond, List, [], ◌∷◌, length, get_or}
use mathlib.Core.Path.{refl}
use native.Mathlib.Omega.{arith}
use borrow.Author.Tests.{le-leb}
use Rattle.sets.specs.Boundaries.{member}
use Rattle.sets.specs.Lists.{ranges, fits, bad_at, edges, holds}
use Rattle.sets.proofs.Members.{rising, member_holds}
use Rattle.sets.proofs.Pairs.{fits_says}

pub record Good (l : List ℕ) : Type 0 where
  pub even : length l % 2 ≡ 0
  pub few : ranges l ≤ 1023
  pub fine : ranges l ≤ bad_at 0 0 l

passed : (t : Bool) (i m k : ℕ) → i < k → k ≤ cond t m i → (t ≡ true) × (k ≤ m)
passed true i m k l h = (refl, h)
passed false i m k l h = absurd (omega arith)

-- what a list with no bad range says of its first range, and that the rest has none
pub pair_good : (i low a b : ℕ) (l : List ℕ) → length (a ∷ (b ∷ l)) % 2 ≡ 0 → i + ranges (a ∷ (b ∷ l)) ≤ bad_at i low (a ∷ (b ∷ l))
    → (low ≤ a) × (a ≤ b) × (b ≤ 0x10FFFF) × (i + 1 + ranges l ≤ bad_at (i + 1) (b + 2) l)
unfolding bad_at
pair_good i low a b l e h =
    let z = passed (fits low a b) i (bad_at (i + 1) (b + 2) l) (i + ranges (a ∷ (b ∷ l))) (omega arith) h in
    let f = fits_says low a b z.0 in
    (f.0, f.1, f.2, omega (arith, z.1))

rising_pair : (p a b : ℕ) (bs : List ℕ) → p ≤ a → a ≤ b → rising b bs ≡ true → rising p (a ∷ (b ∷ bs)) ≡ true
unfolding rising
rising_pair p a b bs l m r = rw (le-leb p a l, le-leb a b m) r

-- its boundaries rise, from p on, if no first may be below p
pub rises : (i low p : ℕ) (l : List ℕ) → p ≤ low → length l % 2 ≡ 0 → i + ranges l ≤ bad_at i low l → rising p (edges l) ≡ true
unfolding edges rising
rises i low p [] m e h = refl
rises i low p (a ∷ []) m e h = absurd (omega arith)
rises i low p (a ∷ (b ∷ l)) m e h =
    let z = pair_good i low a b l e h in
    rising_pair p a (b + 1) (edges l) (omega arith) (omega arith)
    (rises (i + 1) (b + 2) (b + 1) l (omega arith) (omega arith) z.3)

-- and none is above 0x110000
bounds : (i low : ℕ) (l : List ℕ) (j : ℕ) → length l % 2 ≡ 0 → i + ranges l ≤ bad_at i low l → get_or (edges l) j 0 ≤ 0x110000
unfolding edges
bounds i low [] j e h = omega arith
bounds i low (a ∷ []) j e h = omega arith
bounds i low (a ∷ (b ∷ l)) zero e h = let z = pair_good i low a b l e h in omega arith
bounds i low (a ∷ (b ∷ l)) (suc zero) e h = let z = pair_good i low a b l e h in omega arith
bounds i low (a ∷ (b ∷ l)) (suc (suc j)) e h = let z = pair_good i low a b l e h in bounds (i + 1) (b + 2) l j (omega arith) z.3

-- a boundary for each number
pub edges_length : (l : List ℕ) → length l % 2 ≡ 0 → length (edges l) ≡ length l
unfolding edges
edges_length [] e = refl
edges_length (a ∷ []) e = absurd (omega arith)
edges_length (a ∷ (b ∷ l)) e = let z = edges_length l (omega arith) in omega arith

pub good_rises : {l : List ℕ} → Good l → rising 0 (edges l) ≡ true
good_rises {l} g = rises 0 0 0 l (omega arith) g.even (omega (arith, g.fine))

pub good_bounds : {l : List ℕ} → Good l → (j : ℕ) → get_or (edges l) j 0 ≤ 0x110000
good_bounds {l} g j = bounds 0 0 l j g.even (omega (arith, g.fine))

-- so a number is in its boundaries exactly if some range of it holds the number
pub good_member : {l : List ℕ} → Good l → (x : ℕ) → member (edges l) x ≡ holds l x
good_member {l} g x = member_holds x 0 l (good_rises g)
