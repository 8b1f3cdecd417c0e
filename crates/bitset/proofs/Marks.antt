-- Where every bucket of a list's ranges is marked, which is one computed test, a number of an unmarked bucket is in no range.
-- Assumes nothing.
use Rattle.std.specs.Prelude.{◌≡◌, ℕ, zero, suc, ◌+◌, ◌-◌, ◌/◌, ◌%◌, ◌^◌, ◌≤◌, Bool, true, false, ◌&&◌, leb, List, [], ◌∷◌, length}
use mathlib.Core.Path.{refl, sym}
use mathlib.Core.Logic.{⊎_elim}
use native.Mathlib.Nat.{zero-div}
use native.Mathlib.Omega.{arith}
use borrow.Author.Tests.{leb-true}
use lib.ListN.{get_or-eq_default}
use Rattle.scalar.specs.Scalars.{between}
use Rattle.sets.specs.Lists.{holds}
use Rattle.std.proofs.lemmas.Bool.{and_parts, both_ways, cases_eq}
use Rattle.bitset.specs.Marks.{marks_at, marked}

-- the buckets from b on, k more than one, are marked
unfoldable pub span_marked : List ℕ → ℕ → ℕ → Bool
span_marked words zero b = marked words b
span_marked words (suc k) b = marked words b && span_marked words k (suc b)

unfoldable pub ranges_marked : List ℕ → List ℕ → Bool
ranges_marked words [] = true
ranges_marked words (a ∷ []) = true
ranges_marked words (a ∷ (b ∷ l)) = span_marked words (b / 64 - a / 64) (a / 64) && ranges_marked words l

in_span : (words : List ℕ) (k b c : ℕ) → span_marked words k b ≡ true → b ≤ c → c ≤ b + k → marked words c ≡ true
unfolding span_marked
in_span words zero b c t l h = let e : c ≡ b = omega arith in rw e t
in_span words (suc k) b c t l h =
    ⊎_elim
    (λ (e : b ≡ c). rw (sym e) (and_parts (marked words b) (span_marked words k (suc b)) t).0)
    (λ ne. in_span words k (suc b) c (and_parts (marked words b) (span_marked words k (suc b)) t).1 (omega arith) (omega arith))
    (cases_eq b c)

-- a marked range holds no number of an unmarked bucket
outside : (words : List ℕ) (a b n : ℕ) → span_marked words (b / 64 - a / 64) (a / 64) ≡ true → marked words (n / 64) ≡ false
    → (s : Bool) → between a b n ≡ s → s ≡ false
outside words a b n t u true e =
    let f = leb-true a n (and_parts (leb a n) (leb n b) e).0 in
    let g = leb-true n b (and_parts (leb a n) (leb n b) e).1 in
    absurd (both_ways _ u (in_span words (b / 64 - a / 64) (a / 64) (n / 64) t (omega arith) (omega arith)))
outside words a b n t u false e = refl

pub unmarked : (words l : List ℕ) → ranges_marked words l ≡ true → (n : ℕ) → marked words (n / 64) ≡ false → false ≡ holds l n
unfolding ranges_marked holds
unmarked words [] t n u = refl
unmarked words (a ∷ []) t n u = refl
unmarked words (a ∷ (b ∷ l)) t n u =
    let span = span_marked words (b / 64 - a / 64) (a / 64) in
    let here = outside words a b n (and_parts span (ranges_marked words l) t).0 u (between a b n) refl in
    rw here (unmarked words l (and_parts span (ranges_marked words l) t).1 n u)

-- past the end of the map
pub past_marks : (words : List ℕ) (bucket : ℕ) → length words ≤ bucket / 64 → marked words bucket ≡ false
unfolding marks_at
past_marks words bucket h = rw (get_or-eq_default words 0 h, zero-div (2 ^ (bucket % 64))) refl
