-- The headers of a packing, run by run: each starts where the run before it ended, and the run at hand ends past its place.
-- Assumes nothing.
use Prim.Native.Nat.{ℕ, ◌+◌, ◌-◌, ◌<◌, ◌≤◌}
use mathlib.Core.Path.{◌≡◌, ◌∙◌, refl, ap}
use mathlib.Core.List.{List, [], ◌∷◌}
use mathlib.Core.Bool.{cond}
use mathlib.Core.Logic.{⊎_elim}
use native.Mathlib.Omega.{arith}
use borrow.Author.Tests.{le-leb, lt-leb}
use lib.ListN.{length}
use lib.Dec.{leb}
use Rattle.sets.proofs.Decide.{split}
use Rattle.skip.specs.Headers.{start_index, prefix_sum, run_end}
use Rattle.pack.specs.Places.{InOrder}
use Rattle.pack.specs.Packing.{word, headers_of}
use Rattle.pack.proofs.Turns.{headers_small, headers_large}

-- a header word's parts
pub start_word : (s b : ℕ) → b < 2097152 → start_index (word s b) ≡ s
start_word s b h = omega arith

pub sum_word : (s b : ℕ) → b < 2097152 → prefix_sum (word s b) ≡ b
sum_word s b h = omega arith

-- the sum of the run at hand, and the headers after it
unfoldable pub first_sum : ℕ → List ℕ → ℕ
first_sum p [] = 0x1FFFFF
first_sum p (b ∷ bs) = cond (leb (b - p) 255) (first_sum b bs) b

unfoldable pub rest_of : ℕ → ℕ → List ℕ → List ℕ
rest_of i p [] = []
rest_of i p (b ∷ bs) = cond (leb (b - p) 255) (rest_of (i + 1) b bs) (headers_of (i + 1) (i + 1) b bs)

pub by_two : (i s p : ℕ) (bs : List ℕ) → headers_of i s p bs ≡ word s (first_sum p bs) ∷ rest_of i p bs
unfolding headers_of first_sum rest_of
by_two i s p [] = refl
by_two i s p (b ∷ bs) =
    ⊎_elim
    (λ h. headers_small p b bs i s h ∙ by_two (i + 1) s b bs ∙ simp (le-leb _ _ h))
    (λ h. headers_large p b bs i s h ∙ simp (lt-leb _ _ h))
    (split (b - p) 255)

pub order_on : (p b : ℕ) (bs : List ℕ) → InOrder p (b ∷ bs) → (p ≤ b) × (b ≤ 0x110000) × InOrder b bs
unfolding InOrder
order_on p b bs r = r

pub first_fits : (p : ℕ) (bs : List ℕ) → InOrder p bs → first_sum p bs < 2097152
unfolding first_sum
first_fits p [] r = omega arith
first_fits p (b ∷ bs) r =
    let z = order_on p b bs r in
    ⊎_elim
    (λ h. simp (le-leb (b - p) 255 h) (first_fits b bs z.2))
    (λ h. simp (lt-leb (b - p) 255 h) (omega arith))
    (split (b - p) 255)

module _ (n : ℕ) where
  -- where a run that starts at i begins
  pub end_headers : (i s p : ℕ) (bs : List ℕ) → InOrder p bs → run_end n (headers_of i s p bs) ≡ s
  end_headers i s p bs r = ap (run_end n) (by_two i s p bs) ∙ start_word s (first_sum p bs) (first_fits p bs r)

  -- the run at hand ends past i
  pub ends_past : (i p : ℕ) (bs : List ℕ) → InOrder p bs → n ≡ i + length bs + 1 → i < run_end n (rest_of i p bs)
  unfolding rest_of
  ends_past i p [] r e = omega arith
  ends_past i p (b ∷ bs) r e =
      let z = order_on p b bs r in
      ⊎_elim
      (λ h. simp (le-leb (b - p) 255 h) (omega (arith, ends_past (i + 1) b bs z.2 (omega arith))))
      (λ h. simp (lt-leb (b - p) 255 h) (omega (arith, end_headers (i + 1) (i + 1) b bs z.2)))
      (split (b - p) 255)
