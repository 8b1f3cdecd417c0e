-- Boundaries in a form that computes: a number is worked out before it is handed on. Assumes nothing.
use Rattle.std.specs.Prelude.{◌≡◌, ℕ, zero, suc, ◌+◌, Bool, true, cond, ◌&&◌, eqb, leb, List, [], ◌∷◌}
use mathlib.Core.Path.{◌∙◌, refl}
use Rattle.skip.specs.Headers.{prefix_sum, run_end}
use Rattle.skip.specs.Table.{walk}
use Rattle.skip.specs.Rules.{W5}

abbrev pub force : {A : Type 0} → ℕ → (ℕ → A) → A
force zero k = k zero
force (suc n) k = k (suc n)

pub forced : {A : Type 0} (n : ℕ) (k : ℕ → A) → force n k ≡ k n
forced zero k = refl
forced (suc n) k = refl

unfoldable pub fast_walk : ℕ → ℕ → ℕ → List ℕ → List ℕ → List ℕ
fast_walk n i at hs [] = []
fast_walk n i at [] (o ∷ os) = []
fast_walk n i at (h ∷ hs) (o ∷ os) =
    force (i + 1) (λ j. cond (eqb j (run_end n hs)) (prefix_sum h ∷ fast_walk n j (prefix_sum h) hs os) (force (at + o) (λ b. b ∷ fast_walk n j b (h ∷ hs) os)))

pub fast_walk_lem : (n i at : ℕ) (hs os : List ℕ) → fast_walk n i at hs os ≡ walk n i at hs os
unfolding fast_walk walk
fast_walk_lem n i at [] [] = refl
fast_walk_lem n i at (h ∷ hs) [] = refl
fast_walk_lem n i at [] (o ∷ os) = refl
fast_walk_lem n i at (h ∷ hs) (o ∷ os) =
    forced (i + 1) (λ j. cond (eqb j (run_end n hs)) (prefix_sum h ∷ fast_walk n j (prefix_sum h) hs os) (force (at + o) (λ b. b ∷ fast_walk n j b (h ∷ hs) os)))
    ∙ rw (forced (at + o) (λ b. b ∷ fast_walk n (i + 1) b (h ∷ hs) os), fast_walk_lem n (i + 1) (prefix_sum h) hs os, fast_walk_lem n (i + 1) (at + o) (h ∷ hs) os) refl

unfoldable pub fast_w5 : ℕ → ℕ → ℕ → List ℕ → List ℕ → Bool
fast_w5 n i at hs [] = true
fast_w5 n i at [] (o ∷ os) = true
fast_w5 n i at (h ∷ hs) (o ∷ os) =
    force (i + 1) (λ j. cond (eqb j (run_end n hs)) (leb at (prefix_sum h) && fast_w5 n j (prefix_sum h) hs os) (force (at + o) (λ b. fast_w5 n j b (h ∷ hs) os)))

pub fast_w5_lem : (n i at : ℕ) (hs os : List ℕ) → fast_w5 n i at hs os ≡ W5 n i at hs os
unfolding fast_w5 W5
fast_w5_lem n i at [] [] = refl
fast_w5_lem n i at (h ∷ hs) [] = refl
fast_w5_lem n i at [] (o ∷ os) = refl
fast_w5_lem n i at (h ∷ hs) (o ∷ os) =
    forced (i + 1) (λ j. cond (eqb j (run_end n hs)) (leb at (prefix_sum h) && fast_w5 n j (prefix_sum h) hs os) (force (at + o) (λ b. fast_w5 n j b (h ∷ hs) os)))
    ∙ rw (forced (at + o) (λ b. fast_w5 n (i + 1) b (h ∷ hs) os), fast_w5_lem n (i + 1) (prefix_sum h) hs os, fast_w5_lem n (i + 1) (at + o) (h ∷ hs) os) refl
