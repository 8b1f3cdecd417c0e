-- Flat lists moved and bounded: a list shifted by a plane, the ranges of a boundary list, and a list that holds nothing
-- outside its limits. Holds for any lists. Assumes nothing.
use Prim.Native.Nat.{ℕ, ◌+◌, ◌-◌, ◌<◌, ◌≤◌}
use mathlib.Core.Path.{◌≡◌, refl}
use mathlib.Core.List.{List, [], ◌∷◌}
use mathlib.Core.Bool.{Bool, true, false, ◌&&◌}
use mathlib.Core.Logic.{◌⊎◌, ⊎_elim}
use native.Mathlib.Omega.{arith}
use borrow.Author.Tests.{ltb-true, leb-true, le-leb, lt-leb}
use lib.Dec.{leb, ltb}
use Rattle.scalar.specs.Scalars.{between}
use Rattle.sets.specs.Lists.{holds}
use Rattle.std.proofs.lemmas.Bool.{and_parts}
use Rattle.sets.proofs.Decide.{split}

-- every range moved up by d
unfoldable pub shift : ℕ → List ℕ → List ℕ
shift d [] = []
shift d (a ∷ []) = []
shift d (a ∷ (b ∷ l)) = (d + a) ∷ ((d + b) ∷ shift d l)

-- the ranges that boundaries, taken in pairs, are the edges of
unfoldable pub ranges : List ℕ → List ℕ
ranges [] = []
ranges (a ∷ []) = []
ranges (a ∷ (b ∷ l)) = a ∷ ((b - 1) ∷ ranges l)

-- every range lies from `low` on and below `end`
unfoldable pub within : ℕ → ℕ → List ℕ → Bool
within low end [] = true
within low end (a ∷ []) = true
within low end (a ∷ (b ∷ l)) = (leb low a && ltb b end) && within low end l

module _ (d y : ℕ) where
  moved : (a b : ℕ) → leb (d + a) (d + b) ≡ leb a b
  moved a b =
      ⊎_elim
      (λ h. let k : d + a ≤ d + b = omega arith in rw (le-leb a b h, le-leb (d + a) (d + b) k) refl)
      (λ h. let k : d + b < d + a = omega arith in rw (lt-leb a b h, lt-leb (d + a) (d + b) k) refl)
      (split a b)

  pub shift_holds : (l : List ℕ) → holds (shift d l) (d + y) ≡ holds l y
  unfolding shift holds
  shift_holds [] = refl
  shift_holds (a ∷ []) = refl
  shift_holds (a ∷ (b ∷ l)) = rw (moved a y, moved y b, shift_holds l) refl

module _ (x low end : ℕ) (out : (x < low) ⊎ (end ≤ x)) where
  not_in : (a b : ℕ) → low ≤ a → b < end → between a b x ≡ false
  not_in a b h k =
      ⊎_elim
      (λ u. ⊎_elim (λ o. absurd (omega arith)) (λ o. let v : b < x = omega arith in rw (le-leb a x u, lt-leb x b v) refl) out)
      (λ u. rw (lt-leb a x u) refl)
      (split a x)

  pub none_outside : (l : List ℕ) → within low end l ≡ true → holds l x ≡ false
  unfolding within holds
  none_outside [] w = refl
  none_outside (a ∷ []) w = refl
  none_outside (a ∷ (b ∷ l)) w =
      let f = (and_parts (leb low a && ltb b end) (within low end l) w).0 in
      rw
      (not_in a b (leb-true low a (and_parts (leb low a) (ltb b end) f).0) (ltb-true b end (and_parts (leb low a) (ltb b end) f).1), none_outside l (and_parts (leb low a && ltb b end) (within low end l) w).1)
      refl
