-- Flat lists joined: a merge holds what one of the two holds, and joining ranges that touch changes nothing. Holds for any
-- lists. Assumes nothing.
use Prim.Native.Nat.{ℕ, ◌+◌, ◌≤◌}
use mathlib.Core.Path.{◌≡◌, ◌∙◌, sym, refl}
use mathlib.Core.List.{List, [], ◌∷◌}
use mathlib.Core.Bool.{Bool, true, false, cond, ◌&&◌, ◌||◌}
use mathlib.Core.Logic.{⊎_elim}
use native.Mathlib.Omega.{arith}
use borrow.Author.Tests.{leb-true, eqb-true, le-leb, lt-leb}
use lib.Dec.{leb, eqb}
use Rattle.scalar.specs.Scalars.{between}
use Rattle.sets.specs.Lists.{holds}
use Rattle.std.proofs.lemmas.Bool.{and_parts}
use Rattle.sets.proofs.Decide.{split}

-- the range from a to b put before the first range that starts above it; `rest` goes on from there
unfoldable pub before : ℕ → ℕ → (List ℕ → List ℕ) → List ℕ → List ℕ
before a b rest [] = a ∷ (b ∷ rest [])
before a b rest (c ∷ []) = a ∷ (b ∷ rest [])
before a b rest (c ∷ (d ∷ l)) = cond (leb a c) (a ∷ (b ∷ rest (c ∷ (d ∷ l)))) (c ∷ (d ∷ before a b rest l))

unfoldable pub merge : List ℕ → List ℕ → List ℕ
merge [] m = m
merge (a ∷ []) m = m
merge (a ∷ (b ∷ l)) m = before a b (merge l) m

-- ranges that touch, made one
unfoldable pub join_on : ℕ → ℕ → List ℕ → List ℕ
join_on a b [] = a ∷ (b ∷ [])
join_on a b (c ∷ []) = a ∷ (b ∷ [])
join_on a b (c ∷ (d ∷ l)) = cond (eqb c (b + 1) && (leb a c && leb c d)) (join_on a d l) (a ∷ (b ∷ join_on c d l))

unfoldable pub join : List ℕ → List ℕ
join [] = []
join (a ∷ []) = []
join (a ∷ (b ∷ l)) = join_on a b l

module _ (x : ℕ) where
  swap : (r s t : Bool) → (r || (s || t)) ≡ (s || (r || t))
  swap true true t = refl
  swap true false t = refl
  swap false s t = refl

  regroup : (r s t : Bool) → (r || (s || t)) ≡ ((r || s) || t)
  regroup true s t = refl
  regroup false s t = refl

  either : (t : Bool) (l m : List ℕ) {r : Bool} → (t ≡ true → holds l x ≡ r) → holds m x ≡ r → holds (cond t l m) x ≡ r
  either true l m f e = f refl
  either false l m f e = e

  before_hold : (a b : ℕ) (rest : List ℕ → List ℕ) (h : Bool) → ((m : List ℕ) → holds (rest m) x ≡ (h || holds m x))
      → (m : List ℕ) → holds (before a b rest m) x ≡ (between a b x || (h || holds m x))
  unfolding before holds
  before_hold a b rest h f [] = rw (f []) refl
  before_hold a b rest h f (c ∷ []) = rw (f []) refl
  before_hold a b rest h f (c ∷ (d ∷ l)) =
      either (leb a c) (a ∷ (b ∷ rest (c ∷ (d ∷ l)))) (c ∷ (d ∷ before a b rest l)) (λ e. rw (f (c ∷ (d ∷ l))) refl)
      (rw (before_hold a b rest h f l)
      (swap (between c d x) (between a b x) (h || holds l x) ∙ rw (swap (between c d x) h (holds l x)) refl))

  pub merge_holds : (l m : List ℕ) → holds (merge l m) x ≡ (holds l x || holds m x)
  unfolding merge holds
  merge_holds [] m = refl
  merge_holds (a ∷ []) m = refl
  merge_holds (a ∷ (b ∷ l)) m =
      before_hold a b (merge l) (holds l x) (merge_holds l) m ∙ regroup (between a b x) (holds l x) (holds m x)

  touching : (a b c d : ℕ) → c ≡ b + 1 → a ≤ c → c ≤ d → between a d x ≡ (between a b x || between c d x)
  touching a b c d e u v =
      ⊎_elim
      (λ h.
      ⊎_elim
      (λ k. rw (le-leb a x h, le-leb x b k, le-leb x d (omega arith)) refl)
      (λ k. rw (le-leb a x h, lt-leb x b k, le-leb c x (omega arith)) refl)
      (split x b))
      (λ h. rw (lt-leb a x h, lt-leb c x (omega arith)) refl)
      (split a x)

  join_on_holds : (a b : ℕ) (l : List ℕ) → holds (join_on a b l) x ≡ (between a b x || holds l x)
  unfolding join_on holds
  join_on_holds a b [] = refl
  join_on_holds a b (c ∷ []) = refl
  join_on_holds a b (c ∷ (d ∷ l)) =
      either (eqb c (b + 1) && (leb a c && leb c d)) (join_on a d l) (a ∷ (b ∷ join_on c d l))
      (λ e.
      let f = (and_parts (eqb c (b + 1)) (leb a c && leb c d) e).1 in
      let k = eqb-true c (b + 1) (and_parts (eqb c (b + 1)) (leb a c && leb c d) e).0 in
      let t = touching a b c d k (leb-true a c (and_parts (leb a c) (leb c d) f).0) (leb-true c d (and_parts (leb a c) (leb c d) f).1) in
      join_on_holds a d l ∙ rw t (sym (regroup (between a b x) (between c d x) (holds l x))))
      (rw (join_on_holds c d l) refl)

  pub join_holds : (l : List ℕ) → holds (join l) x ≡ holds l x
  unfolding join holds
  join_holds [] = refl
  join_holds (a ∷ []) = refl
  join_holds (a ∷ (b ∷ l)) = join_on_holds a b l
