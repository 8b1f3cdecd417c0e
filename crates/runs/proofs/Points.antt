-- The listed singletons as a flat list: a pair of bytes is listed exactly if a range of the list holds the number that
-- they make. Holds for any low bytes. Assumes nothing.
use Prim.Native.Nat.{ℕ, zero, suc, ◌+◌, ◌*◌, ◌/◌, ◌%◌, ◌<◌, ◌≤◌}
use mathlib.Core.Path.{◌≡◌, sym, refl}
use mathlib.Core.List.{List, [], ◌∷◌}
use mathlib.Core.Bool.{Bool, true, false, ◌&&◌, ◌||◌, and-false}
use mathlib.Core.Logic.{⊎_elim}
use native.Mathlib.Omega.{arith}
use borrow.Author.Tests.{ltb-true, le-leb, lt-leb, eq-eqb, ne_eqb}
use lib.ListN.{take, drop}
use lib.Dec.{ltb, eqb}
use Rattle.scalar.specs.Scalars.{between}
use Rattle.sets.specs.Lists.{holds}
use Rattle.std.proofs.lemmas.Bool.{and_from, and_parts, cases_eq}
use Rattle.sets.proofs.Decide.{split}
use Rattle.runs.specs.Singletons.{among, listed}

-- each low byte with the high byte h before it, as a range of one, in front of a list
unfoldable pub points : ℕ → List ℕ → List ℕ → List ℕ
points h [] rest = rest
points h (l ∷ lows) rest = (h * 256 + l) ∷ ((h * 256 + l) ∷ points h lows rest)

unfoldable pub singles : List ℕ → List ℕ → List ℕ → List ℕ
singles [] counts lows = []
singles (h ∷ highs) [] lows = []
singles (h ∷ highs) (c ∷ counts) lows = points h (take c lows) (singles highs counts (drop c lows))

-- every one is a byte
unfoldable pub bytes : List ℕ → Bool
bytes [] = true
bytes (l ∷ lows) = ltb l 256 && bytes lows

bytes_parts : (c : ℕ) (lows : List ℕ) → bytes lows ≡ true → (bytes (take c lows) ≡ true) × (bytes (drop c lows) ≡ true)
unfolding bytes
bytes_parts zero lows b = (refl, b)
bytes_parts (suc c) [] b = (refl, refl)
bytes_parts (suc c) (l ∷ lows) b =
    let r = bytes_parts c lows (and_parts (ltb l 256) (bytes lows) b).1 in
    (and_from (ltb l 256) (bytes (take c lows)) (and_parts (ltb l 256) (bytes lows) b).0 r.0, r.1)

module _ (x : ℕ) where
  off : (s : ℕ) → (s ≡ x → ⊥) → between s s x ≡ false
  off s d =
      ⊎_elim
      (λ u. ⊎_elim (λ v. absurd (d (omega arith))) (λ v. rw (le-leb s x u, lt-leb x s v) refl) (split x s))
      (λ u. rw (lt-leb s x u) refl)
      (split s x)

  on : (s : ℕ) → s ≡ x → between s s x ≡ true
  on s e =
      let u : s ≤ x = omega arith in
      let v : x ≤ s = omega arith in
      rw (le-leb s x u, le-leb x s v) refl

  point : (h l : ℕ) → l < 256 → between (h * 256 + l) (h * 256 + l) x ≡ (eqb h (x / 256) && eqb l (x % 256))
  point h l b =
      ⊎_elim
      (λ e.
      ⊎_elim
      (λ f. rw (eq-eqb h (x / 256) e, eq-eqb l (x % 256) f) (on (h * 256 + l) (omega arith)))
      (λ f. rw (eq-eqb h (x / 256) e, ne_eqb l (x % 256) f) (off (h * 256 + l) (λ q. f (omega arith))))
      (cases_eq l (x % 256)))
      (λ e. rw (ne_eqb h (x / 256) e) (off (h * 256 + l) (λ q. e (omega arith))))
      (cases_eq h (x / 256))

  regroup : (a b c r : Bool) → (a && b || (a && c || r)) ≡ (a && (b || c) || r)
  regroup true true c r = refl
  regroup true false c r = refl
  regroup false b c r = refl

  points_hold : (h : ℕ) (lows rest : List ℕ) → bytes lows ≡ true
      → holds (points h lows rest) x ≡ (eqb h (x / 256) && among (x % 256) lows || holds rest x)
  unfolding points holds among bytes
  points_hold h [] rest b = sym (rw (and-false (eqb h (x / 256))) refl)
  points_hold h (l ∷ lows) rest b =
      rw (point h l (ltb-true l 256 (and_parts (ltb l 256) (bytes lows) b).0), points_hold h lows rest (and_parts (ltb l 256) (bytes lows) b).1)
      (regroup (eqb h (x / 256)) (eqb l (x % 256)) (among (x % 256) lows) (holds rest x))

  pub singles_hold : (highs counts lows : List ℕ) → bytes lows ≡ true
      → listed highs counts lows (x / 256) (x % 256) ≡ holds (singles highs counts lows) x
  unfolding singles listed holds
  singles_hold [] counts lows b = refl
  singles_hold (h ∷ highs) [] lows b = refl
  singles_hold (h ∷ highs) (c ∷ counts) lows b =
      let p = bytes_parts c lows b in
      rw (points_hold h (take c lows) (singles highs counts (drop c lows)) p.0, singles_hold highs counts (drop c lows) p.1) refl
