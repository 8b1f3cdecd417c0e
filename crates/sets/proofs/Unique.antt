-- One set, one list: two lists that pass 3 and 5 and hold the same numbers to 0x10FFFF are the same list. Range by range: the
-- first numbers agree, since each is the least that its list holds, and so do the last ones, since neither list holds the
-- number after its own. Assumes nothing.
use Rattle.std.specs.Prelude.{◌≡◌, ℕ, ◌+◌, ◌%◌, ◌<◌, ◌≤◌, true, false, List, [], ◌∷◌, length}
use mathlib.Core.Path.{◌∙◌, sym, refl}
use mathlib.Core.Logic.{⊎_elim}
use native.Mathlib.Omega.{arith}
use borrow.Author.Tests.{le-leb, lt-leb}
use Rattle.sets.specs.Lists.{ranges, bad_at, holds}
use Rattle.std.proofs.lemmas.Bool.{both_ways}
use Rattle.sets.proofs.Decide.{split}
use Rattle.sets.proofs.Good.{Good, pair_good, rises}
use Rattle.sets.proofs.Members.{none_below}

-- a list that has pairs, and from range i on no bad one, none of its numbers below low
pub record Fine (i low : ℕ) (l : List ℕ) : Type 0 where
  pub even : length l % 2 ≡ 0
  pub none_bad : i + ranges l ≤ bad_at i low l

record First (i low a b : ℕ) (l : List ℕ) : Type 0 where
  from : low ≤ a
  ordered : a ≤ b
  inside : b ≤ 0x10FFFF
  rest : Fine (i + 1) (b + 2) l

first_of : (i low a b : ℕ) (l : List ℕ) → Fine i low (a ∷ (b ∷ l)) → First i low a b l
first_of i low a b l f =
    let z = pair_good i low a b l f.even f.none_bad in
    record { from = z.0; ordered = z.1; inside = z.2; rest = record { even = omega (arith, f.even); none_bad = z.3 } }

-- it holds nothing below low
low_free : (i low : ℕ) (l : List ℕ) → Fine i low l → (x : ℕ) → x < low → holds l x ≡ false
low_free i low l f x h = (none_below x low l (rises i low low l (omega arith) f.even f.none_bad) h).1

module _ (i low a b : ℕ) (l : List ℕ) (f : Fine i low (a ∷ (b ∷ l))) (x : ℕ) where
  parts : First i low a b l
  parts = first_of i low a b l f

  in_first : a ≤ x → x ≤ b → holds (a ∷ (b ∷ l)) x ≡ true
  unfolding holds
  in_first h k = rw (le-leb a x h, le-leb x b k) refl

  before_first : x < a → holds (a ∷ (b ∷ l)) x ≡ false
  unfolding holds
  before_first h = rw (lt-leb a x h) (low_free (i + 1) (b + 2) l parts.rest x (omega (arith, parts.ordered)))

  past_first : b < x → holds (a ∷ (b ∷ l)) x ≡ holds l x
  unfolding holds
  past_first h = rw (le-leb a x (omega (arith, parts.ordered)), lt-leb x b h) refl

  rest_out : x ≤ b → holds l x ≡ false
  rest_out h = low_free (i + 1) (b + 2) l parts.rest x (omega arith)

nothing : (x : ℕ) → holds [] x ≡ false
unfolding holds
nothing x = refl

-- one list holds a number that the other does not
apart : {A : Type 0} (l m : List ℕ) (x : ℕ) → holds l x ≡ holds m x → holds l x ≡ true → holds m x ≡ false → A
apart l m x s t f = absurd (both_ways _ f (sym s ∙ t))

pub unique : (i low : ℕ) (l m : List ℕ) → Fine i low l → Fine i low m → ((x : ℕ) → x ≤ 0x10FFFF → holds l x ≡ holds m x) → l ≡ m
unique i low [] [] f g s = refl
unique i low (a ∷ []) m f g s = absurd (omega (arith, f.even))
unique i low [] (c ∷ []) f g s = absurd (omega (arith, g.even))
unique i low (a ∷ (b ∷ l)) (c ∷ []) f g s = absurd (omega (arith, g.even))
unique i low [] (c ∷ (d ∷ m)) f g s =
    let q = first_of i low c d m g in
    apart (c ∷ (d ∷ m)) [] c (sym (s c (omega (arith, q.ordered, q.inside)))) (in_first i low c d m g c (omega arith) q.ordered)
    (nothing c)
unique i low (a ∷ (b ∷ l)) [] f g s =
    let p = first_of i low a b l f in
    apart (a ∷ (b ∷ l)) [] a (s a (omega (arith, p.ordered, p.inside))) (in_first i low a b l f a (omega arith) p.ordered)
    (nothing a)
unique i low (a ∷ (b ∷ l)) (c ∷ (d ∷ m)) f g s =
    let p = first_of i low a b l f in
    let q = first_of i low c d m g in
    let from : c ≤ a =
    ⊎_elim (λ h. h) (λ h. apart (a ∷ (b ∷ l)) (c ∷ (d ∷ m)) a (s a (omega (arith, p.ordered, p.inside))) (in_first i low a b l f a (omega arith) p.ordered) (before_first i low c d m g a h)) (split c a)
    in
    let to : a ≤ c =
    ⊎_elim (λ h. h) (λ h. apart (c ∷ (d ∷ m)) (a ∷ (b ∷ l)) c (sym (s c (omega (arith, q.ordered, q.inside)))) (in_first i low c d m g c (omega arith) q.ordered) (before_first i low a b l f c h)) (split a c)
    in
    let down : d ≤ b =
    ⊎_elim (λ h. h) (λ h. apart (c ∷ (d ∷ m)) (a ∷ (b ∷ l)) (b + 1) (sym (s (b + 1) (omega (arith, q.inside)))) (in_first i low c d m g (b + 1) (omega (arith, p.ordered)) (omega arith)) (past_first i low a b l f (b + 1) (omega arith) ∙ low_free (i + 1) (b + 2) l p.rest (b + 1) (omega arith))) (split d b)
    in
    let up : b ≤ d =
    ⊎_elim (λ h. h) (λ h. apart (a ∷ (b ∷ l)) (c ∷ (d ∷ m)) (d + 1) (s (d + 1) (omega (arith, p.inside))) (in_first i low a b l f (d + 1) (omega (arith, q.ordered)) (omega arith)) (past_first i low c d m g (d + 1) (omega arith) ∙ low_free (i + 1) (d + 2) m q.rest (d + 1) (omega arith))) (split b d)
    in
    let e : a ≡ c = omega arith in
    let k : b ≡ d = omega arith in
    let rest : Fine (i + 1) (b + 2) m = rw k q.rest in
    let same : (x : ℕ) → x ≤ 0x10FFFF → holds l x ≡ holds m x =
    λ x h.
    ⊎_elim
    (λ (o : x ≤ b). rest_out i low a b l f x o ∙ sym (rest_out i low c d m g x (omega arith)))
    (λ (o : b < x). sym (past_first i low a b l f x o) ∙ s x h ∙ past_first i low c d m g x (omega arith))
    (split x b)
    in
    rw (e, k, unique (i + 1) (b + 2) l m p.rest rest same) refl

pub good_fine : {l : List ℕ} → Good l → Fine 0 0 l
good_fine g = record { even = g.even; none_bad = omega (arith, g.fine) }
