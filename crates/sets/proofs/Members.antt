-- Membership in a list's boundaries is membership in its ranges, for every list whose boundaries rise; and a boundary
-- past the last number changes nothing. Assumes nothing.
use Rattle.std.specs.Prelude.{◌≡◌, ℕ, suc, ◌+◌, ◌%◌, ◌<◌, ◌≤◌, Bool, true, false, ◌&&◌, leb, List, [], ◌∷◌, ◌++◌}
use mathlib.Core.Path.{◌∙◌, refl}
use mathlib.Core.Logic.{⊎_elim}
use native.Mathlib.Omega.{arith}
use borrow.Author.Tests.{le-leb, lt-leb, leb-true}
use Rattle.sets.specs.Boundaries.{count, odd, member}
use Rattle.sets.specs.Lists.{edges, holds}
use Rattle.std.proofs.lemmas.Bool.{and_parts}
use Rattle.sets.proofs.Decide.{split}

-- boundaries that do not fall, from p on
unfoldable pub rising : ℕ → List ℕ → Bool
rising p [] = true
rising p (b ∷ bs) = leb p b && rising b bs

pub rising_on : (p b : ℕ) (bs : List ℕ) → rising p (b ∷ bs) ≡ true → (p ≤ b) × (rising b bs ≡ true)
unfolding rising
rising_on p b bs r = (leb-true p b (and_parts (leb p b) (rising b bs) r).0, (and_parts (leb p b) (rising b bs) r).1)

module _ (x : ℕ) where
  pub count_none : count x [] ≡ 0
  unfolding count
  count_none = refl

  pub count_in : (b : ℕ) (bs : List ℕ) → b ≤ x → count x (b ∷ bs) ≡ suc (count x bs)
  unfolding count
  count_in b bs h = simp (le-leb _ _ h)

  pub count_out : (b : ℕ) (bs : List ℕ) → x < b → count x (b ∷ bs) ≡ count x bs
  unfolding count
  count_out b bs h = simp (lt-leb _ _ h)

  -- a boundary above x, wherever it stands last, changes nothing
  pub count_close : (c : ℕ) (bs : List ℕ) → x < c → count x (bs ++ c ∷ []) ≡ count x bs
  unfolding count
  count_close c [] h = rw (lt-leb c x h) refl
  count_close c (b ∷ bs) h = rw (count_close c bs h) refl

pub odd_two : (n : ℕ) → odd (suc (suc n)) ≡ odd n
odd_two n = let e : suc (suc n) % 2 ≡ n % 2 = omega arith in rw e refl

-- nothing from p on holds a number below p
pub none_below : (x p : ℕ) (l : List ℕ) → rising p (edges l) ≡ true → x < p → (count x (edges l) ≡ 0) × (holds l x ≡ false)
unfolding edges holds
none_below x p [] r h = (count_none x, refl)
none_below x p (a ∷ []) r h = (count_none x, refl)
none_below x p (a ∷ (b ∷ l)) r h =
    let y = rising_on p a ((b + 1) ∷ edges l) r in
    let z = rising_on a (b + 1) (edges l) y.1 in
    let k : x < a = omega arith in
    let m : x < b + 1 = omega arith in
    let w = none_below x (b + 1) l z.1 m in
    (count_out x a _ k ∙ count_out x (b + 1) _ m ∙ w.0, rw (lt-leb a x k) w.1)

-- a number is in the boundaries of a list exactly if some range of the list holds it
pub member_holds : (x p : ℕ) (l : List ℕ) → rising p (edges l) ≡ true → member (edges l) x ≡ holds l x
unfolding edges holds
member_holds x p [] r = rw (count_none x) refl
member_holds x p (a ∷ []) r = rw (count_none x) refl
member_holds x p (a ∷ (b ∷ l)) r =
    let y = rising_on p a ((b + 1) ∷ edges l) r in
    let z = rising_on a (b + 1) (edges l) y.1 in
    ⊎_elim
    (λ h.
    ⊎_elim
    (λ k.
    let m : x < b + 1 = omega arith in
    let w = none_below x (b + 1) l z.1 m in
    rw (count_in x a ((b + 1) ∷ edges l) h, count_out x (b + 1) (edges l) m, w.0, le-leb a x h, le-leb x b k) refl)
    (λ k.
    let m : b + 1 ≤ x = omega arith in
    rw (count_in x a ((b + 1) ∷ edges l) h, count_in x (b + 1) (edges l) m, le-leb a x h, lt-leb x b k)
    (odd_two (count x (edges l)) ∙ member_holds x (b + 1) l z.1))
    (split x b))
    (λ h.
    let m : x < b + 1 = omega arith in
    let w = none_below x (b + 1) l z.1 m in
    rw (count_out x a ((b + 1) ∷ edges l) h, count_out x (b + 1) (edges l) m, w.0, lt-leb a x h, w.1) refl)
    (split a x)
