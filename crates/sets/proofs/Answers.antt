-- What callers' proofs cite of the check of a list: each outcome of the tests for 3, 4 and 5, how the check's refusal
-- becomes an entry's own, and that an accepted list is good. Assumes nothing.
use Rattle.std.specs.Prelude.{◌≡◌, ℕ, ◌%◌, ◌<◌, ◌≤◌, Bool, true, false, cond, eqb, ltb, List, length, Ok, Err}
use mathlib.Core.Path.{◌∙◌, refl}
use native.Mathlib.Omega.{arith}
use borrow.Author.Tests.{lt-ltb, le-ltb, eq-eqb, ne_eqb, ltb-false, eqb-true}
use Rattle.scalar.specs.declared.refusal.Refusal.{Refusal}
use Rattle.sets.specs.Lists.{ranges, bad_at}
use Rattle.sets.specs.Answers.{list_else, list_checked}
use Rattle.sets.proofs.Good.{Good}
use Rattle.scalar.specs.declared.refusal.Refusal.TheVariants as refusal

module _ {A : Type 0} (g : Refusal → A) (l : List ℕ) (good : A) where
  pub odd_refused : (length l % 2 ≡ 0 → ⊥) → g refusal.OddList ≡ list_else g l good
  unfolding list_else
  odd_refused e = rw (ne_eqb _ _ e) refl

  pub many_refused : length l % 2 ≡ 0 → 1023 < ranges l → g refusal.TooManyRanges ≡ list_else g l good
  unfolding list_else
  many_refused e m = rw (eq-eqb _ _ e, lt-ltb _ _ m) refl

  pub bad_refused : length l % 2 ≡ 0 → ranges l ≤ 1023 → bad_at 0 0 l < ranges l
      → g (refusal.BadRange (bad_at 0 0 l)) ≡ list_else g l good
  unfolding list_else
  bad_refused e m b = rw (eq-eqb _ _ e, le-ltb _ _ m, lt-ltb _ _ b) refl

  -- of a good list an entry gives its good answer
  pub list_good : Good l → good ≡ list_else g l good
  unfolding list_else
  list_good f = rw (eq-eqb _ _ f.even, le-ltb _ _ f.few, le-ltb _ _ f.fine) refl

-- the three tests of a check, as Bools
abbrev tested : {A : Type 0} → (Refusal → A) → Bool → Bool → Bool → Refusal → A → A
tested refuse even many bad r good =
    cond even (cond many (refuse refusal.TooManyRanges) (cond bad (refuse r) good)) (refuse refusal.OddList)

refused_by : {A : Type 0} (g : Refusal → A) (good : A) (n : ℕ) (r s : Refusal) (even many bad : Bool)
    → Err r ≡ tested Err even many bad s (Ok n) → g r ≡ tested g even many bad s good
refused_by g good n r s false many bad e = let p : r ≡ refusal.OddList = cc in rw p refl
refused_by g good n r s true true bad e = let p : r ≡ refusal.TooManyRanges = cc in rw p refl
refused_by g good n r s true false true e = let p : r ≡ s = cc in rw p refl
refused_by g good n r s true false false e = let z : ◌≡◌ {A = ℕ} 0 1 = cc in absurd (omega arith)

ranges_by : (m n : ℕ) (s : Refusal) (even many bad : Bool)
    → Ok m ≡ tested Err even many bad s (Ok n)
    → (even ≡ true) × (many ≡ false) × (bad ≡ false) × (m ≡ n)
ranges_by m n s false many bad e = let z : ◌≡◌ {A = ℕ} 0 1 = cc in absurd (omega arith)
ranges_by m n s true true bad e = let z : ◌≡◌ {A = ℕ} 0 1 = cc in absurd (omega arith)
ranges_by m n s true false true e = let z : ◌≡◌ {A = ℕ} 0 1 = cc in absurd (omega arith)
ranges_by m n s true false false e = (refl, refl, refl, cc)

module _ (l : List ℕ) where
  -- a refusal r of the check is the entry's refusal, whatever the entry makes of a refusal
  pub refused_as : {A : Type 0} (g : Refusal → A) (good : A) (r : Refusal)
      → Err r ≡ list_checked l → g r ≡ list_else g l good
  unfolding list_else
  refused_as g good r e =
      refused_by g good (ranges l) r (refusal.BadRange (bad_at 0 0 l)) (eqb (length l % 2) 0) (ltb 1023 (ranges l))
      (ltb (bad_at 0 0 l) (ranges l)) e

  -- an accepted list is good, and the check counts its ranges
  pub accepted_good : (n : ℕ) → Ok n ≡ list_checked l → Good l × (n ≡ ranges l)
  unfolding list_else
  accepted_good n e =
      let z =
      ranges_by n (ranges l) (refusal.BadRange (bad_at 0 0 l)) (eqb (length l % 2) 0) (ltb 1023 (ranges l))
      (ltb (bad_at 0 0 l) (ranges l)) e
      in
      (record { even = eqb-true _ _ z.0; few = ltb-false _ _ z.1; fine = ltb-false _ _ z.2 }, z.3)

  -- an accepting check leads to the entry's good answer, however that is written
  pub accepted_as : {A : Type 0} (g : Refusal → A) (a good : A) (n : ℕ) → Ok n ≡ list_checked l → a ≡ good
      → a ≡ list_else g l good
  accepted_as g a good n e p = p ∙ list_good g l good (accepted_good n e).0
