-- What callers' proofs cite of a scalar check: how its answer becomes an entry's own, and what a valid number is.
-- Assumes nothing.
use Prim.Native.Nat.{ℕ, ◌≤◌}
use mathlib.Core.Path.{◌≡◌, refl}
use mathlib.Core.Bool.{Bool, true, false, cond}
use native.Mathlib.Omega.{arith}
use borrow.Author.Tests.{ltb-false}
use lib.Dec.{ltb}
use Rattle.scalar.specs.Scalars.{between, scalar_else, checked}
use Rattle.std.specs.Prelude.{Result, Ok, Err}
use Rattle.scalar.specs.declared.refusal.Refusal.{Refusal}
use Rattle.scalar.specs.declared.refusal.Refusal.TheVariants as refusal

-- the numbers that no scalar entry refuses
pub record IsScalar (n : ℕ) : Type 0 where
  pub inside : n ≤ 0x10FFFF
  pub plain : between 0xD800 0xDFFF n ≡ false

-- the two tests of a check, as Bools
abbrev tested : Bool → Bool → Result ℕ Refusal → Result ℕ Refusal
tested above low good = cond above (Err refusal.AboveMax) (cond low (Err refusal.Surrogate) good)

refused_by : {A : Type 0} (g : Refusal → A) (good : A) (n : ℕ) (r : Refusal) (above low : Bool)
    → Err r ≡ tested above low (Ok n) → g r ≡ cond above (g refusal.AboveMax) (cond low (g refusal.Surrogate) good)
refused_by g good n r true low e = let p : r ≡ refusal.AboveMax = cc in rw p refl
refused_by g good n r false true e = let p : r ≡ refusal.Surrogate = cc in rw p refl
refused_by g good n r false false e = let z : ◌≡◌ {A = ℕ} 0 1 = cc in absurd (omega arith)

valid_by : (n m : ℕ) (above low : Bool) → Ok m ≡ tested above low (Ok n)
    → (above ≡ false) × (low ≡ false) × (m ≡ n)
valid_by n m true low e = let z : ◌≡◌ {A = ℕ} 0 1 = cc in absurd (omega arith)
valid_by n m false true e = let z : ◌≡◌ {A = ℕ} 0 1 = cc in absurd (omega arith)
valid_by n m false false e = (refl, refl, cc)

module _ (n : ℕ) where
  -- a refusal r of the check is the entry's refusal, whatever the entry makes of a refusal
  pub refused_as : {A : Type 0} (g : Refusal → A) (good : A) (r : Refusal)
      → Err r ≡ checked n → g r ≡ scalar_else n (g refusal.AboveMax) (g refusal.Surrogate) good
  unfolding scalar_else
  refused_as g good r e = refused_by g good n r (ltb 0x10FFFF n) (between 0xD800 0xDFFF n) e

  -- a valid check: the number is a scalar value
  pub valid_scalar : (v : ℕ) → Ok v ≡ checked n → IsScalar n
  unfolding scalar_else
  valid_scalar v e =
      let tests = valid_by n v (ltb 0x10FFFF n) (between 0xD800 0xDFFF n) e in
      record { inside = ltb-false 0x10FFFF n tests.0; plain = tests.1 }

  -- and it is the number itself
  pub valid_value : (v : ℕ) → Ok v ≡ checked n → v ≡ n
  unfolding scalar_else
  valid_value v e =
      (valid_by n v (ltb 0x10FFFF n) (between 0xD800 0xDFFF n) e).2

  -- of a scalar value an entry gives its good answer
  pub scalar_good : {A : Type 0} (a b good : A) → IsScalar n → good ≡ scalar_else n a b good
  unfolding scalar_else
  scalar_good a b good s = rw (by_inside s.inside, s.plain) refl
    where
      by_inside : n ≤ 0x10FFFF → ltb 0x10FFFF n ≡ false
      by_inside l = borrow.Author.Tests.le-ltb 0x10FFFF n l

  -- a valid check leads to the entry's good answer
  pub valid_as : {A : Type 0} (a b good : A) (v : ℕ) → Ok v ≡ checked n → good ≡ scalar_else n a b good
  valid_as a b good v e = scalar_good a b good (valid_scalar v e)
