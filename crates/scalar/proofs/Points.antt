-- What callers' proofs cite of the check of a code point: how its answer becomes an entry's own. Assumes nothing.
use Rattle.std.specs.Prelude.{◌≡◌, ℕ, Bool, true, false, cond, ltb, Ok, Err}
use mathlib.Core.Path.{refl}
use native.Mathlib.Omega.{arith}
use Rattle.scalar.specs.Points.{point_checked}
use Rattle.scalar.specs.declared.refusal.Refusal.{Refusal}
use Rattle.scalar.specs.declared.refusal.Refusal.TheVariants as refusal

refused_by : {A : Type 0} (g : Refusal → A) (good : A) (n : ℕ) (r : Refusal) (above : Bool)
    → Err r ≡ cond above (Err refusal.AboveMax) (Ok n) → g r ≡ cond above (g refusal.AboveMax) good
refused_by g good n r true e = let p : r ≡ refusal.AboveMax = cc in rw p refl
refused_by g good n r false e = let z : ◌≡◌ {A = ℕ} 0 1 = cc in absurd (omega arith)

good_by : {A : Type 0} (a b good : A) (n m : ℕ) (above : Bool) → Ok m ≡ cond above (Err refusal.AboveMax) (Ok n) → b ≡ good
    → b ≡ cond above a good
good_by a b good n m true e p = let z : ◌≡◌ {A = ℕ} 0 1 = cc in absurd (omega arith)
good_by a b good n m false e p = p

value_by : (n m : ℕ) (above : Bool) → Ok m ≡ cond above (Err refusal.AboveMax) (Ok n) → m ≡ n
value_by n m true e = let z : ◌≡◌ {A = ℕ} 0 1 = cc in absurd (omega arith)
value_by n m false e = cc

module _ (n : ℕ) where
  -- a refusal r of the check is the entry's refusal, whatever the entry makes of a refusal
  pub point_refused : {A : Type 0} (g : Refusal → A) (good : A) (r : Refusal) → Err r ≡ point_checked n
      → g r ≡ cond (ltb 0x10FFFF n) (g refusal.AboveMax) good
  point_refused g good r e = refused_by g good n r (ltb 0x10FFFF n) e

  -- of a code point an entry gives its good answer, however that is written
  pub point_good : {A : Type 0} (a b good : A) (v : ℕ) → Ok v ≡ point_checked n → b ≡ good
      → b ≡ cond (ltb 0x10FFFF n) a good
  point_good a b good v e q = good_by a b good n v (ltb 0x10FFFF n) e q

  -- and it is the number itself
  pub point_value : (v : ℕ) → Ok v ≡ point_checked n → v ≡ n
  point_value v e = value_by n v (ltb 0x10FFFF n) e
