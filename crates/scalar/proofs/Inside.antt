-- A scalar value is no number above 0x10FFFF. Assumes nothing.
use Rattle.std.specs.Prelude.{◌≡◌, ℕ, ◌≤◌, Bool, true, false, cond, ltb}
use mathlib.Core.Path.{refl}
use native.Mathlib.Omega.{arith}
use borrow.Author.Tests.{ltb-false}
use Rattle.scalar.specs.Scalars.{between, scalar_else, is_scalar}

below : (above low : Bool) → cond above false (cond low false true) ≡ true → above ≡ false
below false low h = refl
below true low h = let z : ◌≡◌ {A = ℕ} 0 1 = cc in absurd (omega arith)

pub scalar_inside : (n : ℕ) → is_scalar n ≡ true → n ≤ 0x10FFFF
unfolding scalar_else
scalar_inside n h = ltb-false 0x10FFFF n (below (ltb 0x10FFFF n) (between 0xD800 0xDFFF n) h)
