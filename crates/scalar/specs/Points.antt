-- What a code point is worth: its number. Assumes nothing: these are definitions.
use Rattle.std.specs.Prelude.{ℕ, ◌≡◌, cond, ltb, Result, Ok, Err}
use Rattle.scalar.specs.declared.Scalar.{Scalar}
use Rattle.scalar.specs.declared.point.CodePoint.{CodePoint}
use Rattle.scalar.specs.declared.refusal.Refusal.{Refusal}
use Rattle.scalar.specs.declared.refusal.Refusal.TheVariants as refusal

-- a number to 0x10FFFF, or refusal 1
abbrev pub point_checked : ℕ → Result ℕ Refusal
point_checked n = cond (ltb 0x10FFFF n) (Err refusal.AboveMax) (Ok n)

-- the number of a code point, or the refusal
abbrev pub point_of : Result CodePoint Refusal → Result ℕ Refusal
point_of (Ok p) = Ok p.value
point_of (Err r) = Err r

-- what is made of a number: a code point of that number, or refusal 1
abbrev pub PointMade : ℕ → Result CodePoint Refusal → Type 0
PointMade n r = point_of r ≡ point_checked n

-- a scalar value is a code point of the same number
abbrev pub IsPoint : Scalar → CodePoint → Type 0
IsPoint s p = p.value ≡ s.value
