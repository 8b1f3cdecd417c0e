-- Scalar values: the numbers to 0x10FFFF that are no surrogates. Assumes nothing: these are definitions.
use Rattle.std.specs.Prelude.{ℕ, Bool, true, false, cond, ◌&&◌, ltb, leb, Result, Ok, Err}
use Rattle.scalar.specs.declared.refusal.Refusal.{Refusal}
use Rattle.scalar.specs.declared.refusal.Refusal.TheVariants as refusal

-- x lies from low to high, both ends counted
abbrev pub between : ℕ → ℕ → ℕ → Bool
between low high x = leb low x && leb x high

-- what stands first if the number is refused 1 or 2, in that order; else the last
unfoldable pub scalar_else : {A : Type 0} → ℕ → A → A → A → A
scalar_else n above surrogate good = cond (ltb 0x10FFFF n) above (cond (between 0xD800 0xDFFF n) surrogate good)

-- neither refusal 1 nor 2
abbrev pub is_scalar : ℕ → Bool
is_scalar n = scalar_else n false false true

-- a number that is a scalar value, or refusal 1, then 2
abbrev pub checked : ℕ → Result ℕ Refusal
checked n = scalar_else n (Err refusal.AboveMax) (Err refusal.Surrogate) (Ok n)

-- the answer of a yes-or-no entry: refusal 1, then 2, else what f says of the number
abbrev pub answered : (ℕ → Bool) → ℕ → Result Bool Refusal
answered f n = scalar_else n (Err refusal.AboveMax) (Err refusal.Surrogate) (Ok (f n))

-- the ASCII ranges that the entries answer by themselves
abbrev pub ascii_digit : ℕ → Bool
ascii_digit x = between 0x30 0x39 x

abbrev pub ascii_upper : ℕ → Bool
ascii_upper x = between 0x41 0x5A x

abbrev pub ascii_lower : ℕ → Bool
ascii_lower x = between 0x61 0x7A x
