-- What a scalar value is worth: its number. Assumes nothing: these are definitions.
use Rattle.std.specs.Prelude.{ℕ, ◌≡◌, Result, Ok, Err}
use Rattle.scalar.specs.declared.Scalar.{Scalar}
use Rattle.scalar.specs.declared.refusal.Refusal.{Refusal}
use Rattle.scalar.specs.Scalars.{checked}

-- the number of a scalar value, or the refusal
abbrev pub value_of : Result Scalar Refusal → Result ℕ Refusal
value_of (Ok s) = Ok s.value
value_of (Err r) = Err r

-- what is made of a number: a scalar value of that number, or refusal 1, then 2
abbrev pub Made : ℕ → Result Scalar Refusal → Type 0
Made n r = value_of r ≡ checked n
