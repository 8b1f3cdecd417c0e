-- What the length entries answer. Assumes nothing: these are definitions.
use Rattle.std.specs.Prelude.{ℕ, Result, Ok, Err}
use Rattle.scalar.specs.Scalars.{scalar_else}
use Rattle.scalar.specs.declared.refusal.Refusal.{Refusal}
use Rattle.scalar.specs.declared.refusal.Refusal.TheVariants as refusal

-- refusal 1, then 2, else the length that len gives
abbrev pub measured : (ℕ → ℕ) → ℕ → Result ℕ Refusal
measured len n = scalar_else n (Err refusal.AboveMax) (Err refusal.Surrogate) (Ok (len n))
