-- What an encoder answers, and what its buffer holds afterwards; `units` is the encoding, utf8 or utf16.
-- Assumes nothing: these are definitions.
use Rattle.std.specs.Prelude.{ℕ, ◌≡◌, cond, List, ◌++◌, length, drop, ltb, Result, Ok, Err}
use Rattle.scalar.specs.Scalars.{scalar_else}
use Rattle.scalar.specs.declared.refusal.Refusal.{Refusal}
use Rattle.scalar.specs.declared.refusal.Refusal.TheVariants as refusal

-- refusals 1, 2, then 10 with the need; else the number of units
abbrev pub encoded : {A : Type 0} → (ℕ → List A) → ℕ → List A → Result ℕ Refusal
encoded units n o =
    scalar_else n (Err refusal.AboveMax) (Err refusal.Surrogate)
    (cond (ltb (length o) (length (units n))) (Err (refusal.ShortBuffer (length (units n)))) (Ok (length (units n))))

-- "No refusal writes to a lent buffer. Success leaves every place beyond the reported length unchanged."
abbrev pub written : {A : Type 0} → (ℕ → List A) → ℕ → List A → List A
written units n o =
    scalar_else n o o (cond (ltb (length o) (length (units n))) o (units n ++ drop (length (units n)) o))

-- the promise of an encoder lent the buffer o: its answer is r, and the buffer holds o'
pub record Encodes {A : Type 0} (units : ℕ → List A) (n : ℕ) (o : List A) (r : Result ℕ Refusal) (o' : List A) : Type 0 where
  pub answers : r ≡ encoded units n o
  pub leaves : o' ≡ written units n o
