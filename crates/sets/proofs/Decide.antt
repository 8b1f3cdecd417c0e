-- A number is at most another, or above it: std's `cases_lt`, said from the other side. Assumes nothing.
use Rattle.std.specs.Prelude.{ℕ, ◌<◌, ◌≤◌, ◌⊎◌}
use mathlib.Core.Logic.{inl, inr, ⊎_elim}
use Rattle.std.proofs.lemmas.Bool.{cases_lt}

pub split : (a b : ℕ) → (a ≤ b) ⊎ (b < a)
split a b = ⊎_elim inr inl (cases_lt b a)
