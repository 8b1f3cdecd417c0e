-- A table behind a `match` with an arm for each index: arm k answers f k, and the last arm is past them all. Assumes nothing.
use Rattle.std.specs.Prelude.{◌≡◌, ℕ, zero, suc, ◌≤◌}
use Prim.Native.Nat.{zero-le}
use mathlib.Core.Path.{ap, sym}
use mathlib.Core.Logic.{⊎_elim}
use native.Mathlib.Nat.{eq-or-lt_of_le}

pub arm : {A : Type 0} (f : ℕ → A) {k i : ℕ} → i ≡ k → f k ≡ f i
arm f h = ap f (sym h)

-- that i is none of the numbers below k, as the last arm knows it
unfoldable pub NoneBelow : ℕ → ℕ → Type 0
NoneBelow zero i = Unit
NoneBelow (suc k) i = NoneBelow k i × (i ≡ k → ⊥)

pub none_below : (k : ℕ) {i : ℕ} → NoneBelow k i → k ≤ i
unfolding NoneBelow
none_below zero h = zero-le
none_below (suc k) h = ⊎_elim (λ e. absurd (h.1 (sym e))) (λ l. l) (eq-or-lt_of_le (none_below k h.0))
