-- A number beside a range, and what `&&` is where its first part holds: laws for short lists. Assumes nothing.
use Rattle.std.specs.Prelude.{◌≡◌, ℕ, ◌<◌, ◌≤◌, Bool, true, false, ◌&&◌}
use mathlib.Core.Path.{refl}
use mathlib.Core.Logic.{⊎_elim}
use borrow.Author.Tests.{le-leb, lt-leb}
use Rattle.scalar.specs.Scalars.{between}
use Rattle.sets.proofs.Decide.{split}

pub within : (a b x : ℕ) → a ≤ x → x ≤ b → between a b x ≡ true
within a b x h k = rw (le-leb a x h, le-leb x b k) refl

pub outside : (a b x : ℕ) → (a ≤ x → x ≤ b → ⊥) → between a b x ≡ false
outside a b x never =
    ⊎_elim
    (λ (h : a ≤ x). ⊎_elim (λ (k : x ≤ b). absurd (never h k)) (λ (k : b < x). rw (le-leb a x h, lt-leb x b k) refl) (split x b))
    (λ (h : x < a). rw (lt-leb a x h) refl)
    (split a x)

pub and_given : (s t : Bool) → s ≡ true → (s && t) ≡ t
and_given s t p = rw p refl
