-- `casing_lower::kernel::to_lower` meets its contract: what the rows say over the ASCII letters is what Unicode's list says.
-- Assumes nothing.
use Rattle.std.specs.Prelude.{ℕ}
use mathlib.Core.Path.{◌∙◌, sym, ap, refl}
use Rattle.casing.specs.Answers.{made}
use Rattle.casing.proofs.Pages.{said}
use Rattle.casing_lower.proofs.Same.{unicode}
use Rattle.casing_lower.proofs.kernel.to_lower.Goals as goal

pub returns-in-None : goal.returns-in-None
returns-in-None c = said _ _ _ (sym c.in-None.is) c.from_floor.ensures _ ∙ unicode _ _ (c.new-in-None.ensures ∙ ap (λ (z : ℕ). made z 0 0) c.to_ascii_lowercase.ensures)

pub returns-in-Some : goal.returns-in-Some
returns-in-Some c = c.new.ensures ∙ said _ _ _ (sym c.in-Some.is) c.from_floor.ensures _ ∙ unicode _ _ refl
