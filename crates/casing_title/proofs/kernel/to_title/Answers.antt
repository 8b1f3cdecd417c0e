-- `casing_title::kernel::to_title` meets its contract: what the rows say over the upper mapping is what Unicode's list says.
-- Assumes nothing.
use mathlib.Core.Path.{◌∙◌, sym, refl}
use Rattle.casing.proofs.Pages.{said}
use Rattle.casing_title.proofs.Same.{unicode}
use Rattle.casing_title.proofs.kernel.to_title.Goals as goal

pub returns-in-None : goal.returns-in-None
returns-in-None c = said _ _ _ (sym c.in-None.is) c.from_floor.ensures _ ∙ unicode _ _ c.to_upper.ensures

pub returns-in-Some : goal.returns-in-Some
returns-in-Some c = c.new.ensures ∙ said _ _ _ (sym c.in-Some.is) c.from_floor.ensures _ ∙ unicode _ _ refl
