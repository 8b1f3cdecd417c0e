-- `casing::kernel::from_floor` meets its contract: its ways out are the cases of the definition. Assumes nothing.
use mathlib.Core.Path.{◌∙◌}
use native.Mathlib.Omega.{arith}
use Rattle.casing.proofs.Letters.{in_plane0, in_plane1, past_planes}
use Rattle.casing.proofs.kernel.from_floor.Goals as goal

pub returns-in-0 : goal.returns-in-0
returns-in-0 g c = λ other. c.looked_up.ensures other ∙ in_plane0 _ g.P0.Plane.rows g.P1.Plane.rows _ other c.if-n-floor.false c.in-0.is

pub returns-in-1 : goal.returns-in-1
returns-in-1 g c =
    λ other. c.looked_up-in-1.ensures other ∙ in_plane1 _ g.P0.Plane.rows g.P1.Plane.rows _ other c.if-n-floor.false c.in-1.is

pub returns-in_default : goal.returns-in_default
returns-in_default g c =
    λ other. past_planes _ g.P0.Plane.rows g.P1.Plane.rows _ other c.if-n-floor.false (λ e. omega arith) (λ e. omega arith)
