-- `casing::kernel::looked_up` meets its contract: an empty page has no rows; else the row that halving finds among the page's
-- decides, and the multi rows where it does not. Assumes nothing.
use Rattle.std.specs.Prelude.{◌*◌, ◌/◌, ◌<◌, length}
use mathlib.Core.Path.{◌∙◌, sym}
use native.Mathlib.Omega.{arith}
use Rattle.casing.specs.Reading.{packed}
use Rattle.casing.specs.Rows.{singles}
use Rattle.casing.proofs.Pages.{empty_page, page_rows, past_rows, row_found}
use Rattle.casing.proofs.kernel.looked_up.Goals as goal

pub returns-in_err-first : goal.returns-in_err-first
returns-in_err-first g c =
    rw c.from_residual.ensures
    (empty_page g.P.Plane.rows g.P.Plane.pages g.met.P.Plane.test _ _ (sym c.in_err-first.was ∙ c.page.ensures))

pub plane_row_at-i-requires : goal.plane_row_at-i-requires
plane_row_at-i-requires g c =
    (page_rows g.P.Plane.rows g.P.Plane.pages g.met.P.Plane.test _ _ _ (sym c.in_ok-first.was ∙ c.page.ensures)).1

pub returns-then-i-last : goal.returns-then-i-last
returns-then-i-last g c =
    let plane = g.P.Plane in
    λ other. c.multi.ensures other
    ∙ sym (past_rows plane.rows plane.pages g.met.P.Plane.test _ _ _ _ _ (sym c.in_ok-first.was ∙ c.page.ensures) c.plane_row_at-i.ensures _ c.if-i-last.true)

pub returns-in-None : goal.returns-in-None
returns-in-None g c =
    let plane = g.P.Plane in
    let page = page_rows plane.rows plane.pages g.met.P.Plane.test _ _ _ (sym c.in_ok-first.was ∙ c.page.ensures) in
    let inside : c.plane_row_at-i.result / 4 * 4 < length plane.rows.ends = omega (arith, page.1.1, c.plane_row_at-i.ensures.upto) in
    λ other. c.multi-in-None.ensures other
    ∙ row_found plane.rows plane.pages g.met.P.Plane.test _ _ _ _ _ (sym c.in_ok-first.was ∙ c.page.ensures) c.plane_row_at-i.ensures _ c.if-i-last.false
    _ _ (sym c.in-None.is ∙ c.by_row.ensures) (c.row_of.ensures (packed (singles plane.rows)) (c.four.ensures inside))

pub returns-in-Some : goal.returns-in-Some
returns-in-Some g c =
    let plane = g.P.Plane in
    let page = page_rows plane.rows plane.pages g.met.P.Plane.test _ _ _ (sym c.in_ok-first.was ∙ c.page.ensures) in
    let inside : c.plane_row_at-i.result / 4 * 4 < length plane.rows.ends = omega (arith, page.1.1, c.plane_row_at-i.ensures.upto) in
    λ other. row_found plane.rows plane.pages g.met.P.Plane.test _ _ _ _ _ (sym c.in_ok-first.was ∙ c.page.ensures) c.plane_row_at-i.ensures _ c.if-i-last.false
    _ _ (sym c.in-Some.is ∙ c.by_row.ensures) (c.row_of.ensures (packed (singles plane.rows)) (c.four.ensures inside))
