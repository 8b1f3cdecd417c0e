-- `sets::search_list` meets its contract: a refusal of either check is its own. Assumes nothing.
use Rattle.std.proofs.Common.{Ok, Err}
use mathlib.Core.Path.{◌∙◌, ap}
use Rattle.std.proofs.lemmas.Result.{err_from_is_err_and}
use Rattle.scalar.proofs.Points.{point_refused, point_good, point_value}
use Rattle.sets.specs.Lists.{holds}
use Rattle.sets.proofs.Answers.{refused_as, accepted_as}
use Rattle.sets.proofs.search_list.Goals as goal

pub returns-in_err-check_list : goal.returns-in_err-check_list
returns-in_err-check_list c =
    let p = err_from_is_err_and c.from_residual.result c.from_residual.ensures.1 in
    rw (p.1, p.2) (refused_as _ Err _ _ c.in_err-check_list.ensures)

pub returns-in_err-point : goal.returns-in_err-point
returns-in_err-point c =
    let p = err_from_is_err_and c.from_residual-in_err-point.result c.from_residual-in_err-point.ensures.1 in
    rw (p.1, p.2) (accepted_as _ Err _ _ _ c.in_ok-check_list.ensures (point_refused _ Err _ _ c.in_err-point.ensures))

pub returns : goal.returns
returns c =
    let l = c.args.list.now in
    let told = ap Ok (c.list_holds.ensures ∙ ap (holds l) (point_value _ _ c.in_ok-point.ensures)) in
    accepted_as _ Err _ _ _ c.in_ok-check_list.ensures (point_good _ _ _ _ _ c.in_ok-point.ensures told)
