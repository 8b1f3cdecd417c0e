-- `unpack::unpack` meets its contract: a refusal of the checker is handed on; of an accepted table the numbers are the list's, so
-- their count is the need, and the test of the buffer decides. Assumes nothing.
use Rattle.std.proofs.Common.{◌≡◌, ◌∙◌, ap, length, arith}
use Rattle.std.proofs.lemmas.Result.{err_from_is_err_and}
use Rattle.std.proofs.lemmas.Iterator.Consumers.{count_from_yields_List, YieldsList-from_first}
use mathlib.Core.Logic.{inl}
use Rattle.skip.proofs.Answers.{accepted_rules}
use Rattle.unpack.specs.Unpacking.{list}
use Rattle.unpack.specs.Left.{numbers_left}
use Rattle.unpack.proofs.Same.{numbers_are}
use Rattle.unpack.proofs.Suffice.{numbers_suffice, few}
use Rattle.unpack.proofs.Outcome.{refused_table, refused_short, done}
use Rattle.unpack.proofs.unpack.Goals as goal

pub returns-in_err-check : goal.returns-in_err-check
returns-in_err-check c =
    let p = err_from_is_err_and c.from_residual.result c.from_residual.ensures.1 in
    rw (p.1, p.2) (refused_table _ _ _ _ c.in_err-check.ensures)

pub count-need-requires-clause-fits : goal.count-need-requires-clause-fits
count-need-requires-clause-fits c =
    let hs = c.args.headers.now in
    let os = c.args.offsets.now in
    let kept = accepted_rules hs os c.in_ok-check.ensures in
    let all : length (numbers_left c.new.result) ≡ length (list hs os) = ap length (c.new.ensures ∙ numbers_are hs os kept) in
    inl (omega (arith, all, numbers_suffice hs os, few hs os kept))

pub returns-then-out-need : goal.returns-then-out-need
returns-then-out-need c =
    let kept = accepted_rules _ _ c.in_ok-check.ensures in
    let need = count_from_yields_List _ _ c.count-need.ensures.ran (YieldsList-from_first (λ x. x) numbers_left _ (c.new.ensures ∙ numbers_are _ _ kept)) in
    rw need (refused_short _ _ _ kept (rw need at c.if-out-need.true))

pub returns : goal.returns
returns c =
    let kept = accepted_rules _ _ c.in_ok-check.ensures in
    let need = count_from_yields_List _ _ c.count-need.ensures.ran (YieldsList-from_first (λ x. x) numbers_left _ (c.new.ensures ∙ numbers_are _ _ kept)) in
    let written = c.new-2.ensures ∙ numbers_are _ _ kept in
    rw (need, rw written at c.write_numbers.ensures) (done _ _ _ kept (rw need at c.if-out-need.false))
