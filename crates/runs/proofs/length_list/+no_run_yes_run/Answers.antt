-- `runs::length_list::yes_run` and `no_run` meet their contracts. A decoded length says how the rest of the bytes reads
-- on (proofs/Lengths.antt), for a run of either kind; the measure of both is the bytes left. Assumes nothing.
use Rattle.std.proofs.Common.{true, false}
use Rattle.runs.proofs.Lengths.{ended, inside, onward}
use Rattle.runs.proofs.length_list.+no_run_yes_run.Goals as goal

pub no_run-returns-in_default : goal.no_run-returns-in_default
no_run-returns-in_default t c = ended c.args.bytes.now c.args.at c.length_at.ensures false _ c.in_default.is

pub no_run-returns-then-x-len : goal.no_run-returns-then-x-len
no_run-returns-then-x-len t c = inside c.args.bytes.now c.args.at c.length_at.ensures false c.in-Some.is c.if-x-len.true

pub no_run-returns : goal.no_run-returns
no_run-returns t c =
    onward c.args.bytes.now c.args.at c.length_at.ensures false c.in-Some.is c.if-x-len.false c.yes_run.ensures

pub yes_run-returns-in_default : goal.yes_run-returns-in_default
yes_run-returns-in_default t c = ended c.args.bytes.now c.args.at c.length_at.ensures true _ c.in_default.is

pub yes_run-returns-then-x-len : goal.yes_run-returns-then-x-len
yes_run-returns-then-x-len t c = inside c.args.bytes.now c.args.at c.length_at.ensures true c.in-Some.is c.if-x-len.true

pub yes_run-returns : goal.yes_run-returns
yes_run-returns t c =
    onward c.args.bytes.now c.args.at c.length_at.ensures true c.in-Some.is c.if-x-len.false c.no_run.ensures
