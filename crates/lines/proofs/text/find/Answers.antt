-- `lines::text::find` meets its contract: what stands in the part stands in the whole. Assumes nothing.
use Rattle.std.proofs.Common.{◌-◌, sym, arith}
use Rattle.lines.proofs.Texts.{other_before, found_there, other_in_all}
use Rattle.lines.proofs.text.find.Goals as goal

pub returns-in-Some-clause-before : goal.returns-in-Some-clause-before
returns-in-Some-clause-before c k low high = other_before _ _ _ _ c.in-Some.i (sym c.in-Some.ensures) k low high

pub returns-in-Some-clause-found : goal.returns-in-Some-clause-found
returns-in-Some-clause-found c h = found_there _ _ (c.args.end - c.args.from) _ c.in-Some.i (sym c.in-Some.ensures) (omega arith)

pub returns-in-None-clause-before : goal.returns-in-None-clause-before
returns-in-None-clause-before c k low high =
    other_in_all _ _ (c.args.end - c.args.from) _ (sym c.in-None.ensures) (omega arith) k low (omega arith)
