-- `casing::kernel::row_at` meets its contract, by the laws of halving; the measure is what lies between lo and hi. Assumes nothing.
use Rattle.std.proofs.Common.{◌+◌, ◌-◌, ◌/◌, arith, rules}
use Rattle.casing.proofs.Halving.{begin, move_lo, move_hi, met}
use Rattle.casing.proofs.kernel.row_at.Goals as goal

pub loop-lo-init : goal.loop-lo-init
loop-lo-init c = begin c.args.ends.now c.args.first c.args.last c.args.x (search rules)

pub overflow_sub-mid : goal.overflow_sub-mid
overflow_sub-mid c = omega (arith, c.loop-lo.invariant.order)

pub loop-lo-preserved-then-ends-mid : goal.loop-lo-preserved-then-ends-mid
loop-lo-preserved-then-ends-mid c =
    let turn = c.loop-lo in
    let start = c in
    move_lo start.args.ends.now _ _ _ _ _ turn.invariant c.requires.ends_apart c.requires.first_le_last.1 (turn.lo + (turn.hi - turn.lo) / 2) (omega arith) (omega arith) c.if-ends-mid.true

pub loop-lo-preserved : goal.loop-lo-preserved
loop-lo-preserved c =
    let turn = c.loop-lo in
    let start = c in
    move_hi start.args.ends.now _ _ _ _ _ turn.invariant (turn.lo + (turn.hi - turn.lo) / 2) (omega arith) (omega arith) c.if-ends-mid.false

pub returns : goal.returns
returns c = met _ _ _ _ _ _ c.loop-lo.invariant c.loop-lo-test.false
