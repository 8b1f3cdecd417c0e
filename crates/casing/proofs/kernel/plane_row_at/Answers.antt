-- `casing::kernel::plane_row_at` meets its contract, by the laws of halving: a row that ends below x moves the lower end up. Assumes
-- nothing.
use Rattle.std.proofs.Common.{◌+◌, ◌-◌, ◌/◌, ◌<◌, length, sym, arith}
use Rattle.casing.proofs.Halving.{move_lo}
use Rattle.casing.proofs.Pages.{tested}
use Rattle.casing.proofs.kernel.plane_row_at.Goals as goal

pub loop-lo-preserved-then-end-x : goal.loop-lo-preserved-then-end-x
loop-lo-preserved-then-end-x g c =
    let turn = c.loop-lo in
    let plane = g.P.Plane in
    let inside : turn.lo + (turn.hi - turn.lo) / 2 < length plane.rows.ends = omega (arith, turn.invariant.upto, c.requires.1) in
    move_lo plane.rows.ends _ _ _ _ _ turn.invariant (tested plane.rows plane.pages g.met.P.Plane.test).rise c.requires.1
    (turn.lo + (turn.hi - turn.lo) / 2) (omega arith) (omega arith) (rw (sym (c.end.ensures inside)) c.if-end-x.true)
