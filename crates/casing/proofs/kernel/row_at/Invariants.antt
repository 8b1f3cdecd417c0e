-- `casing::kernel::row_at` meets its contract, by the laws of halving; the measure is what lies between lo and hi. Assumes nothing.
use Rattle.std.proofs.Common.{◌-◌}
use Rattle.casing.proofs.Halving.{Halving}
use Rattle.casing.proofs.kernel.row_at.Given as goal

abbrev pub invariant-loop-lo : goal.invariant-loop-lo
invariant-loop-lo l = Halving l.ends l.first l.last l.x l.lo l.hi

abbrev pub decreases-loop-lo : goal.decreases-loop-lo
decreases-loop-lo l = l.hi - l.lo
