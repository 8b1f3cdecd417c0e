-- The first bad range of the whole list is the first of what is left, where i ranges have passed and no first below `low` may
-- stand. Assumes nothing.
use Rattle.std.proofs.Common.{◌≡◌, ◌+◌, ◌≤◌, length}
use Rattle.sets.specs.Lists.{bad_at}
use Rattle.sets.proofs.kernel.first_bad.Given as goal

abbrev pub invariant-loop-rest : goal.invariant-loop-rest
invariant-loop-rest l = (l.i + length l.rest ≤ length l.list) × (bad_at 0 0 l.list ≡ bad_at l.i l.low l.rest)

abbrev pub decreases-loop-rest : goal.decreases-loop-rest
decreases-loop-rest l = length l.rest
