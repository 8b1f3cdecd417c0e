-- What is left of the list says what the whole list says, since the ranges before it do not hold x. Assumes nothing.
use Rattle.std.proofs.Common.{◌≡◌, length}
use Rattle.sets.specs.Lists.{holds}
use Rattle.sets.proofs.kernel.list_holds.Given as goal

abbrev pub invariant-loop-rest : goal.invariant-loop-rest
invariant-loop-rest l = holds l.list l.x ≡ holds l.rest l.x

abbrev pub decreases-loop-rest : goal.decreases-loop-rest
decreases-loop-rest l = length l.rest
