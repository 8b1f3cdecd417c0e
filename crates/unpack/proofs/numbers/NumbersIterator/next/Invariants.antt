-- No number has been given yet. Assumes nothing.
use Rattle.std.proofs.Common.{◌≡◌, length}
use Rattle.unpack.specs.Left.{numbers_left}
use Rattle.unpack.proofs.numbers.NumbersIterator.next.Given as goal

abbrev pub invariant-loop-b : goal.invariant-loop-b
invariant-loop-b l = numbers_left l.self ≡ numbers_left l.initial.self

abbrev pub decreases-loop-b : goal.decreases-loop-b
decreases-loop-b l = length l.self.offsets.now
