-- What is passed in all is what was passed and what is passed of the rest, where the sum so far, `at`, has not passed x. Assumes nothing.
use Rattle.std.proofs.Common.{◌≡◌, ◌+◌, ◌≤◌, length}
use Rattle.skip.specs.Seek.{upto}
use Rattle.skip.proofs.table.passed.Given as goal

abbrev pub invariant-loop-chunk : goal.invariant-loop-chunk
invariant-loop-chunk l =
    (l.at ≤ l.x.value) × (l.passed + length l.rest ≡ length l.offsets) × (upto l.x.value l.before l.offsets ≡ l.passed + upto l.x.value l.at l.rest)

abbrev pub decreases-loop-chunk : goal.decreases-loop-chunk
decreases-loop-chunk l = length l.rest
