-- What is passed in all is i and what is passed from offset i on, where the sum so far, `at`, has not passed x. Assumes nothing.
use Rattle.std.proofs.Common.{◌≡◌, ◌+◌, ◌≤◌, drop}
use Rattle.skip.specs.Seek.{upto}
use Rattle.skip.proofs.table.one_by_one.Given as goal

abbrev pub invariant-loop-i : goal.invariant-loop-i
invariant-loop-i l = (l.at ≤ l.x.value) × (upto l.x.value l.before l.offsets ≡ l.i + upto l.x.value l.at (drop l.i l.offsets))
