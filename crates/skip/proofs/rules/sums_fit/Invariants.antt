-- What is left of W5 at offset i of run k, with `at` the sum so far, is the whole; `at` is small enough not to wrap. Assumes nothing.
use Rattle.std.proofs.Common.{◌≡◌, ◌+◌, ◌*◌, ◌≤◌, length, drop}
use Rattle.skip.specs.Rules.{W5}
use Rattle.skip.proofs.rules.sums_fit.Given as goal

abbrev pub invariant-loop-i : goal.invariant-loop-i
invariant-loop-i l =
    (l.k ≤ length l.headers) × (l.at ≤ 2097152 + 255 * l.i)
    × (W5 (length l.offsets) 0 0 l.headers l.offsets ≡ W5 (length l.offsets) l.i l.at (drop l.k l.headers) (drop l.i l.offsets))
