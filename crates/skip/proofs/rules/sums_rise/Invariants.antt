-- What is left of W4 is the whole, with `low` the least sum that may come. Assumes nothing.
use Rattle.std.proofs.Common.{◌≡◌, drop}
use Rattle.skip.specs.Rules.{W4}
use Rattle.skip.proofs.rules.sums_rise.Given as goal

abbrev pub invariant-loop-word : goal.invariant-loop-word
invariant-loop-word l = W4 0 l.headers ≡ W4 l.low (drop l.word-index l.headers)
