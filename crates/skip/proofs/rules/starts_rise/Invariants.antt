-- What is left of W3 from header k on is the whole. Assumes nothing.
use Rattle.std.proofs.Common.{◌≡◌, drop}
use Rattle.skip.specs.Rules.{W3}
use Rattle.skip.proofs.rules.starts_rise.Given as goal

abbrev pub invariant-loop-k : goal.invariant-loop-k
invariant-loop-k l = W3 l.n l.headers ≡ W3 l.n (drop l.k l.headers)
