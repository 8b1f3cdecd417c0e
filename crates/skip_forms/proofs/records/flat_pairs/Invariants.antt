-- The pairs of the first i records are stored, and zeros follow. Assumes nothing.
use Rattle.std.proofs.Common.{◌≡◌}
use Rattle.skip_forms.specs.Records.{filled}
use Rattle.skip_forms.proofs.records.flat_pairs.Given as goal

abbrev pub invariant-loop-i : goal.invariant-loop-i
invariant-loop-i l = l.pairs ≡ filled l.i l.ranges
