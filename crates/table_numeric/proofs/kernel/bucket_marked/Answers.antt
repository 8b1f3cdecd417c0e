-- `table_numeric::kernel::bucket_marked` meets its contract: past the last word no bucket is marked. Assumes nothing.
use mathlib.Core.Path.{sym}
use Rattle.std.specs.Prelude.{◌/◌}
use borrow.Author.Tests.{le-ltb}
use Rattle.bitset.proofs.Marks.{past_marks}
use Rattle.table_numeric.specs.Marks.{marks}
use Rattle.table_numeric.proofs.kernel.bucket_marked.Goals as goal

pub marks_at-requires : goal.marks_at-requires
unfolding marks
marks_at-requires c = c.if-k-lt-MARKS_LENGTH.true

pub returns-else-k-lt-MARKS_LENGTH : goal.returns-else-k-lt-MARKS_LENGTH
unfolding marks
returns-else-k-lt-MARKS_LENGTH c =
    let past = c.if-k-lt-MARKS_LENGTH.false in
    rw (le-ltb _ _ past) (sym (past_marks marks (c.args.n / 64) past))
