-- Every bucket that a range of the flat list reaches into is marked: one computed test. Assumes nothing.
use Rattle.std.specs.Prelude.{◌≡◌, true}
use mathlib.Core.Path.{refl}
use Rattle.bitset.specs.Marks.{marks_at}
use Rattle.bitset.proofs.Marks.{span_marked, ranges_marked}
use Rattle.table_numeric.specs.Flat.{flat}
use Rattle.table_numeric.specs.Marks.{marks}

pub all_marked : ranges_marked marks flat ≡ true
unfolding flat marks marks_at span_marked ranges_marked
all_marked = refl
