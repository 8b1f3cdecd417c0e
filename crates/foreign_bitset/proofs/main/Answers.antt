-- `foreign_bitset::main` makes the table: every index is inside it, by computing. Assumes nothing.
use mathlib.Core.Path.{refl}
use lib.Dec.{lit≤}
use Rattle.bitset.specs.Bitsets.{all_below}
use Rattle.foreign_bitset.proofs.main.Goals as goal

pub invariant_of-table : goal.invariant_of-table
unfolding all_below
invariant_of-table c = record { inside = record { map_in = refl; chunks_in = refl; real_in = refl; mapping_in = lit≤ tt } }
