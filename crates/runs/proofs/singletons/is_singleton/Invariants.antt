-- The invariant of `runs::singletons::is_singleton`: all pairs list the byte pair exactly if those left do, with the low
-- bytes left. Assumes nothing.
use Rattle.std.proofs.Common.{◌≡◌}
use Rattle.std.specs.Iterator.Adapters.{zip_first, zip_second}
use Rattle.std.specs.Slice.Iter.{iter_rest}
use Rattle.runs.specs.Singletons.{listed}
use Rattle.runs.proofs.singletons.is_singleton.Given as goal

abbrev pub invariant-loop-of : goal.invariant-loop-of
invariant-loop-of l =
    (goal.iterator-loop-of).can_next l.of-iterator × (goal.iterator-loop-of).is_finite l.of-iterator
    × (listed l.highs l.counts l.lows l.high l.low ≡ listed (iter_rest (zip_first l.of-iterator)) (iter_rest (zip_second l.of-iterator)) l.rest l.high l.low)
