-- `pack::count_runs` meets its contract. The invariant: the boundaries from j on are in order after the one before, and the
-- runs counted with those that they still make are one more than there are. Assumes nothing.
use Prim.Native.Nat.{◌≤◌, ◌+◌}
use mathlib.Core.Path.{◌≡◌}
use lib.ListN.{drop}
use Rattle.pack.specs.Places.{edges_from, InOrder, runs_of}
use Rattle.pack.proofs.Accepted.count_runs.Given as goal

abbrev pub invariant-loop-j : goal.invariant-loop-j
invariant-loop-j l =
    (l.runs ≤ l.j + 1) × InOrder l.before (edges_from l.j (drop l.j l.self.numbers.now))
    × (l.runs + runs_of l.before (edges_from l.j (drop l.j l.self.numbers.now)) ≡ 1 + runs_of 0 (edges_from 0 l.self.numbers.now))
