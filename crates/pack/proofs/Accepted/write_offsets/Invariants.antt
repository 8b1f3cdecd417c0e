-- What is left of the offsets, from place i on, is written over the rest of the buffer. Assumes nothing.
use Rattle.std.proofs.Common.{◌≡◌, ◌++◌, take, drop}
use Rattle.sets.specs.Buffers.{over}
use Rattle.pack.specs.Packing.{offsets_of}
use Rattle.pack.specs.Places.{edges_from, InOrder}
use Rattle.pack.proofs.Accepted.write_offsets.Given as goal

abbrev pub invariant-loop-i : goal.invariant-loop-i
invariant-loop-i l =
    InOrder l.before (edges_from l.i (drop l.i l.self.numbers.now))
    × (over (offsets_of 0 (edges_from 0 l.self.numbers.now)) l.initial.offsets
    ≡ take l.i l.offsets ++ over (offsets_of l.before (edges_from l.i (drop l.i l.self.numbers.now))) (drop l.i l.offsets))
