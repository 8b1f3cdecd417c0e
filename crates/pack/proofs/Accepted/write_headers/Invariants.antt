-- What is left of the headers, from the boundaries from place j on, is written over the buffer from place k on. Assumes nothing.
use Rattle.std.proofs.Common.{◌≡◌, ◌≤◌, ◌+◌, ◌++◌, length, take, drop}
use Rattle.sets.specs.Buffers.{over}
use Rattle.pack.specs.Packing.{headers_of}
use Rattle.pack.specs.Places.{edges_from, InOrder}
use Rattle.pack.proofs.Accepted.write_headers.Given as goal

abbrev pub invariant-loop-j : goal.invariant-loop-j
invariant-loop-j l =
    let left = headers_of l.j l.start l.before (edges_from l.j (drop l.j l.self.numbers.now)) in
    (l.start ≤ l.j) × (l.k + length left ≤ length l.headers) × InOrder l.before (edges_from l.j (drop l.j l.self.numbers.now))
    × (over (headers_of 0 0 0 (edges_from 0 l.self.numbers.now)) l.initial.headers ≡ take l.k l.headers ++ over left (drop l.k l.headers))
