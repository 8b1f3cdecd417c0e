-- What is left of the numbers is written over the rest of the buffer. Assumes nothing.
use Rattle.std.proofs.Common.{◌≡◌, ◌≤◌, ◌+◌, ◌++◌, length, take, drop}
use Rattle.std.specs.Iterator.Adapters.{enumerate_source, enumerate_count}
use Rattle.sets.specs.Buffers.{over}
use Rattle.unpack.specs.Left.{numbers_left}
use Rattle.unpack.proofs.write_numbers.Given as goal

abbrev pub invariant-loop-m : goal.invariant-loop-m
invariant-loop-m l =
    let left = numbers_left (enumerate_source l.m-iterator) in
    let m = enumerate_count l.m-iterator in
    (m + length left ≤ length l.out) × (over (numbers_left l.numbers) l.initial.out ≡ take m l.out ++ over left (drop m l.out))
