-- `skip::table::seek` meets its contract: the run of x is found, and what the rules say of it (`Answered`) turns the place where
-- the walk stops into the count of boundaries and the offsets read. Assumes nothing.
use Rattle.std.specs.Prelude.{◌≡◌, ℕ, drop, ◌+◌, ◌-◌, ◌≤◌, length}
use mathlib.Core.Path.{ap}
use borrow.Author.Rules.{rules}
use Rattle.std.proofs.lemmas.Slice.{between_is}
use Rattle.skip.specs.Seek.{upto}
use lib.ListN.{length-take}
use lib.Seq.{slice}
use native.Mathlib.Omega.{arith}
use Rattle.skip.proofs.Sought.{Answered, answered, parity, stopped, ran_out}
use Rattle.skip.proofs.table.Table.seek.Goals as goal

pub overflow_sub-last : goal.overflow_sub-last
overflow_sub-last c = let a = answered c.args.self.headers.now c.args.self.offsets.now c.args.x.value c.run_of-k.result c.args.self.keeps c.run_of-k.ensures in omega (arith, c.run_end-end.ensures, a.low)

pub slice_bounds-passed-count : goal.slice_bounds-passed-count
slice_bounds-passed-count c = let a = answered c.args.self.headers.now c.args.self.offsets.now c.args.x.value c.run_of-k.result c.args.self.keeps c.run_of-k.ensures in omega (arith, c.start_index-begin.ensures, c.run_end-end.ensures, a.low)

pub slice_bounds-passed-start : goal.slice_bounds-passed-start
slice_bounds-passed-start c =
    let a = answered c.args.self.headers.now c.args.self.offsets.now c.args.x.value c.run_of-k.result c.args.self.keeps c.run_of-k.ensures in
    let l : c.start_index-begin.result ≤ c.run_end-end.result - 1 = omega (arith, c.start_index-begin.ensures, c.run_end-end.ensures, a.low) in search rules

pub slice_bounds-passed-end : goal.slice_bounds-passed-end
slice_bounds-passed-end c =
    let a = answered c.args.self.headers.now c.args.self.offsets.now c.args.x.value c.run_of-k.result c.args.self.keeps c.run_of-k.ensures in
    let l : c.run_end-end.result - 1 ≤ length c.args.self.offsets.now = omega (arith, c.run_end-end.ensures, a.high) in search rules

pub passed-requires : goal.passed-requires
passed-requires c =
    let a = answered c.args.self.headers.now c.args.self.offsets.now c.args.x.value c.run_of-k.result c.args.self.keeps c.run_of-k.ensures in
    omega (arith, a.before, c.sum_before.ensures)

pub overflow_add-at : goal.overflow_add-at
overflow_add-at c =
    let l = length-take (c.run_end-end.result - 1 - c.start_index-begin.result) (drop c.start_index-begin.result c.args.self.offsets.now) in
    omega (arith, c.passed.ensures.1, l)

pub returns : goal.returns
returns c =
    let a : Answered c.args.self.headers.now c.args.self.offsets.now c.args.x.value c.start_index-begin.result c.run_end-end.result c.sum_before.result =
    rw (c.start_index-begin.ensures, c.run_end-end.ensures, c.sum_before.ensures)
    (answered c.args.self.headers.now c.args.self.offsets.now c.args.x.value c.run_of-k.result c.args.self.keeps c.run_of-k.ensures) in
    let b = c.start_index-begin.result in
    let last = c.run_end-end.result - 1 in
    let i : b + c.passed.result ≡ b + upto c.args.x.value c.sum_before.result (slice b last c.args.self.offsets.now) =
    ap (λ (n : ℕ). b + n) (rw between_is at c.passed.ensures.0) in
    record {
      from = omega arith;
      upto_last = omega (arith, a.low, c.passed.ensures.1, length-take (last - b) (drop b c.args.self.offsets.now));
      parity = parity _ _ _ _ _ _ _ a i;
      inside = stopped _ _ _ _ _ _ _ a i;
      at_end = ran_out _ _ _ _ _ _ _ a i;
    }
