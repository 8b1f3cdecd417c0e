-- `skip::table::passed` meets its contract: eight offsets that together do not bring the sum past x are passed. Assumes nothing.
use Rattle.std.proofs.Common.{◌≡◌, ◌∙◌, ap, take, drop, length, ◌≤◌, ◌+◌, arith}
use Rattle.skip.specs.Seek.{total}
use Rattle.skip.proofs.Turn.{upto_on}
use Rattle.skip.proofs.table.passed.Goals as goal

pub loop-chunk-preserved : goal.loop-chunk-preserved
loop-chunk-preserved c =
    let rest = c.loop-chunk.rest.now in
    let chunks = c.in-Some.ensures.cases in
    let sum : c.eight.result ≡ total (take 8 rest) = c.eight.ensures.0 ∙ ap total chunks.0 in
    let tail : c.in-Some.tail.now ≡ drop 8 rest = chunks.1 in
    let room : 8 ≤ length rest = omega (arith, chunks.2) in
    let under : c.loop-chunk.at + total (take 8 rest) ≤ c.args.x.value = omega arith in (
      omega arith,
      omega (arith, chunks.2),
      rw (tail, sum) (omega (arith, upto_on c.args.x.value c.loop-chunk.at 8 rest room under)),
    )
