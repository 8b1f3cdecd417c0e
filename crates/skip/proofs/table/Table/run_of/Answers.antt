-- `skip::table::Table::run_of` meets its contract: the sums rise, so those to x stand in front. Assumes nothing.
use Rattle.std.proofs.Common.{rules, of_calls, nat_le}
use Rattle.std.proofs.lemmas.List.Sorted.{IsPartitionedBy-leb, IsPartitionPoint-from_clause}
use Rattle.skip.specs.Headers.{prefix_sum}
use Rattle.skip.proofs.Sums.{sums_rise, run_at}
use Rattle.skip.proofs.Sought.{kept}
use Rattle.skip.proofs.table.Table.run_of.Goals as goal

pub returns : goal.returns
returns c =
    let hs = c.args.self.headers.now in
    let x = c.args.x in
    let keeps = kept hs c.args.self.offsets.now c.args.self.keeps in
    run_at hs x.value _ keeps.0 x.inside keeps.1
    (IsPartitionPoint-from_clause (λ h. nat_le (prefix_sum h) x.value) hs _ c.partition_point.ensures.partitioned
    (IsPartitionedBy-leb prefix_sum hs x.value (sums_rise hs keeps.0))
    (λ a r f k. search (rules, of_calls)))
