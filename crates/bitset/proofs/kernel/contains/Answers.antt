-- `bitset::kernel::contains` meets its contract: the law of its tables puts each index inside its table, and the word read is
-- the bucket's. Assumes nothing.
use Rattle.std.specs.Prelude.{◌<◌, ◌≤◌, ◌/◌, length}
use mathlib.Core.Path.{◌∙◌}
use Rattle.bitset.proofs.Tables.{past_map}
use Rattle.bitset.proofs.Reading.{place_inside, index_inside, answered}
use Rattle.bitset.proofs.kernel.contains.Goals as goal

pub returns-then-chunk-map_len : goal.returns-then-chunk-map_len
returns-then-chunk-map_len g c = past_map _ _ (rw c.map_len.ensures at c.if-chunk-map_len.true)

pub index_at-requires : goal.index_at-requires
index_at-requires g c =
    place_inside (g.T.Tables.tables c.args.tables.now) (g.met.T.Tables.inside c.args.tables.now) _
    (rw c.map_len.ensures at c.if-chunk-map_len.false) (c.from.ensures ∙ c.chunk_at.ensures)

pub word_at-requires : goal.word_at-requires
word_at-requires g c =
    index_inside (g.T.Tables.tables c.args.tables.now) (g.met.T.Tables.inside c.args.tables.now) _
    (rw c.map_len.ensures at c.if-chunk-map_len.false) (c.from.ensures ∙ c.chunk_at.ensures)
    (c.from-index.ensures ∙ c.index_at.ensures)

pub returns : goal.returns
returns g c =
    c.has_bit.ensures
    ∙ answered (g.T.Tables.tables c.args.tables.now) (g.met.T.Tables.inside c.args.tables.now) _
    (rw c.map_len.ensures at c.if-chunk-map_len.false) (c.from.ensures ∙ c.chunk_at.ensures)
    (c.from-index.ensures ∙ c.index_at.ensures) c.word_at.ensures
