-- `table_numeric::kernel::lookup` meets its contract: no range reaches into an unmarked bucket, and the statics that the search is
-- lent are the table's lists. Assumes nothing.
use mathlib.Core.Path.{◌∙◌, sym}
use borrow.Author.Rules.{rules}
use Rattle.bitset.proofs.Marks.{unmarked}
use Rattle.table_numeric.specs.Flat.{flat}
use Rattle.table_numeric.specs.Marks.{marks}
use Rattle.table_numeric.specs.Table.{headers, offsets}
use Rattle.table_numeric.proofs.Marked.{all_marked}
use Rattle.table_numeric.proofs.Right.{table_keeps, table_right}
use Rattle.table_numeric.proofs.kernel.lookup.Goals as goal

pub skip_search-requires : goal.skip_search-requires
unfolding headers offsets
skip_search-requires c = table_keeps

pub returns-then-bucket_marked : goal.returns-then-bucket_marked
unfolding headers offsets
returns-then-bucket_marked c = c.skip_search.ensures ∙ table_right _ (search rules)

pub returns-else-bucket_marked : goal.returns-else-bucket_marked
returns-else-bucket_marked c =
    c.if-bucket_marked.false ∙ unmarked marks flat all_marked _ (sym c.bucket_marked.ensures ∙ c.if-bucket_marked.false)
