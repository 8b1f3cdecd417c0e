-- `table_titlecase::kernel::lookup` meets its contract: the statics that it lends are the table's lists. Assumes nothing.
use mathlib.Core.Path.{◌∙◌}
use borrow.Author.Rules.{rules}
use Rattle.table_titlecase.specs.Table.{headers, offsets}
use Rattle.table_titlecase.proofs.Right.{table_keeps, table_right}
use Rattle.table_titlecase.proofs.kernel.lookup.Goals as goal

pub skip_search-requires : goal.skip_search-requires
unfolding headers offsets
skip_search-requires c = table_keeps

pub returns : goal.returns
unfolding headers offsets
returns c = c.skip_search.ensures ∙ table_right _ (search rules)
