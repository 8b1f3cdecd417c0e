-- `table_titlecase::kernel::listed` meets its contract: the constant that it lends is the flat list. Assumes nothing.
use Rattle.table_titlecase.specs.Flat.{flat}
use Rattle.table_titlecase.proofs.kernel.listed.Goals as goal

pub returns : goal.returns
unfolding flat
returns c = c.list_holds.ensures
