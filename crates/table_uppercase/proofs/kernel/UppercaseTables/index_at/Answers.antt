-- `table_uppercase::kernel::UppercaseTables::index_at` meets its contract: the word read holds the byte. Assumes nothing.
use mathlib.Core.Path.{refl}
use Rattle.bitset.specs.Bitsets.{all_below}
use Rattle.bitset.proofs.Packed.{byte_read}
use Rattle.table_uppercase.specs.Table.{chunks}
use Rattle.table_uppercase.proofs.kernel.UppercaseTables.index_at.Goals as goal

pub returns : goal.returns
unfolding chunks all_below
returns c = byte_read chunks _ refl c.chunks_eight.ensures c.byte_at.ensures
