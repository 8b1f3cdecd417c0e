-- `table_lowercase::kernel::LowercaseTables::chunk_at` meets its contract: the word read holds the byte. Assumes nothing.
use mathlib.Core.Path.{refl}
use Rattle.bitset.specs.Bitsets.{all_below}
use Rattle.bitset.proofs.Packed.{byte_read}
use Rattle.table_lowercase.specs.Table.{chunk_map}
use Rattle.table_lowercase.proofs.kernel.LowercaseTables.chunk_at.Goals as goal

pub returns : goal.returns
unfolding chunk_map all_below
returns c = byte_read chunk_map _ refl c.chunk_map_eight.ensures c.byte_at.ensures
