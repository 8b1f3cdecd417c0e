-- The lowercase bitset: its five tables, and that every index is inside its table, which is computed. Assumes nothing.
use mathlib.Core.Path.{refl}
use lib.Dec.{lit≤}
use Rattle.bitset.specs.Bitsets.{Bitset, bitset, all_below, Inside}
use Rattle.table_lowercase.specs.Table.{chunk_map, chunks, canonical, mapped_word, mapping}

abbrev pub table : Bitset
table = bitset chunk_map chunks canonical mapped_word mapping

pub table_inside : Inside table
unfolding chunk_map chunks canonical mapped_word mapping all_below
table_inside = record { map_in = refl; chunks_in = refl; real_in = refl; mapping_in = lit≤ tt }
