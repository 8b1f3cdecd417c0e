-- The lowercase bitset equals its flat list at every number, by computed tests over the table. Assumes nothing.
use Rattle.std.specs.Prelude.{◌≡◌, ℕ}
use mathlib.Core.Path.{refl}
use Rattle.sets.specs.Lists.{edges, holds}
use Rattle.sets.proofs.Members.{rising}
use Rattle.bitset.specs.Bitsets.{word_at, contains, all_below}
use Rattle.bitset.proofs.Scan.{scan, places}
use Rattle.bitset.proofs.Equal.{Scanned, equal}
use Rattle.table_lowercase.specs.Table.{chunk_map, chunks, canonical, mapped_word, mapping}
use Rattle.table_lowercase.specs.Flat.{flat}
use Rattle.table_lowercase.specs.Inside.{table}

scanned : Scanned table flat
unfolding chunk_map chunks canonical mapped_word mapping flat all_below word_at edges rising scan places
scanned = record { same = refl; rises = refl; ends = refl }

pub table_right : (n : ℕ) → contains table n ≡ holds flat n
table_right n = equal table flat scanned n
