-- A map of the buckets of 64 numbers, a bit to each: marked where the bucket holds a number of a set at all. Clients cite `marked`.
-- Assumes nothing: these are definitions.
use Rattle.std.specs.Prelude.{ℕ, ◌/◌, ◌%◌, Bool, List, slice_index}
use Rattle.bitset.specs.Bitsets.{bit}

-- the marks of 64 buckets; past the end of the map none is marked
unfoldable pub marks_at : List ℕ → ℕ → ℕ
marks_at words k = slice_index words k

abbrev pub marked : List ℕ → ℕ → Bool
marked words bucket = bit (bucket % 64) (marks_at words (bucket / 64))
