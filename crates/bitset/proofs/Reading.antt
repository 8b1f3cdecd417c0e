-- The steps of a search, whoever reads the tables: where the chunk, the index byte and the word read are the table's, each
-- next read is inside its table, and the bit of the word is the answer. Assumes nothing.
use Rattle.std.specs.Prelude.{◌≡◌, ℕ, ◌+◌, ◌*◌, ◌/◌, ◌%◌, ◌<◌, length, get_or}
use mathlib.Core.Path.{ap, ◌∙◌}
use native.Mathlib.Omega.{arith}
use Rattle.bitset.specs.Bitsets.{Bitset, bit, word_at, contains, Inside}
use Rattle.bitset.proofs.Tables.{below_read, in_map}

module _ (t : Bitset) (inside : Inside t) (n : ℕ) (in-the-map : n / 64 / 16 < length t.map) where
  module _ {chunk : ℕ} (its-chunk : chunk ≡ get_or t.map (n / 64 / 16) 0) where
    pub chunk_inside : chunk < length t.chunks / 16
    chunk_inside = below_read (length t.chunks / 16) t.map (n / 64 / 16) inside.map_in in-the-map its-chunk

    pub place_inside : chunk * 16 + n / 64 % 16 < length t.chunks
    place_inside = omega (arith, chunk_inside)

    module _ {index : ℕ} (its-index : index ≡ get_or t.chunks (chunk * 16 + n / 64 % 16) 0) where
      pub index_inside : index < length t.canonical + length t.real
      index_inside =
          below_read (length t.canonical + length t.real) t.chunks (chunk * 16 + n / 64 % 16)
          inside.chunks_in place_inside its-index

      pub answered : {word : ℕ} → word ≡ word_at t.canonical t.real t.mapping index
          → bit (n % 64) word ≡ contains t n
      answered its-word =
          let byte_of : ℕ → ℕ = λ k. get_or t.chunks (k * 16 + n / 64 % 16) 0 in
          let word_of = word_at t.canonical t.real t.mapping in
          ap (bit (n % 64)) (its-word ∙ ap word_of (its-index ∙ ap byte_of its-chunk)) ∙ in_map t n in-the-map
