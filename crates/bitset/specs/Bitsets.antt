-- Bitsets as document 01 has them. Clients cite `Bitset`, `Inside` and `contains`. Assumes nothing: these are definitions.
use Rattle.std.specs.Prelude.{◌≡◌, ℕ, ◌+◌, ◌-◌, ◌*◌, ◌/◌, ◌%◌, ◌^◌, ◌≤◌, Bool, true, cond, ◌&&◌, List, [], ◌∷◌, length, ◌==◌, nat_lt, slice_index}

-- the five tables: the chunk of each 16 buckets, the chunks' index bytes, the canonical words, and of each pair
-- (word, mapping) which canonical word it has, and its mapping
pub record Bitset : Type 0 where
  pub map : List ℕ
  pub chunks : List ℕ
  pub canonical : List ℕ
  pub real : List ℕ
  pub mapping : List ℕ

abbrev pub bitset : List ℕ → List ℕ → List ℕ → List ℕ → List ℕ → Bitset
bitset map chunks canonical real mapping =
    record { map = map; chunks = chunks; canonical = canonical; real = real; mapping = mapping }

-- bit number k of a word
abbrev pub bit : ℕ → ℕ → Bool
bit k w = w / 2 ^ k % 2 == 1

-- a word of 64 bits rotated left: what leaves it above comes in below
abbrev pub rotated : ℕ → ℕ → ℕ
rotated w k = w * 2 ^ k % 2 ^ 64 + w / 2 ^ (64 - k)

-- bit 6 inverts
abbrev pub inverted : ℕ → ℕ → ℕ
inverted m w = cond (bit 6 m) (2 ^ 64 - 1 - w) w

-- the low six bits give a right shift if bit 7 is set, else a left rotation
abbrev pub turned : ℕ → ℕ → ℕ
turned m w = cond (bit 7 m) (w / 2 ^ (m % 64)) (rotated w (m % 64))

-- first it inverts, then it shifts or rotates
abbrev pub mapped : ℕ → ℕ → ℕ
mapped m w = turned m (inverted m w)

-- pair j: its mapping of its word. A number past the end of a table reads 0
abbrev pub pair_word : List ℕ → List ℕ → List ℕ → ℕ → ℕ
pair_word canonical real mapping j = mapped (slice_index mapping j) (slice_index canonical (slice_index real j))

-- the index byte picks a canonical word, or, past those, a pair
unfoldable pub word_at : List ℕ → List ℕ → List ℕ → ℕ → ℕ
word_at canonical real mapping i =
    cond (nat_lt i (length canonical)) (slice_index canonical i) (pair_word canonical real mapping (i - length canonical))

-- the word of a bucket; 16 buckets make a chunk
abbrev pub bucket_word : Bitset → ℕ → ℕ
bucket_word t b =
    word_at t.canonical t.real t.mapping (slice_index t.chunks (slice_index t.map (b / 16) * 16 + b % 16))

-- a number divided by 64 is its bucket; a chunk index past the map's end means no; the answer is bit number modulo 64
unfoldable pub contains : Bitset → ℕ → Bool
contains t n = nat_lt (n / 64 / 16) (length t.map) && bit (n % 64) (bucket_word t (n / 64))

-- every number of a list is below k
unfoldable pub all_below : ℕ → List ℕ → Bool
all_below k [] = true
all_below k (x ∷ l) = nat_lt x k && all_below k l

-- every index is inside the table that it points into: a chunk of the map, a word or pair of a chunk, a pair's word and mapping
pub record Inside (t : Bitset) : Type 0 where
  pub map_in : all_below (length t.chunks / 16) t.map ≡ true
  pub chunks_in : all_below (length t.canonical + length t.real) t.chunks ≡ true
  pub real_in : all_below (length t.canonical) t.real ≡ true
  pub mapping_in : length t.real ≤ length t.mapping
