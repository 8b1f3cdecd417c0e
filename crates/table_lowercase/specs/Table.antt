-- Generated from library/core/src/unicode/unicode_data.rs of Rust 1.97.0 by `oracle/make`; do not edit.
use Rattle.std.specs.Prelude.{ℕ, List, [], ◌∷◌}

-- the chunk of each 1,024 numbers
unfoldable pub chunk_map : List ℕ
chunk_map =
    12 ∷ 17 ∷ 0 ∷ 0 ∷ 9 ∷ 0 ∷ 0 ∷ 13 ∷ 14 ∷ 10 ∷ 0 ∷ 16 ∷ 0 ∷ 0 ∷ 0 ∷ 0 ∷ 0 ∷ 0 ∷ 0 ∷ 0 ∷ 0 ∷ 0 ∷ 0 ∷ 0 ∷
    0 ∷ 0 ∷ 0 ∷ 0 ∷ 0 ∷ 0 ∷ 0 ∷ 0 ∷ 0 ∷ 0 ∷ 0 ∷ 0 ∷ 0 ∷ 0 ∷ 0 ∷ 0 ∷ 0 ∷ 6 ∷ 2 ∷ 0 ∷ 0 ∷ 0 ∷ 0 ∷ 0 ∷ 0 ∷
    0 ∷ 0 ∷ 0 ∷ 0 ∷ 0 ∷ 0 ∷ 0 ∷ 0 ∷ 0 ∷ 0 ∷ 0 ∷ 0 ∷ 0 ∷ 4 ∷ 1 ∷ 0 ∷ 15 ∷ 0 ∷ 8 ∷ 0 ∷ 0 ∷ 11 ∷ 0 ∷ 0 ∷ 0 ∷
    0 ∷ 0 ∷ 0 ∷ 0 ∷ 0 ∷ 0 ∷ 0 ∷ 0 ∷ 0 ∷ 0 ∷ 0 ∷ 0 ∷ 0 ∷ 0 ∷ 0 ∷ 0 ∷ 0 ∷ 5 ∷ 0 ∷ 0 ∷ 0 ∷ 0 ∷ 0 ∷ 0 ∷ 0 ∷
    0 ∷ 0 ∷ 0 ∷ 0 ∷ 0 ∷ 0 ∷ 0 ∷ 0 ∷ 0 ∷ 0 ∷ 0 ∷ 0 ∷ 0 ∷ 0 ∷ 0 ∷ 0 ∷ 0 ∷ 0 ∷ 19 ∷ 0 ∷ 3 ∷ 18 ∷ 0 ∷ 7 ∷ []

-- the chunks, 16 index bytes to each
unfoldable pub chunks : List ℕ
chunks =
    0 ∷ 0 ∷ 0 ∷ 0 ∷ 0 ∷ 0 ∷ 0 ∷ 0 ∷ 0 ∷ 0 ∷ 0 ∷ 0 ∷ 0 ∷ 0 ∷ 0 ∷ 0 ∷
    0 ∷ 0 ∷ 0 ∷ 0 ∷ 0 ∷ 0 ∷ 0 ∷ 0 ∷ 0 ∷ 0 ∷ 0 ∷ 0 ∷ 0 ∷ 63 ∷ 0 ∷ 0 ∷
    0 ∷ 0 ∷ 0 ∷ 0 ∷ 0 ∷ 0 ∷ 0 ∷ 0 ∷ 0 ∷ 0 ∷ 0 ∷ 0 ∷ 16 ∷ 14 ∷ 57 ∷ 0 ∷
    0 ∷ 0 ∷ 0 ∷ 0 ∷ 0 ∷ 0 ∷ 0 ∷ 0 ∷ 0 ∷ 0 ∷ 0 ∷ 0 ∷ 41 ∷ 0 ∷ 0 ∷ 0 ∷
    0 ∷ 0 ∷ 0 ∷ 0 ∷ 0 ∷ 0 ∷ 0 ∷ 0 ∷ 0 ∷ 0 ∷ 0 ∷ 0 ∷ 45 ∷ 0 ∷ 0 ∷ 0 ∷
    0 ∷ 0 ∷ 0 ∷ 0 ∷ 0 ∷ 0 ∷ 0 ∷ 0 ∷ 0 ∷ 8 ∷ 19 ∷ 62 ∷ 0 ∷ 0 ∷ 0 ∷ 0 ∷
    0 ∷ 0 ∷ 0 ∷ 0 ∷ 0 ∷ 0 ∷ 0 ∷ 0 ∷ 0 ∷ 69 ∷ 44 ∷ 0 ∷ 53 ∷ 49 ∷ 51 ∷ 34 ∷
    0 ∷ 0 ∷ 0 ∷ 0 ∷ 9 ∷ 58 ∷ 0 ∷ 0 ∷ 0 ∷ 0 ∷ 0 ∷ 0 ∷ 0 ∷ 0 ∷ 0 ∷ 0 ∷
    0 ∷ 0 ∷ 0 ∷ 3 ∷ 0 ∷ 16 ∷ 59 ∷ 0 ∷ 0 ∷ 0 ∷ 0 ∷ 0 ∷ 0 ∷ 0 ∷ 0 ∷ 0 ∷
    0 ∷ 0 ∷ 0 ∷ 20 ∷ 0 ∷ 0 ∷ 0 ∷ 0 ∷ 0 ∷ 0 ∷ 0 ∷ 0 ∷ 0 ∷ 0 ∷ 0 ∷ 28 ∷
    0 ∷ 0 ∷ 0 ∷ 64 ∷ 0 ∷ 0 ∷ 0 ∷ 0 ∷ 0 ∷ 0 ∷ 0 ∷ 0 ∷ 0 ∷ 0 ∷ 0 ∷ 0 ∷
    0 ∷ 0 ∷ 0 ∷ 73 ∷ 0 ∷ 0 ∷ 0 ∷ 0 ∷ 0 ∷ 0 ∷ 0 ∷ 0 ∷ 0 ∷ 0 ∷ 0 ∷ 0 ∷
    0 ∷ 0 ∷ 35 ∷ 17 ∷ 24 ∷ 54 ∷ 55 ∷ 50 ∷ 48 ∷ 7 ∷ 36 ∷ 43 ∷ 0 ∷ 29 ∷ 12 ∷ 32 ∷
    0 ∷ 0 ∷ 47 ∷ 0 ∷ 57 ∷ 57 ∷ 57 ∷ 0 ∷ 23 ∷ 23 ∷ 71 ∷ 23 ∷ 37 ∷ 26 ∷ 25 ∷ 38 ∷
    0 ∷ 5 ∷ 72 ∷ 0 ∷ 30 ∷ 15 ∷ 77 ∷ 0 ∷ 0 ∷ 0 ∷ 0 ∷ 0 ∷ 0 ∷ 0 ∷ 0 ∷ 0 ∷
    10 ∷ 61 ∷ 0 ∷ 6 ∷ 0 ∷ 0 ∷ 31 ∷ 0 ∷ 0 ∷ 0 ∷ 0 ∷ 0 ∷ 0 ∷ 0 ∷ 33 ∷ 0 ∷
    16 ∷ 27 ∷ 23 ∷ 39 ∷ 40 ∷ 0 ∷ 0 ∷ 0 ∷ 0 ∷ 0 ∷ 0 ∷ 0 ∷ 0 ∷ 0 ∷ 0 ∷ 0 ∷
    16 ∷ 52 ∷ 2 ∷ 22 ∷ 70 ∷ 8 ∷ 60 ∷ 0 ∷ 0 ∷ 0 ∷ 0 ∷ 0 ∷ 0 ∷ 0 ∷ 0 ∷ 0 ∷
    16 ∷ 74 ∷ 0 ∷ 0 ∷ 0 ∷ 0 ∷ 0 ∷ 0 ∷ 0 ∷ 0 ∷ 0 ∷ 0 ∷ 0 ∷ 0 ∷ 0 ∷ 0 ∷
    67 ∷ 42 ∷ 56 ∷ 11 ∷ 68 ∷ 65 ∷ 18 ∷ 13 ∷ 1 ∷ 66 ∷ 78 ∷ 21 ∷ 75 ∷ 76 ∷ 4 ∷ 46 ∷ []

-- the canonical words
unfoldable pub canonical : List ℕ
canonical =
    0x0000000000000000 ∷ 0x0FFFFFFC000000FF ∷ 0xAAAAAAAAAAAAA802 ∷ 0x0007FFFFFFFFFFFF ∷
    0xFFFFFC000000FDFF ∷ 0x8002000000000000 ∷ 0x0FFFFFFFFF000000 ∷ 0xFFFFFFFFFFFFAA85 ∷
    0xFFFFFFFF00000000 ∷ 0xFFFFFFFC00000000 ∷ 0xFFFFFF0000000000 ∷ 0xFFFFFC000000FFEF ∷
    0xFFFFF00000010000 ∷ 0xFFFFC000000FFFFF ∷ 0xFFFF03FFF7FFFFFF ∷ 0xFFFF0000000043C0 ∷
    0xFFFF000000000000 ∷ 0xFF7FFFFF80000000 ∷ 0xFC000000FFFFFFC0 ∷ 0xF800000000000000 ∷
    0xF7FFFFFFFFFF0000 ∷ 0xF0000003F7FFFFFC ∷ 0xAAAAAAAAAAAAD554 ∷ 0xAAAAAAAAAAAAAAAA ∷
    0x55AAAAAAAAAAAAAA ∷ 0x40DF00FF00FF00FF ∷ 0x3FFF00FF00FF003F ∷ 0x3FDA1562FFFFFFFF ∷
    0x3F00000000000000 ∷ 0x3C8A000000000020 ∷ 0x321080000008C400 ∷ 0x1BFBFFFBFF800000 ∷
    0x192FAAAAAAE37FFF ∷ 0x07FDFFFFFFFFFFB9 ∷ 0x075E00000AAAA50A ∷ 0x0420040000000000 ∷
    0x01FFFFFFFFCFFFFF ∷ 0x00FF00FF003F00FF ∷ 0x00DC00FF00CF00DC ∷ 0x0008501AAAAAAAAA ∷
    0x000020BFFFFFFFFF ∷ 0x000007E07FFFFBFF ∷ 0x000000FFFFDFC000 ∷ 0x0000001F00000003 ∷
    0x000000003AAAAAAA ∷ 0x0000000000F8007F ∷ 0x0000000000000BF7 ∷ 0x00000000000005FF ∷
    0x93FAAAAAAAAAAAAA ∷ 0x95FFAAAAAAAAAAAA ∷ 0xAA29AAAAB5555240 ∷ 0xAAA082AAAABA50AA ∷
    0xAAAAAAAAFFFFFFFF ∷ 0xAAABAAA800000000 ∷ 0xD4AAAAAAAAAAAB55 ∷ 0xE6512D2A4E243129 ∷
    0xEBC000000FFFFFFC ∷ []

-- the pairs: which canonical word
unfoldable pub mapped_word : List ℕ
mapped_word =
    0 ∷ 1 ∷ 1 ∷ 1 ∷ 1 ∷ 1 ∷ 1 ∷ 1 ∷ 1 ∷ 1 ∷ 1 ∷ 1 ∷ 2 ∷ 2 ∷ 2 ∷ 3 ∷ 3 ∷ 3 ∷ 4 ∷ 4 ∷ 5 ∷ 6 ∷ []

-- the pairs: bit 7 shift, bit 6 invert, six bits by how much
unfoldable pub mapping : List ℕ
mapping =
    64 ∷ 184 ∷ 182 ∷ 179 ∷ 172 ∷ 168 ∷ 161 ∷ 146 ∷ 144 ∷ 140 ∷ 136 ∷ 132 ∷ 146 ∷ 144 ∷ 83 ∷ 93 ∷ 147 ∷
    133 ∷ 12 ∷ 6 ∷ 187 ∷ 78 ∷ []
