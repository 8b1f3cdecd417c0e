-- Generated from library/core/src/unicode/unicode_data.rs of Rust 1.97.0 by `oracle/make`; do not edit.
use Rattle.std.specs.Prelude.{ℕ, List, [], ◌∷◌}

-- header words: start index times 2^21 plus prefix sum, the last sum by the house rule
unfoldable pub headers : List ℕ
headers =
    0x000001C5 ∷ 0x00201F88 ∷ 0x013FFFFF ∷ []

-- header words with the closing sum of the Rust
unfoldable pub rust_headers : List ℕ
rust_headers =
    0x000001C5 ∷ 0x00201F88 ∷ 0x01311FFD ∷ []

-- offsets: one for each boundary, and one that closes
unfoldable pub offsets : List ℕ
offsets =
    0 ∷ 1 ∷ 2 ∷ 1 ∷ 2 ∷ 1 ∷ 38 ∷ 1 ∷ 0 ∷ 8 ∷ 8 ∷ 8 ∷ 8 ∷ 8 ∷ 12 ∷ 1 ∷ 15 ∷ 1 ∷ 47 ∷ 1 ∷ 0 ∷ []
