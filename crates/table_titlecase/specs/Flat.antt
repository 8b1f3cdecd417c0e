-- Generated from library/core/src/unicode/unicode_data.rs of Rust 1.97.0 by `oracle/make`; do not edit.
use Rattle.std.specs.Prelude.{ℕ, List, [], ◌∷◌}

-- titlecase without ASCII, decoded from the table: 10 ranges, first and last of each
unfoldable pub flat : List ℕ
flat =
    0x1C5 ∷ 0x1C5 ∷ 0x1C8 ∷ 0x1C8 ∷ 0x1CB ∷ 0x1CB ∷ 0x1F2 ∷ 0x1F2 ∷ 0x1F88 ∷ 0x1F8F ∷ 0x1F98 ∷ 0x1F9F ∷
    0x1FA8 ∷ 0x1FAF ∷ 0x1FBC ∷ 0x1FBC ∷ 0x1FCC ∷ 0x1FCC ∷ 0x1FFC ∷ 0x1FFC ∷ []
