-- Generated from Lt.txt (Unicode 17.0.0, read off ICU 78.2) by `oracle/make`; do not edit.
use Rattle.std.specs.Prelude.{ℕ, List, [], ◌∷◌}

-- titlecase, ASCII included: 10 ranges, first and last of each
unfoldable pub unicode : List ℕ
unicode =
    0x1C5 ∷ 0x1C5 ∷ 0x1C8 ∷ 0x1C8 ∷ 0x1CB ∷ 0x1CB ∷ 0x1F2 ∷ 0x1F2 ∷ 0x1F88 ∷ 0x1F8F ∷ 0x1F98 ∷ 0x1F9F ∷
    0x1FA8 ∷ 0x1FAF ∷ 0x1FBC ∷ 0x1FBC ∷ 0x1FCC ∷ 0x1FCC ∷ 0x1FFC ∷ 0x1FFC ∷ []
