-- Generated from White_Space.txt (Unicode 17.0.0, read off ICU 78.2) by `oracle/make`; do not edit.
use Rattle.std.specs.Prelude.{ℕ, List, [], ◌∷◌}

-- whitespace: 10 ranges, first and last of each
unfoldable pub unicode : List ℕ
unicode =
    0x9 ∷ 0xD ∷ 0x20 ∷ 0x20 ∷ 0x85 ∷ 0x85 ∷ 0xA0 ∷ 0xA0 ∷ 0x1680 ∷ 0x1680 ∷ 0x2000 ∷ 0x200A ∷
    0x2028 ∷ 0x2029 ∷ 0x202F ∷ 0x202F ∷ 0x205F ∷ 0x205F ∷ 0x3000 ∷ 0x3000 ∷ []
