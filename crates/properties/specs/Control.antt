-- Generated from Cc.txt (Unicode 17.0.0, read off ICU 78.2) by `oracle/make`; do not edit.
use Rattle.std.specs.Prelude.{ℕ, List, [], ◌∷◌}

-- control: 2 ranges, first and last of each
unfoldable pub unicode : List ℕ
unicode =
    0x0 ∷ 0x1F ∷ 0x7F ∷ 0x9F ∷ []
