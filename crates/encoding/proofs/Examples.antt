-- The four numbers of the Unicode Standard's Table 3-4, whose encodings are given there in full. Assumes nothing.
use Prim.Native.Nat.{ℕ}
use mathlib.Core.Path.{◌≡◌, refl}
use mathlib.Core.List.{List, [], ◌∷◌, map}
use Rattle.encoding.specs.Tables.{row8, row16, utf8, utf16}

numbers : List ℕ
numbers = 0x4D ∷ 0x430 ∷ 0x4E8C ∷ 0x10302 ∷ []

in_utf8 : map utf8 numbers ≡ (0x4D ∷ []) ∷ (0xD0 ∷ 0xB0 ∷ []) ∷ (0xE4 ∷ 0xBA ∷ 0x8C ∷ []) ∷ (0xF0 ∷ 0x90 ∷ 0x8C ∷ 0x82 ∷ []) ∷ []
unfolding numbers utf8 row8
in_utf8 = refl

in_utf16 : map utf16 numbers ≡ (0x4D ∷ []) ∷ (0x430 ∷ []) ∷ (0x4E8C ∷ []) ∷ (0xD800 ∷ 0xDF02 ∷ []) ∷ []
unfolding numbers utf16 row16
in_utf16 = refl
