-- Tables 3-6 and 3-5 of the Unicode Standard, as the bit distributions that stand there, and the lengths of document 01.
-- Assumes nothing: these are definitions.
use Rattle.std.specs.Prelude.{ℕ, ◌+◌, ◌-◌, ◌*◌, ◌/◌, ◌%◌, ◌^◌, cond, List, [], ◌∷◌, ltb}

-- a column of a table: `width` bits of n, the lowest of them bit number `low`
abbrev pub bits : ℕ → ℕ → ℕ → ℕ
bits low width n = n / 2 ^ low % 2 ^ width

-- "1 byte below 0x80, 2 below 0x800, 3 below 0x10000, else 4": the row of Table 3-6 for n
unfoldable pub row8 : {A : Type 0} → ℕ → A → A → A → A → A
row8 n one two three four = cond (ltb n 0x80) one (cond (ltb n 0x800) two (cond (ltb n 0x10000) three four))

abbrev pub len_utf8 : ℕ → ℕ
len_utf8 n = row8 n 1 2 3 4

-- 00000000 0xxxxxxx is 0xxxxxxx
abbrev pub one_byte : ℕ → List ℕ
one_byte n = bits 0 7 n ∷ []

-- 00000yyy yyxxxxxx is 110yyyyy 10xxxxxx
abbrev pub two_bytes : ℕ → List ℕ
two_bytes n = (0b110_00000 + bits 6 5 n) ∷ (0b10_000000 + bits 0 6 n) ∷ []

-- zzzzyyyy yyxxxxxx is 1110zzzz 10yyyyyy 10xxxxxx
abbrev pub three_bytes : ℕ → List ℕ
three_bytes n = (0b1110_0000 + bits 12 4 n) ∷ (0b10_000000 + bits 6 6 n) ∷ (0b10_000000 + bits 0 6 n) ∷ []

-- 000uuuuu zzzzyyyy yyxxxxxx is 11110uuu 10uuzzzz 10yyyyyy 10xxxxxx
abbrev pub four_bytes : ℕ → List ℕ
four_bytes n =
    (0b11110_000 + bits 18 3 n) ∷ (0b10_000000 + (bits 16 2 n * 2 ^ 4 + bits 12 4 n))
    ∷ (0b10_000000 + bits 6 6 n) ∷ (0b10_000000 + bits 0 6 n) ∷ []

-- Table 3-6: the bytes of n in UTF-8
unfoldable pub utf8 : ℕ → List ℕ
utf8 n = row8 n (one_byte n) (two_bytes n) (three_bytes n) (four_bytes n)

-- "one 16-bit unit below 0x10000, else two": the row of Table 3-5 for n
unfoldable pub row16 : {A : Type 0} → ℕ → A → A → A
row16 n one two = cond (ltb n 0x10000) one two

abbrev pub len_utf16 : ℕ → ℕ
len_utf16 n = row16 n 1 2

-- xxxxxxxxxxxxxxxx is xxxxxxxxxxxxxxxx
abbrev pub one_unit : ℕ → List ℕ
one_unit n = bits 0 16 n ∷ []

-- 000uuuuuxxxxxxxxxxxxxxxx is 110110wwwwxxxxxx 110111xxxxxxxxxx, where wwww = uuuuu - 1
abbrev pub two_units : ℕ → List ℕ
two_units n = (0b110110_0000000000 + ((bits 16 5 n - 1) * 2 ^ 6 + bits 10 6 n)) ∷ (0b110111_0000000000 + bits 0 10 n) ∷ []

-- Table 3-5: the 16-bit units of n in UTF-16
unfoldable pub utf16 : ℕ → List ℕ
utf16 n = row16 n (one_unit n) (two_units n)
