-- What callers cite of the two encodings: their lengths, that each element fits its width, and that no two numbers share an encoding.
-- Each goes row by row. The last reads the columns back: what is read back from an encoding is the number. Assumes nothing.
use Prim.Native.Nat.{ℕ, ◌+◌, ◌-◌, ◌*◌, ◌^◌, ◌≤◌, ◌<◌}
use mathlib.Core.Path.{◌≡◌, ◌∙◌, sym, ap}
use mathlib.Core.List.{List, [], ◌∷◌}
use native.Mathlib.Nat.{add-sub_cancel_left}
use native.Mathlib.Omega.{arith}
use lib.ListN.{length}
use Rattle.encoding.specs.Tables.{bits, utf8, utf16, len_utf8, len_utf16}
use Rattle.encoding.proofs.Rows.{by_row8, by_row16, row8_of, row16_of}
use Rattle.encoding.proofs.Bits.{join, whole}

-- the length entries and the encoders agree: the tables give as many bytes or units as document 01 says
pub utf8_length : (n : ℕ) → length (utf8 n) ≡ len_utf8 n
unfolding utf8
utf8_length n = row8_of length n _ _ _ _

pub utf16_length : (n : ℕ) → length (utf16 n) ≡ len_utf16 n
unfolding utf16
utf16_length n = row16_of length n _ _

-- every element of a list is below k
pub data Below : ℕ → List ℕ → Type 0 where
  none : {k : ℕ} → Below k []
  more : {k a : ℕ} {l : List ℕ} → a < k → Below k l → Below k (a ∷ l)

pub utf8_bytes : (n : ℕ) → Below (2 ^ 8) (utf8 n)
unfolding utf8
utf8_bytes n =
    by_row8 (Below (2 ^ 8)) n _ _ _ _
    (λ l. more (omega arith) none)
    (λ g l. more (omega arith) (more (omega arith) none))
    (λ g l. more (omega arith) (more (omega arith) (more (omega arith) none)))
    (λ g. more (omega arith) (more (omega arith) (more (omega arith) (more (omega arith) none))))

pub utf16_units : (n : ℕ) → Below (2 ^ 16) (utf16 n)
unfolding utf16
utf16_units n =
    by_row16 (Below (2 ^ 16)) n _ _ (λ l. more (omega arith) none) (λ g. more (omega arith) (more (omega arith) none))

-- the columns without their marks, each at its place
pub read8 : List ℕ → ℕ
read8 [] = 0
read8 (a ∷ []) = a
read8 (a ∷ b ∷ []) = (a - 0xC0) * 2 ^ 6 + (b - 0x80)
read8 (a ∷ b ∷ c ∷ []) = (a - 0xE0) * 2 ^ 12 + ((b - 0x80) * 2 ^ 6 + (c - 0x80))
read8 (a ∷ b ∷ c ∷ d ∷ l) = (a - 0xF0) * 2 ^ 18 + ((b - 0x80) * 2 ^ 12 + ((c - 0x80) * 2 ^ 6 + (d - 0x80)))

pub read16 : List ℕ → ℕ
read16 [] = 0
read16 (a ∷ []) = a
read16 (a ∷ b ∷ l) = 0x10000 + ((a - 0xD800) * 2 ^ 10 + (b - 0xDC00))

pub utf8_back : (n : ℕ) → n ≤ 0x10FFFF → read8 (utf8 n) ≡ n
unfolding utf8 read8
utf8_back n t =
    by_row8 (λ (l : List ℕ). read8 l ≡ n) n _ _ _ _
    (λ l. whole 7 n l)
    (λ g l. simp add-sub_cancel_left (rw (← join 0 6 5 n) (whole 11 n l)))
    (λ g l. simp add-sub_cancel_left (rw (← join 0 6 6 n, ← join 0 12 4 n) (whole 16 n l)))
    (λ g. simp add-sub_cancel_left
    (rw (← join 12 4 2 n, ← join 0 6 6 n, ← join 0 12 6 n, ← join 0 18 3 n) (whole 21 n (omega arith))))

put_back : (x y z : ℕ) → 1 ≤ x → 0x10000 + (((x - 1) * 2 ^ 6 + y) * 2 ^ 10 + z) ≡ x * 2 ^ 16 + (y * 2 ^ 10 + z)
put_back x y z l = omega arith

pub utf16_back : (n : ℕ) → n ≤ 0x10FFFF → read16 (utf16 n) ≡ n
unfolding utf16 read16
utf16_back n t =
    by_row16 (λ (l : List ℕ). read16 l ≡ n) n _ _
    (λ l. whole 16 n l)
    (λ g. simp add-sub_cancel_left
    (put_back (bits 16 5 n) (bits 10 6 n) (bits 0 10 n) (omega arith) ∙ rw (← join 0 10 6 n, ← join 0 16 5 n) (whole 21 n (omega arith))))

-- no two numbers share an encoding
pub utf8_one_to_one : (m n : ℕ) → m ≤ 0x10FFFF → n ≤ 0x10FFFF → utf8 m ≡ utf8 n → m ≡ n
utf8_one_to_one m n s t e = sym (utf8_back m s) ∙ ap read8 e ∙ utf8_back n t

pub utf16_one_to_one : (m n : ℕ) → m ≤ 0x10FFFF → n ≤ 0x10FFFF → utf16 m ≡ utf16 n → m ≡ n
utf16_one_to_one m n s t e = sym (utf16_back m s) ∙ ap read16 e ∙ utf16_back n t
