-- A byte of a table is the byte of the word that holds it. By induction on the bytes below it in the word: the lowest is the
-- rest modulo 256, and a division by 256 takes it off. Assumes nothing.
use Rattle.std.specs.Prelude.{◌≡◌, ℕ, zero, suc, ◌+◌, ◌*◌, ◌/◌, ◌%◌, ◌^◌, ◌<◌, true, List, [], ◌∷◌, get_or, drop}
use mathlib.Core.Path.{sym, ap, ◌∙◌}
use native.Mathlib.Nat.{zero-div, div-one}
use native.Mathlib.Omega.{arith}
use lib.Seq.{get_or-drop}
use lib.Pow.{shr-shr}
use Rattle.bitset.specs.Bitsets.{all_below}
use Rattle.bitset.specs.Packed.{joined, eight, byte}
use Rattle.bitset.proofs.Tables.{below_head, below_tail}

-- byte j + 1 of a word is byte j of what is left without the lowest
next : (x m j : ℕ) → x < 256 → byte (suc j) (x + 256 * m) ≡ byte j m
next x m j h =
    let e : 8 * suc j ≡ 8 + 8 * j = omega arith in
    let d : (x + 256 * m) / 256 ≡ m = omega arith in
    ap (λ (k : ℕ). (x + 256 * m) / 2 ^ k % 256) e
    ∙ ap (λ (w : ℕ). w % 256) (sym (shr-shr (x + 256 * m) 8 (8 * j)))
    ∙ ap (byte j) d

joined_at : (k j : ℕ) (l : List ℕ) → all_below 256 l ≡ true → j < k → byte j (joined k l) ≡ get_or l j 0
unfolding joined
joined_at zero j l h b = absurd (omega arith)
joined_at (suc k) j [] h b = ap (λ (w : ℕ). w % 256) (zero-div (2 ^ (8 * j)))
joined_at (suc k) zero (x ∷ l) h b =
    let s : x < 256 = below_head 256 x l h in
    omega (arith, div-one (x + 256 * joined k l))
joined_at (suc k) (suc j) (x ∷ l) h b =
    next x (joined k l) j (below_head 256 x l h) ∙ joined_at k j l (below_tail 256 x l h) (omega arith)

dropped : (n : ℕ) (l : List ℕ) → all_below 256 l ≡ true → all_below 256 (drop n l) ≡ true
dropped zero l h = h
dropped (suc n) [] h = h
dropped (suc n) (x ∷ l) h = dropped n l (below_tail 256 x l h)

byte_at : (l : List ℕ) (i : ℕ) → all_below 256 l ≡ true → byte (i % 8) (eight l (i / 8)) ≡ get_or l i 0
unfolding eight
byte_at l i h =
    let e : 8 * (i / 8) + i % 8 ≡ i = omega arith in
    joined_at 8 (i % 8) (drop (8 * (i / 8)) l) (dropped (8 * (i / 8)) l h) (omega arith)
    ∙ get_or-drop (8 * (i / 8)) l (i % 8) 0
    ∙ ap (λ (k : ℕ). get_or l k 0) e

-- a byte read out of the word that holds it is the table's
pub byte_read : (l : List ℕ) (i : ℕ) → all_below 256 l ≡ true → {word x : ℕ} → word ≡ eight l (i / 8)
    → x ≡ byte (i % 8) word → x ≡ get_or l i 0
byte_read l i h w e = e ∙ ap (byte (i % 8)) w ∙ byte_at l i h
