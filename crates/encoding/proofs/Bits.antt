-- The columns of a table side by side are the number: a column and the one below it join to one column. Assumes nothing.
use Prim.Native.Nat.{ℕ, ◌+◌, ◌*◌, ◌/◌, ◌%◌, ◌^◌, ◌<◌}
use mathlib.Core.Path.{◌≡◌, ◌∙◌, sym, ap}
use native.Mathlib.Nat.{div-div-eq-div-mul, mod-eq_of_lt, div-one}
use lib.Arith.{mod-mul}
use lib.Pow.{pow-add, pow_pos}
use Rattle.encoding.specs.Tables.{bits}

pub join : (low w v n : ℕ) → bits low (v + w) n ≡ bits (low + w) v n * 2 ^ w + bits low w n
join low w v n =
    let m = n / 2 ^ low in
    let e : m / 2 ^ w ≡ n / 2 ^ (low + w) = div-div-eq-div-mul n (2 ^ low) (2 ^ w) ∙ ap (λ (k : ℕ). n / k) (sym (pow-add 2 low w)) in
    ap (λ (k : ℕ). m % k) (pow-add 2 v w) ∙ mod-mul m (pow_pos v) (pow_pos w) ∙ ap (λ (k : ℕ). k % 2 ^ v * 2 ^ w + m % 2 ^ w) e

-- the lowest column, as the code takes it
pub lowest : (w n : ℕ) → n % 2 ^ w ≡ bits 0 w n
lowest w n = ap (λ (k : ℕ). k % 2 ^ w) (sym (div-one n))

pub whole : (w n : ℕ) → n < 2 ^ w → bits 0 w n ≡ n
whole w n l = sym (lowest w n) ∙ mod-eq_of_lt l
