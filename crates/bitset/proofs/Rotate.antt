-- A word below 2^64 rotated left by k < 64 is its two shifts put together: the left one leaves the low k bits empty, and
-- the right one fills no others. Assumes nothing.
use Rattle.std.specs.Prelude.{◌≡◌, ℕ, zero, suc, ◌+◌, ◌-◌, ◌*◌, ◌/◌, ◌%◌, ◌^◌, ◌<◌}
use mathlib.Core.Path.{◌∙◌, sym, refl, subst}
use native.Mathlib.Omega.{arith}
use Rattle.std.specs.Int.{w64, rotate_left}
use Rattle.std.specs.Int.Bits.{or_self}
use native.Mathlib.Nat.{div-one, mul-one, add-zero, add_comm, div-eq_of_lt, mod-eq_of_lt, mul-mod_left}
use lib.Bits.{bit_or, or_shifted}
use lib.Pow.{mod-pow-add, shl-shr, shr_lt}
use Rattle.bitset.specs.Bitsets.{rotated}

-- by no place
by_none : (w : ℕ) → w < 2 ^ 64 → bit_or (w * 2 ^ 0 % 2 ^ 64) (w / 2 ^ 0) ≡ rotated w 0
by_none w h = rw (mul-one, mod-eq_of_lt h, div-eq_of_lt h, add-zero, div-one, or_self) refl

-- a left shift keeps the low j bits, k places up
kept : (w j k : ℕ) → w * 2 ^ k % 2 ^ (j + k) ≡ w % 2 ^ j * 2 ^ k
kept w j k = mod-pow-add (w * 2 ^ k) j k ∙ rw (shl-shr w k, mul-mod_left w (2 ^ k), add-zero) refl

apart : (w j k : ℕ) → w < 2 ^ (j + k) → bit_or (w * 2 ^ k % 2 ^ (j + k)) (w / 2 ^ j) ≡ w * 2 ^ k % 2 ^ (j + k) + w / 2 ^ j
apart w j k h = rw (kept w j k) (or_shifted (w % 2 ^ j) k (w / 2 ^ j) (shr_lt k j (rw add_comm at h)))

by_some : (w k : ℕ) → w < 2 ^ 64 → k < 64 → bit_or (w * 2 ^ k % 2 ^ 64) (w / 2 ^ (64 - k)) ≡ rotated w k
by_some w k h l =
    let e : 64 - k + k ≡ 64 = omega arith in
    let g : w < 2 ^ (64 - k + k) = subst (λ (n : ℕ). w < 2 ^ n) (sym e) h in
    subst (λ (n : ℕ). bit_or (w * 2 ^ k % 2 ^ n) (w / 2 ^ (64 - k)) ≡ w * 2 ^ k % 2 ^ n + w / 2 ^ (64 - k)) e (apart w (64 - k) k g)

-- as std's `rotate_left` has it
pub as_std : (w k : ℕ) → w < 2 ^ 64 → k < 64 → rotate_left w64 w k ≡ rotated w k
as_std w zero h l = by_none w h
as_std w (suc k) h l =
    let a : suc k % 64 ≡ suc k = omega arith in
    let b : (64 - suc k) % 64 ≡ 64 - suc k = omega arith in
    rw (a, b) (by_some w (suc k) h l)
