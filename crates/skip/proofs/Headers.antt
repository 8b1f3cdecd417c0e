-- A header word and its parts: each 32-bit word is one start below 2,048 and one sum below 2^21, and each such pair is one
-- word. Assumes nothing.
use Rattle.std.specs.Prelude.{◌≡◌, ℕ, ◌+◌, ◌*◌, ◌<◌}
use native.Mathlib.Omega.{arith}
use Rattle.skip.specs.Headers.{start_index, prefix_sum}

pub header_parts : (h : ℕ) → h < 0x100000000
    → (h ≡ start_index h * 2097152 + prefix_sum h) × (start_index h < 2048) × (prefix_sum h < 2097152)
header_parts h l = (omega arith, omega arith, omega arith)

pub header_word : (s p : ℕ) → p < 2097152 → (start_index (s * 2097152 + p) ≡ s) × (prefix_sum (s * 2097152 + p) ≡ p)
header_word s p l = (omega arith, omega arith)
