-- One turn of the walk in a run: over one offset, or over several at once. Assumes nothing.
use Rattle.std.specs.Prelude.{◌≡◌, ℕ, zero, suc, ◌+◌, ◌<◌, ◌≤◌, List, [], ◌∷◌, length, get_or, take, drop}
use native.Mathlib.Omega.{arith}
use borrow.Author.Tests.{le-leb, lt-leb}
use Rattle.sets.proofs.Places.{from, gone}
use Rattle.skip.specs.Seek.{total, upto}

module _ (x at : ℕ) (os : List ℕ) (i : ℕ) where
  pub upto_in : i < length os → at + get_or os i 0 ≤ x → upto x at (drop i os) ≡ 1 + upto x (at + get_or os i 0) (drop (i + 1) os)
  unfolding upto
  upto_in l m = rw (from os i l) (simp (le-leb _ _ m) (omega arith))

  pub upto_out : i < length os → x < at + get_or os i 0 → upto x at (drop i os) ≡ 0
  unfolding upto
  upto_out l m = rw (from os i l) (simp (lt-leb _ _ m))

  pub upto_end : length os ≤ i → upto x at (drop i os) ≡ 0
  unfolding upto
  upto_end l = rw (gone os i l)

-- offsets that together bring the sum to no more than x are all passed
pub upto_on : (x at k : ℕ) (os : List ℕ) → k ≤ length os → at + total (take k os) ≤ x
    → upto x at os ≡ k + upto x (at + total (take k os)) (drop k os)
unfolding upto
upto_on x at zero os l m = let z : at + 0 ≡ at = omega arith in rw z (omega arith)
upto_on x at (suc k) [] l m = absurd (omega arith)
upto_on x at (suc k) (o ∷ os) l m =
    let z : at + (o + total (take k os)) ≡ at + o + total (take k os) = omega arith in
    simp (le-leb (at + o) x (omega arith), z) (omega (arith, upto_on x (at + o) k os (omega arith) (omega arith)))

-- what the proof of the walk over single offsets cites
pub ruleset upto_turns = (upto_in, upto_out, upto_end)
