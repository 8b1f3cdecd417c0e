-- Prefix sums that keep rule W4, and the run that a search seeks. Assumes nothing.
use Rattle.std.specs.Prelude.{◌≡◌, ℕ, zero, suc, ◌+◌, ◌-◌, ◌<◌, ◌≤◌, true, false, leb, List, [], ◌∷◌, length, get_or}
use native.Mathlib.Omega.{arith}
use mathlib.Core.Logic.{⊎_elim}
use native.Mathlib.Nat.{eq-or-lt_of_le}
use borrow.Author.Tests.{ltb-true, leb-true, leb-false}
use Rattle.std.specs.List.Sorted.{IsNonDecreasingBy, IsPartitionPoint}
use Rattle.std.proofs.lemmas.List.Sorted.{IsNonDecreasingBy-from_default}
use Rattle.skip.specs.Headers.{prefix_sum}
use Rattle.skip.specs.Rules.{W4}
use Rattle.skip.specs.Seek.{Run}
use Rattle.sets.proofs.Decide.{split}
use Rattle.std.proofs.lemmas.Bool.{and_parts}

sums_end : (low : ℕ) → W4 low [] ≡ true → 0x110000 < low
unfolding W4
sums_end low w = ltb-true 0x110000 low w

sums_on : (low h : ℕ) (hs : List ℕ) → W4 low (h ∷ hs) ≡ true → W4 (prefix_sum h + 1) hs ≡ true
unfolding W4
sums_on low h hs w = (and_parts (leb low (prefix_sum h)) _ w).1

sums_here : (low h : ℕ) (hs : List ℕ) → W4 low (h ∷ hs) ≡ true → low ≤ prefix_sum h
unfolding W4
sums_here low h hs w = leb-true low (prefix_sum h) (and_parts (leb low (prefix_sum h)) _ w).0

-- every sum is at least the bound
sums_low : (hs : List ℕ) (low j : ℕ) → W4 low hs ≡ true → j < length hs → low ≤ prefix_sum (get_or hs j 0)
sums_low [] low j w l = absurd (omega arith)
sums_low (h ∷ hs) low zero w l = sums_here low h hs w
sums_low (h ∷ hs) low (suc j) w l = omega (arith, sums_here low h hs w, sums_low hs (prefix_sum h + 1) j (sums_on low h hs w) (omega arith))

-- sums rise
pub sums_mono : (hs : List ℕ) (low i j : ℕ) → W4 low hs ≡ true → i < j → j < length hs → prefix_sum (get_or hs i 0) < prefix_sum (get_or hs j 0)
sums_mono [] low i j w l m = absurd (omega arith)
sums_mono (h ∷ hs) low i zero w l m = absurd (omega arith)
sums_mono (h ∷ hs) low zero (suc j) w l m = omega (arith, sums_low hs (prefix_sum h + 1) j (sums_on low h hs w) (omega arith))
sums_mono (h ∷ hs) low (suc i) (suc j) w l m = sums_mono hs (prefix_sum h + 1) i j (sums_on low h hs w) (omega arith) (omega arith)

-- the last is above 0x10FFFF
last_at : (h : ℕ) (hs : List ℕ) (low : ℕ) → W4 low (h ∷ hs) ≡ true → 0x10FFFF < prefix_sum (get_or (h ∷ hs) (length hs) 0)
last_at h [] low w = omega (arith, sums_end (prefix_sum h + 1) (sums_on low h [] w))
last_at h (g ∷ hs) low w = last_at g hs (prefix_sum h + 1) (sums_on low h (g ∷ hs) w)

pub last_high : (hs : List ℕ) → W4 0 hs ≡ true → 0 < length hs → 0x10FFFF < prefix_sum (get_or hs (length hs - 1) 0)
last_high [] w l = absurd (omega arith)
last_high (h ∷ hs) w l = let e : suc (length hs) - 1 ≡ length hs = omega arith in rw e (last_at h hs 0 w)

pub sums_rise : (hs : List ℕ) → W4 0 hs ≡ true → IsNonDecreasingBy prefix_sum hs
sums_rise hs w =
    IsNonDecreasingBy-from_default prefix_sum hs 0
    (λ i j l m. ⊎_elim (λ e. rw e (omega arith)) (λ k. omega (arith, sums_mono hs 0 i j w k m)) (eq-or-lt_of_le {n = i} {m = j} l))

-- the first run whose sum is above x stands where the sums to x end
pub run_at : (hs : List ℕ) (x k : ℕ) → W4 0 hs ≡ true → x ≤ 0x10FFFF → 0 < length hs
    → IsPartitionPoint (λ h. leb (prefix_sum h) x ≡ true) (λ h. leb (prefix_sum h) x ≡ false) hs k → Run hs x k
run_at hs x k w few some p =
    let is : k < length hs =
    ⊎_elim (λ l. absurd (omega (arith, leb-true _ _ (p.0 (length hs - 1) 0 (omega arith) (omega arith)), last_high hs w some))) (λ l. l)
    (split (length hs) k) in
    record {
      is = is;
      passed = λ j l. leb-true _ _ (p.0 j 0 (omega arith) l);
      holds = leb-false _ _ (p.1 k 0 (omega arith) is);
    }
