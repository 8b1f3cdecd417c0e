-- One turn of each loop of the checker: what is left of a rule at a place, in terms of the next place. Assumes nothing.
use Rattle.std.specs.Prelude.{◌≡◌, ℕ, ◌+◌, ◌<◌, ◌≤◌, true, false, cond, ◌&&◌, eqb, ltb, leb, List, [], ◌∷◌, length, get_or, drop}
use mathlib.Core.Path.{◌∙◌, refl, ap, sym}
use borrow.Author.Tests.{lt-ltb, le-ltb, le-leb, lt-leb, eq-eqb, ne_eqb}
use Rattle.skip.specs.Headers.{start_index, prefix_sum, run_end}
use Rattle.skip.specs.Rules.{W3, W4, W5}
use Rattle.sets.proofs.Places.{from, gone}

module _ (hs : List ℕ) (n k : ℕ) where
  pub starts_more : k < length hs → start_index (get_or hs k 0) < run_end n (drop (k + 1) hs) → W3 n (drop k hs) ≡ W3 n (drop (k + 1) hs)
  unfolding W3
  starts_more l h = ap (W3 n) (from hs k l) ∙ simp (lt-ltb _ _ h)

  pub starts_cut : k < length hs → run_end n (drop (k + 1) hs) ≤ start_index (get_or hs k 0) → W3 n (drop k hs) ≡ false
  unfolding W3
  starts_cut l h = ap (W3 n) (from hs k l) ∙ simp (le-ltb _ _ h)

  pub starts_end : length hs ≤ k → W3 n (drop k hs) ≡ true
  unfolding W3
  starts_end l = ap (W3 n) (gone hs k l)

module _ (hs : List ℕ) (low k : ℕ) where
  pub sums_more : k < length hs → low ≤ prefix_sum (get_or hs k 0) → W4 low (drop k hs) ≡ W4 (prefix_sum (get_or hs k 0) + 1) (drop (k + 1) hs)
  unfolding W4
  sums_more l h = ap (W4 low) (from hs k l) ∙ simp (le-leb _ _ h)

  pub sums_short : k < length hs → prefix_sum (get_or hs k 0) < low → W4 low (drop k hs) ≡ false
  unfolding W4
  sums_short l h = ap (W4 low) (from hs k l) ∙ simp (lt-leb _ _ h)

  pub sums_end : length hs ≤ k → W4 low (drop k hs) ≡ ltb 0x110000 low
  unfolding W4
  sums_end l = ap (W4 low) (gone hs k l)

module _ (hs os : List ℕ) (n i at k : ℕ) where
  pub fit_end : length os ≤ i → W5 n i at (drop k hs) (drop i os) ≡ true
  unfolding W5
  fit_end h = rw (gone os i h) refl

  W5-bare : (l : List ℕ) → W5 n i at [] l ≡ true
  unfolding W5
  W5-bare [] = refl
  W5-bare (o ∷ l) = refl

  pub fit_out : length hs ≤ k → W5 n i at (drop k hs) (drop i os) ≡ true
  fit_out h = rw (gone hs k h) (W5-bare _)

  module _ (hk : k < length hs) (hi : i < length os) where
    W5-here : W5 n i at (drop k hs) (drop i os)
        ≡ cond (eqb (i + 1) (run_end n (drop (k + 1) hs)))
        (leb at (prefix_sum (get_or hs k 0)) && W5 n (i + 1) (prefix_sum (get_or hs k 0)) (drop (k + 1) hs) (drop (i + 1) os))
        (W5 n (i + 1) (at + get_or os i 0) (drop k hs) (drop (i + 1) os))
    unfolding W5
    W5-here = rw (from hs k hk, from os i hi) refl

    pub fit_last : i + 1 ≡ run_end n (drop (k + 1) hs) → at ≤ prefix_sum (get_or hs k 0)
        → W5 n i at (drop k hs) (drop i os) ≡ W5 n (i + 1) (prefix_sum (get_or hs k 0)) (drop (k + 1) hs) (drop (i + 1) os)
    fit_last e h = W5-here ∙ simp (eq-eqb _ _ e, le-leb _ _ h)

    pub fit_cut : i + 1 ≡ run_end n (drop (k + 1) hs) → prefix_sum (get_or hs k 0) < at → W5 n i at (drop k hs) (drop i os) ≡ false
    fit_cut e h = W5-here ∙ simp (eq-eqb _ _ e, lt-leb _ _ h)

    pub fit_on : (i + 1 ≡ run_end n (drop (k + 1) hs) → ⊥)
        → W5 n i at (drop k hs) (drop i os) ≡ W5 n (i + 1) (at + get_or os i 0) (drop k hs) (drop (i + 1) os)
    fit_on e = W5-here ∙ simp (ne_eqb _ _ e)

-- a sum that is too small breaks W4 of the whole table
pub sums_cut : (hs : List ℕ) (low k : ℕ) → W4 0 hs ≡ W4 low (drop k hs) → k < length hs → prefix_sum (get_or hs k 0) < low
    → false ≡ W4 0 hs
sums_cut hs low k whole l h = sym (whole ∙ sums_short hs low k l h)

-- what the proof of each loop cites
pub ruleset starts_turns = (starts_more, starts_cut, starts_end)

pub ruleset sums_turns = (sums_more, sums_short, sums_end)

pub ruleset fit_turns = (fit_last, fit_cut, fit_on, fit_end, fit_out)
