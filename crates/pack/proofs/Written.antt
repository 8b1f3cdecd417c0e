-- What the packer writes for an accepted list is a table that keeps the rules, and its boundaries are the list's and the
-- closing one: the walk over the written offsets retraces the boundaries one by one. Assumes nothing.
use Prim.Native.Nat.{ℕ, ◌+◌, ◌-◌, ◌<◌, ◌≤◌}
use mathlib.Core.Path.{◌≡◌, ◌∙◌, sym, refl, ap}
use mathlib.Core.List.{List, [], ◌∷◌, ◌++◌}
use Rattle.std.specs.Prelude.{None}
use mathlib.Core.Bool.{true, ◌&&◌}
use mathlib.Core.Logic.{⊎_elim}
use native.Mathlib.Omega.{arith}
use borrow.Author.Tests.{le-leb, lt-leb, lt-ltb, eq-eqb, ne_eqb}
use lib.ListN.{length}
use Rattle.sets.specs.Lists.{edges}
use Rattle.sets.proofs.Decide.{split}
use Rattle.sets.proofs.Good.{Good, edges_length}
use Rattle.skip.specs.Headers.{start_index, prefix_sum, run_end}
use Rattle.skip.specs.Table.{walk, boundaries}
use Rattle.skip.specs.Rules.{sized, W1, W2, W3, W4, W5, broken}
use Rattle.skip.proofs.Meaning.{walk_last, walk_on}
use Rattle.skip.proofs.Lowest5.{none}
use Rattle.pack.specs.Places.{InOrder, runs_of}
use Rattle.pack.specs.Packing.{word, offsets_of, headers_of, headers, offsets}
use Rattle.pack.proofs.Turns.{runs_small, runs_large, runs_end, headers_small, headers_large, headers_end, offsets_length, offsets_end}
use Rattle.pack.proofs.Edges.{headers_runs, edges_order}
use Rattle.pack.proofs.Runs.{start_word, sum_word, first_sum, rest_of, by_two, order_on, first_fits, end_headers, ends_past}

module _ (n : ℕ) where
  W5-last : (i at h o : ℕ) (hs os : List ℕ) → i + 1 ≡ run_end n hs → at ≤ prefix_sum h
      → W5 n (i + 1) (prefix_sum h) hs os ≡ true → W5 n i at (h ∷ hs) (o ∷ os) ≡ true
  unfolding W5
  W5-last i at h o hs os e l w = simp (eq-eqb _ _ e, le-leb _ _ l) w

  W5-on : (i at h o : ℕ) (hs os : List ℕ) → (i + 1 ≡ run_end n hs → ⊥)
      → W5 n (i + 1) (at + o) (h ∷ hs) os ≡ true → W5 n i at (h ∷ hs) (o ∷ os) ≡ true
  unfolding W5
  W5-on i at h o hs os e w = simp (ne_eqb _ _ e) w

  walk_end : (i at : ℕ) → walk n i at [] [] ≡ []
  unfolding walk
  walk_end i at = refl

  W5-end : (i at : ℕ) → W5 n i at [] [] ≡ true
  unfolding W5
  W5-end i at = refl

  offsets_small : (p b : ℕ) (bs : List ℕ) → b - p ≤ 255 → offsets_of p (b ∷ bs) ≡ (b - p) ∷ offsets_of b bs
  unfolding offsets_of
  offsets_small p b bs h = simp (le-leb _ _ h)

  offsets_large : (p b : ℕ) (bs : List ℕ) → 255 < b - p → offsets_of p (b ∷ bs) ≡ 0 ∷ offsets_of b bs
  unfolding offsets_of
  offsets_large p b bs h = simp (lt-leb _ _ h)

  -- the boundaries are the list's and the closing one, and rule W5 holds
  packs_walk : (i s p : ℕ) (bs : List ℕ) → InOrder p bs → p ≤ 0x110000 → n ≡ i + length bs + 1
      → (walk n i p (headers_of i s p bs) (offsets_of p bs) ≡ bs ++ 0x1FFFFF ∷ []) × (W5 n i p (headers_of i s p bs) (offsets_of p bs) ≡ true)
  packs_walk i s p [] r l e =
      let e' : i + 1 ≡ run_end n [] = omega arith in
      let q = sum_word s 0x1FFFFF (omega arith) in
      rw (headers_end i s p, offsets_end p) (
        walk_last n i p (word s 0x1FFFFF) 0 [] [] e' ∙ rw (q, walk_end (i + 1)) refl,
        W5-last i p (word s 0x1FFFFF) 0 [] [] e' (omega (arith, q)) (W5-end (i + 1) (prefix_sum (word s 0x1FFFFF))),
      )
  packs_walk i s p (b ∷ bs) r l e =
      let z = order_on p b bs r in
      ⊎_elim
      (λ h.
      let y = packs_walk (i + 1) s b bs z.2 z.1 (omega arith) in
      let x = rw (by_two (i + 1) s b bs) at y in
      let f : (i + 1 ≡ run_end n (rest_of (i + 1) b bs) → ⊥) = λ k. omega (arith, ends_past n (i + 1) b bs z.2 (omega arith)) in
      let q : p + (b - p) ≡ b = omega arith in
      rw (headers_small p b bs i s h, offsets_small p b bs h, by_two (i + 1) s b bs) (
        walk_on n i p (word s (first_sum b bs)) (b - p) (rest_of (i + 1) b bs) (offsets_of b bs) f ∙ rw q (ap (λ (k : List ℕ). b ∷ k) x.0),
        W5-on i p (word s (first_sum b bs)) (b - p) (rest_of (i + 1) b bs) (offsets_of b bs) f (rw q x.1),
      ))
      (λ h.
      let y = packs_walk (i + 1) (i + 1) b bs z.2 z.1 (omega arith) in
      let e' : i + 1 ≡ run_end n (headers_of (i + 1) (i + 1) b bs) = sym (end_headers n (i + 1) (i + 1) b bs z.2) in
      let k : b < 2097152 = omega arith in
      let q : prefix_sum (word s b) ≡ b = sum_word s b k in
      let m : p ≤ prefix_sum (word s b) = omega (arith, q) in
      rw (headers_large p b bs i s h, offsets_large p b bs h) (
        walk_last n i p (word s b) 0 (headers_of (i + 1) (i + 1) b bs) (offsets_of b bs) e' ∙ rw q (ap (λ (k : List ℕ). b ∷ k) y.0),
        W5-last i p (word s b) 0 (headers_of (i + 1) (i + 1) b bs) (offsets_of b bs) e' m (rw q y.1),
      ))
      (split (b - p) 255)

  W3-cons : (h : ℕ) (hs : List ℕ) → start_index h < run_end n hs → W3 n hs ≡ true → W3 n (h ∷ hs) ≡ true
  unfolding W3
  W3-cons h hs l w = simp (lt-ltb _ _ l) w

  W3-nil : W3 n [] ≡ true
  unfolding W3
  W3-nil = refl

  packs_starts : (i s p : ℕ) (bs : List ℕ) → InOrder p bs → s ≤ i → n ≡ i + length bs + 1 → W3 n (headers_of i s p bs) ≡ true
  packs_starts i s p [] r l e =
      rw (headers_end i s p) (W3-cons (word s 0x1FFFFF) [] (omega (arith, start_word s 0x1FFFFF (omega arith))) W3-nil)
  packs_starts i s p (b ∷ bs) r l e =
      let z = order_on p b bs r in
      ⊎_elim
      (λ h. rw (headers_small p b bs i s h) (packs_starts (i + 1) s b bs z.2 (omega arith) (omega arith)))
      (λ h. rw (headers_large p b bs i s h)
      (W3-cons (word s b) (headers_of (i + 1) (i + 1) b bs) (omega (arith, start_word s b (omega arith), end_headers n (i + 1) (i + 1) b bs z.2))
      (packs_starts (i + 1) (i + 1) b bs z.2 (omega arith) (omega arith))))
      (split (b - p) 255)

W4-cons : (low h : ℕ) (hs : List ℕ) → low ≤ prefix_sum h → W4 (prefix_sum h + 1) hs ≡ true → W4 low (h ∷ hs) ≡ true
unfolding W4
W4-cons low h hs l w = simp (le-leb _ _ l) w

W4-nil : (low : ℕ) → 0x110000 < low → W4 low [] ≡ true
unfolding W4
W4-nil low l = lt-ltb 0x110000 low l

packs_sums : (low i s p : ℕ) (bs : List ℕ) → InOrder p bs → p ≤ 0x110000 → low ≤ p + 1 → W4 low (headers_of i s p bs) ≡ true
packs_sums low i s p [] r l m =
    let q = sum_word s 0x1FFFFF (omega arith) in
    rw (headers_end i s p) (W4-cons low (word s 0x1FFFFF) [] (omega (arith, q)) (W4-nil _ (omega (arith, q))))
packs_sums low i s p (b ∷ bs) r l m =
    let z = order_on p b bs r in
    let q = sum_word s b (omega arith) in
    ⊎_elim
    (λ h. rw (headers_small p b bs i s h) (packs_sums low (i + 1) s b bs z.2 z.1 (omega arith)))
    (λ h. rw (headers_large p b bs i s h)
    (W4-cons low (word s b) (headers_of (i + 1) (i + 1) b bs) (omega (arith, q)) (rw q (packs_sums (b + 1) (i + 1) (i + 1) b bs z.2 z.1 (omega arith)))))
    (split (b - p) 255)

-- at least one run, and at most one for each boundary and the closing one
pub runs_few : (p : ℕ) (bs : List ℕ) → (0 < runs_of p bs) × (runs_of p bs ≤ length bs + 1)
runs_few p [] = (omega (arith, runs_end p), omega (arith, runs_end p))
runs_few p (b ∷ bs) =
    let z = runs_few b bs in
    ⊎_elim
    (λ h. let e = runs_small p b bs h in (omega arith, omega arith))
    (λ h. let e = runs_large p b bs h in (omega arith, omega arith))
    (split (b - p) 255)

size : (n : ℕ) → 0 < n → n ≤ 2048 → sized n ≡ true
size n l m = rw (lt-ltb 0 n l, le-leb n 2048 m) refl

sizes : (m n : ℕ) → 0 < m → m ≤ 2048 → 0 < n → n ≤ 2048 → (sized m && sized n) ≡ true
sizes m n a b c d = rw (size m a b) (size n c d)

module _ (l : List ℕ) (g : Good l) where
  count_offsets : length (offsets l) ≡ 0 + length (edges l) + 1
  count_offsets = omega (arith, offsets_length 0 (edges l))

  -- n ranges give 2n+1 offsets
  pub offsets_count : length (offsets l) ≡ length l + 1
  offsets_count = omega (arith, count_offsets, edges_length l g.even)

  -- the written table breaks no rule
  pub passes : broken (headers l) (offsets l) ≡ None
  passes =
      let r = runs_few 0 (edges l) in
      let k = headers_runs l in
      let o = edges_order l g in
      let f = edges_length l g.even in
      sym
      (none
      (W1 (headers l) (offsets l))
      (W2 (headers l))
      (W3 (length (offsets l)) (headers l))
      (W4 0 (headers l))
      (W5 (length (offsets l)) 0 0 (headers l) (offsets l))
      (sizes
      (length (headers l))
      (length (offsets l))
      (omega arith)
      (omega (arith, g.even, g.few))
      (omega (arith, count_offsets))
      (omega (arith, count_offsets, g.even, g.few)))
      (rw (by_two 0 0 0 (edges l)) (eq-eqb _ _ (start_word 0 (first_sum 0 (edges l)) (first_fits 0 (edges l) o))))
      (packs_starts (length (offsets l)) 0 0 0 (edges l) o (omega arith) count_offsets)
      (packs_sums 0 0 0 0 (edges l) o (omega arith) (omega arith))
      (packs_walk (length (offsets l)) 0 0 0 (edges l) o (omega arith) count_offsets).1)

  -- its boundaries are the list's and the closing one
  pub bounds : boundaries (headers l) (offsets l) ≡ edges l ++ 0x1FFFFF ∷ []
  bounds = (packs_walk (length (offsets l)) 0 0 0 (edges l) (edges_order l g) (omega arith) count_offsets).0
