-- The tests of W3 to W5 say what the document says: W3 and W4 header by header along the list, W5 a run at a time, where
-- W2 and W3 let the walk over the offsets meet each run at its start. Assumes nothing.
use Prim.Native.Nat.{ℕ, zero, suc, ◌+◌, ◌-◌, ◌<◌, ◌≤◌}
use mathlib.Core.Path.{◌≡◌, ◌∙◌, sym, refl, ap}
use mathlib.Core.List.{List, [], ◌∷◌}
use mathlib.Core.Bool.{Bool, true, ◌&&◌}
use native.Mathlib.Omega.{arith}
use native.Mathlib.Numerals.{add-one}
use borrow.Author.Tests.{eq-eqb, ne_eqb, lt-ltb, le-leb, leb-true}
use lib.ListN.{length, get_or, drop, take, length-drop}
use lib.Seq.{slice, drop-drop}
use lib.Dec.{leb}
use Rattle.std.proofs.lemmas.Bool.{and_from, and_parts}
use Rattle.skip.specs.Headers.{start_index, prefix_sum, run_end}
use Rattle.skip.specs.Rules.{W3, W4, W5}
use Rattle.skip.specs.Seek.{prev, total}
use Rattle.skip_rules.specs.Stated.{sum, but_last, RuleW3, RuleW4, RuleW5}
use Rattle.skip.proofs.Sought.{starts_on, starts_end, part, shift}
use Rattle.skip.proofs.Sums.{sums_mono, last_high}

-- W3
starts_rise : (n : ℕ) (hs : List ℕ) (k : ℕ) → W3 n hs ≡ true → suc k < length hs → start_index (get_or hs k 0) < start_index (get_or hs (suc k) 0)
starts_rise n [] k w l = absurd (omega arith)
starts_rise n (h ∷ []) k w l = absurd (omega arith)
starts_rise n (h ∷ (g ∷ hs)) zero w l = (starts_on n h (g ∷ hs) w).0
starts_rise n (h ∷ (g ∷ hs)) (suc k) w l = starts_rise n (g ∷ hs) k (starts_on n h (g ∷ hs) w).1 (omega arith)

starts_last : (n h : ℕ) (hs : List ℕ) → W3 n (h ∷ hs) ≡ true → start_index (get_or (h ∷ hs) (length hs) 0) < n
starts_last n h [] w = (starts_on n h [] w).0
starts_last n h (g ∷ hs) w = starts_last n g hs (starts_on n h (g ∷ hs) w).1

pub starts_say : (hs os : List ℕ) → 0 < length hs → W3 (length os) hs ≡ true → RuleW3 hs os
starts_say [] os l w = absurd (omega arith)
starts_say (h ∷ hs) os l w =
    let e : suc (length hs) - 1 ≡ length hs = omega arith in
    record { rise = λ k m. rw (add-one k) (starts_rise (length os) (h ∷ hs) k w (omega arith)); last = rw e (starts_last (length os) h hs w) }

starts_cons : (n h : ℕ) (hs : List ℕ) → start_index h < run_end n hs → W3 n hs ≡ true → W3 n (h ∷ hs) ≡ true
unfolding W3
starts_cons n h hs l w = simp (lt-ltb _ _ l) w

starts_nil : (n : ℕ) → W3 n [] ≡ true
unfolding W3
starts_nil n = refl

pub starts_said : (hs os : List ℕ) → 0 < length hs → RuleW3 hs os → W3 (length os) hs ≡ true
starts_said [] os l s = absurd (omega arith)
starts_said (h ∷ []) os l s = starts_cons (length os) h [] s.last (starts_nil (length os))
starts_said (h ∷ (g ∷ hs)) os l s =
    let e : suc (suc (length hs)) - 1 ≡ suc (length hs) = omega arith in
    let f : suc (length hs) - 1 ≡ length hs = omega arith in
    let z : start_index (get_or (g ∷ hs) (length hs) 0) < length os = rw e at s.last in
    starts_cons (length os) h (g ∷ hs) (s.rise 0 (omega arith))
    (starts_said (g ∷ hs) os (omega arith)
    (record { rise = λ k m. rw (add-one k) (rw (add-one (suc k)) at (s.rise (suc k) (omega arith))); last = rw f z }))

-- W4
pub sums_say : (hs : List ℕ) → 0 < length hs → W4 0 hs ≡ true → RuleW4 hs
sums_say hs l w = record { rise = λ k m. sums_mono hs 0 k (k + 1) w (omega arith) m; last = last_high hs w l }

sums_cons : (low h : ℕ) (hs : List ℕ) → low ≤ prefix_sum h → W4 (prefix_sum h + 1) hs ≡ true → W4 low (h ∷ hs) ≡ true
unfolding W4
sums_cons low h hs l w = simp (le-leb _ _ l) w

sums_nil : (low : ℕ) → 0x110000 < low → W4 low [] ≡ true
unfolding W4
sums_nil low l = lt-ltb 0x110000 low l

sums_from : (h : ℕ) (hs : List ℕ) (low : ℕ) → low ≤ prefix_sum h → RuleW4 (h ∷ hs) → W4 low (h ∷ hs) ≡ true
sums_from h [] low l s = sums_cons low h [] l (sums_nil (prefix_sum h + 1) (omega (arith, s.last)))
sums_from h (g ∷ hs) low l s =
    let e : suc (suc (length hs)) - 1 ≡ suc (length hs) = omega arith in
    let f : suc (length hs) - 1 ≡ length hs = omega arith in
    let z : 0x10FFFF < prefix_sum (get_or (g ∷ hs) (length hs) 0) = rw e at s.last in
    sums_cons low h (g ∷ hs) l
    (sums_from g hs (prefix_sum h + 1) (omega (arith, s.rise 0 (omega arith)))
    (record { rise = λ k m. rw (add-one k) (rw (add-one (suc k)) at (s.rise (suc k) (omega arith))); last = rw f z }))

pub sums_said : (hs : List ℕ) → 0 < length hs → RuleW4 hs → W4 0 hs ≡ true
sums_said [] l s = absurd (omega arith)
sums_said (h ∷ hs) l s = sums_from h hs 0 (omega arith) s

-- W5, a run at a time
module _ (n h : ℕ) (hs : List ℕ) where
  by_run : (d : ℕ) (os : List ℕ) (i at : ℕ) → run_end n hs ≡ i + suc d → d < length os
      → W5 n i at (h ∷ hs) os ≡ (leb (at + total (take d os)) (prefix_sum h) && W5 n (run_end n hs) (prefix_sum h) hs (drop (suc d) os))
  unfolding W5
  by_run d [] i at e l = absurd (omega arith)
  by_run zero (o ∷ os) i at e l =
      let e' : i + 1 ≡ run_end n hs = omega arith in
      let z : at + 0 ≡ at = omega arith in
      rw (eq-eqb _ _ e', z, ← e') refl
  by_run (suc d) (o ∷ os) i at e l =
      let f : (i + 1 ≡ run_end n hs → ⊥) = λ q. omega arith in
      let z : at + (o + total (take d os)) ≡ at + o + total (take d os) = omega arith in
      rw (ne_eqb (i + 1) (run_end n hs) f, z) (by_run d os (i + 1) (at + o) (omega arith) (omega arith))

-- run by run, as a test
unfoldable Fit : ℕ → List ℕ → List ℕ → Bool
Fit p os [] = true
Fit p os (h ∷ hs) = leb (p + total (slice (start_index h) (run_end (length os) hs - 1) os)) (prefix_sum h) && Fit (prefix_sum h) os hs

fit_on : (p h : ℕ) (os hs : List ℕ) → Fit p os (h ∷ hs)
    ≡ (leb (p + total (slice (start_index h) (run_end (length os) hs - 1) os)) (prefix_sum h) && Fit (prefix_sum h) os hs)
unfolding Fit
fit_on p h os hs = refl

fit_nil : (p : ℕ) (os : List ℕ) → Fit p os [] ≡ true
unfolding Fit
fit_nil p os = refl

fit_end : (n i p : ℕ) (os l : List ℕ) → W5 n i p [] l ≡ Fit p os []
unfolding Fit W5
fit_end n i p os [] = refl
fit_end n i p os (o ∷ l) = refl

fits : (os hs : List ℕ) (p : ℕ) → W3 (length os) hs ≡ true
    → W5 (length os) (run_end (length os) hs) p hs (drop (run_end (length os) hs) os) ≡ Fit p os hs
fits os [] p w = fit_end (length os) (length os) p os (drop (length os) os)
fits os (h ∷ hs) p w =
    let s = starts_on (length os) h hs w in
    let t = starts_end (length os) hs s.1 in
    let d : ℕ = run_end (length os) hs - start_index h - 1 in
    let e : run_end (length os) hs ≡ start_index h + suc d = omega arith in
    let l : d < length (drop (start_index h) os) = simp length-drop (omega arith) in
    let q : run_end (length os) hs - 1 ≡ start_index h + d = omega arith in
    let r : drop (suc d) (drop (start_index h) os) ≡ drop (run_end (length os) hs) os =
    drop-drop (suc d) (start_index h) os ∙ ap (λ (k : ℕ). drop k os) (sym e)
    in
    by_run (length os) h hs d (drop (start_index h) os) (start_index h) p e l
    ∙ rw (part (start_index h) (run_end (length os) hs - 1) d os q, r, fits os hs (prefix_sum h) s.1) (sym (fit_on p h os hs))

fits_say : (hs os : List ℕ) (p : ℕ) → Fit p os hs ≡ true → (k : ℕ) → k < length hs → prev p hs k + total (but_last hs os k) ≤ sum hs k
fits_say [] os p w k l = absurd (omega arith)
fits_say (h ∷ hs) os p w zero l =
    leb-true (p + total (slice (start_index h) (run_end (length os) hs - 1) os)) (prefix_sum h)
    (and_parts (leb (p + total (slice (start_index h) (run_end (length os) hs - 1) os)) (prefix_sum h)) (Fit (prefix_sum h) os hs)
    (sym (fit_on p h os hs) ∙ w)).0
fits_say (h ∷ hs) os p w (suc k) l =
    let z =
    (and_parts (leb (p + total (slice (start_index h) (run_end (length os) hs - 1) os)) (prefix_sum h)) (Fit (prefix_sum h) os hs)
    (sym (fit_on p h os hs) ∙ w)).1
    in
    rw (add-one (suc k), ← (shift p h hs k)) (rw (add-one k) at (fits_say hs os (prefix_sum h) z k (omega arith)))

fits_back : (hs os : List ℕ) (p : ℕ) → ((k : ℕ) → k < length hs → prev p hs k + total (but_last hs os k) ≤ sum hs k) → Fit p os hs ≡ true
fits_back [] os p f = fit_nil p os
fits_back (h ∷ hs) os p f =
    fit_on p h os hs
    ∙ and_from (leb (p + total (slice (start_index h) (run_end (length os) hs - 1) os)) (prefix_sum h)) (Fit (prefix_sum h) os hs)
    (le-leb (p + total (slice (start_index h) (run_end (length os) hs - 1) os)) (prefix_sum h) (f 0 (omega arith)))
    (fits_back hs os (prefix_sum h)
    (λ k l. rw (add-one k) (rw (add-one (suc k), ← (shift p h hs k)) at (f (suc k) (omega arith)))))

-- under W2 and W3 the test of W5 is the document's rule
module _ (h : ℕ) (hs os : List ℕ) (z : start_index h ≡ 0) (w : W3 (length os) (h ∷ hs) ≡ true) where
  same_test : W5 (length os) 0 0 (h ∷ hs) os ≡ Fit 0 os (h ∷ hs)
  same_test = rw z at (fits os (h ∷ hs) 0 w)

  pub fit_say : W5 (length os) 0 0 (h ∷ hs) os ≡ true → RuleW5 (h ∷ hs) os
  fit_say v = record { fit = fits_say (h ∷ hs) os 0 (sym same_test ∙ v) }

  pub fit_said : RuleW5 (h ∷ hs) os → W5 (length os) 0 0 (h ∷ hs) os ≡ true
  fit_said r = same_test ∙ fits_back (h ∷ hs) os 0 r.fit
