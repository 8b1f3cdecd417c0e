-- What the search computes is what a table means. Assumes nothing.
use Rattle.std.specs.Prelude.{◌≡◌, ℕ, zero, suc, ◌+◌, ◌-◌, ◌<◌, ◌≤◌, min, true, ltb, None, List, [], ◌∷◌, length, get_or, take, drop}
use mathlib.Core.Path.{◌∙◌, sym, refl, ap}
use native.Mathlib.Omega.{arith}
use native.Mathlib.Nat.{min-eq_left, min-eq_right}
use native.Mathlib.Numerals.{add-one}
use borrow.Author.Tests.{ltb-true, lt-ltb, le-ltb, eqb-true}
use lib.ListN.{length-drop}
use lib.Seq.{slice, drop-drop, take-nil}
use Rattle.skip.specs.Headers.{start_index, prefix_sum, run_end}
use Rattle.skip.specs.Table.{walk, reads_from, boundaries, reads}
use Rattle.sets.specs.Boundaries.{count, odd, member}
use Rattle.skip.specs.Rules.{sized, W1, W2, W3, W4, W5, broken}
use Rattle.skip.specs.Seek.{Run, prev, upto}
use Rattle.std.proofs.lemmas.Bool.{and_parts}
use Rattle.skip.proofs.Lowest5.{all, size_low}
use Rattle.skip.proofs.Meaning.{pass, inside}

pub starts_on : (n h : ℕ) (hs : List ℕ) → W3 n (h ∷ hs) ≡ true → (start_index h < run_end n hs) × (W3 n hs ≡ true)
unfolding W3
starts_on n h hs w =
    let test = ltb (start_index h) (run_end n hs) in
    (ltb-true (start_index h) (run_end n hs) (and_parts test _ w).0, (and_parts test _ w).1)

pub starts_end : (n : ℕ) (hs : List ℕ) → W3 n hs ≡ true → run_end n hs ≤ n
starts_end n [] w = omega arith
starts_end n (h ∷ hs) w = let z = starts_on n h hs w in omega (arith, starts_end n hs z.1)

pub part : (s t d : ℕ) (l : List ℕ) → t ≡ s + d → take d (drop s l) ≡ slice s t l
part zero t d l e = let q : d ≡ t = omega arith in rw q refl
part (suc s) t d [] e = rw (take-nil t, take-nil d) refl
part (suc s) zero d (a ∷ l) e = absurd (omega arith)
part (suc s) (suc t) d (a ∷ l) e = part s t d l (omega arith)

-- the sum before a run, counted with the header before or without it
pub shift : (p h : ℕ) (hs : List ℕ) (k : ℕ) → prev (prefix_sum h) hs k ≡ prev p (h ∷ hs) (suc k)
shift p h hs zero = refl
shift p h hs (suc k) = refl

module _ (x : ℕ) (os : List ℕ) where
  reads_here : (p h : ℕ) (hs : List ℕ) → x < prefix_sum h → reads_from x os p (h ∷ hs)
      ≡ min (run_end (length os) hs - start_index h - 1)
      (count x (take (run_end (length os) hs - start_index h - 1) (walk (length os) (start_index h) p (h ∷ hs) (drop (start_index h) os))) + 1)
  unfolding reads_from
  reads_here p h hs l = simp (lt-ltb _ _ l)

  reads_on : (p h : ℕ) (hs : List ℕ) → prefix_sum h ≤ x → reads_from x os p (h ∷ hs) ≡ reads_from x os (prefix_sum h) hs
  unfolding reads_from
  reads_on p h hs l = simp (le-ltb _ _ l)

  module _ (p h : ℕ) (hs : List ℕ) (w3 : W3 (length os) (h ∷ hs) ≡ true)
      (w5 : W5 (length os) (start_index h) p (h ∷ hs) (drop (start_index h) os) ≡ true) where
    -- over a whole run
    jump : prefix_sum h ≤ x
        → (start_index h + count x (walk (length os) (start_index h) p (h ∷ hs) (drop (start_index h) os))
        ≡ run_end (length os) hs + count x (walk (length os) (run_end (length os) hs) (prefix_sum h) hs (drop (run_end (length os) hs) os)))
        × (W5 (length os) (run_end (length os) hs) (prefix_sum h) hs (drop (run_end (length os) hs) os) ≡ true)
    jump m =
        let s = starts_on (length os) h hs w3 in
        let t = starts_end (length os) hs s.1 in
        let d : ℕ = run_end (length os) hs - start_index h - 1 in
        let e : run_end (length os) hs ≡ start_index h + suc d = omega arith in
        let l : d < length (drop (start_index h) os) = simp length-drop (omega arith) in
        let z = pass x (length os) h hs d (drop (start_index h) os) (start_index h) p e l w5 m in
        let q : drop (suc d) (drop (start_index h) os) ≡ drop (run_end (length os) hs) os =
        drop-drop (suc d) (start_index h) os ∙ ap (λ (k : ℕ). drop k os) (sym e)
        in
        (ap (λ (k : ℕ). start_index h + k) z.0 ∙ rw q (omega arith), rw q at z.1)

    -- within a run
    land : x < prefix_sum h
        → (count x (walk (length os) (start_index h) p (h ∷ hs) (drop (start_index h) os)) ≡ upto x p (slice (start_index h) (run_end (length os) hs - 1) os))
        × (reads_from x os p (h ∷ hs) ≡ min (run_end (length os) hs - start_index h - 1) (upto x p (slice (start_index h) (run_end (length os) hs - 1) os) + 1))
    land m =
        let s = starts_on (length os) h hs w3 in
        let t = starts_end (length os) hs s.1 in
        let d : ℕ = run_end (length os) hs - start_index h - 1 in
        let e : run_end (length os) hs ≡ start_index h + suc d = omega arith in
        let l : d < length (drop (start_index h) os) = simp length-drop (omega arith) in
        let z = inside x (length os) h hs d (drop (start_index h) os) (start_index h) p e l w5 m in
        let q : run_end (length os) hs - 1 ≡ start_index h + d = omega arith in
        let r : upto x p (take d (drop (start_index h) os)) ≡ upto x p (slice (start_index h) (run_end (length os) hs - 1) os) =
        ap (upto x p) (part (start_index h) (run_end (length os) hs - 1) d os q)
        in
        (z.0 ∙ r, reads_here p h hs m ∙ ap (λ (k : ℕ). min d (k + 1)) (z.1 ∙ r))

  pub record Sought (k p h : ℕ) (hs : List ℕ) : Type 0 where
    pub low : start_index (get_or (h ∷ hs) k 0) < run_end (length os) (drop k hs)
    pub high : run_end (length os) (drop k hs) ≤ length os
    pub before : prev p (h ∷ hs) k ≤ x
    pub counted : start_index h + count x (walk (length os) (start_index h) p (h ∷ hs) (drop (start_index h) os))
        ≡ start_index (get_or (h ∷ hs) k 0) + upto x (prev p (h ∷ hs) k) (slice (start_index (get_or (h ∷ hs) k 0)) (run_end (length os) (drop k hs) - 1) os)
    pub read : reads_from x os p (h ∷ hs)
        ≡ min (run_end (length os) (drop k hs) - start_index (get_or (h ∷ hs) k 0) - 1)
        (upto x (prev p (h ∷ hs) k) (slice (start_index (get_or (h ∷ hs) k 0)) (run_end (length os) (drop k hs) - 1) os) + 1)

  pub sought : (k p h : ℕ) (hs : List ℕ) → Run (h ∷ hs) x k → W3 (length os) (h ∷ hs) ≡ true
      → W5 (length os) (start_index h) p (h ∷ hs) (drop (start_index h) os) ≡ true → p ≤ x → Sought k p h hs
  sought zero p h hs r w3 w5 m =
      let s = starts_on (length os) h hs w3 in
      let z = land p h hs w3 w5 r.holds in
      record {
        low = s.0;
        high = starts_end (length os) hs s.1;
        before = m;
        counted = ap (λ (k : ℕ). start_index h + k) z.0;
        read = z.1;
      }
  sought (suc k) p h [] r w3 w5 m = let q = r.is in absurd (omega arith)
  sought (suc k) p h (g ∷ hs) r w3 w5 m =
      let s = starts_on (length os) h (g ∷ hs) w3 in
      let l = r.passed 0 (omega arith) in
      let z = jump p h (g ∷ hs) w3 w5 l in
      let rest : Run (g ∷ hs) x k =
      record { is = omega (arith, r.is); passed = λ j q. r.passed (suc j) (omega arith); holds = r.holds }
      in
      let y = sought k (prefix_sum h) g hs rest s.1 z.1 l in
      record {
        low = y.low;
        high = y.high;
        before = rw (← (shift p h (g ∷ hs) k)) y.before;
        counted = z.0 ∙ y.counted ∙ rw (shift p h (g ∷ hs) k) refl;
        read = reads_on p h (g ∷ hs) l ∙ y.read ∙ rw (shift p h (g ∷ hs) k) refl;
      }

-- the same of a whole table: the run of x lies from b to e, and the sum before it is q
pub record Answered (hs os : List ℕ) (x b e q : ℕ) : Type 0 where
  pub low : b < e
  pub high : e ≤ length os
  pub before : q ≤ x
  pub counted : count x (boundaries hs os) ≡ b + upto x q (slice b (e - 1) os)
  pub read : reads hs os x ≡ min (e - b - 1) (upto x q (slice b (e - 1) os) + 1)

pub answered : (hs os : List ℕ) (x k : ℕ) → broken hs os ≡ None → Run hs x k
    → Answered hs os x (start_index (get_or hs k 0)) (run_end (length os) (drop (k + 1) hs)) (prev 0 hs k)
answered [] os x k b r = let q = r.is in absurd (omega arith)
answered (h ∷ hs) os x k b r =
    let w = all (W1 (h ∷ hs) os) (W2 (h ∷ hs)) (W3 (length os) (h ∷ hs)) (W4 0 (h ∷ hs)) (W5 (length os) 0 0 (h ∷ hs) os) b in
    let z : start_index h ≡ 0 = eqb-true (start_index h) 0 w.1 in
    let f : W5 (length os) (start_index h) 0 (h ∷ hs) (drop (start_index h) os) ≡ true = rw z w.4 in
    let y = sought x os k 0 h hs r w.2 f (omega arith) in
    let c : 0 + count x (boundaries (h ∷ hs) os)
    ≡ start_index h + count x (walk (length os) (start_index h) 0 (h ∷ hs) (drop (start_index h) os)) =
    rw z refl
    in
    rw (add-one k) (record { low = y.low; high = y.high; before = y.before; counted = omega (arith, c ∙ y.counted); read = y.read })

module _ (hs os : List ℕ) (x b e q i : ℕ) (a : Answered hs os x b e q) (is : i ≡ b + upto x q (slice b (e - 1) os)) where
  pub parity : odd i ≡ member (boundaries hs os) x
  parity = ap odd (is ∙ sym a.counted)

  pub stopped : i < e - 1 → i - b + 1 ≡ reads hs os x
  stopped l = sym (a.read ∙ min-eq_right (omega arith) ∙ omega arith)

  pub ran_out : i ≡ e - 1 → e - 1 - b ≡ reads hs os x
  ran_out l = sym (a.read ∙ min-eq_left (omega arith) ∙ omega arith)

-- what a search asks of the sums of a table that breaks no rule
pub kept : (hs os : List ℕ) → broken hs os ≡ None → (W4 0 hs ≡ true) × (0 < length hs)
kept hs os b =
    let w = all (W1 hs os) (W2 hs) (W3 (length os) hs) (W4 0 hs) (W5 (length os) 0 0 hs os) b in
    (w.3, size_low (length hs) (and_parts (sized (length hs)) (sized (length os)) w.0).0)
