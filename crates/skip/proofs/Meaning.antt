-- How many boundaries of a table that keeps the rules are at most x, run by run. Assumes nothing.
use Rattle.std.specs.Prelude.{◌≡◌, ℕ, zero, suc, ◌+◌, ◌<◌, ◌≤◌, true, ◌&&◌, leb, List, [], ◌∷◌, length, take, drop}
use mathlib.Core.Path.{◌∙◌, sym, refl, ap}
use mathlib.Core.Logic.{⊎_elim}
use native.Mathlib.Omega.{arith}
use borrow.Author.Tests.{le-leb, lt-leb, eq-eqb, ne_eqb, leb-true}
use Rattle.skip.specs.Headers.{prefix_sum, run_end}
use Rattle.skip.specs.Table.{walk}
use Rattle.std.proofs.lemmas.Bool.{and_parts, cases_eq}
use Rattle.sets.proofs.Decide.{split}
use Rattle.sets.proofs.Members.{count_in, count_out}
use Rattle.sets.specs.Boundaries.{count}
use Rattle.skip.specs.Rules.{W5}
use Rattle.skip.specs.Seek.{upto}

-- a walk and rule W5 at the last offset of a run, and at any other
module _ (n i at h o : ℕ) (hs os : List ℕ) where
  pub walk_last : i + 1 ≡ run_end n hs → walk n i at (h ∷ hs) (o ∷ os) ≡ prefix_sum h ∷ walk n (i + 1) (prefix_sum h) hs os
  unfolding walk
  walk_last e = simp (eq-eqb _ _ e)

  pub walk_on : (i + 1 ≡ run_end n hs → ⊥) → walk n i at (h ∷ hs) (o ∷ os) ≡ (at + o) ∷ walk n (i + 1) (at + o) (h ∷ hs) os
  unfolding walk
  walk_on e = simp (ne_eqb _ _ e)

  pub rule_last : i + 1 ≡ run_end n hs → W5 n i at (h ∷ hs) (o ∷ os) ≡ true → (at ≤ prefix_sum h) × (W5 n (i + 1) (prefix_sum h) hs os ≡ true)
  unfolding W5
  rule_last e w =
      let v : (leb at (prefix_sum h) && W5 n (i + 1) (prefix_sum h) hs os) ≡ true = simp (eq-eqb _ _ e) at w in
      (leb-true at (prefix_sum h) (and_parts (leb at (prefix_sum h)) _ v).0, (and_parts (leb at (prefix_sum h)) _ v).1)

  pub rule_on : (i + 1 ≡ run_end n hs → ⊥) → W5 n i at (h ∷ hs) (o ∷ os) ≡ true → W5 n (i + 1) (at + o) (h ∷ hs) os ≡ true
  unfolding W5
  rule_on e w = simp (ne_eqb _ _ e) at w

module _ (x : ℕ) where
  ends_nil : (n i at : ℕ) (hs : List ℕ) → count x (walk n i at hs []) ≡ 0
  unfolding walk count
  ends_nil n i at [] = refl
  ends_nil n i at (h ∷ hs) = refl

  ends_bare : (n i at o : ℕ) (os : List ℕ) → count x (walk n i at [] (o ∷ os)) ≡ 0
  unfolding walk count
  ends_bare n i at o os = refl

  step_in : (at o : ℕ) (os : List ℕ) → at + o ≤ x → suc (upto x (at + o) os) ≡ upto x at (o ∷ os)
  unfolding upto
  step_in at o os k = simp (le-leb _ _ k)

  step_out : (at o : ℕ) (os : List ℕ) → x < at + o → 0 ≡ upto x at (o ∷ os)
  unfolding upto
  step_out at o os k = simp (lt-leb _ _ k)

  step_none : (at : ℕ) → count x [] ≡ upto x at []
  unfolding upto count
  step_none at = refl

  step_zero : (at : ℕ) → 0 ≡ upto x at []
  unfolding upto
  step_zero at = refl

  -- none of a list, none of its front
  none_tail : (b : ℕ) (bs : List ℕ) → count x (b ∷ bs) ≡ 0 → (x < b) × (count x bs ≡ 0)
  none_tail b bs h =
      ⊎_elim
      (λ l. let z = sym (count_in x b bs l) ∙ h in absurd (omega arith))
      (λ l. (l, sym (count_out x b bs l) ∙ h))
      (split b x)

  none_front : (d : ℕ) (bs : List ℕ) → count x bs ≡ 0 → count x (take d bs) ≡ 0
  unfolding count
  none_front zero bs h = refl
  none_front (suc d) [] h = refl
  none_front (suc d) (b ∷ bs) h = let z = none_tail b bs h in count_out x b (take d bs) z.0 ∙ none_front d bs z.1

  module _ (n : ℕ) where
    -- boundaries from a sum above x on are all above x
    above : (os : List ℕ) (i at : ℕ) (hs : List ℕ) → W5 n i at hs os ≡ true → x < at → count x (walk n i at hs os) ≡ 0
    above [] i at hs w l = ends_nil n i at hs
    above (o ∷ os) i at [] w l = ends_bare n i at o os
    above (o ∷ os) i at (h ∷ hs) w l =
        ⊎_elim
        (λ e.
        let v = rule_last n i at h o hs os e w in
        let u : x < prefix_sum h = omega arith in
        ap (count x) (walk_last n i at h o hs os e) ∙ count_out x _ _ u ∙ above os (i + 1) (prefix_sum h) hs v.1 u)
        (λ e.
        let v = rule_on n i at h o hs os e w in
        let u : x < at + o = omega arith in
        ap (count x) (walk_on n i at h o hs os e) ∙ count_out x _ _ u ∙ above os (i + 1) (at + o) (h ∷ hs) v u)
        (cases_eq (i + 1) (run_end n hs))

    module _ (h : ℕ) (hs : List ℕ) where
      -- the sum so far in a run is at most the run's
      under : (d : ℕ) (os : List ℕ) (i at : ℕ) → run_end n hs ≡ i + suc d → d < length os → W5 n i at (h ∷ hs) os ≡ true → at ≤ prefix_sum h
      under d [] i at e l w = absurd (omega arith)
      under zero (o ∷ os) i at e l w =
          let e' : i + 1 ≡ run_end n hs = omega arith in
          (rule_last n i at h o hs os e' w).0
      under (suc d) (o ∷ os) i at e l w =
          let f : (i + 1 ≡ run_end n hs → ⊥) = λ q. omega arith in
          let z = under d os (i + 1) (at + o) (omega arith) (omega arith) (rule_on n i at h o hs os f w) in
          omega arith

      -- a run whose sum is at most x is passed whole
      pub pass : (d : ℕ) (os : List ℕ) (i at : ℕ) → run_end n hs ≡ i + suc d → d < length os → W5 n i at (h ∷ hs) os ≡ true → prefix_sum h ≤ x
          → (count x (walk n i at (h ∷ hs) os) ≡ suc d + count x (walk n (run_end n hs) (prefix_sum h) hs (drop (suc d) os)))
          × (W5 n (run_end n hs) (prefix_sum h) hs (drop (suc d) os) ≡ true)
      pass d [] i at e l w m = absurd (omega arith)
      pass zero (o ∷ os) i at e l w m =
          let e' : i + 1 ≡ run_end n hs = omega arith in
          let v = rule_last n i at h o hs os e' w in
          rw (← e')
          (ap (count x) (walk_last n i at h o hs os e') ∙ count_in x _ _ m ∙ omega arith, v.1)
      pass (suc d) (o ∷ os) i at e l w m =
          let f : (i + 1 ≡ run_end n hs → ⊥) = λ q. omega arith in
          let v = rule_on n i at h o hs os f w in
          let u = under d os (i + 1) (at + o) (omega arith) (omega arith) v in
          let z = pass d os (i + 1) (at + o) (omega arith) (omega arith) v m in
          (ap (count x) (walk_on n i at h o hs os f) ∙ count_in x _ _ (omega arith) ∙ ap suc z.0 ∙ omega arith, z.1)

      -- in a run whose sum is above x, what the search steps over is what is at most x
      pub inside : (d : ℕ) (os : List ℕ) (i at : ℕ) → run_end n hs ≡ i + suc d → d < length os → W5 n i at (h ∷ hs) os ≡ true → x < prefix_sum h
          → (count x (walk n i at (h ∷ hs) os) ≡ upto x at (take d os))
          × (count x (take d (walk n i at (h ∷ hs) os)) ≡ upto x at (take d os))
      inside d [] i at e l w m = absurd (omega arith)
      inside zero (o ∷ os) i at e l w m =
          let e' : i + 1 ≡ run_end n hs = omega arith in
          let v = rule_last n i at h o hs os e' w in (
            ap (count x) (walk_last n i at h o hs os e') ∙ count_out x _ _ m ∙ above os (i + 1) (prefix_sum h) hs v.1 m ∙ step_zero at,
            step_none at,
          )
      inside (suc d) (o ∷ os) i at e l w m =
          let f : (i + 1 ≡ run_end n hs → ⊥) = λ q. omega arith in
          let v = rule_on n i at h o hs os f w in
          let z = inside d os (i + 1) (at + o) (omega arith) (omega arith) v m in
          let g = walk_on n i at h o hs os f in
          let front : (List ℕ → ℕ) = λ b. count x (take (suc d) b) in
          ⊎_elim
          (λ k. (
            ap (count x) g ∙ count_in x _ _ k ∙ ap suc z.0 ∙ step_in at o (take d os) k,
            ap front g ∙ count_in x _ _ k ∙ ap suc z.1 ∙ step_in at o (take d os) k,
          ))
          (λ k.
          let a = above os (i + 1) (at + o) (h ∷ hs) v k in (
            ap (count x) g ∙ count_out x _ _ k ∙ a ∙ step_out at o (take d os) k,
            ap front g ∙ count_out x _ _ k ∙ none_front d _ a ∙ step_out at o (take d os) k,
          ))
          (split (at + o) x)
