-- The checker accepts exactly the tables that keep the five rules as document 01 states them, and the rule that it names
-- is the lowest that is broken: each test says its rule, given the rules before it. Assumes nothing.
use Prim.Native.Nat.{ℕ, zero, suc, ◌<◌, ◌≤◌}
use mathlib.Core.Path.{◌≡◌, ◌∙◌, sym, refl, ap, subst}
use mathlib.Core.List.{List, [], ◌∷◌}
use mathlib.Core.Bool.{Bool, true, false}
use mathlib.Core.Logic.{◌↔◌, ⊎_elim}
use native.Mathlib.Omega.{arith}
use borrow.Author.Tests.{lt-ltb, le-ltb, le-leb, eq-eqb, eqb-true}
use lib.ListN.{length}
use Rattle.std.proofs.lemmas.Bool.{and_from, and_parts, cases_eq}
use Rattle.sets.proofs.Decide.{split}
use Rattle.skip.specs.Rules.{sized, W1, W2, W3, W4, W5, lowest_of, broken}
use Rattle.skip_rules.specs.Stated.{RuleW1, RuleW2, RuleW3, RuleW4, RuleW5, Rule, Lowest, start, number_or_none, broken_number}
use Rattle.std.specs.Prelude.{Option, Some, None, Ok, Err}
use Rattle.scalar.specs.Refusals.{rule_number}
use Rattle.scalar.specs.declared.refusal.Refusal.TheVariants as refusal
use Rattle.scalar.specs.declared.refusal.Rule.{Rule as Named}
use Rattle.scalar.specs.declared.refusal.Rule.TheVariants as rule
use Rattle.sets.specs.Boundaries.{member}
use Rattle.skip.specs.Table.{boundaries}
use Rattle.skip.specs.Answers.{checks, searches, finds, hit}
use Rattle.skip.proofs.Answers.{accepted_rules, accepted_as, table_good, table_refused}
use Rattle.skip.proofs.Lowest5.{size_low, size_high, all, none}
use Rattle.skip_rules.proofs.Literal.{starts_say, starts_said, sums_say, sums_said, fit_say, fit_said}

size_said : (n : ℕ) → 1 ≤ n → n ≤ 2048 → sized n ≡ true
size_said n l m = rw (lt-ltb 0 n l, le-leb n 2048 m) refl

module _ (hs os : List ℕ) where
  pub w1_says : (W1 hs os ≡ true) ↔ RuleW1 hs os
  w1_says = (
    λ w.
        let h = (and_parts (sized (length hs)) (sized (length os)) w).0 in
        let o = (and_parts (sized (length hs)) (sized (length os)) w).1 in
        record {
          some_headers = size_low (length hs) h;
          few_headers = size_high (length hs) h;
          some_offsets = size_low (length os) o;
          few_offsets = size_high (length os) o;
        },
    λ r.
        and_from (sized (length hs)) (sized (length os)) (size_said (length hs) r.some_headers r.few_headers)
        (size_said (length os) r.some_offsets r.few_offsets),
  )

  pub w2_says : (W2 hs ≡ true) ↔ RuleW2 hs
  w2_says = (λ w. record { first = eqb-true (start hs 0) 0 w }, λ r. eq-eqb (start hs 0) 0 r.first)

  module _ (r1 : RuleW1 hs os) where
    pub w3_says : (W3 (length os) hs ≡ true) ↔ RuleW3 hs os
    w3_says = (starts_say hs os r1.some_headers, starts_said hs os r1.some_headers)

    pub w4_says : (W4 0 hs ≡ true) ↔ RuleW4 hs
    w4_says = (sums_say hs r1.some_headers, sums_said hs r1.some_headers)

pub w5_says : (hs os : List ℕ) → RuleW1 hs os → RuleW2 hs → RuleW3 hs os → (W5 (length os) 0 0 hs os ≡ true) ↔ RuleW5 hs os
w5_says [] os r1 r2 r3 = let z = r1.some_headers in absurd (omega arith)
w5_says (h ∷ hs) os r1 r2 r3 =
    let w = (w3_says (h ∷ hs) os r1).1 r3 in
    (fit_say h hs os r2.first w, fit_said h hs os r2.first w)

-- the table keeps the five rules
pub record Keeps (hs os : List ℕ) : Type 0 where
  pub w1 : RuleW1 hs os
  pub w2 : RuleW2 hs
  pub w3 : RuleW3 hs os
  pub w4 : RuleW4 hs
  pub w5 : RuleW5 hs os

pub accepts_exactly : (hs os : List ℕ) → (broken hs os ≡ None) ↔ Keeps hs os
accepts_exactly hs os = (
  λ b.
      let w = all (W1 hs os) (W2 hs) (W3 (length os) hs) (W4 0 hs) (W5 (length os) 0 0 hs os) b in
      let r1 = (w1_says hs os).0 w.0 in
      let r2 = (w2_says hs os).0 w.1 in
      let r3 = (w3_says hs os r1).0 w.2 in
      record { w1 = r1; w2 = r2; w3 = r3; w4 = (w4_says hs os r1).0 w.3; w5 = (w5_says hs os r1 r2 r3).0 w.4 },
  λ k.
      sym
      (none (W1 hs os) (W2 hs) (W3 (length os) hs) (W4 0 hs) (W5 (length os) 0 0 hs os)
      ((w1_says hs os).1 k.w1)
      ((w2_says hs os).1 k.w2)
      ((w3_says hs os k.w1).1 k.w3)
      ((w4_says hs os k.w1).1 k.w4)
      ((w5_says hs os k.w1 k.w2 k.w3).1 k.w5)),
)

-- one more rule is kept
more : (P : ℕ → Type 0) (n : ℕ) → ((j : ℕ) → j < n → P j) → P n → (j : ℕ) → j < suc n → P j
more P n f p j l = ⊎_elim (λ e. subst P (sym e) p) (λ e. f j (omega arith)) (cases_eq j n)

-- of five tests that say the rules 1 to 5, each given those before it, the first that fails names the lowest broken rule
names : (P : ℕ → Type 0) → P 0 → (a b c d e : Bool) → ((a ≡ true) ↔ P 1) → (P 1 → (b ≡ true) ↔ P 2)
    → (P 1 → P 2 → (c ≡ true) ↔ P 3) → (P 1 → P 2 → P 3 → (d ≡ true) ↔ P 4) → (P 1 → P 2 → P 3 → P 4 → (e ≡ true) ↔ P 5)
    → (r : Named) → lowest_of a b c d e ≡ Some r → Lowest P (rule_number r)
unfolding lowest_of
names P z false b c d e q1 q2 q3 q4 q5 r h =
    let s : rule.W1 ≡ r = cc in
    subst (λ k. Lowest P (rule_number k)) s (record { breaks = λ p. absurd (cc (q1.1 p)); kept = more P 0 (λ j k. absurd (omega arith)) z })
names P z true false c d e q1 q2 q3 q4 q5 r h =
    let s : rule.W2 ≡ r = cc in
    let p1 = q1.0 refl in
    let k1 = more P 0 (λ j k. absurd (omega arith)) z in
    subst (λ k. Lowest P (rule_number k)) s (record { breaks = λ p. absurd (cc ((q2 p1).1 p)); kept = more P 1 k1 p1 })
names P z true true false d e q1 q2 q3 q4 q5 r h =
    let s : rule.W3 ≡ r = cc in
    let p1 = q1.0 refl in
    let p2 = (q2 p1).0 refl in
    let k2 = more P 1 (more P 0 (λ j k. absurd (omega arith)) z) p1 in
    subst (λ k. Lowest P (rule_number k)) s (record { breaks = λ p. absurd (cc ((q3 p1 p2).1 p)); kept = more P 2 k2 p2 })
names P z true true true false e q1 q2 q3 q4 q5 r h =
    let s : rule.W4 ≡ r = cc in
    let p1 = q1.0 refl in
    let p2 = (q2 p1).0 refl in
    let p3 = (q3 p1 p2).0 refl in
    let k3 = more P 2 (more P 1 (more P 0 (λ j k. absurd (omega arith)) z) p1) p2 in
    subst (λ k. Lowest P (rule_number k)) s (record { breaks = λ p. absurd (cc ((q4 p1 p2 p3).1 p)); kept = more P 3 k3 p3 })
names P z true true true true false q1 q2 q3 q4 q5 r h =
    let s : rule.W5 ≡ r = cc in
    let p1 = q1.0 refl in
    let p2 = (q2 p1).0 refl in
    let p3 = (q3 p1 p2).0 refl in
    let p4 = (q4 p1 p2 p3).0 refl in
    let k4 = more P 3 (more P 2 (more P 1 (more P 0 (λ j k. absurd (omega arith)) z) p1) p2) p3 in
    subst (λ k. Lowest P (rule_number k)) s (record { breaks = λ p. absurd (cc ((q5 p1 p2 p3 p4).1 p)); kept = more P 4 k4 p4 })
names P z true true true true true q1 q2 q3 q4 q5 r h = absurd cc

-- the lowest is one
unique : (P : ℕ → Type 0) (m n : ℕ) → Lowest P m → Lowest P n → m ≡ n
unique P m n a b =
    ⊎_elim
    (λ h. ⊎_elim (λ k. omega arith) (λ k. absurd (a.breaks (b.kept m k))) (split n m))
    (λ h. absurd (b.breaks (a.kept n h)))
    (split m n)

lowest_named : (hs os : List ℕ) (r : Named) → broken hs os ≡ Some r → Lowest (Rule hs os) (rule_number r)
lowest_named hs os r e =
    names (Rule hs os) tt (W1 hs os) (W2 hs) (W3 (length os) hs) (W4 0 hs) (W5 (length os) 0 0 hs os) (w1_says hs os)
    (λ r1. w2_says hs os)
    (λ r1 r2. w3_says hs os r1)
    (λ r1 r2 r3. w4_says hs os r1)
    (λ r1 r2 r3 r4. w5_says hs os r1 r2 r3)
    r e

-- a table that breaks no rule has no lowest broken rule
kept_all : (hs os : List ℕ) (k : ℕ) → Keeps hs os → Rule hs os k
kept_all hs os zero k = tt
kept_all hs os (suc zero) k = k.w1
kept_all hs os (suc (suc zero)) k = k.w2
kept_all hs os (suc (suc (suc zero))) k = k.w3
kept_all hs os (suc (suc (suc (suc zero)))) k = k.w4
kept_all hs os (suc (suc (suc (suc (suc zero))))) k = k.w5
kept_all hs os (suc (suc (suc (suc (suc (suc n)))))) k = tt

-- a rule is known by its number
of_number : ℕ → Named
of_number (suc zero) = rule.W1
of_number (suc (suc zero)) = rule.W2
of_number (suc (suc (suc zero))) = rule.W3
of_number (suc (suc (suc (suc zero)))) = rule.W4
of_number k = rule.W5

by_number : (r : Named) → of_number (rule_number r) ≡ r
unfolding of_number
by_number rule.W1 = refl
by_number rule.W2 = refl
by_number rule.W3 = refl
by_number rule.W4 = refl
by_number rule.W5 = refl

-- the rule that the checker carries is the lowest that the table breaks
pub named_exactly : (hs os : List ℕ) (r : Named) → (broken hs os ≡ Some r) ↔ Lowest (Rule hs os) (rule_number r)
named_exactly hs os r = (lowest_named hs os r, λ w. by_broken w (broken hs os) refl)
  where
    by_broken : Lowest (Rule hs os) (rule_number r) → (b : Option Named) → broken hs os ≡ b → broken hs os ≡ Some r
    by_broken w None e = absurd (w.breaks (kept_all hs os (rule_number r) ((accepts_exactly hs os).0 e)))
    by_broken w (Some s) e =
        let same_number = unique (Rule hs os) (rule_number s) (rule_number r) (lowest_named hs os s e) w in
        e ∙ ap Some (sym (by_number s) ∙ ap of_number same_number ∙ by_number r)

-- so of every number above 0: it is the lowest broken rule's exactly if the checker says so, and no number but the five is any
pub lowest_exactly : (hs os : List ℕ) (k : ℕ) → 0 < k → (broken_number hs os ≡ k) ↔ Lowest (Rule hs os) k
lowest_exactly hs os k l = (λ e. to (broken hs os) refl e, λ w. back w (broken hs os) refl)
  where
    to : (b : Option Named) → broken hs os ≡ b → number_or_none b ≡ k → Lowest (Rule hs os) k
    to None e n = absurd (omega arith)
    to (Some r) e n = subst (Lowest (Rule hs os)) n (lowest_named hs os r e)

    back : Lowest (Rule hs os) k → (b : Option Named) → broken hs os ≡ b → number_or_none b ≡ k
    back w None e = absurd (w.breaks (kept_all hs os k ((accepts_exactly hs os).0 e)))
    back w (Some r) e = unique (Rule hs os) (rule_number r) k (lowest_named hs os r e) w

-- so the checker's answer is Ok exactly for the tables that keep the rules, and 8 with rule r exactly where r is the lowest broken
pub checks_accepted : (hs os : List ℕ) → (Ok tt ≡ checks hs os) ↔ Keeps hs os
checks_accepted hs os = (
  λ e. (accepts_exactly hs os).0 (accepted_rules hs os e),
  λ k. table_good hs os Err (Ok tt) ((accepts_exactly hs os).1 k),
)

pub checks_refused : (hs os : List ℕ) (r : Named) → Lowest (Rule hs os) (rule_number r) → Err (refusal.BrokenRule r) ≡ checks hs os
checks_refused hs os r w = table_refused hs os Err (Ok tt) r ((named_exactly hs os r).1 w)

-- and in each of them both searches follow the boundary count, at every number to 0x10FFFF
pub searches_member : (hs os : List ℕ) (x : ℕ) → Keeps hs os → x ≤ 0x10FFFF → Ok (member (boundaries hs os) x) ≡ searches hs os x
searches_member hs os x k l =
    accepted_as hs os Err _ _ ((checks_accepted hs os).1 k) (simp (le-ltb _ _ l))

pub finds_member : (hs os : List ℕ) (x : ℕ) → Keeps hs os → x ≤ 0x10FFFF → Ok (hit hs os x) ≡ finds hs os x
finds_member hs os x k l =
    accepted_as hs os Err _ _ ((checks_accepted hs os).1 k) (simp (le-ltb _ _ l))
