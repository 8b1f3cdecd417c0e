-- The rules W1 to W5 in document 01's own words, header by header and run by run. proofs/Stated.antt shows each of them
-- equivalent to its test in crates/skip/specs/Rules.antt. Assumes nothing: these are definitions.
use Rattle.std.specs.Prelude.{ℕ, zero, suc, ◌+◌, ◌-◌, ◌<◌, ◌≤◌, ◌≡◌, List, length, get_or, drop, Option, Some, None}
use Rattle.std.proofs.Math.Seq.{slice}
use Rattle.scalar.specs.Refusals.{rule_number}
use Rattle.scalar.specs.declared.refusal.Rule.{Rule as Named}
use Rattle.sets.specs.Orders.{Rises}
use Rattle.skip.specs.Headers.{start_index, prefix_sum, run_end}
use Rattle.skip.specs.Seek.{prev, total}
use Rattle.skip.specs.Rules.{broken}

-- run k's start and prefix sum
abbrev pub start : List ℕ → ℕ → ℕ
start hs k = start_index (get_or hs k 0)

abbrev pub sum : List ℕ → ℕ → ℕ
sum hs k = prefix_sum (get_or hs k 0)

-- "Run k's offsets lie from its start to the next start, or to the end": all of them but the last
abbrev pub but_last : List ℕ → List ℕ → ℕ → List ℕ
but_last hs os k = slice (start hs k) (run_end (length os) (drop (k + 1) hs) - 1) os

-- "W1: 1 to 2,048 headers and 1 to 2,048 offset bytes."
pub record RuleW1 (hs os : List ℕ) : Type 0 where
  pub some_headers : 1 ≤ length hs
  pub few_headers : length hs ≤ 2048
  pub some_offsets : 1 ≤ length os
  pub few_offsets : length os ≤ 2048

-- "W2: the first start is 0."
pub record RuleW2 (hs : List ℕ) : Type 0 where
  pub first : start hs 0 ≡ 0

-- "W3: starts strictly rise, the last below the number of offsets."
pub record RuleW3 (hs os : List ℕ) : Type 0 where
  pub rise : Rises (length hs) (start hs)
  pub last : start hs (length hs - 1) < length os

-- "W4: prefix sums strictly rise, the last above 0x10FFFF."
pub record RuleW4 (hs : List ℕ) : Type 0 where
  pub rise : Rises (length hs) (sum hs)
  pub last : 0x10FFFF < sum hs (length hs - 1)

-- "W5: in each run, the previous sum (0 for the first run) plus all its offsets but the last is at most its own sum."
pub record RuleW5 (hs os : List ℕ) : Type 0 where
  pub fit : (k : ℕ) → k < length hs → prev 0 hs k + total (but_last hs os k) ≤ sum hs k

-- rule k of the five; no other number names one
abbrev pub Rule : List ℕ → List ℕ → ℕ → Type 0
Rule hs os zero = Unit
Rule hs os (suc zero) = RuleW1 hs os
Rule hs os (suc (suc zero)) = RuleW2 hs
Rule hs os (suc (suc (suc zero))) = RuleW3 hs os
Rule hs os (suc (suc (suc (suc zero)))) = RuleW4 hs
Rule hs os (suc (suc (suc (suc (suc zero))))) = RuleW5 hs os
Rule hs os (suc (suc (suc (suc (suc (suc k)))))) = Unit

-- rule k is the lowest of P that is broken
pub record Lowest (P : ℕ → Type 0) (k : ℕ) : Type 0 where
  pub breaks : P k → ⊥
  pub kept : (j : ℕ) → j < k → P j

-- the number of the rule that the checker finds broken, 0 where it finds none
abbrev pub number_or_none : Option Named → ℕ
number_or_none None = 0
number_or_none (Some r) = rule_number r

abbrev pub broken_number : List ℕ → List ℕ → ℕ
broken_number hs os = number_or_none (broken hs os)
