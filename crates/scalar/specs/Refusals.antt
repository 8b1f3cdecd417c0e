-- Document 01's table of refusals: the number of each, and what it carries. Every later crate cites this one.
-- Assumes nothing: these are definitions.
use Rattle.std.specs.Prelude.{ℕ}
use Rattle.scalar.specs.declared.refusal.Refusal.{Refusal}
use Rattle.scalar.specs.declared.refusal.Refusal.TheVariants.{AboveMax, Surrogate, OddList, TooManyRanges, BadRange, ShortOffsets, ShortHeaders, BrokenRule, ShortBuffer}
use Rattle.scalar.specs.declared.refusal.Rule.{Rule}
use Rattle.scalar.specs.declared.refusal.Rule.TheVariants as rule

-- the rule's number
abbrev pub rule_number : Rule → ℕ
rule_number rule.W1 = 1
rule_number rule.W2 = 2
rule_number rule.W3 = 3
rule_number rule.W4 = 4
rule_number rule.W5 = 5

-- the number in the table
abbrev pub number : Refusal → ℕ
number AboveMax = 1
number Surrogate = 2
number OddList = 3
number TooManyRanges = 4
number (BadRange index) = 5
number (ShortOffsets need) = 6
number (ShortHeaders need) = 7
number (BrokenRule broken) = 8
number (ShortBuffer need) = 10

-- what it carries; 0 where the table says nothing
abbrev pub carried : Refusal → ℕ
carried AboveMax = 0
carried Surrogate = 0
carried OddList = 0
carried TooManyRanges = 0
carried (BadRange index) = index
carried (ShortOffsets need) = need
carried (ShortHeaders need) = need
carried (BrokenRule broken) = rule_number broken
carried (ShortBuffer need) = need
