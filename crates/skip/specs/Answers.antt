-- What check and search answer. Assumes nothing: these are definitions.
use Rattle.std.specs.Prelude.{ℕ, Bool, cond, List, nat_lt, Option, Some, None, Result, Ok, Err}
use Rattle.scalar.specs.declared.refusal.Refusal.{Refusal}
use Rattle.scalar.specs.declared.refusal.Refusal.TheVariants as refusal
use Rattle.scalar.specs.declared.refusal.Rule.{Rule}
use Rattle.sets.specs.Boundaries.{member}
use Rattle.skip.specs.Table.{boundaries, reads}
use Rattle.skip.specs.Rules.{broken}
use Rattle.skip.specs.declared.kernel.Hit.{Hit}

-- a broken rule is refused; without one there is the last
abbrev pub rule_else : {A : Type 0} → (Refusal → A) → Option Rule → A → A
rule_else refuse (Some rule) good = refuse (refusal.BrokenRule rule)
rule_else refuse None good = good

-- a table that breaks a rule W1 to W5 is refused 8 with the lowest broken rule; of any other there is the last
unfoldable pub table_else : {A : Type 0} → (Refusal → A) → List ℕ → List ℕ → A → A
table_else refuse hs os good = rule_else refuse (broken hs os) good

-- the checker accepts exactly when W1 to W5 hold
abbrev pub accepted : Result Unit Refusal
accepted = Ok tt

abbrev pub checks : List ℕ → List ℕ → Result Unit Refusal
checks hs os = table_else Err hs os accepted

-- search in a lent table: 8, then 1; else membership
abbrev pub searches : List ℕ → List ℕ → ℕ → Result Bool Refusal
searches hs os x = table_else Err hs os (cond (nat_lt 0x10FFFF x) (Err refusal.AboveMax) (Ok (member (boundaries hs os) x)))

-- membership, with the offsets read
abbrev pub hit : List ℕ → List ℕ → ℕ → Hit
hit hs os x = record { yes = member (boundaries hs os) x; read = reads hs os x }

-- the same with the offsets read
abbrev pub finds : List ℕ → List ℕ → ℕ → Result Hit Refusal
finds hs os x = table_else Err hs os (cond (nat_lt 0x10FFFF x) (Err refusal.AboveMax) (Ok (hit hs os x)))
