-- Document 01's cases marked P, as one statement over a single list of them, computed; and U+0000, which every mapping gives
-- with count 1. Assumes nothing.
use Rattle.std.specs.Prelude.{◌≡◌, ℕ, cond, List, [], ◌∷◌, map, take, Result, Ok, Err}
use mathlib.Core.Path.{refl}
use Rattle.scalar.specs.Scalars.{scalar_else}
use Rattle.scalar.specs.declared.refusal.Refusal.{Refusal}
use Rattle.casing.specs.declared.Mapping.{Mapping}
use Rattle.casing.specs.Answers.{to_of, count_of, made}
use Rattle.casing.specs.Rows.{first_row}
use Rattle.casing.specs.Listed.{quads, row_of, mapping_of}
use Rattle.sets.specs.Boundaries.{count}
use Rattle.skip.specs.Table.{walk, reads_from}
use Rattle.skip.specs.Rules.{W3, W4, W5, lowest_of}
use Rattle.skip.specs.Answers.{table_else, finds}
use Rattle.skip.specs.declared.kernel.Hit.{Hit}
use Rattle.table_titlecase.specs.Table as titlecase-table
use Rattle.casing_lower.specs.Unicode as lower-list
use Rattle.casing_upper.specs.Unicode as upper-list
use Rattle.casing_title.specs.Unicode as title-list

pub data Kind : Type 0 where
  lower : Kind
  upper : Kind
  title : Kind

-- the list that an entry's promise cites
abbrev pub list_of : Kind → List ℕ
list_of lower = lower-list.rows
list_of upper = upper-list.rows
list_of title = title-list.rows

-- what is asked of a number: a mapping, or a search in the titlecase table
pub data Ask : Type 0 where
  mapped : Kind → Ask
  sought : Ask

-- a number, what is asked of it, and the numbers that the paper says
pub record Case : Type 0 where
  pub ask : Ask
  pub number : ℕ
  pub expected : List ℕ

-- the numbers of a mapping, as many as it counts
abbrev pub numbers : Result Mapping Refusal → List ℕ
numbers answer = take (count_of answer) (to_of answer)

-- 1 for yes, 0 for no, and the offsets read; no and 0 where the table or the number is refused
abbrev pub found : Result Hit Refusal → List ℕ
found (Ok hit) = cond hit.yes 1 0 ∷ hit.read ∷ []
found (Err r) = 0 ∷ 0 ∷ []

-- what the promise of the entry says of a case
abbrev pub asked : Ask → ℕ → List ℕ
asked (mapped k) n = numbers (mapping_of (list_of k) n)
asked sought n = found (finds titlecase-table.headers titlecase-table.offsets n)

abbrev pub said : Case → List ℕ
said c = asked c.ask c.number

unfoldable pub cases : List Case
cases =
    record { ask = sought; number = 0x1C4; expected = 0 ∷ 0 ∷ [] } ∷
    record { ask = sought; number = 0x1C5; expected = 1 ∷ 1 ∷ [] } ∷
    record { ask = sought; number = 0x1F87; expected = 0 ∷ 7 ∷ [] } ∷
    record { ask = sought; number = 0x1F88; expected = 1 ∷ 1 ∷ [] } ∷
    record { ask = sought; number = 0x1FFC; expected = 1 ∷ 11 ∷ [] } ∷
    record { ask = sought; number = 0x1FFD; expected = 0 ∷ 11 ∷ [] } ∷
    record { ask = mapped lower; number = 0xA77D; expected = 0x1D79 ∷ [] } ∷
    record { ask = mapped lower; number = 0x13A0; expected = 0xAB70 ∷ [] } ∷
    record { ask = mapped lower; number = 0x212A; expected = 0x6B ∷ [] } ∷
    record { ask = mapped lower; number = 0x101; expected = 0x101 ∷ [] } ∷
    record { ask = mapped lower; number = 0x130; expected = 0x69 ∷ 0x307 ∷ [] } ∷
    record { ask = mapped title; number = 0xDF; expected = 0x53 ∷ 0x73 ∷ [] } ∷
    record { ask = mapped title; number = 0x10D0; expected = 0x10D0 ∷ [] } ∷ []

pub cases_hold : map said cases ≡ map (λ c. c.expected) cases
unfolding cases scalar_else made first_row quads row_of lower-list.rows upper-list.rows title-list.rows titlecase-table.headers titlecase-table.offsets table_else lowest_of W3 W4 W5 walk count reads_from
cases_hold = refl

pub nul_counts_one : (k : Kind) → count_of (mapping_of (list_of k) 0) ≡ 1
unfolding scalar_else made first_row quads row_of lower-list.rows upper-list.rows title-list.rows
nul_counts_one lower = refl
nul_counts_one upper = refl
nul_counts_one title = refl
