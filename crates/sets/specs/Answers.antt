-- What the check of a list and the search in it answer.
-- Assumes nothing: these are definitions.
use Rattle.std.specs.Prelude.{ℕ, ◌%◌, cond, List, length, ◌==◌, nat_lt, Bool, Result, Ok, Err}
use Rattle.scalar.specs.declared.refusal.Refusal.{Refusal}
use Rattle.scalar.specs.declared.refusal.Refusal.TheVariants as refusal
use Rattle.sets.specs.Lists.{ranges, bad_at, holds}

-- 3 for odd length, 4 for more than 1,023 ranges, 5 with the index of the first bad range, in that order; else the last
unfoldable pub list_else : {A : Type 0} → (Refusal → A) → List ℕ → A → A
list_else refuse l good =
    cond (length l % 2 == 0)
    (cond (nat_lt 1023 (ranges l))
    (refuse refusal.TooManyRanges)
    (cond (nat_lt (bad_at 0 0 l) (ranges l)) (refuse (refusal.BadRange (bad_at 0 0 l))) good))
    (refuse refusal.OddList)

-- the check: 3, 4, 5, else the number of ranges
abbrev pub list_checked : List ℕ → Result ℕ Refusal
list_checked l = list_else Err l (Ok (ranges l))

-- the search in the list itself: 3, 4, 5, then 1; else whether some range holds x
abbrev pub list_searched : List ℕ → ℕ → Result Bool Refusal
list_searched l x =
    list_else Err l (cond (nat_lt 0x10FFFF x) (Err refusal.AboveMax) (Ok (holds l x)))
