-- The answer of a mapping: three numbers with a count. Assumes nothing: these are definitions.
use Rattle.std.specs.Prelude.{◌≡◌, ℕ, ◌+◌, ◌-◌, cond, [], ◌∷◌, ◌==◌, ◌≢◌, List, Result, Ok, Err}
use Rattle.scalar.specs.Scalars.{ascii_upper, ascii_lower}
use Rattle.scalar.specs.declared.refusal.Refusal.{Refusal}
use Rattle.casing.specs.declared.Mapping.{Mapping}

-- what C reads of an answer: the numbers and their count; of a refused one three zeros and count 0
abbrev pub to_of : Result Mapping Refusal → List ℕ
to_of (Ok m) = m.to
to_of (Err r) = 0 ∷ 0 ∷ 0 ∷ []

abbrev pub count_of : Result Mapping Refusal → ℕ
count_of (Ok m) = m.count
count_of (Err r) = 0

-- unused ones are 0: zeros are trimmed from the end, and never the first number
abbrev pub used : ℕ → ℕ → ℕ
used second third = cond (third == 0) (cond (second == 0) 1 2) 3

-- the same by cases, as the code counts
pub record Used (second third count : ℕ) : Type 0 where
  pub three : (third ≢ 0) → count ≡ 3
  pub two : third ≡ 0 → (second ≢ 0) → count ≡ 2
  pub one : third ≡ 0 → second ≡ 0 → count ≡ 1

-- the three mapped numbers go by value, with a count of 1 to 3
unfoldable pub made : ℕ → ℕ → ℕ → Mapping
made first second third = record { to = first ∷ second ∷ third ∷ []; count = used second third }

-- only ASCII letters change
abbrev pub ascii_lowered : ℕ → ℕ
ascii_lowered n = cond (ascii_upper n) (n + 0x20) n

abbrev pub ascii_uppered : ℕ → ℕ
ascii_uppered n = cond (ascii_lower n) (n - 0x20) n
