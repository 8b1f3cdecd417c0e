-- What Unicode's list of rows, four numbers a row, says of a number. Assumes nothing: these are definitions.
use Rattle.std.specs.Prelude.{ℕ, List, [], ◌∷◌, nat_eq, Result, Ok, Err}
use Rattle.scalar.specs.Scalars.{scalar_else}
use Rattle.scalar.specs.declared.refusal.Refusal.{Refusal}
use Rattle.scalar.specs.declared.refusal.Refusal.TheVariants as refusal
use Rattle.casing.specs.declared.Mapping.{Mapping}
use Rattle.casing.specs.Answers.{made}
use Rattle.casing.specs.Rows.{Row, first_row}

-- a flat list, row by row: the number and the three that it is mapped to, unused ones 0
unfoldable pub quads : List ℕ → List Row
quads [] = []
quads (n ∷ []) = []
quads (n ∷ (a ∷ [])) = []
quads (n ∷ (a ∷ (b ∷ []))) = []
quads (n ∷ (a ∷ (b ∷ (c ∷ l)))) = (n, a, b, c) ∷ quads l

-- the row of the number; what isn't listed is the number itself
unfoldable pub row_of : List ℕ → ℕ → Mapping
row_of list n = first_row (λ q. nat_eq q.0 n) (λ q. made q.1 q.2 q.3) (quads list) (made n 0 0)

-- the answer of an entry over any number: refusal 1, then 2, else the row of the number
abbrev pub mapping_of : List ℕ → ℕ → Result Mapping Refusal
mapping_of list n = scalar_else n (Err refusal.AboveMax) (Err refusal.Surrogate) (Ok (row_of list n))
