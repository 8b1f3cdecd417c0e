-- Document 01's 'Mapping rows', over any rows. Assumes nothing: these are definitions.
use Rattle.std.specs.Prelude.{ℕ, suc, ◌+◌, ◌*◌, ◌/◌, ◌%◌, Bool, true, false, cond, not, ◌&&◌, ◌||◌, List, [], ◌∷◌, length, ◌==◌, nat_eq, nat_le, nat_lt}
use Rattle.scalar.specs.Scalars.{between}
use Rattle.casing.specs.declared.Mapping.{Mapping}
use Rattle.casing.specs.Answers.{made}

-- the rows of one plane, a list for each field: single rows, then multi rows with their three numbers
pub record Rows : Type 0 where
  pub starts : List ℕ
  pub ends : List ℕ
  pub steps : List ℕ
  pub deltas : List ℕ
  pub multi : List ℕ
  pub first : List ℕ
  pub second : List ℕ
  pub third : List ℕ

-- a row of four numbers
abbrev pub Row : Type 0
Row = ℕ × ℕ × ℕ × ℕ

-- row by row
unfoldable pub zip : List ℕ → List ℕ → List ℕ → List ℕ → List Row
zip [] ls ms os = []
zip (k ∷ ks) [] ms os = []
zip (k ∷ ks) (l ∷ ls) [] os = []
zip (k ∷ ks) (l ∷ ls) (m ∷ ms) [] = []
zip (k ∷ ks) (l ∷ ls) (m ∷ ms) (o ∷ os) = (k, l, m, o) ∷ zip ks ls ms os

-- what the first row that fits makes of it; with none, other
unfoldable pub first_row : (Row → Bool) → (Row → Mapping) → List Row → Mapping → Mapping
first_row fits says [] other = other
first_row fits says (q ∷ qs) other = cond (fits q) (says q) (first_row fits says qs other)

-- a row covers start to end, only numbers of start's parity if it steps by two
abbrev pub covers : ℕ → ℕ → ℕ → ℕ → Bool
covers start end step x = between start end x && (not (step == 2) || x % 2 == start % 2)

-- the number of a plane with these low 16 bits
abbrev pub in_plane : ℕ → ℕ → ℕ
in_plane plane low = plane * 65536 + low

-- the delta is added to the low 16 bits and wraps there; the plane stays
abbrev pub moved : ℕ → ℕ → ℕ → ℕ
moved plane x delta = in_plane plane ((x + delta) % 65536)

-- an unused number of a multi row is 0 in every plane
abbrev pub in_plane_or0 : ℕ → ℕ → ℕ
in_plane_or0 plane low = cond (low == 0) 0 (in_plane plane low)

-- a plane's single rows, by the low 16 bits x
unfoldable pub single : List Row → ℕ → ℕ → Mapping → Mapping
single rows plane x other = first_row (λ q. covers q.0 q.1 q.2 x) (λ q. made (moved plane x q.3) 0 0) rows other

-- a plane's multi rows
unfoldable pub multiple : List Row → ℕ → ℕ → Mapping → Mapping
multiple rows plane x other =
    first_row (λ q. nat_eq q.0 x) (λ q. made (in_plane plane q.1) (in_plane_or0 plane q.2) (in_plane_or0 plane q.3)) rows other

abbrev pub singles : Rows → List Row
singles rows = zip rows.starts rows.ends rows.steps rows.deltas

abbrev pub multis : Rows → List Row
multis rows = zip rows.multi rows.first rows.second rows.third

-- the plane's rows, then multi rows; with neither, other
abbrev pub looked : Rows → ℕ → ℕ → Mapping → Mapping
looked rows plane x other = single (singles rows) plane x (multiple (multis rows) plane x other)

-- rows are sorted and disjoint: from `low` on, each start not above its end, and above the end before
unfoldable pub apart : ℕ → List ℕ → List ℕ → Bool
apart low [] [] = true
apart low [] (e ∷ es) = false
apart low (s ∷ ss) [] = false
apart low (s ∷ ss) (e ∷ es) = nat_le low s && nat_le s e && apart (suc e) ss es

-- what the reader needs of single rows: sorted, disjoint, a number for each field
unfoldable pub tidy_singles : List ℕ → List ℕ → List ℕ → List ℕ → Bool
tidy_singles starts ends steps deltas =
    apart 0 starts ends && length steps == length starts && length deltas == length starts

-- and of multi rows: sorted, no number twice, a number for each field
unfoldable pub tidy_multis : List ℕ → List ℕ → List ℕ → List ℕ → Bool
tidy_multis multi first second third =
    apart 0 multi multi && length first == length multi && length second == length multi && length third == length multi

-- the rows of a number's plane; from plane 2 up there are none
unfoldable pub in_rows : Rows → Rows → ℕ → Mapping → Mapping
in_rows rows0 rows1 n other =
    cond (n / 65536 == 0) (looked rows0 0 (n % 65536) other)
    (cond (n / 65536 == 1) (looked rows1 1 (n % 65536) other) other)

-- below the floor nothing is looked up
abbrev pub from_floor : ℕ → Rows → Rows → ℕ → Mapping → Mapping
from_floor floor rows0 rows1 n other = cond (nat_lt n floor) other (in_rows rows0 rows1 n other)
