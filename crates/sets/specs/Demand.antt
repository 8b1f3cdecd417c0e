-- The lists of demand 3, in its own words; proofs/Demand.antt shows them to be those that pass 3, 4 and 5.
-- Assumes nothing: these are definitions.
use Rattle.std.specs.Prelude.{◌≡◌, ℕ, ◌+◌, ◌*◌, ◌%◌, ◌<◌, ◌≤◌, List, length, slice_index}
use Rattle.sets.specs.Lists.{ranges}
use Rattle.sets.specs.Orders.{Follows, Under, Bounded}

-- range i of a list, counted from 0
abbrev pub first : List ℕ → ℕ → ℕ
first l i = slice_index l (2 * i)

abbrev pub last : List ℕ → ℕ → ℕ
last l i = slice_index l (2 * i + 1)

pub record Listed (l : List ℕ) : Type 0 where
  -- number pairs
  pub pairs : length l % 2 ≡ 0
  -- at most 1,023 ranges
  pub few : ranges l ≤ 1023
  -- inside 0 to 0x10FFFF
  pub inside : Bounded 0x10FFFF (ranges l) (last l)
  -- first not above last
  pub ordered : Under (ranges l) (first l) (last l)
  -- sorted, at least one number between neighbours: one above a last is below the next first
  pub apart : Follows (ranges l) (λ i. last l i + 1) (first l)

-- some range of the list holds x
pub record Held (l : List ℕ) (x : ℕ) : Type 0 where
  pub index : ℕ
  pub range : index < ranges l
  pub from_first : first l index ≤ x
  pub to_last : x ≤ last l index
