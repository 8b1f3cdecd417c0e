-- What the parts of the search compute; these serve the crate itself. Assumes nothing: these are definitions.
use Rattle.std.specs.Prelude.{◌≡◌, ℕ, zero, suc, ◌+◌, ◌-◌, ◌<◌, ◌≤◌, cond, List, [], ◌∷◌, length, nat_le, slice_index}
use Rattle.sets.specs.Boundaries.{odd, member}
use Rattle.skip.specs.Headers.{prefix_sum}
use Rattle.skip.specs.Table.{boundaries, reads}

-- run k is the first whose sum is above x
pub record Run (hs : List ℕ) (x k : ℕ) : Type 0 where
  pub is : k < length hs
  pub passed : (j : ℕ) → j < k → prefix_sum (slice_index hs j) ≤ x
  pub holds : x < prefix_sum (slice_index hs k)

-- the sum before run k, p before the first
abbrev pub prev : ℕ → List ℕ → ℕ → ℕ
prev p hs zero = p
prev p hs (suc k) = prefix_sum (slice_index hs k)

-- the sum of a list
abbrev pub total : List ℕ → ℕ
total [] = 0
total (o ∷ os) = o + total os

-- how many offsets bring the sum so far to no more than x, before the first that does not
unfoldable pub upto : ℕ → ℕ → List ℕ → ℕ
upto x at [] = 0
upto x at (o ∷ os) = cond (nat_le (at + o) x) (suc (upto x (at + o) os)) 0

-- a search for x stops at offset i of the run whose offsets go from begin to last: x is in the set exactly if i is odd, and the
-- offsets read are those from begin to i, or all but the last
pub record Stops (hs os : List ℕ) (x begin last i : ℕ) : Type 0 where
  pub from : begin ≤ i
  pub upto_last : i ≤ last
  pub parity : odd i ≡ member (boundaries hs os) x
  pub inside : i < last → i - begin + 1 ≡ reads hs os x
  pub at_end : i ≡ last → last - begin ≡ reads hs os x
