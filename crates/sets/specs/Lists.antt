-- Flat lists of ranges: first, last, first, last .. Assumes nothing: these are definitions.
use Rattle.std.specs.Prelude.{ℕ, ◌+◌, ◌/◌, Bool, false, cond, ◌&&◌, ◌||◌, List, [], ◌∷◌, length, nat_le}
use Rattle.scalar.specs.Scalars.{between}

-- how many ranges a list of number pairs has
abbrev pub ranges : List ℕ → ℕ
ranges l = length l / 2

-- some range holds x
unfoldable pub holds : List ℕ → ℕ → Bool
holds [] x = false
holds (a ∷ []) x = false
holds (a ∷ (b ∷ l)) x = between a b x || holds l x

-- the boundaries of a list: first and last + 1 of each range, in order
unfoldable pub edges : List ℕ → List ℕ
edges [] = []
edges (a ∷ []) = []
edges (a ∷ (b ∷ l)) = a ∷ ((b + 1) ∷ edges l)

-- a range from a to b may stand where no first below `low` may: first not above last, last at most 0x10FFFF
abbrev pub fits : ℕ → ℕ → ℕ → Bool
fits low a b = nat_le low a && nat_le a b && nat_le b 0x10FFFF

-- the index, counted from i, of the first range that has first above last, or last above 0x10FFFF, or first at most
-- one above the previous last (below `low`, which is two above it); without one, how many ranges there are
unfoldable pub bad_at : ℕ → ℕ → List ℕ → ℕ
bad_at i low [] = i
bad_at i low (a ∷ []) = i
bad_at i low (a ∷ (b ∷ l)) = cond (fits low a b) (bad_at (i + 1) (b + 2) l) i
