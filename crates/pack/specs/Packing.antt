-- The packing of a list, as document 01 says it under "Packing". Assumes nothing: these are definitions.
use Rattle.std.specs.Prelude.{ℕ, ◌+◌, ◌-◌, ◌*◌, List, [], ◌∷◌, cond, leb}
use Rattle.sets.specs.Lists.{edges}

-- a header word is start index times 2^21 plus prefix sum
abbrev pub word : ℕ → ℕ → ℕ
word start sum = start * 2097152 + sum

-- the difference from the boundary before is an offset if at most 255; a larger one is stored as offset 0
abbrev pub small : ℕ → ℕ
small gap = cond (leb gap 255) gap 0

-- one offset for each of the boundaries after p; after all comes one more offset 0
unfoldable pub offsets_of : ℕ → List ℕ → List ℕ
offsets_of p [] = 0 ∷ []
offsets_of p (b ∷ bs) = small (b - p) ∷ offsets_of b bs

-- the headers from offset i on, in a run that starts at s, for the boundaries after p: a difference above 255 ends
-- the run, whose sum is that boundary, and the next run starts; the last run closes with sum 0x1FFFFF
unfoldable pub headers_of : ℕ → ℕ → ℕ → List ℕ → List ℕ
headers_of i s p [] = word s 0x1FFFFF ∷ []
headers_of i s p (b ∷ bs) = cond (leb (b - p) 255) (headers_of (i + 1) s b bs) (word s b ∷ headers_of (i + 1) (i + 1) b bs)

-- the boundaries of a list are first and last+1 of each range, in order; the difference is from 0 at the start
abbrev pub offsets : List ℕ → List ℕ
offsets l = offsets_of 0 (edges l)

abbrev pub headers : List ℕ → List ℕ
headers l = headers_of 0 0 0 (edges l)
