-- The list that a table unpacks to, as document 01 says it under "Unpacking" and request 4 amends it. Assumes nothing: these
-- are definitions.
use Rattle.std.specs.Prelude.{ℕ, ◌-◌, cond, List, [], ◌∷◌, ◌==◌, nat_le}
use Rattle.skip.specs.Table.{boundaries}

-- the boundaries up to 0x10FFFF
unfoldable pub kept : List ℕ → List ℕ
kept [] = []
kept (b ∷ bs) = cond (nat_le b 0x10FFFF) (b ∷ kept bs) (kept bs)

-- in pairs, as first and last+1: equal pairs list nothing, they are dropped
unfoldable pub unequal : List ℕ → List ℕ
unequal [] = []
unequal (a ∷ []) = a ∷ []
unequal (a ∷ (b ∷ bs)) = cond (a == b) (unequal bs) (a ∷ (b ∷ unequal bs))

-- where the end b of the pair that starts at a equals the start c of the next pair left, the two are one range
unfoldable pub joined_from : ℕ → List ℕ → List ℕ
joined_from a [] = a ∷ []
joined_from a (b ∷ []) = a ∷ (b ∷ [])
joined_from a (b ∷ (c ∷ bs)) = cond (b == c) (joined_from a bs) (a ∷ (b ∷ joined_from c bs))

abbrev pub joined : List ℕ → List ℕ
joined [] = []
joined (a ∷ bs) = joined_from a bs

-- the ranges as flat pairs first, last; an open last pair ends at 0x10FFFF
unfoldable pub flat : List ℕ → List ℕ
flat [] = []
flat (a ∷ []) = a ∷ (0x10FFFF ∷ [])
flat (a ∷ (b ∷ bs)) = a ∷ ((b - 1) ∷ flat bs)

abbrev pub list : List ℕ → List ℕ → List ℕ
list hs os = flat (joined (unequal (kept (boundaries hs os))))
