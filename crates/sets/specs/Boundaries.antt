-- Sets of numbers as lists of boundaries: the one meaning of every format. Assumes nothing: these are definitions.
use Rattle.std.specs.Prelude.{ℕ, suc, ◌%◌, Bool, cond, List, [], ◌∷◌, ◌==◌, nat_le}

-- how many boundaries are at most x
unfoldable pub count : ℕ → List ℕ → ℕ
count x [] = 0
count x (b ∷ bs) = cond (nat_le b x) (suc (count x bs)) (count x bs)

abbrev pub odd : ℕ → Bool
odd n = n % 2 == 1

-- a number is in the set exactly if an odd number of boundaries are at most it
abbrev pub member : List ℕ → ℕ → Bool
member bs x = odd (count x bs)
