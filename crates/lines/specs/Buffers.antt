-- Text in a buffer of so many bytes. Assumes nothing: these are definitions.
use Rattle.std.specs.Prelude.{ℕ, ◌≡◌, List, [], ◌∷◌, ◌++◌, take}
use Rattle.io.specs.Digits.{last_digits, IsDigitCount}

-- a number's digits, no more than it takes, stand after the text, as many as there is room for
pub record ShowsNext (room base n : ℕ) (old new : List ℕ) : Type 0 where
  pub count : ℕ
  pub fewest : IsDigitCount base 1 n count
  pub adds : new ≡ take room (old ++ last_digits base count n)

-- the same in a line, after a key
pub record ShowsLine (room base : ℕ) (key : List ℕ) (n : ℕ) (old new : List ℕ) : Type 0 where
  pub count : ℕ
  pub fewest : IsDigitCount base 1 n count
  pub adds : new ≡ take room (old ++ key ++ last_digits base count n ++ 10 ∷ [])
