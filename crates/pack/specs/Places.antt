-- What the packer's loops compute, place by place; these serve the crate itself. Assumes nothing: these are definitions.
use Rattle.std.specs.Prelude.{ℕ, suc, ◌+◌, ◌-◌, ◌≤◌, ◌%◌, List, [], ◌∷◌, cond, leb}

-- the boundaries of a list number by number, from place j on: an odd place holds a last
unfoldable pub edges_from : ℕ → List ℕ → List ℕ
edges_from j [] = []
edges_from j (x ∷ l) = (x + j % 2) ∷ edges_from (j + 1) l

-- boundaries that do not fall, from p on, none more than one past the last number
unfoldable pub InOrder : ℕ → List ℕ → Type 0
InOrder p [] = Unit
InOrder p (b ∷ bs) = (p ≤ b) × (b ≤ 0x110000) × InOrder b bs

-- how many runs the boundaries after p make
unfoldable pub runs_of : ℕ → List ℕ → ℕ
runs_of p [] = 1
runs_of p (b ∷ bs) = cond (leb (b - p) 255) (runs_of b bs) (suc (runs_of b bs))
