-- What the numbers of lists, header words and table rows keep, said once over their number n; f gives the number at each
-- place. Assumes nothing: these are definitions.
use Rattle.std.specs.Prelude.{ℕ, ◌+◌, ◌<◌, ◌≤◌}

-- each number of f is below the next one of g
abbrev pub Follows : ℕ → (ℕ → ℕ) → (ℕ → ℕ) → Type 0
Follows n f g = (k : ℕ) → k + 1 < n → f k < g (k + 1)

-- strictly rising
abbrev pub Rises : ℕ → (ℕ → ℕ) → Type 0
Rises n f = Follows n f f

-- none of f above its companion of g
abbrev pub Under : ℕ → (ℕ → ℕ) → (ℕ → ℕ) → Type 0
Under n f g = (k : ℕ) → k < n → f k ≤ g k

-- none above b
abbrev pub Bounded : ℕ → ℕ → (ℕ → ℕ) → Type 0
Bounded b n f = Under n f (λ k. b)
