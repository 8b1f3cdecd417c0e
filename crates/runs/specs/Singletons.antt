-- Singletons of document 01's "Printable", over any bytes. Assumes nothing: these are definitions.
use Rattle.std.specs.Prelude.{ℕ, ◌+◌, ◌-◌, List, [], ◌∷◌, Bool, false, cond, ◌&&◌, ◌||◌, take, drop, eqb, leb}

unfoldable pub among : ℕ → List ℕ → Bool
among low [] = false
among low (l ∷ lows) = eqb l low || among low lows

-- "Each pair gives a high byte and how many of the next low bytes belong to it": some pair of this high byte has this
-- low byte. A count that runs past the low bytes takes what is left; the pairs are as many as there are counts.
unfoldable pub listed : List ℕ → List ℕ → List ℕ → ℕ → ℕ → Bool
listed [] counts lows high low = false
listed (h ∷ highs) [] lows high low = false
listed (h ∷ highs) (c ∷ counts) lows high low =
    eqb h high && among low (take c lows) || listed highs counts (drop c lows) high low

-- `count` places on from `start`, to `len` at most
abbrev pub up_to : ℕ → ℕ → ℕ → ℕ
up_to start count len = cond (leb count (len - start)) (start + count) len
