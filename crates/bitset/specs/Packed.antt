-- A table of bytes held as words, eight bytes to each: how the built-in tables stand in the code. Clients cite `eight` and
-- `byte`. Assumes nothing: these are definitions.
use Rattle.std.specs.Prelude.{ℕ, zero, suc, ◌+◌, ◌*◌, ◌/◌, ◌%◌, ◌^◌, List, [], ◌∷◌, drop}

-- the first k bytes of a list as one number, the lowest first; past its end they are 0
unfoldable pub joined : ℕ → List ℕ → ℕ
joined zero l = 0
joined (suc k) [] = 0
joined (suc k) (x ∷ l) = x + 256 * joined k l

-- word k of a table of bytes: the eight from 8 * k on
unfoldable pub eight : List ℕ → ℕ → ℕ
eight l k = joined 8 (drop (8 * k) l)

-- byte j of a word
abbrev pub byte : ℕ → ℕ → ℕ
byte j w = w / 2 ^ (8 * j) % 256
