-- Length lists of document 01's "Printable", over any bytes. Assumes nothing: these are definitions.
use Rattle.std.specs.Prelude.{ℕ, ◌+◌, ◌-◌, ◌*◌, List, [], ◌∷◌, Bool, not, cond, Option, None, Some, length, get_or, ltb, leb}

-- "A byte below 0x80 is a length; any other holds the high seven bits, the next byte the low eight." A high byte with
-- no next byte is the end of the list.
unfoldable pub lengths : List ℕ → List ℕ
lengths [] = []
lengths (b ∷ []) = cond (ltb b 0x80) (b ∷ []) []
lengths (b ∷ (low ∷ rest)) = cond (ltb b 0x80) (b ∷ lengths (low ∷ rest)) (((b - 0x80) * 256 + low) ∷ lengths rest)

-- the kind of the run that x is in, where the first run is of the kind given: "A yes run hands over to a no run, and a
-- no run to a yes run"; "past its end the kind due next holds"
unfoldable pub kind_at : Bool → List ℕ → ℕ → Bool
kind_at kind [] x = kind
kind_at kind (n ∷ rest) x = cond (ltb x n) kind (kind_at (not kind) rest (x - n))

-- the length at a place, and the place after it
abbrev pub length_at : List ℕ → ℕ → Option (ℕ × ℕ)
length_at bytes at =
    cond (leb (length bytes) at) None
    (cond (ltb (get_or bytes at 0) 0x80) (Some (get_or bytes at 0, at + 1))
    (cond (leb (length bytes) (at + 1)) None (Some ((get_or bytes at 0 - 0x80) * 256 + get_or bytes (at + 1) 0, at + 1 + 1))))
