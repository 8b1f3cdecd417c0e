-- The unpacked list boundary by boundary; serves the crate itself. Assumes nothing: these are definitions.
use Rattle.std.specs.Prelude.{ℕ, ◌-◌, Bool, true, cond, not, ◌&&◌, List, [], ◌∷◌, ◌==◌, nat_le}

-- what stands in front of a list if t holds
abbrev pub when : Bool → ℕ → List ℕ → List ℕ
when t v l = cond t (v ∷ l) l

-- boundary p waits to be listed if w holds: whether it is listed at boundary b, and whether b waits then. An equal one
-- cancels it: boundaries do not fall, and of equal ones only whether they are odd in number counts
abbrev pub leaves : Bool → ℕ → ℕ → Bool
leaves w p b = w && not (p == b)

abbrev pub waits : Bool → Bool → Bool
waits w listed = cond w listed true

-- the boundaries that are still to be listed, none past 0x10FFFF
unfoldable pub flow : Bool → ℕ → List ℕ → List ℕ
flow w p [] = when w p []
flow w p (b ∷ bs) = cond (nat_le b 0x10FFFF) (when (leaves w p b) p (flow (waits w (leaves w p b)) b bs)) (when w p [])

-- a listed boundary as the next number of the list: a first, or the last before it
abbrev pub number_of : Bool → ℕ → ℕ
number_of last b = cond last (b - 1) b

-- the numbers of the listed boundaries, from a first or a last on; an open last pair ends at 0x10FFFF
unfoldable pub numbers : Bool → List ℕ → List ℕ
numbers last [] = when last 0x10FFFF []
numbers last (b ∷ bs) = number_of last b ∷ numbers (not last) bs
