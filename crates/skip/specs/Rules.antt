-- The rules W1 to W5 of a table, each a test, and the lowest that is broken. Stated.antt has the same rules in the
-- document's words. Assumes nothing: these are definitions.
use Rattle.std.specs.Prelude.{ℕ, ◌+◌, Bool, true, false, cond, ◌&&◌, List, [], ◌∷◌, length, ◌==◌, nat_le, nat_lt, slice_index, Option, Some, None}
use Rattle.scalar.specs.declared.refusal.Rule.{Rule}
use Rattle.scalar.specs.declared.refusal.Rule.TheVariants as rule
use Rattle.skip.specs.Headers.{start_index, prefix_sum, run_end}

-- W1: 1 to 2,048 headers and 1 to 2,048 offset bytes
abbrev pub sized : ℕ → Bool
sized n = nat_lt 0 n && nat_le n 2048

abbrev pub W1 : List ℕ → List ℕ → Bool
W1 hs os = sized (length hs) && sized (length os)

-- W2: the first start is 0
abbrev pub W2 : List ℕ → Bool
W2 hs = start_index (slice_index hs 0) == 0

-- W3: each start is below the next, the last below n, the number of offsets
unfoldable pub W3 : ℕ → List ℕ → Bool
W3 n [] = true
W3 n (h ∷ hs) = nat_lt (start_index h) (run_end n hs) && W3 n hs

-- W4: prefix sums strictly rise (each is at least `low`, one more than the one before), the last above 0x10FFFF
unfoldable pub W4 : ℕ → List ℕ → Bool
W4 low [] = nat_lt 0x110000 low
W4 low (h ∷ hs) = nat_le low (prefix_sum h) && W4 (prefix_sum h + 1) hs

-- W5: at the last offset of each run, the previous sum plus all its offsets but the last (`at`) is at most its own sum
unfoldable pub W5 : ℕ → ℕ → ℕ → List ℕ → List ℕ → Bool
W5 n i at hs [] = true
W5 n i at [] (o ∷ os) = true
W5 n i at (h ∷ hs) (o ∷ os) =
    cond (i + 1 == run_end n hs)
    (nat_le at (prefix_sum h) && W5 n (i + 1) (prefix_sum h) hs os)
    (W5 n (i + 1) (at + o) (h ∷ hs) os)

-- the rule of the first of five tests that fails
unfoldable pub lowest_of : Bool → Bool → Bool → Bool → Bool → Option Rule
lowest_of false b c d e = Some rule.W1
lowest_of true false c d e = Some rule.W2
lowest_of true true false d e = Some rule.W3
lowest_of true true true false e = Some rule.W4
lowest_of true true true true false = Some rule.W5
lowest_of true true true true true = None

-- the lowest broken rule
abbrev pub broken : List ℕ → List ℕ → Option Rule
broken hs os = lowest_of (W1 hs os) (W2 hs) (W3 (length os) hs) (W4 0 hs) (W5 (length os) 0 0 hs os)
