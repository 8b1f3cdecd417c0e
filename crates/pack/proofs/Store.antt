-- The law of a store that serves every writer: a list is written over a buffer from the front, a number at a time. Assumes nothing.
use Prim.Native.Nat.{ℕ, zero, suc, ◌+◌, ◌<◌}
use mathlib.Core.Path.{◌≡◌, ◌∙◌, sym, refl, ap}
use mathlib.Core.List.{List, [], ◌∷◌, ◌++◌}
use native.Mathlib.Numerals.{add-one}
use native.Mathlib.Omega.{arith}
use lib.ListN.{length, drop, take, set, take-append-drop}
use Rattle.sets.specs.Buffers.{over}

-- a number stored at place i: what is to be written from i on is one number less
by_place : (out : List ℕ) (i v : ℕ) (rest : List ℕ) → i < length out
    → take (suc i) (set out i v) ++ over rest (drop (suc i) (set out i v)) ≡ take i out ++ over (v ∷ rest) (drop i out)
by_place [] i v rest l = absurd (omega arith)
by_place (o ∷ out) zero v rest l = refl
by_place (o ∷ out) (suc i) v rest l = ap (λ (s : List ℕ). o ∷ s) (by_place out i v rest (omega arith))

pub over_more : (out : List ℕ) (i v : ℕ) (rest : List ℕ) → i < length out
    → take (i + 1) (set out i v) ++ over rest (drop (i + 1) (set out i v)) ≡ take i out ++ over (v ∷ rest) (drop i out)
over_more out i v rest l = rw add-one (by_place out i v rest l)

-- the last one: nothing is left
pub over_last : (out : List ℕ) (i v : ℕ) → i < length out → set out i v ≡ take i out ++ over (v ∷ []) (drop i out)
over_last out i v l = sym (take-append-drop (i + 1) (set out i v)) ∙ over_more out i v [] l
