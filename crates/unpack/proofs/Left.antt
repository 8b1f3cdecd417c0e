-- One turn of the iterator of the numbers: the next boundary, and what is listed. Assumes nothing.
use Rattle.std.specs.Prelude.{◌≡◌, ℕ, ◌+◌, ◌<◌, ◌≤◌, Bool, true, false, not, List, [], ◌∷◌, length, drop}
use mathlib.Core.Path.{◌∙◌, refl, ap}
use native.Mathlib.Omega.{arith}
use borrow.Author.Tests.{le-leb}
use Rattle.skip.specs.Headers.{prefix_sum, run_end}
use Rattle.skip.specs.Table.{walk}
use Rattle.skip.proofs.Meaning.{walk_last, walk_on}
use Rattle.unpack.proofs.Rising.{walk_none, walk_bare}
use Rattle.unpack.proofs.Same.{flow_none, flow_high}
use Rattle.unpack.specs.Flow.{when, leaves, waits, flow, number_of, numbers}

-- a boundary past 0x10FFFF ends the list
pub flow_past : (w : Bool) (p b : ℕ) (bs : List ℕ) → 0x10FFFF < b → flow w p (b ∷ bs) ≡ when w p []
flow_past w p b bs l = flow_high w p b bs l ∙ flow_none w p

-- what is left where no header or no offset is
module _ (n i at : ℕ) (w : Bool) where
  pub left_no_headers : (hs os : List ℕ) → length hs ≡ 0 → flow w at (walk n i at hs os) ≡ when w at []
  left_no_headers [] [] e = rw (walk_none n i at []) (flow_none w at)
  left_no_headers [] (o ∷ os) e = rw (walk_bare n i at o os) (flow_none w at)
  left_no_headers (h ∷ hs) os e = absurd (omega arith)

  pub left_no_offsets : (hs os : List ℕ) → length os ≡ 0 → flow w at (walk n i at hs os) ≡ when w at []
  left_no_offsets hs [] e = rw (walk_none n i at hs) (flow_none w at)
  left_no_offsets hs (o ∷ os) e = absurd (omega arith)

-- the next boundary: the end of a run, or not
module _ (n i at b h o : ℕ) (hs os later rest : List ℕ) (eh : hs ≡ h ∷ later) (eo : os ≡ o ∷ rest) where
  pub step_ends : i + 1 ≡ run_end n (drop 1 hs) → b ≡ prefix_sum h → walk n i at hs os ≡ b ∷ walk n (i + 1) b later rest
  step_ends e eb = rw (eh, eo, eb) (walk_last n i at h o later rest (rw eh at e))

  pub step_on : (i + 1 ≡ run_end n (drop 1 hs) → ⊥) → b ≡ at + o → walk n i at hs os ≡ b ∷ walk n (i + 1) b hs rest
  step_on e eb = rw (eh, eo, eb) (walk_on n i at h o later rest (rw eh at e))

-- the number that is next, where the boundary p is listed, or waits at the end, or a pair is open there; and where none is
module _ (last w : Bool) (p b : ℕ) (bs rest : List ℕ) (e : bs ≡ b ∷ rest) (l : b ≤ 0x10FFFF) where
  meet : flow w p bs ≡ when (leaves w p b) p (flow (waits w (leaves w p b)) b rest)
  unfolding flow
  meet = rw e (simp (le-leb b 0x10FFFF l))

  pub gives_listed : leaves w p b ≡ true → numbers last (flow w p bs) ≡ number_of last p ∷ numbers (not last) (flow (waits w (leaves w p b)) b rest)
  unfolding numbers
  gives_listed t = ap (numbers last) meet ∙ rw t refl

  pub passes_on : leaves w p b ≡ false → numbers last (flow w p bs) ≡ numbers last (flow (waits w (leaves w p b)) b rest)
  passes_on t = ap (numbers last) meet ∙ rw t refl

module _ (last w : Bool) (p : ℕ) (bs : List ℕ) (e : (v : Bool) → flow v p bs ≡ when v p []) where
  pub gives_waiting : w ≡ true → numbers last (flow w p bs) ≡ number_of last p ∷ numbers (not last) (flow false p bs)
  unfolding numbers
  gives_waiting t = rw (t, e true, e false) refl

  pub gives_open : w ≡ false → last ≡ true → numbers last (flow w p bs) ≡ 0x10FFFF ∷ numbers false (flow w p bs)
  unfolding numbers
  gives_open t o = rw (t, o, e false) refl

  pub gives_none : w ≡ false → last ≡ false → numbers last (flow w p bs) ≡ []
  unfolding numbers
  gives_none t o = rw (t, o, e false) refl
