-- What an accepted list gives the packer's loops: its boundaries number by number are its boundaries, they do not fall, and
-- the runs counted are the headers. Assumes nothing.
use Prim.Native.Nat.{ℕ, suc, ◌+◌, ◌-◌, ◌%◌, ◌≤◌}
use mathlib.Core.Path.{◌≡◌, ◌∙◌, sym, refl, ap}
use mathlib.Core.List.{List, [], ◌∷◌}
use mathlib.Core.Logic.{⊎_elim}
use native.Mathlib.Omega.{arith}
use lib.ListN.{length}
use Rattle.sets.specs.Lists.{ranges, bad_at, edges}
use Rattle.sets.proofs.Decide.{split}
use Rattle.sets.proofs.Good.{Good, pair_good}
use Rattle.pack.specs.Places.{edges_from, InOrder, runs_of}
use Rattle.pack.specs.Packing.{headers_of, headers}
use Rattle.pack.proofs.Turns.{runs_small, runs_large, headers_small, headers_large}

-- number by number or pair by pair, the boundaries are the same
same_edges : (j : ℕ) (l : List ℕ) → j % 2 ≡ 0 → length l % 2 ≡ 0 → edges_from j l ≡ edges l
unfolding edges edges_from
same_edges j [] e f = refl
same_edges j (a ∷ []) e f = absurd (omega arith)
same_edges j (a ∷ (b ∷ l)) e f =
    let p : a + j % 2 ≡ a = omega arith in
    let q : b + (j + 1) % 2 ≡ b + 1 = omega arith in
    rw (p, q, same_edges (j + 1 + 1) l (omega arith) (omega arith)) refl

-- a list with no bad range has boundaries in order
in_order : (i low p : ℕ) (l : List ℕ) → p ≤ low → length l % 2 ≡ 0 → i + ranges l ≤ bad_at i low l → InOrder p (edges l)
unfolding edges InOrder
in_order i low p [] m e h = tt
in_order i low p (a ∷ []) m e h = absurd (omega arith)
in_order i low p (a ∷ (b ∷ l)) m e h =
    let z = pair_good i low a b l e h in
    (omega arith, omega arith, (omega arith, omega arith, in_order (i + 1) (b + 2) (b + 1) l (omega arith) (omega arith) z.3))

-- as many headers as runs
runs_length : (i s p : ℕ) (bs : List ℕ) → length (headers_of i s p bs) ≡ runs_of p bs
unfolding headers_of runs_of
runs_length i s p [] = refl
runs_length i s p (b ∷ bs) =
    ⊎_elim
    (λ h. ap length (headers_small p b bs i s h) ∙ runs_length (i + 1) s b bs ∙ sym (runs_small p b bs h))
    (λ h. ap length (headers_large p b bs i s h) ∙ ap suc (runs_length (i + 1) (i + 1) b bs) ∙ sym (runs_large p b bs h))
    (split (b - p) 255)

pub headers_runs : (l : List ℕ) → length (headers l) ≡ runs_of 0 (edges l)
headers_runs l = runs_length 0 0 0 (edges l)

-- so the boundaries of an accepted list are in order, number by number
pub places_in_order : (l : List ℕ) → length l % 2 ≡ 0 → ranges l ≤ bad_at 0 0 l → InOrder 0 (edges_from 0 l)
places_in_order l e f = rw (same_edges 0 l refl e) (in_order 0 0 0 l (omega arith) e (omega (arith, f)))

module _ (l : List ℕ) (g : Good l) where
  pub edges_order : InOrder 0 (edges l)
  edges_order = in_order 0 0 0 l (omega arith) g.even (omega (arith, g.fine))

  pub places_edges : edges_from 0 l ≡ edges l
  places_edges = same_edges 0 l refl g.even

  pub places_runs : runs_of 0 (edges_from 0 l) ≡ length (headers l)
  places_runs = rw places_edges (sym (headers_runs l))

pub ruleset places = (places_edges, places_runs)
