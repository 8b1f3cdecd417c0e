-- One turn of each loop of the packer: what is left at a place, in terms of the next place. Assumes nothing.
use Prim.Native.Nat.{ℕ, suc, ◌+◌, ◌-◌, ◌%◌, ◌<◌, ◌≤◌}
use mathlib.Core.Path.{◌≡◌, ◌∙◌, refl, ap, subst}
use mathlib.Core.List.{List, [], ◌∷◌}
use native.Mathlib.Omega.{arith}
use borrow.Author.Tests.{le-leb, lt-leb}
use lib.ListN.{length, get_or, drop}
use Rattle.sets.proofs.Places.{from, gone}
use Rattle.pack.proofs.Store.{over_more, over_last}
use Rattle.pack.specs.Places.{edges_from, InOrder, runs_of}
use Rattle.pack.specs.Packing.{small, word, offsets_of, headers_of}

module _ (l : List ℕ) (j : ℕ) where
  pub edges_here : j < length l → edges_from j (drop j l) ≡ (get_or l j 0 + j % 2) ∷ edges_from (j + 1) (drop (j + 1) l)
  unfolding edges_from
  edges_here h = ap (edges_from j) (from l j h)

  pub edges_gone : length l ≤ j → edges_from j (drop j l) ≡ []
  unfolding edges_from
  edges_gone h = ap (edges_from j) (gone l j h)

  order_cons : (p b : ℕ) (bs : List ℕ) → InOrder p (b ∷ bs) → (p ≤ b) × (b ≤ 0x110000) × InOrder b bs
  unfolding InOrder
  order_cons p b bs r = r

  pub order_here : (p : ℕ) → j < length l → InOrder p (edges_from j (drop j l))
      → (p ≤ get_or l j 0 + j % 2) × (get_or l j 0 + j % 2 ≤ 0x110000) × InOrder (get_or l j 0 + j % 2) (edges_from (j + 1) (drop (j + 1) l))
  order_here p h r = order_cons p _ _ (subst (InOrder p) (edges_here h) r)

module _ (p b : ℕ) (bs : List ℕ) where
  pub runs_small : b - p ≤ 255 → runs_of p (b ∷ bs) ≡ runs_of b bs
  unfolding runs_of
  runs_small h = simp (le-leb _ _ h)

  pub runs_large : 255 < b - p → runs_of p (b ∷ bs) ≡ suc (runs_of b bs)
  unfolding runs_of
  runs_large h = simp (lt-leb _ _ h)

  pub headers_small : (i s : ℕ) → b - p ≤ 255 → headers_of i s p (b ∷ bs) ≡ headers_of (i + 1) s b bs
  unfolding headers_of
  headers_small i s h = simp (le-leb _ _ h)

  pub headers_large : (i s : ℕ) → 255 < b - p → headers_of i s p (b ∷ bs) ≡ word s b ∷ headers_of (i + 1) (i + 1) b bs
  unfolding headers_of
  headers_large i s h = simp (lt-leb _ _ h)

  pub offsets_cons : offsets_of p (b ∷ bs) ≡ small (b - p) ∷ offsets_of b bs
  unfolding offsets_of
  offsets_cons = refl

pub runs_end : (p : ℕ) → runs_of p [] ≡ 1
unfolding runs_of
runs_end p = refl

pub offsets_end : (p : ℕ) → offsets_of p [] ≡ 0 ∷ []
unfolding offsets_of
offsets_end p = refl

pub headers_end : (i s p : ℕ) → headers_of i s p [] ≡ word s 0x1FFFFF ∷ []
unfolding headers_of
headers_end i s p = refl

-- the same of the boundaries of a list from place j on, after boundary p
module _ (p : ℕ) (l : List ℕ) (j : ℕ) where
  pub order_low : j < length l → InOrder p (edges_from j (drop j l)) → p ≤ get_or l j 0 + j % 2
  order_low h r = (order_here l j p h r).0

  pub order_high : j < length l → InOrder p (edges_from j (drop j l)) → get_or l j 0 + j % 2 ≤ 0x110000
  order_high h r = (order_here l j p h r).1

  pub order_next : j < length l → InOrder p (edges_from j (drop j l)) → InOrder (get_or l j 0 + j % 2) (edges_from (j + 1) (drop (j + 1) l))
  order_next h r = (order_here l j p h r).2

  pub runs_same : j < length l → get_or l j 0 + j % 2 - p ≤ 255
      → runs_of p (edges_from j (drop j l)) ≡ runs_of (get_or l j 0 + j % 2) (edges_from (j + 1) (drop (j + 1) l))
  runs_same h g = ap (runs_of p) (edges_here l j h) ∙ runs_small p _ _ g

  pub runs_more : j < length l → 255 < get_or l j 0 + j % 2 - p
      → runs_of p (edges_from j (drop j l)) ≡ 1 + runs_of (get_or l j 0 + j % 2) (edges_from (j + 1) (drop (j + 1) l))
  runs_more h g = ap (runs_of p) (edges_here l j h) ∙ runs_large p _ _ g ∙ omega arith

  pub runs_last : length l ≤ j → runs_of p (edges_from j (drop j l)) ≡ 1
  runs_last h = ap (runs_of p) (edges_gone l j h) ∙ runs_end p

  pub offsets_more : j < length l
      → offsets_of p (edges_from j (drop j l)) ≡ small (get_or l j 0 + j % 2 - p) ∷ offsets_of (get_or l j 0 + j % 2) (edges_from (j + 1) (drop (j + 1) l))
  offsets_more h = ap (offsets_of p) (edges_here l j h) ∙ offsets_cons p _ _

  pub offsets_last : length l ≤ j → offsets_of p (edges_from j (drop j l)) ≡ 0 ∷ []
  offsets_last h = ap (offsets_of p) (edges_gone l j h) ∙ offsets_end p

  module _ (s : ℕ) where
    pub headers_same : j < length l → get_or l j 0 + j % 2 - p ≤ 255
        → headers_of j s p (edges_from j (drop j l)) ≡ headers_of (j + 1) s (get_or l j 0 + j % 2) (edges_from (j + 1) (drop (j + 1) l))
    headers_same h g = ap (headers_of j s p) (edges_here l j h) ∙ headers_small p _ _ j s g

    pub headers_more : j < length l → 255 < get_or l j 0 + j % 2 - p
        → headers_of j s p (edges_from j (drop j l))
        ≡ word s (get_or l j 0 + j % 2) ∷ headers_of (j + 1) (j + 1) (get_or l j 0 + j % 2) (edges_from (j + 1) (drop (j + 1) l))
    headers_more h g = ap (headers_of j s p) (edges_here l j h) ∙ headers_large p _ _ j s g

    pub headers_last : length l ≤ j → headers_of j s p (edges_from j (drop j l)) ≡ word s 0x1FFFFF ∷ []
    headers_last h = ap (headers_of j s p) (edges_gone l j h) ∙ headers_end j s p

pub offsets_length : (p : ℕ) (bs : List ℕ) → length (offsets_of p bs) ≡ length bs + 1
unfolding offsets_of
offsets_length p [] = refl
offsets_length p (b ∷ bs) = omega (arith, offsets_length b bs)

-- what the proof of each loop cites
pub ruleset runs_turns = (order_low, order_high, order_next, runs_same, runs_more, runs_last)

pub ruleset offsets_turns = (order_low, order_high, order_next, offsets_more, offsets_last, over_more, over_last)

pub ruleset headers_turns = (order_low, order_high, order_next, headers_same, headers_more, headers_last, over_more, over_last)

pub places_length : (j : ℕ) (l : List ℕ) → length (edges_from j l) ≡ length l
unfolding edges_from
places_length j [] = refl
places_length j (x ∷ l) = ap suc (places_length (j + 1) l)
