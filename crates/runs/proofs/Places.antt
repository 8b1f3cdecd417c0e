-- The same by places: what is listed from a pair on, its low bytes from a place on, said of whole lists. Assumes nothing.
use Prim.Native.Nat.{ℕ, ◌+◌, ◌-◌, ◌<◌, ◌≤◌}
use mathlib.Core.Path.{◌≡◌, ◌∙◌, sym, refl}
use mathlib.Core.List.{List}
use mathlib.Core.Bool.{Bool, true, false, ◌&&◌, ◌||◌, cond}
use native.Mathlib.Numerals.{add-one}
use native.Mathlib.Omega.{arith}
use borrow.Author.Tests.{leb-true, leb-false, eq-eqb, ne_eqb}
use lib.ListN.{length, get_or, take, drop, drop_of_length-le, length-drop}
use lib.Seq.{drop-cons, drop-drop, drop-length, take_all}
use lib.Dec.{eqb, leb}
use Rattle.runs.specs.Singletons.{among, listed, up_to}

module _ (low : ℕ) (lows : List ℕ) (i : ℕ) where
  -- the byte looked for stands here
  pub among_here : i < length lows → get_or lows i 0 ≡ low → true ≡ among low (drop i lows)
  unfolding among
  among_here l e = rw (drop-cons lows i 0 l, eq-eqb _ _ e) refl

  -- it does not: it is among the rest, or nowhere
  pub among_on : i < length lows → (get_or lows i 0 ≡ low → ⊥) → among low (drop i lows) ≡ among low (drop (i + 1) lows)
  unfolding among
  among_on l e = rw (add-one i, drop-cons lows i 0 l, ne_eqb _ _ e) refl

  pub among_none : length lows ≤ i → false ≡ among low (drop i lows)
  unfolding among
  among_none l = rw (drop_of_length-le lows l) refl

-- the low bytes of a pair, and those after them, by where they end
module _ (start count : ℕ) (lows : List ℕ) (l : start ≤ length lows) where
  parted : (t : Bool) → leb count (length lows - start) ≡ t
      → (take (cond t (start + count) (length lows) - start) (drop start lows) ≡ take count (drop start lows))
      × (drop (cond t (start + count) (length lows)) lows ≡ drop count (drop start lows))
  parted true e =
      let h = leb-true count (length lows - start) e in
      let k : start + count - start ≡ count = omega arith in
      (rw k refl, sym (drop-drop count start lows))
  parted false e =
      let h = leb-false count (length lows - start) e in
      let n = length-drop start lows in (
        take_all (length lows - start) (drop start lows) (omega arith) ∙ sym (take_all count (drop start lows) (omega arith)),
        drop-length lows ∙ sym (drop_of_length-le (drop start lows) {i = count} (omega arith)),
      )

  part : (take (up_to start count (length lows) - start) (drop start lows) ≡ take count (drop start lows))
      × (drop (up_to start count (length lows)) lows ≡ drop count (drop start lows))
  part = parted (leb count (length lows - start)) refl

-- what the pairs from k on say, their low bytes from `start` on
abbrev pub left : List ℕ → List ℕ → List ℕ → ℕ → ℕ → ℕ → ℕ → Bool
left highs counts lows high low k start = listed (drop k highs) (drop k counts) (drop start lows) high low

module _ (highs counts lows : List ℕ) (high low k start : ℕ) where
  pub no_high : length highs ≤ k → false ≡ left highs counts lows high low k start
  unfolding listed
  no_high l = rw (drop_of_length-le highs l) refl

  pub no_count : k < length highs → length counts ≤ k → false ≡ left highs counts lows high low k start
  unfolding listed
  no_count h l = rw (drop-cons highs k 0 h, drop_of_length-le counts l) refl

  module _ (h : k < length highs) (c : k < length counts) (l : start ≤ length lows) {end : ℕ} (e : end ≡ up_to start (get_or counts k 0) (length lows)) where
    -- a turn: this pair lists the byte pair, or the pairs after it do
    turn : left highs counts lows high low k start
        ≡ (eqb (get_or highs k 0) high && among low (take (end - start) (drop start lows)) || left highs counts lows high low (k + 1) end)
    unfolding listed
    turn =
        let p = part start (get_or counts k 0) lows l in
        rw (e, add-one k, drop-cons highs k 0 h, drop-cons counts k 0 c, p.0, p.1) refl

    pub turn_yes : {b : Bool} → b ≡ (eqb (get_or highs k 0) high && among low (take (end - start) (drop start lows))) → b ≡ true
        → true ≡ left highs counts lows high low k start
    turn_yes p q = rw (turn, ← p, q) refl

    pub turn_no : {b : Bool} → b ≡ (eqb (get_or highs k 0) high && among low (take (end - start) (drop start lows))) → b ≡ false
        → left highs counts lows high low k start ≡ left highs counts lows high low (k + 1) end
    turn_no p q = rw (turn, ← p, q) refl
