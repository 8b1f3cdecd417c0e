-- One turn of each loop over a list's ranges: what a list says, in terms of its first pair and what is left. Assumes nothing.
use Rattle.std.specs.Prelude.{◌≡◌, ℕ, ◌+◌, ◌-◌, ◌<◌, ◌≤◌, true, false, ◌&&◌, leb, List, [], ◌∷◌, length, get_or}
use mathlib.Core.Path.{refl}
use native.Mathlib.Omega.{arith}
use borrow.Author.Tests.{leb-true}
use lib.ListN.{take, drop}
use Rattle.std.proofs.Math.Seq.{take-length}
use Rattle.scalar.specs.Scalars.{between}
use Rattle.sets.specs.Lists.{fits, bad_at, holds}
use Rattle.std.proofs.lemmas.Bool.{and_parts}

-- what a range that fits says
pub fits_says : (low a b : ℕ) → fits low a b ≡ true → (low ≤ a) × (a ≤ b) × (b ≤ 0x10FFFF)
fits_says low a b h =
    let front = (and_parts (leb low a && leb a b) (leb b 0x10FFFF) h).0 in (
      leb-true low a (and_parts (leb low a) (leb a b) front).0,
      leb-true a b (and_parts (leb low a) (leb a b) front).1,
      leb-true b 0x10FFFF (and_parts (leb low a && leb a b) (leb b 0x10FFFF) h).1,
    )

-- what is left of a list after its first pair, as a slice pattern gives it
abbrev pub left : List ℕ → List ℕ
left l = take (length l - 2) (drop 2 l)

left_pair : (a b : ℕ) (l : List ℕ) → left (a ∷ (b ∷ l)) ≡ l
left_pair a b l = let e : length (a ∷ (b ∷ l)) - 2 ≡ length l = omega arith in rw e (take-length l)

module _ (i low : ℕ) where
  pub bad_on : (l : List ℕ) → 2 ≤ length l → fits low (get_or l 0 0) (get_or l 1 0) ≡ true
      → bad_at i low l ≡ bad_at (i + 1) (get_or l 1 0 + 2) (left l)
  unfolding bad_at
  bad_on [] h t = absurd (omega arith)
  bad_on (a ∷ []) h t = absurd (omega arith)
  bad_on (a ∷ (b ∷ l)) h t = rw (left_pair a b l, t) refl

  pub bad_here : (l : List ℕ) → 2 ≤ length l → fits low (get_or l 0 0) (get_or l 1 0) ≡ false → bad_at i low l ≡ i
  unfolding bad_at
  bad_here [] h t = absurd (omega arith)
  bad_here (a ∷ []) h t = absurd (omega arith)
  bad_here (a ∷ (b ∷ l)) h t = rw t refl

  pub bad_end : (l : List ℕ) → length l < 2 → bad_at i low l ≡ i
  unfolding bad_at
  bad_end [] h = refl
  bad_end (a ∷ []) h = refl
  bad_end (a ∷ (b ∷ l)) h = absurd (omega arith)

module _ (x : ℕ) where
  pub holds_here : (l : List ℕ) → 2 ≤ length l → between (get_or l 0 0) (get_or l 1 0) x ≡ true → holds l x ≡ true
  unfolding holds
  holds_here [] h t = absurd (omega arith)
  holds_here (a ∷ []) h t = absurd (omega arith)
  holds_here (a ∷ (b ∷ l)) h t = rw t refl

  pub holds_on : (l : List ℕ) → 2 ≤ length l → between (get_or l 0 0) (get_or l 1 0) x ≡ false → holds l x ≡ holds (left l) x
  unfolding holds
  holds_on [] h t = absurd (omega arith)
  holds_on (a ∷ []) h t = absurd (omega arith)
  holds_on (a ∷ (b ∷ l)) h t = rw (left_pair a b l, t) refl

  pub holds_end : (l : List ℕ) → length l < 2 → holds l x ≡ false
  unfolding holds
  holds_end [] h = refl
  holds_end (a ∷ []) h = refl
  holds_end (a ∷ (b ∷ l)) h = absurd (omega arith)
