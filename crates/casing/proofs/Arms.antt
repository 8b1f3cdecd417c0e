-- What the default of a `match` over fours of rows, over pages or over multi rows knows: the number is none of the arms'. And the row among the four
-- that hold it. Assumes nothing.
-- A lemma that no proof cites any more stands because docs/PORT.md names it.
use Rattle.std.proofs.Common.{◌≡◌, ℕ, ◌+◌, ◌*◌, ◌/◌, ◌%◌, ◌≤◌, List, [], ◌∷◌, length, get_or, sym, refl, ap, arith, ne_eqb}
use Rattle.std.specs.Prelude.{None}
use lib.ListN.{get_or-eq_default}
use Rattle.sets.proofs.Arms.{NoneBelow, none_below}
use Rattle.casing.specs.declared.Mapping.{Mapping}
use Rattle.casing.specs.Reading.{four_at, page_of}
use Rattle.casing.specs.Rows.{zip, first_row, multiple}

-- past the fours of a list
pub past_four : (l : List ℕ) (i n : ℕ) → length l ≤ n * 4 → NoneBelow n i → 0 ∷ 0 ∷ 0 ∷ 0 ∷ [] ≡ four_at l i
past_four l i n h o =
    let k = none_below n o in
    let gone : (j : ℕ) → n * 4 ≤ j → get_or l j 0 ≡ 0 = λ j g. get_or-eq_default l 0 (omega arith) in
    rw (gone (i * 4) (omega arith), gone (i * 4 + 1) (omega arith), gone (i * 4 + 2) (omega arith), gone (i * 4 + 3) (omega arith)) refl

-- the word at i among the four that hold it
module _ (four : List ℕ) (i : ℕ) (words : List ℕ) (e : four ≡ four_at words (i / 4)) where
  pub first_of : i % 4 ≡ 0 → get_or four 0 0 ≡ get_or words i 0
  first_of m = let z : i / 4 * 4 ≡ i = omega arith in rw z at (ap (λ (f : List ℕ). get_or f 0 0) e)

  pub second_of : i % 4 ≡ 1 → get_or four 1 0 ≡ get_or words i 0
  second_of m = let z : i / 4 * 4 + 1 ≡ i = omega arith in rw z at (ap (λ (f : List ℕ). get_or f 1 0) e)

  pub third_of : i % 4 ≡ 2 → get_or four 2 0 ≡ get_or words i 0
  third_of m = let z : i / 4 * 4 + 2 ≡ i = omega arith in rw z at (ap (λ (f : List ℕ). get_or f 2 0) e)

  pub fourth_of : i % 4 ≡ 3 → get_or four 3 0 ≡ get_or words i 0
  fourth_of m = let z : i / 4 * 4 + 3 ≡ i = omega arith in rw z at (ap (λ (f : List ℕ). get_or f 3 0) e)

-- what the default of the pages knows, over what is known already: x is none of them
unfoldable pub Unlisted : Type 0 → List ℕ → ℕ → Type 0
Unlisted known [] x = known
Unlisted known (p ∷ []) x = known
Unlisted known (p ∷ (a ∷ [])) x = known
Unlisted known (p ∷ (a ∷ (b ∷ l))) x = Unlisted (known × (x ≡ p → ⊥)) l x

unlisted : (known : Type 0) (l : List ℕ) (x : ℕ) → Unlisted known l x → known × (None ≡ page_of l x)
unfolding Unlisted page_of
unlisted known [] x h = (h, refl)
unlisted known (p ∷ []) x h = (h, refl)
unlisted known (p ∷ (a ∷ [])) x h = (h, refl)
unlisted known (p ∷ (a ∷ (b ∷ l))) x h = let u = unlisted (known × (x ≡ p → ⊥)) l x h in (u.0.0, rw (ne_eqb p x (λ e. u.0.1 (sym e))) u.1)

pub no_page : (l : List ℕ) (x : ℕ) → Unlisted Unit l x → None ≡ page_of l x
no_page l x h = (unlisted Unit l x h).1

-- what the default of the multi rows knows, over what is known already: x is none of their numbers
unfoldable pub Unmapped : Type 0 → List ℕ → ℕ → Type 0
Unmapped known [] x = known
Unmapped known (m ∷ ms) x = Unmapped (known × (x ≡ m → ⊥)) ms x

unmapped : (known : Type 0) (ms fs ss ts : List ℕ) (plane x : ℕ) → Unmapped known ms x
    → known × ((other : Mapping) → other ≡ multiple (zip ms fs ss ts) plane x other)
unfolding Unmapped multiple first_row zip
unmapped known [] fs ss ts plane x h = (h, λ other. refl)
unmapped known (m ∷ ms) [] ss ts plane x h = ((unmapped (known × (x ≡ m → ⊥)) ms [] [] [] plane x h).0.0, λ other. refl)
unmapped known (m ∷ ms) (f ∷ fs) [] ts plane x h = ((unmapped (known × (x ≡ m → ⊥)) ms [] [] [] plane x h).0.0, λ other. refl)
unmapped known (m ∷ ms) (f ∷ fs) (s ∷ ss) [] plane x h = ((unmapped (known × (x ≡ m → ⊥)) ms [] [] [] plane x h).0.0, λ other. refl)
unmapped known (m ∷ ms) (f ∷ fs) (s ∷ ss) (t ∷ ts) plane x h =
    let u = unmapped (known × (x ≡ m → ⊥)) ms fs ss ts plane x h in
    (u.0.0, λ other. rw (ne_eqb m x (λ e. u.0.1 (sym e))) (u.1 other))

pub no_multi : (ms fs ss ts : List ℕ) (plane x : ℕ) → Unmapped Unit ms x → (other : Mapping) → other ≡ multiple (zip ms fs ss ts) plane x other
no_multi ms fs ss ts plane x h = (unmapped Unit ms fs ss ts plane x h).1
