-- What stands under the rows: ASCII letters as one row of 26, written out, give what the ASCII functions give; and the four ways
-- through a mapping's code are the four cases of its definition. Assumes nothing.
-- A lemma that no proof cites any more stands because docs/PORT.md names it.
use Rattle.std.proofs.Common.{◌≡◌, ℕ, ◌+◌, ◌-◌, ◌/◌, ◌%◌, ◌<◌, ◌≤◌, Bool, true, false, cond, ◌&&◌, leb, List, [], ◌∷◌, sym, refl, ◌∙◌, ⊎_elim, arith, le-ltb, lt-ltb, eq-eqb, ne_eqb, leb-true}
use Rattle.scalar.specs.Scalars.{between}
use Rattle.std.proofs.lemmas.Bool.{and_parts, cases_eq}
use Rattle.casing.specs.declared.Mapping.{Mapping}
use Rattle.casing.specs.Answers.{made, ascii_lowered, ascii_uppered}
use Rattle.casing.specs.Rows.{Rows, Row, first_row, looked, in_rows, from_floor}
use Rattle.casing.proofs.Expand.{expand_singles, find, find_singles}
use Rattle.casing.proofs.Whole.{made_row}

abbrev pub letters : ℕ → ℕ → ℕ → List Row
letters first last delta = expand_singles 0 ((first, last, 1, delta) ∷ [])

module _ (first last delta n f : ℕ) (moves : between first last n ≡ true → (n + delta) % 65536 ≡ f) where
  by_test : (t : Bool) → between first last n ≡ t
      → cond (t && true) (made (0 + (n + delta) % 65536) 0 0) (made n 0 0) ≡ made (cond t f n) 0 0
  by_test true e = let m = moves e in let z : 0 + (n + delta) % 65536 ≡ f = omega arith in rw z refl
  by_test false e = refl

  letters_map : find n made_row (letters first last delta) (made n 0 0) ≡ made (cond (between first last n) f n) 0 0
  unfolding first_row
  letters_map =
      find_singles n made_row 0 ((first, last, 1, delta) ∷ []) n (made n 0 0) (omega arith) ∙ by_test (between first last n) refl

module _ (n : ℕ) where
  pub lower_letters : find n made_row (letters 0x41 0x5A 0x20) (made n 0 0) ≡ made (ascii_lowered n) 0 0
  lower_letters =
      letters_map 0x41 0x5A 0x20 n (n + 0x20)
      (λ b. let h = leb-true n 0x5A (and_parts (leb 0x41 n) (leb n 0x5A) b).1 in omega arith)

  pub upper_letters : find n made_row (letters 0x61 0x7A 0xFFE0) (made n 0 0) ≡ made (ascii_uppered n) 0 0
  upper_letters =
      letters_map 0x61 0x7A 0xFFE0 n (n - 0x20)
      (λ b.
      let l = leb-true 0x61 n (and_parts (leb 0x61 n) (leb n 0x7A) b).0 in
      let h = leb-true n 0x7A (and_parts (leb 0x61 n) (leb n 0x7A) b).1 in
      omega arith)

module _ (floor : ℕ) (rows0 rows1 : Rows) (n : ℕ) (other : Mapping) where
  pub below_floor : n < floor → other ≡ from_floor floor rows0 rows1 n other
  below_floor l = rw (lt-ltb n floor l) refl

  pub in_plane0 : floor ≤ n → n / 65536 ≡ 0 → looked rows0 0 (n % 65536) other ≡ from_floor floor rows0 rows1 n other
  unfolding in_rows
  in_plane0 l p = rw (le-ltb n floor l, eq-eqb (n / 65536) 0 p) refl

  pub in_plane1 : floor ≤ n → n / 65536 ≡ 1 → looked rows1 1 (n % 65536) other ≡ from_floor floor rows0 rows1 n other
  unfolding in_rows
  in_plane1 l p = let a : n / 65536 ≡ 0 → ⊥ = λ e. omega arith in rw (le-ltb n floor l, ne_eqb (n / 65536) 0 a, eq-eqb (n / 65536) 1 p) refl

  pub past_planes : floor ≤ n → (n / 65536 ≡ 0 → ⊥) → (n / 65536 ≡ 1 → ⊥) → other ≡ from_floor floor rows0 rows1 n other
  unfolding in_rows
  past_planes l p q = rw (le-ltb n floor l, ne_eqb (n / 65536) 0 p, ne_eqb (n / 65536) 1 q) refl

  -- where plane 1 has no rows
  pub past_plane0 : floor ≤ n → (n / 65536 ≡ 0 → ⊥) → looked rows1 1 (n % 65536) other ≡ other → other ≡ from_floor floor rows0 rows1 n other
  past_plane0 l p e =
      ⊎_elim (λ (q : n / 65536 ≡ 1). sym e ∙ in_plane1 l q) (λ q. past_planes l p q) (cases_eq (n / 65536) 1)
