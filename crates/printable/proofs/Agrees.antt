-- The tables and Unicode's list say the same of every number. The tables and spans, each expanded to a flat list, are
-- merged to one, which is Unicode's list: one comparison of two lists, and the laws of crate runs. Assumes nothing.
use Prim.Native.Nat.{ℕ, ◌+◌, ◌%◌, ◌<◌, ◌≤◌}
use mathlib.Core.Path.{◌≡◌, ◌∙◌, sym, refl, ap}
use mathlib.Core.List.{List, [], ◌∷◌}
use mathlib.Core.Bool.{Bool, true, false, cond, not, ◌||◌, or-false}
use mathlib.Core.Logic.{inl, inr, ⊎_elim}
use native.Mathlib.Omega.{arith}
use borrow.Author.Tests.{lt-ltb, le-ltb, le-leb, lt-leb}
use lib.ListN.{drop}
use lib.Dec.{leb, ltb}
use Rattle.scalar.specs.Scalars.{between}
use Rattle.sets.specs.Lists.{holds, edges}
use Rattle.sets.proofs.Decide.{split}
use Rattle.sets.proofs.Members.{rising}
use Rattle.runs.specs.Lengths.{lengths}
use Rattle.runs.proofs.Boundaries.{sums}
use Rattle.runs.proofs.Points.{points, singles, bytes}
use Rattle.runs.proofs.Unions.{before, merge, join_on, join, merge_holds, join_holds}
use Rattle.runs.proofs.Spans.{shift, ranges, within, shift_holds, none_outside}
use Rattle.runs.proofs.Flat.{gaps, flat, flat_holds}
use Rattle.printable.specs.Table.{singletons0_high, singletons0_count, singletons0_low, normal0, singletons1_high, singletons1_count, singletons1_low, normal1}
use Rattle.printable.specs.Unicode.{unprintable}
use Rattle.printable.specs.Printable.{spans, in_spans, plane0, plane1, by_tables}

abbrev list0 : List ℕ
list0 = flat singletons0_high singletons0_count singletons0_low normal0

abbrev list1 : List ℕ
list1 = flat singletons1_high singletons1_count singletons1_low normal1

abbrev moved1 : List ℕ
moved1 = shift 0x10000 list1

-- the comparison
same : join (merge list0 (merge moved1 (ranges spans))) ≡ unprintable
unfolding lengths sums points singles before merge join_on join shift ranges singletons0_high singletons0_count singletons0_low normal0 singletons1_high singletons1_count singletons1_low normal1 spans unprintable
same = refl

-- the tests on the tables
low0 : bytes singletons0_low ≡ true
unfolding bytes singletons0_low
low0 = refl

low1 : bytes singletons1_low ≡ true
unfolding bytes singletons1_low
low1 = refl

paired0 : edges (gaps normal0) ≡ sums 0 (lengths normal0)
unfolding edges ranges sums lengths normal0
paired0 = refl

paired1 : edges (gaps normal1) ≡ sums 0 (lengths normal1)
unfolding edges ranges sums lengths normal1
paired1 = refl

rises0 : rising 0 (edges (gaps normal0)) ≡ true
unfolding rising edges ranges sums lengths normal0
rises0 = refl

rises1 : rising 0 (edges (gaps normal1)) ≡ true
unfolding rising edges ranges sums lengths normal1
rises1 = refl

-- where each part lies
within0 : within 0 0x10000 list0 ≡ true
unfolding within lengths sums points singles before merge ranges singletons0_high singletons0_count singletons0_low normal0
within0 = refl

within1 : within 0x10000 0x20000 moved1 ≡ true
unfolding within shift lengths sums points singles before merge ranges singletons1_high singletons1_count singletons1_low normal1
within1 = refl

within2 : within 0x20000 0x110000 (ranges spans) ≡ true
unfolding within ranges spans
within2 = refl

within_rest : within 0x7F 0x110000 (drop 2 unprintable) ≡ true
unfolding within unprintable
within_rest = refl

edged : edges (ranges spans) ≡ spans
unfolding edges ranges spans
edged = refl

module _ (x : ℕ) where
  half_open : (last : ℕ) → ltb x (last + 1) ≡ leb x last
  half_open last =
      ⊎_elim
      (λ h. let k : x < last + 1 = omega arith in rw (le-leb x last h, lt-ltb x (last + 1) k) refl)
      (λ h. let k : last + 1 ≤ x = omega arith in rw (lt-leb x last h, le-ltb x (last + 1) k) refl)
      (split x last)

  -- half-open spans are the edges of a flat list
  spans_hold : (l : List ℕ) → in_spans (edges l) x ≡ holds l x
  unfolding in_spans edges holds
  spans_hold [] = refl
  spans_hold (a ∷ []) = refl
  spans_hold (a ∷ (b ∷ l)) = rw (half_open b, spans_hold l) refl

  union : holds unprintable x ≡ (holds list0 x || (holds moved1 x || holds (ranges spans) x))
  union =
      ap (λ (l : List ℕ). holds l x) (sym same) ∙ join_holds x (merge list0 (merge moved1 (ranges spans)))
      ∙ merge_holds x list0 (merge moved1 (ranges spans))
      ∙ ap (λ (t : Bool). holds list0 x || t) (merge_holds x moved1 (ranges spans))

  opens : holds unprintable x ≡ (between 0 0x1F x || holds (drop 2 unprintable) x)
  unfolding holds unprintable
  opens = refl

  low_no : x < 32 → false ≡ not (holds unprintable x)
  low_no h =
      let k : x ≤ 0x1F = omega arith in
      let z : 0 ≤ x = omega arith in
      rw (opens, le-leb 0 x z, le-leb x 0x1F k) refl

  ascii_yes : 32 ≤ x → x < 127 → true ≡ not (holds unprintable x)
  ascii_yes h k =
      let m : 0x1F < x = omega arith in
      let z : 0 ≤ x = omega arith in
      rw (opens, le-leb 0 x z, lt-leb x 0x1F m, none_outside x 0x7F 0x110000 (inl k) (drop 2 unprintable) within_rest) refl

  in_plane0 : x < 0x10000 → plane0 (x % 0x10000) ≡ not (holds unprintable x)
  in_plane0 h =
      let e : x % 0x10000 ≡ x = omega arith in
      let k : x < 0x20000 = omega arith in
      rw (e, union, none_outside x 0x10000 0x20000 (inl h) moved1 within1, none_outside x 0x20000 0x110000 (inl k) (ranges spans) within2, or-false (holds list0 x))
      (flat_holds singletons0_high singletons0_count singletons0_low normal0 low0 paired0 rises0 x)

  in_plane1 : 0x10000 ≤ x → x < 0x20000 → plane1 (x % 0x10000) ≡ not (holds unprintable x)
  in_plane1 h k =
      let y = x % 0x10000 in
      let e : 0x10000 + y ≡ x = omega arith in
      let m = rw e at (shift_holds 0x10000 y list1) in
      rw (union, none_outside x 0 0x10000 (inr h) list0 within0, none_outside x 0x20000 0x110000 (inl k) (ranges spans) within2, or-false (holds moved1 x), m)
      (flat_holds singletons1_high singletons1_count singletons1_low normal1 low1 paired1 rises1 y)

  in_spans_lem : 0x20000 ≤ x → not (in_spans spans x) ≡ not (holds unprintable x)
  in_spans_lem h =
      let k : 0x10000 ≤ x = omega arith in
      rw (union, none_outside x 0 0x10000 (inr k) list0 within0, none_outside x 0x10000 0x20000 (inr h) moved1 within1)
      (ap not (rw edged at (spans_hold (ranges spans))))

  test : (k : ℕ) (p q : Bool) {r : Bool} → (x < k → p ≡ r) → (k ≤ x → q ≡ r) → cond (ltb x k) p q ≡ r
  test k p q f g = ⊎_elim (λ h. rw (le-ltb x k h) (g h)) (λ h. rw (lt-ltb x k h) (f h)) (split k x)

  pub agrees : by_tables x ≡ not (holds unprintable x)
  unfolding by_tables
  agrees =
      test 32 _ _ low_no
      (λ a. test 127 _ _ (ascii_yes a) (λ b. test 0x10000 _ _ in_plane0 (λ c. test 0x20000 _ _ (in_plane1 c) in_spans_lem)))
