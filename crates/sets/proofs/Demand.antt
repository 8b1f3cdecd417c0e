-- The lists of demand 3's words are exactly those that pass 3, 4 and 5: range by range along the list, the bound that
-- the test carries is two above the last before. And the plain search finds exactly the numbers that some range holds.
-- Assumes nothing.
use Rattle.std.specs.Prelude.{◌≡◌, ℕ, zero, suc, ◌+◌, ◌*◌, ◌%◌, ◌<◌, ◌≤◌, true, leb, ◌↔◌, List, [], ◌∷◌, length}
use mathlib.Core.Path.{refl}
use mathlib.Core.Logic.{⊎_elim}
use native.Mathlib.Numerals.{add-one}
use native.Mathlib.Omega.{arith}
use borrow.Author.Tests.{le-leb, leb-true}
use Rattle.scalar.specs.Scalars.{between}
use Rattle.sets.specs.Lists.{ranges, bad_at, holds}
use Rattle.sets.specs.Orders.{Follows, Under, Bounded}
use Rattle.sets.specs.Demand.{first, last, Listed, Held}
use Rattle.std.proofs.lemmas.Bool.{and_parts, or_cases}
use Rattle.std.proofs.Math.Bool.{or-true}
use Rattle.sets.proofs.Good.{Good, pair_good}

-- range k of what follows the first range is range k + 1 of the list
module _ (a b : ℕ) (l : List ℕ) (k : ℕ) where
  first_on : first (a ∷ (b ∷ l)) (suc k) ≡ first l k
  first_on = let e : 2 * suc k ≡ suc (suc (2 * k)) = omega arith in rw e refl

  last_on : last (a ∷ (b ∷ l)) (suc k) ≡ last l k
  last_on = let e : 2 * suc k + 1 ≡ suc (suc (2 * k + 1)) = omega arith in rw e refl

-- a list with no bad range, range by range
good_range : (i low : ℕ) (l : List ℕ) (k : ℕ) → length l % 2 ≡ 0 → i + ranges l ≤ bad_at i low l → k < ranges l
    → (first l k ≤ last l k) × (last l k ≤ 0x10FFFF)
good_range i low [] k e h m = absurd (omega arith)
good_range i low (a ∷ []) k e h m = absurd (omega arith)
good_range i low (a ∷ (b ∷ l)) zero e h m = let z = pair_good i low a b l e h in (z.1, z.2)
good_range i low (a ∷ (b ∷ l)) (suc k) e h m =
    let z = pair_good i low a b l e h in
    rw (first_on a b l k, last_on a b l k) (good_range (i + 1) (b + 2) l k (omega arith) z.3 (omega arith))

-- its first range is at least the bound
good_low : (i low : ℕ) (l : List ℕ) → length l % 2 ≡ 0 → i + ranges l ≤ bad_at i low l → 0 < ranges l → low ≤ first l 0
good_low i low [] e h m = absurd (omega arith)
good_low i low (a ∷ []) e h m = absurd (omega arith)
good_low i low (a ∷ (b ∷ l)) e h m = (pair_good i low a b l e h).0

good_apart : (i low : ℕ) (l : List ℕ) (k : ℕ) → length l % 2 ≡ 0 → i + ranges l ≤ bad_at i low l → suc k < ranges l
    → last l k + 1 < first l (suc k)
good_apart i low [] k e h m = absurd (omega arith)
good_apart i low (a ∷ []) k e h m = absurd (omega arith)
good_apart i low (a ∷ (b ∷ l)) zero e h m =
    let z = pair_good i low a b l e h in
    rw (first_on a b l 0) (omega (arith, good_low (i + 1) (b + 2) l (omega arith) z.3 (omega arith)))
good_apart i low (a ∷ (b ∷ l)) (suc k) e h m =
    let z = pair_good i low a b l e h in
    rw (first_on a b l (suc k), last_on a b l k) (good_apart (i + 1) (b + 2) l k (omega arith) z.3 (omega arith))

-- a range that keeps its words is passed
bad_next : (i low a b : ℕ) (l : List ℕ) → low ≤ a → a ≤ b → b ≤ 0x10FFFF → bad_at i low (a ∷ (b ∷ l)) ≡ bad_at (i + 1) (b + 2) l
unfolding bad_at
bad_next i low a b l x y z = rw (le-leb low a x, le-leb a b y, le-leb b 0x10FFFF z) refl

bad_none : (i low : ℕ) → bad_at i low [] ≡ i
unfolding bad_at
bad_none i low = refl

-- so a list whose ranges keep them has no bad one
fine : (i low : ℕ) (l : List ℕ) → length l % 2 ≡ 0 → (0 < ranges l → low ≤ first l 0) → Bounded 0x10FFFF (ranges l) (last l)
    → Under (ranges l) (first l) (last l) → Follows (ranges l) (λ k. last l k + 1) (first l) → i + ranges l ≤ bad_at i low l
fine i low [] e f inside ordered apart = omega (arith, bad_none i low)
fine i low (a ∷ []) e f inside ordered apart = absurd (omega arith)
fine i low (a ∷ (b ∷ l)) e f inside ordered apart =
    let n : ranges (a ∷ (b ∷ l)) ≡ suc (ranges l) = omega arith in
    let z =
    fine (i + 1) (b + 2) l (omega arith)
    (λ m. omega (arith, rw (first_on a b l 0) at (apart 0 (omega arith))))
    (λ k m. rw (last_on a b l k) at (inside (suc k) (omega arith)))
    (λ k m. rw (first_on a b l k, last_on a b l k) at (ordered (suc k) (omega arith)))
    (λ k m. rw (add-one k) (rw (add-one (suc k), first_on a b l (suc k), last_on a b l k) at (apart (suc k) (omega arith))))
    in
    omega (arith, bad_next i low a b l (f (omega arith)) (ordered 0 (omega arith)) (inside 0 (omega arith)))

pub listed_exactly : (l : List ℕ) → Listed l ↔ Good l
listed_exactly l = (
  λ w.
      record {
        even = w.pairs;
        few = w.few;
        fine = omega (arith, fine 0 0 l w.pairs (λ m. omega arith) w.inside w.ordered w.apart);
      },
  λ g.
      let h : 0 + ranges l ≤ bad_at 0 0 l = omega (arith, g.fine) in
      record {
        pairs = g.even;
        few = g.few;
        inside = λ k m. (good_range 0 0 l k g.even h m).1;
        ordered = λ k m. (good_range 0 0 l k g.even h m).0;
        apart = λ k m. rw (add-one k) (good_apart 0 0 l k g.even h (omega arith));
      },
)

-- the test of the plain search says that some range holds the number
module _ (x : ℕ) where
  held_here : (a b : ℕ) (l : List ℕ) → a ≤ x → x ≤ b → holds (a ∷ (b ∷ l)) x ≡ true
  unfolding holds
  held_here a b l h k = rw (le-leb a x h, le-leb x b k) refl

  held_on : (a b : ℕ) (l : List ℕ) → holds l x ≡ true → holds (a ∷ (b ∷ l)) x ≡ true
  unfolding holds
  held_on a b l h = rw h (or-true (between a b x))

  says : (l : List ℕ) → holds l x ≡ true → Held l x
  unfolding holds
  says [] h = let z : ◌≡◌ {A = ℕ} 0 1 = cc in absurd (omega arith)
  says (a ∷ []) h = let z : ◌≡◌ {A = ℕ} 0 1 = cc in absurd (omega arith)
  says (a ∷ (b ∷ l)) h =
      ⊎_elim
      (λ t.
      record {
        index = 0;
        range = omega arith;
        from_first = leb-true a x (and_parts (leb a x) (leb x b) t).0;
        to_last = leb-true x b (and_parts (leb a x) (leb x b) t).1;
      })
      (λ t.
      let z = says l t in
      record {
        index = suc z.index;
        range = omega (arith, z.range);
        from_first = rw (first_on a b l z.index) z.from_first;
        to_last = rw (last_on a b l z.index) z.to_last;
      })
      (or_cases (between a b x) (holds l x) h)

  said : (l : List ℕ) (k : ℕ) → k < ranges l → first l k ≤ x → x ≤ last l k → holds l x ≡ true
  said [] k m h t = absurd (omega arith)
  said (a ∷ []) k m h t = absurd (omega arith)
  said (a ∷ (b ∷ l)) zero m h t = held_here a b l h t
  said (a ∷ (b ∷ l)) (suc k) m h t =
      held_on a b l (said l k (omega arith) (rw (first_on a b l k) at h) (rw (last_on a b l k) at t))

  pub held_exactly : (l : List ℕ) → (holds l x ≡ true) ↔ Held l x
  held_exactly l = (says l, λ w. said l w.index w.range w.from_first w.to_last)
