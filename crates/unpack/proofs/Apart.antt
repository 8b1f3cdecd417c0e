-- The unpacked list of an accepted table is one that the list check never refuses with 5: the boundaries that are listed
-- climb strictly, so no first is above its last, no last above 0x10FFFF, and at least one number stands between neighbours.
-- Its length is even, so of 3, 4 and 5 only 4 is left. Assumes nothing.
use Rattle.std.specs.Prelude.{◌≡◌, ℕ, ◌+◌, ◌-◌, ◌%◌, ◌≤◌, Bool, true, false, cond, ltb, List, [], ◌∷◌, length, None}
use mathlib.Core.Path.{refl}
use mathlib.Core.Logic.{⊎_elim}
use native.Mathlib.Omega.{arith}
use borrow.Author.Tests.{le-leb, le-ltb, eq-eqb}
use Rattle.scalar.specs.declared.refusal.Refusal.{Refusal}
use Rattle.scalar.specs.declared.refusal.Refusal.TheVariants.{TooManyRanges}
use Rattle.sets.specs.Lists.{ranges, bad_at}
use Rattle.sets.specs.Answers.{list_else}
use Rattle.sets.specs.Demand.{Listed}
use Rattle.std.proofs.lemmas.Bool.{cases_eq}
use Rattle.sets.proofs.Decide.{split}
use Rattle.sets.proofs.Good.{Good}
use Rattle.sets.proofs.Demand.{listed_exactly}
use Rattle.sets.proofs.Members.{rising, rising_on}
use Rattle.skip.specs.Table.{boundaries}
use Rattle.skip.specs.Rules.{broken}
use Rattle.unpack.specs.Unpacking.{kept, unequal, joined, flat, list}
use Rattle.unpack.specs.Flow.{flow}
use Rattle.unpack.proofs.Rising.{boundaries_rise}
use Rattle.unpack.proofs.Same.{drops_none, drops_one, drops_not, joined_from_lem, flow_none, flow_high, flow_free, flow_same, flow_apart, flow_is}

-- boundaries that climb strictly, none below low or above 0x10FFFF
pub data Climbs : ℕ → List ℕ → Type 0 where
  none : {low : ℕ} → Climbs low []
  next : {low b : ℕ} {bs : List ℕ} → low ≤ b → b ≤ 0x10FFFF → Climbs (b + 1) bs → Climbs low (b ∷ bs)

pub climbs_from : (low p : ℕ) (bs : List ℕ) → low ≤ p → Climbs p bs → Climbs low bs
climbs_from low p [] l none = none
climbs_from low p (b ∷ bs) l (next m h z) = let k : low ≤ b = omega arith in next k h z

-- those that the loops list
last_climbs : (w : Bool) (p : ℕ) → p ≤ 0x10FFFF → Climbs p (flow w p [])
last_climbs true p h = let l : p ≤ p = omega arith in rw (flow_none true p) (next l h none)
last_climbs false p h = rw (flow_none false p) none

climbs_on : (w : Bool) (p b : ℕ) (bs : List ℕ) → p ≤ 0x10FFFF → b ≤ 0x10FFFF → p ≤ b → ((v : Bool) → Climbs b (flow v b bs))
    → Climbs p (flow w p (b ∷ bs))
climbs_on false p b bs h k l z = rw (flow_free p b bs k) (climbs_from p b _ l (z true))
climbs_on true p b bs h k l z =
    let m : p ≤ p = omega arith in
    ⊎_elim
    (λ e. rw (flow_same p b bs k e) (climbs_from p b _ l (z false)))
    (λ e. rw (flow_apart p b bs k e) (next m h (climbs_from (p + 1) b _ (omega arith) (z true))))
    (cases_eq p b)

flow_climbs : (bs : List ℕ) (w : Bool) (p : ℕ) → p ≤ 0x10FFFF → rising p bs ≡ true → Climbs p (flow w p bs)
flow_climbs [] w p h r = last_climbs w p h
flow_climbs (b ∷ bs) w p h r =
    let y = rising_on p b bs r in
    ⊎_elim
    (λ k. climbs_on w p b bs h k y.0 (λ v. flow_climbs bs v b k y.1))
    (λ k. rw (flow_high w p b bs k) (last_climbs w p h))
    (split b 0x10FFFF)

-- nothing is dropped of them, or joined
unequal_stays : (low : ℕ) (bs : List ℕ) → Climbs low bs → unequal bs ≡ bs
unequal_stays low [] z = drops_none
unequal_stays low (a ∷ []) z = drops_one a
unequal_stays low (a ∷ (b ∷ bs)) (next l h (next m k z)) =
    rw (drops_not a b bs (λ e. omega arith), unequal_stays (b + 1) bs z) refl

joined_stays : (low : ℕ) (bs : List ℕ) → Climbs low bs → joined bs ≡ bs
joined_stays low [] z = refl
joined_stays low (a ∷ bs) (next l h z) = rw (joined_from_lem a bs, unequal_stays (a + 1) bs z) refl

pub stays : (low : ℕ) (bs : List ℕ) → Climbs low bs → joined (unequal bs) ≡ bs
stays low bs z = rw (unequal_stays low bs z) (joined_stays low bs z)

-- as flat pairs they have no bad range
module _ (i low : ℕ) where
  fine_none : (length (flat []) % 2 ≡ 0) × (bad_at i low (flat []) ≡ i + ranges (flat []))
  unfolding flat bad_at
  fine_none = (refl, omega arith)

  fine_open : (a : ℕ) → low ≤ a → a ≤ 0x10FFFF
      → (length (flat (a ∷ [])) % 2 ≡ 0) × (bad_at i low (flat (a ∷ [])) ≡ i + ranges (flat (a ∷ [])))
  unfolding flat bad_at
  fine_open a l h = (refl, rw (le-leb low a l, le-leb a 0x10FFFF h) refl)

pub flat_pair : (a b : ℕ) (bs : List ℕ) → flat (a ∷ (b ∷ bs)) ≡ a ∷ ((b - 1) ∷ flat bs)
unfolding flat
flat_pair a b bs = refl

bad_on : (i low a b : ℕ) (l : List ℕ) → low ≤ a → a ≤ b → b ≤ 0x10FFFF → bad_at i low (a ∷ (b ∷ l)) ≡ bad_at (i + 1) (b + 2) l
unfolding bad_at
bad_on i low a b l x y z = rw (le-leb low a x, le-leb a b y, le-leb b 0x10FFFF z) refl

flat_fine : (i low : ℕ) (bs : List ℕ) → Climbs low bs → (length (flat bs) % 2 ≡ 0) × (bad_at i low (flat bs) ≡ i + ranges (flat bs))
flat_fine i low [] z = fine_none i low
flat_fine i low (a ∷ []) (next l h z) = fine_open i low a l h
flat_fine i low (a ∷ (b ∷ bs)) (next l h (next m k z)) =
    let e : b - 1 + 2 ≡ b + 1 = omega arith in
    let y = flat_fine (i + 1) (b + 1) bs z in
    rw (flat_pair a b bs)
    (omega arith, rw (bad_on i low a (b - 1) (flat bs) l (omega arith) (omega arith), e) (omega (arith, y.1)))

module _ (hs os : List ℕ) (accepted : broken hs os ≡ None) where
  pub list_climbs : Climbs 0 (joined (unequal (kept (boundaries hs os))))
  list_climbs = rw (flow_is hs os accepted) (flow_climbs (boundaries hs os) false 0 (omega arith) (boundaries_rise hs os accepted))

  -- whole pairs, and none of them is bad: the first bad one would be past the last
  pub unpack_apart : (length (list hs os) % 2 ≡ 0) × (bad_at 0 0 (list hs os) ≡ ranges (list hs os))
  unpack_apart = let z = flat_fine 0 0 _ list_climbs in (z.0, omega (arith, z.1))

  -- so the tests of a list, and the packer's, refuse it 4 or not at all
  pub unpack_checks : {A : Type 0} (refuse : Refusal → A) (good : A)
      → list_else refuse (list hs os) good ≡ cond (ltb 1023 (ranges (list hs os))) (refuse TooManyRanges) good
  unfolding list_else
  unpack_checks refuse good =
      let l = list hs os in
      rw (eq-eqb _ _ unpack_apart.0, le-ltb (bad_at 0 0 l) (ranges l) (omega (arith, unpack_apart.1))) refl

  -- with at most 1,023 ranges it passes them all
  pub unpack_good : ranges (list hs os) ≤ 1023 → Good (list hs os)
  unpack_good few = record { even = unpack_apart.0; few = few; fine = omega (arith, unpack_apart.1) }

  -- and is one of the lists of demand 3, in its own words
  pub unpack_listed : ranges (list hs os) ≤ 1023 → Listed (list hs os)
  unpack_listed few = (listed_exactly (list hs os)).1 (unpack_good few)
