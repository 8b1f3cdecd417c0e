-- The row that halving finds decides what the rows say: no other row holds the number, so it is the first that fits, or
-- none does. Assumes nothing.
use Rattle.std.proofs.Common.{◌≡◌, ℕ, zero, suc, ◌<◌, Bool, true, false, ◌&&◌, eqb, List, [], ◌∷◌, length, get_or, refl, ap, ◌∙◌, ⊎_elim, arith, ne_eqb, eqb-true, le-leb}
use Rattle.scalar.specs.Scalars.{between}
use Rattle.std.proofs.lemmas.Bool.{and_left, and_parts, cases_eq}
use Rattle.casing.specs.declared.Mapping.{Mapping}
use Rattle.casing.specs.Answers.{made}
use Rattle.casing.specs.Rows.{Row, zip, first_row, covers, moved, in_plane, in_plane_or0, single, multiple, apart, tidy_singles, tidy_multis}
use Rattle.casing.proofs.Sorted.{Only, apart_length}

-- past a list's end
abbrev pub empty : Row
empty = (0, 0, 0, 0)

module _ (fits : Row → Bool) (says : Row → Mapping) (other : Mapping) where
  pub no_row : (qs : List Row) → ((j : ℕ) → j < length qs → fits (get_or qs j empty) ≡ false) → first_row fits says qs other ≡ other
  unfolding first_row
  no_row [] miss = refl
  no_row (q ∷ qs) miss = rw (miss 0 (omega arith)) (no_row qs (λ j l. miss (suc j) (omega arith)))

  pub one_row : (qs : List Row) (r : ℕ) → r < length qs → fits (get_or qs r empty) ≡ true
      → ((j : ℕ) → j < length qs → (j ≡ r → ⊥) → fits (get_or qs j empty) ≡ false) → first_row fits says qs other ≡ says (get_or qs r empty)
  unfolding first_row
  one_row [] r l hit miss = absurd (omega arith)
  one_row (q ∷ qs) zero l hit miss = rw hit refl
  one_row (q ∷ qs) (suc r) l hit miss =
      rw (miss 0 (omega arith) (λ e. omega arith)) (one_row qs r (omega arith) hit (λ j k ne. miss (suc j) (omega arith) (λ e. ne (omega arith))))

-- lists with a number for each row
pub record Even (ks ls ms os : List ℕ) : Type 0 where
  pub second : length ls ≡ length ks
  pub third : length ms ≡ length ks
  pub fourth : length os ≡ length ks

pub zip_length : (ks ls ms os : List ℕ) → Even ks ls ms os → length (zip ks ls ms os) ≡ length ks
unfolding zip
zip_length [] ls ms os e = refl
zip_length (k ∷ ks) [] ms os e = absurd (omega (arith, e.second))
zip_length (k ∷ ks) (l ∷ ls) [] os e = absurd (omega (arith, e.third))
zip_length (k ∷ ks) (l ∷ ls) (m ∷ ms) [] e = absurd (omega (arith, e.fourth))
zip_length (k ∷ ks) (l ∷ ls) (m ∷ ms) (o ∷ os) e =
    rw (zip_length ks ls ms os (record { second = omega (arith, e.second); third = omega (arith, e.third); fourth = omega (arith, e.fourth) })) refl

pub zip_at : (ks ls ms os : List ℕ) → Even ks ls ms os → (j : ℕ) → j < length ks
    → get_or (zip ks ls ms os) j empty ≡ (get_or ks j 0, get_or ls j 0, get_or ms j 0, get_or os j 0)
unfolding zip
zip_at [] ls ms os e j h = absurd (omega arith)
zip_at (k ∷ ks) [] ms os e j h = absurd (omega (arith, e.second))
zip_at (k ∷ ks) (l ∷ ls) [] os e j h = absurd (omega (arith, e.third))
zip_at (k ∷ ks) (l ∷ ls) (m ∷ ms) [] e j h = absurd (omega (arith, e.fourth))
zip_at (k ∷ ks) (l ∷ ls) (m ∷ ms) (o ∷ os) e zero h = refl
zip_at (k ∷ ks) (l ∷ ls) (m ∷ ms) (o ∷ os) e (suc j) h =
    zip_at ks ls ms os (record { second = omega (arith, e.second); third = omega (arith, e.third); fourth = omega (arith, e.fourth) }) j (omega arith)

module _ (ks ls ms os : List ℕ) (e : Even ks ls ms os) (fits : Row → Bool) (says : Row → Mapping) (other : Mapping) (r : ℕ)
    (miss : (j : ℕ) → j < length ks → (j ≡ r → ⊥) → fits (get_or ks j 0, get_or ls j 0, get_or ms j 0, get_or os j 0) ≡ false) where
  found : r < length ks → fits (get_or ks r 0, get_or ls r 0, get_or ms r 0, get_or os r 0) ≡ true
      → first_row fits says (zip ks ls ms os) other ≡ says (get_or ks r 0, get_or ls r 0, get_or ms r 0, get_or os r 0)
  found l hit =
      let n = zip_length ks ls ms os e in
      one_row fits says other (zip ks ls ms os) r (omega arith) (ap fits (zip_at ks ls ms os e r l) ∙ hit)
      (λ j k ne. let h : j < length ks = omega arith in ap fits (zip_at ks ls ms os e j h) ∙ miss j h ne)
      ∙ ap says (zip_at ks ls ms os e r l)

  missed : (r < length ks → fits (get_or ks r 0, get_or ls r 0, get_or ms r 0, get_or os r 0) ≡ false)
      → first_row fits says (zip ks ls ms os) other ≡ other
  missed not-it =
      let n = zip_length ks ls ms os e in
      no_row fits says other (zip ks ls ms os)
      (λ j k. let h : j < length ks = omega arith in ap fits (zip_at ks ls ms os e j h) ∙ ⊎_elim (λ i. rw i (not-it (omega arith))) (λ ne. miss j h ne) (cases_eq j r))

pub singles_parts : (starts ends steps deltas : List ℕ) → tidy_singles starts ends steps deltas ≡ true
    → (apart 0 starts ends ≡ true) × Even starts ends steps deltas
unfolding tidy_singles
singles_parts starts ends steps deltas t =
    let a = apart 0 starts ends in
    let b = eqb (length steps) (length starts) in
    let d = eqb (length deltas) (length starts) in
    let u = (and_parts (a && b) d t).0 in
    let v = (and_parts a b u).0 in
    (v, record { second = apart_length 0 starts ends v; third = eqb-true _ _ (and_parts a b u).1; fourth = eqb-true _ _ (and_parts (a && b) d t).1 })

pub multis_parts : (multi first second third : List ℕ) → tidy_multis multi first second third ≡ true
    → (apart 0 multi multi ≡ true) × Even multi first second third
unfolding tidy_multis
multis_parts multi first second third t =
    let a = apart 0 multi multi in
    let b = eqb (length first) (length multi) in
    let c = eqb (length second) (length multi) in
    let d = eqb (length third) (length multi) in
    let u = (and_parts (a && b && c) d t).0 in
    let v = (and_parts (a && b) c u).0 in (
      (and_parts a b v).0,
      record { second = eqb-true _ _ (and_parts a b v).1; third = eqb-true _ _ (and_parts (a && b) c u).1; fourth = eqb-true _ _ (and_parts (a && b && c) d t).1 },
    )

module _ (starts ends steps deltas : List ℕ) (plane x : ℕ) (other : Mapping) (t : tidy_singles starts ends steps deltas ≡ true) where
  module _ (r : ℕ) (o : Only starts ends x r) where
    pub single_found : r < length starts → covers (get_or starts r 0) (get_or ends r 0) (get_or steps r 0) x ≡ true
        → single (zip starts ends steps deltas) plane x other ≡ made (moved plane x (get_or deltas r 0)) 0 0
    unfolding single
    single_found l hit =
        found starts ends steps deltas (singles_parts starts ends steps deltas t).1 (λ q. covers q.0 q.1 q.2 x) (λ q. made (moved plane x q.3) 0 0) other r
        (λ j k ne. and_left _ _ (o.others j k ne)) l hit

    pub single_missed : (r < length starts → covers (get_or starts r 0) (get_or ends r 0) (get_or steps r 0) x ≡ false)
        → single (zip starts ends steps deltas) plane x other ≡ other
    unfolding single
    single_missed not-it =
        missed starts ends steps deltas (singles_parts starts ends steps deltas t).1 (λ q. covers q.0 q.1 q.2 x) (λ q. made (moved plane x q.3) 0 0) other r
        (λ j k ne. and_left _ _ (o.others j k ne)) not-it

-- a row that starts and ends at k holds k alone
alone : (k x : ℕ) → between k k x ≡ false → eqb k x ≡ false
alone k x h = ne_eqb k x (λ e. let z : between k k x ≡ true = rw (le-leb k x (omega arith), le-leb x k (omega arith)) refl in
    let f : ◌≡◌ {A = ℕ} 0 1 = cc in omega arith)

module _ (multi first second third : List ℕ) (plane x : ℕ) (other : Mapping) (t : tidy_multis multi first second third ≡ true) where
  module _ (r : ℕ) (o : Only multi multi x r) where
    pub multi_missed : (r < length multi → get_or multi r 0 ≡ x → ⊥) → multiple (zip multi first second third) plane x other ≡ other
    unfolding multiple
    multi_missed not-it =
        missed multi first second third (multis_parts multi first second third t).1 (λ q. eqb q.0 x)
        (λ q. made (in_plane plane q.1) (in_plane_or0 plane q.2) (in_plane_or0 plane q.3)) other r
        (λ j k ne. alone (get_or multi j 0) x (o.others j k ne)) (λ l. ne_eqb (get_or multi r 0) x (not-it l))
