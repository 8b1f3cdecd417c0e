-- Rows that are sorted and disjoint: each start lies above every end before it, so that at most one row holds a number,
-- and the first that does not end below the number is that one. Assumes nothing.
use Rattle.std.proofs.Common.{◌≡◌, ℕ, zero, suc, ◌<◌, ◌≤◌, Bool, true, false, ◌&&◌, leb, List, [], ◌∷◌, length, get_or, refl, ⊎_elim, arith, leb-true}
use borrow.Author.Tests.{lt-leb}
use Rattle.scalar.specs.Scalars.{between}
use Rattle.std.proofs.lemmas.Bool.{and_parts}
use Rattle.sets.proofs.Decide.{split}
use Rattle.casing.specs.Rows.{apart}
use Rattle.casing.specs.Reading.{Halved}

-- no row but r holds x
pub record Only (starts ends : List ℕ) (x r : ℕ) : Type 0 where
  pub inside : r ≤ length starts
  pub others : (j : ℕ) → j < length starts → (j ≡ r → ⊥) → between (get_or starts j 0) (get_or ends j 0) x ≡ false

and_no_right : (s t : Bool) → t ≡ false → (s && t) ≡ false
and_no_right true t p = p
and_no_right false t p = refl

apart_on : (p s e : ℕ) (ss es : List ℕ) → apart p (s ∷ ss) (e ∷ es) ≡ true → (p ≤ s) × (s ≤ e) × (apart (suc e) ss es ≡ true)
unfolding apart
apart_on p s e ss es t =
    let u = (and_parts (leb p s && leb s e) (apart (suc e) ss es) t).0 in (
      leb-true p s (and_parts (leb p s) (leb s e) u).0,
      leb-true s e (and_parts (leb p s) (leb s e) u).1,
      (and_parts (leb p s && leb s e) (apart (suc e) ss es) t).1,
    )

-- what the test says of the row at j: it starts at p or later, it ends where it starts or later, and each row before it ends below its start
pub record At (p : ℕ) (ss es : List ℕ) (j : ℕ) : Type 0 where
  pub from : p ≤ get_or ss j 0
  pub upward : get_or ss j 0 ≤ get_or es j 0
  pub above : (i : ℕ) → i < j → get_or es i 0 < get_or ss j 0

pub apart_length : (p : ℕ) (ss es : List ℕ) → apart p ss es ≡ true → length es ≡ length ss
unfolding apart
apart_length p [] [] t = refl
apart_length p [] (e ∷ es) t = let z : ◌≡◌ {A = ℕ} 0 1 = cc in absurd (omega arith)
apart_length p (s ∷ ss) [] t = let z : ◌≡◌ {A = ℕ} 0 1 = cc in absurd (omega arith)
apart_length p (s ∷ ss) (e ∷ es) t = rw (apart_length (suc e) ss es (apart_on p s e ss es t).2) refl

pub apart_at : (p : ℕ) (ss es : List ℕ) → apart p ss es ≡ true → (j : ℕ) → j < length ss → At p ss es j
unfolding apart
apart_at p [] [] t j l = absurd (omega arith)
apart_at p [] (e ∷ es) t j l = absurd (omega arith)
apart_at p (s ∷ ss) [] t j l = let z : ◌≡◌ {A = ℕ} 0 1 = cc in absurd (omega arith)
apart_at p (s ∷ ss) (e ∷ es) t zero l =
    let u = apart_on p s e ss es t in
    record { from = u.0; upward = u.1; above = λ i k. absurd (omega arith) }
apart_at p (s ∷ ss) (e ∷ es) t (suc j) l =
    let u = apart_on p s e ss es t in
    let y = apart_at (suc e) ss es u.2 j (omega arith) in
    record { from = omega (arith, y.from); upward = y.upward; above = above_too y }
  where
    above_too : At (suc e) ss es j → (i : ℕ) → i < suc j → get_or (e ∷ es) i 0 < get_or (s ∷ ss) (suc j) 0
    above_too y zero k = omega (arith, y.from)
    above_too y (suc i) k = y.above i (omega arith)

module _ (ss es : List ℕ) (x : ℕ) (t : apart 0 ss es ≡ true) where
  pub ends_rise : (i j : ℕ) → i < j → j < length ss → get_or es i 0 < get_or es j 0
  ends_rise i j k l = let y = apart_at 0 ss es t j l in omega (arith, y.above i k, y.upward)

  below : (j : ℕ) → get_or es j 0 < x → between (get_or ss j 0) (get_or es j 0) x ≡ false
  below j l = and_no_right (leb (get_or ss j 0) x) (leb x (get_or es j 0)) (lt-leb x (get_or es j 0) l)

  past : (j : ℕ) → x < get_or ss j 0 → between (get_or ss j 0) (get_or es j 0) x ≡ false
  past j l = rw (lt-leb (get_or ss j 0) x l) refl

  -- where only the rows from first to before last can hold x, the one that halving finds is the only one that can
  module _ (first last : ℕ) (fits : last ≤ length ss)
      (held : (j : ℕ) → j < length ss → between (get_or ss j 0) (get_or es j 0) x ≡ true → (first ≤ j) × (j < last)) where
    unheld : (j : ℕ) → j < length ss → ((first ≤ j) × (j < last) → ⊥) → between (get_or ss j 0) (get_or es j 0) x ≡ false
    unheld j k out = by_test (between (get_or ss j 0) (get_or es j 0) x) refl
      where
        by_test : (t : Bool) → between (get_or ss j 0) (get_or es j 0) x ≡ t → between (get_or ss j 0) (get_or es j 0) x ≡ false
        by_test true e = absurd (out (held j k e))
        by_test false e = e

    pub only : (r : ℕ) → Halved es first last x r → Only ss es x r
    only r h =
        record {
          inside = omega (arith, h.upto);
          others = λ j k ne.
              ⊎_elim
              (λ (o : r ≤ j).
              ⊎_elim
              (λ (l : last ≤ j). unheld j k (λ w. omega (arith, w.1)))
              (λ (l : j < last). let y = apart_at 0 ss es t j k in
              past j (omega (arith, y.above r (omega arith), h.reached (omega arith))))
              (split last j))
              (λ (o : j < r).
              ⊎_elim
              (λ (l : first ≤ j). below j (h.below j l o))
              (λ (l : j < first). unheld j k (λ w. omega (arith, w.0)))
              (split first j))
              (split r j);
        }

    -- past the last there is none
    pub no_last : (r : ℕ) → r ≡ last → r < length ss → between (get_or ss r 0) (get_or es r 0) x ≡ false
    no_last r e k = unheld r k (λ w. omega (arith, w.1))
