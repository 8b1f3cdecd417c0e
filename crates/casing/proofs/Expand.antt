-- Packed rows written out, a row of four numbers for each number that they map, in a form that computes; looking a number up
-- in what is written out gives what the packed rows say. Lists are joined by `merge`, which keeps the order and prefers its
-- first list: a lookup in it is one in the first, and where that has none in the second. Assumes nothing.
use Rattle.std.proofs.Common.{◌≡◌, ℕ, zero, suc, ◌+◌, ◌-◌, ◌%◌, ◌<◌, ◌≤◌, Bool, true, false, cond, not, ◌&&◌, ◌||◌, eqb, ltb, leb, ◌⊎◌, List, [], ◌∷◌, ◌++◌, sym, refl, ap, ◌∙◌, inl, inr, ⊎_elim, arith, ltb-true, eq-eqb, ne_eqb, eqb-true, le-leb, leb-true}
use borrow.Author.Tests.{lt-leb}
use Rattle.std.proofs.lemmas.Bool.{and_parts, cases_eq}
use Rattle.sets.proofs.Decide.{split}
use Rattle.casing.specs.declared.Mapping.{Mapping}
use Rattle.casing.specs.Rows.{Row, first_row, covers}

abbrev pub force : {A : Type 0} → ℕ → (ℕ → A) → A
force zero k = k zero
force (suc n) k = k (suc n)

pub forced : {A : Type 0} (n : ℕ) (k : ℕ → A) → force n k ≡ k n
forced zero k = refl
forced (suc n) k = refl

-- a row's own parity test
abbrev pub meets : ℕ → ℕ → ℕ → Bool
meets s p n = not (eqb p 2) || eqb (n % 2) (s % 2)

-- the k numbers from n on that a row of this start, step and delta covers; b is the plane's first number
unfoldable pub scan : ℕ → ℕ → ℕ → ℕ → ℕ → ℕ → List Row → List Row
scan b s p d zero n rest = rest
scan b s p d (suc k) n rest =
    cond (meets s p n) (force (b + n) (λ x. force (b + (n + d) % 65536) (λ y. (x, y, 0, 0) ∷ scan b s p d k (suc n) rest)))
    (scan b s p d k (suc n) rest)

unfoldable pub expand_singles : ℕ → List Row → List Row
expand_singles b [] = []
expand_singles b (q ∷ qs) = scan b q.0 q.2 q.3 (suc q.1 - q.0) q.0 (expand_singles b qs)

abbrev pub raised : ℕ → ℕ → ℕ
raised b low = cond (eqb low 0) 0 (b + low)

unfoldable pub expand_multis : ℕ → List Row → List Row
expand_multis b [] = []
expand_multis b (q ∷ qs) =
    force (b + q.0) (λ x. force (b + q.1) (λ y. (x, y, raised b q.2, raised b q.3) ∷ expand_multis b qs))

unfoldable pub merge : ℕ → List Row → List Row → List Row
merge zero ps qs = ps ++ qs
merge (suc k) [] qs = qs
merge (suc k) (p ∷ ps) [] = p ∷ ps
merge (suc k) (p ∷ ps) (q ∷ qs) =
    cond (ltb q.0 p.0) (q ∷ merge k (p ∷ ps) qs) (cond (eqb q.0 p.0) (p ∷ merge k ps qs) (p ∷ merge k ps (q ∷ qs)))

-- the rows' first numbers rise, from low on
unfoldable pub rising : ℕ → List Row → Bool
rising low [] = true
rising low (q ∷ qs) = leb low q.0 && rising (suc q.0) qs

-- single rows lie from lo to hi
unfoldable pub spans : ℕ → ℕ → List Row → Bool
spans lo hi [] = true
spans lo hi (q ∷ qs) = leb lo q.0 && (leb q.0 hi && (leb q.1 hi && spans lo hi qs))

-- multi rows lie from lo to hi
unfoldable pub lies : ℕ → ℕ → List Row → Bool
lies lo hi [] = true
lies lo hi (q ∷ qs) = leb lo q.0 && (leb q.0 hi && lies lo hi qs)

abbrev pub key : ℕ → Row → Bool
key x q = eqb q.0 x

module _ (x : ℕ) (says : Row → Mapping) where
  abbrev pub find : List Row → Mapping → Mapping
  find qs other = first_row (key x) says qs other

  pub find_hit : (q : Row) (qs : List Row) (o : Mapping) → q.0 ≡ x → find (q ∷ qs) o ≡ says q
  unfolding first_row
  find_hit q qs o e = rw (eq-eqb q.0 x e) refl

  pub find_on : (q : Row) (qs : List Row) (o : Mapping) → (q.0 ≡ x → ⊥) → find (q ∷ qs) o ≡ find qs o
  unfolding first_row
  find_on q qs o ne = rw (ne_eqb q.0 x ne) refl

  pub find_nil : (o : Mapping) → find [] o ≡ o
  unfolding first_row
  find_nil o = refl

  pub find_append : (ps qs : List Row) (o : Mapping) → find (ps ++ qs) o ≡ find ps (find qs o)
  unfolding first_row
  find_append [] qs o = refl
  find_append (p ∷ ps) qs o = rw (find_append ps qs o) refl

  pub find_below : (low : ℕ) (qs : List Row) (o : Mapping) → rising low qs ≡ true → x < low → find qs o ≡ o
  unfolding rising
  find_below low [] o r l = find_nil o
  find_below low (q ∷ qs) o r l =
      let a = leb-true low q.0 (and_parts (leb low q.0) _ r).0 in
      find_on q qs o (λ e. omega arith) ∙ find_below (suc q.0) qs o (and_parts (leb low q.0) _ r).1 (omega arith)

  -- merge: the first list, and where it has no row the second
  pub find_merge : (k : ℕ) (low : ℕ) (ps qs : List Row) (o : Mapping) → rising low ps ≡ true → find (merge k ps qs) o ≡ find ps (find qs o)
  unfolding merge rising
  find_merge zero low ps qs o r = find_append ps qs o
  find_merge (suc k) low [] qs o r = sym (find_nil (find qs o))
  find_merge (suc k) low (p ∷ ps) [] o r = rw (find_nil o) refl
  find_merge (suc k) low (p ∷ ps) (q ∷ qs) o r =
      let r' = (and_parts (leb low p.0) (rising (suc p.0) ps) r).1 in
      by_order (ltb q.0 p.0) (eqb q.0 p.0) refl refl
      (find_merge k low (p ∷ ps) qs o r) (find_merge k (suc p.0) ps qs o r') (find_merge k (suc p.0) ps (q ∷ qs) o r')
    where
      by_order : (s t : Bool) → ltb q.0 p.0 ≡ s → eqb q.0 p.0 ≡ t
          → find (merge k (p ∷ ps) qs) o ≡ find (p ∷ ps) (find qs o)
          → find (merge k ps qs) o ≡ find ps (find qs o)
          → find (merge k ps (q ∷ qs)) o ≡ find ps (find (q ∷ qs) o)
          → find (cond s (q ∷ merge k (p ∷ ps) qs) (cond t (p ∷ merge k ps qs) (p ∷ merge k ps (q ∷ qs)))) o ≡ find (p ∷ ps) (find (q ∷ qs) o)
      by_order true t a b f g h =
          let l = ltb-true q.0 p.0 a in
          let up : rising p.0 (p ∷ ps) ≡ true = rw (le-leb p.0 p.0 (omega arith)) (and_parts (leb low p.0) (rising (suc p.0) ps) r).1 in
          ⊎_elim
          (λ (e : q.0 ≡ x). find_hit q (merge k (p ∷ ps) qs) o e ∙ sym (find_below p.0 (p ∷ ps) (find (q ∷ qs) o) up (omega arith) ∙ find_hit q qs o e))
          (λ ne. find_on q (merge k (p ∷ ps) qs) o ne ∙ f ∙ rw (find_on q qs o ne) refl)
          (cases_eq q.0 x)
      by_order false true a b f g h =
          ⊎_elim
          (λ (e : p.0 ≡ x). find_hit p (merge k ps qs) o e ∙ sym (find_hit p ps (find (q ∷ qs) o) e))
          (λ ne.
          let m : q.0 ≡ x → ⊥ = λ e. ne (sym (eqb-true q.0 p.0 b) ∙ e) in
          find_on p (merge k ps qs) o ne ∙ g ∙ sym (find_on p ps (find (q ∷ qs) o) ne ∙ rw (find_on q qs o m) refl))
          (cases_eq p.0 x)
      by_order false false a b f g h =
          ⊎_elim
          (λ (e : p.0 ≡ x). find_hit p (merge k ps (q ∷ qs)) o e ∙ sym (find_hit p ps (find (q ∷ qs) o) e))
          (λ ne. find_on p (merge k ps (q ∷ qs)) o ne ∙ h ∙ sym (find_on p ps (find (q ∷ qs) o) ne))
          (cases_eq p.0 x)

  module _ (b : ℕ) where
    -- one number of a scan
    scan_step : (s p d k n : ℕ) (rest : List Row) → scan b s p d (suc k) n rest
        ≡ cond (meets s p n) ((b + n, b + (n + d) % 65536, 0, 0) ∷ scan b s p d k (suc n) rest) (scan b s p d k (suc n) rest)
    unfolding scan
    scan_step s p d k n rest =
        rw (
          forced (b + n) (λ y. force (b + (n + d) % 65536) (λ z. (y, z, 0, 0) ∷ scan b s p d k (suc n) rest)),
          forced (b + (n + d) % 65536) (λ z. (b + n, z, 0, 0) ∷ scan b s p d k (suc n) rest),
        ) refl

    -- a scan holds no number outside it
    scan_out : (s p d k n : ℕ) (rest : List Row) (o : Mapping) → (x < b + n) ⊎ (b + n + k ≤ x) → find (scan b s p d k n rest) o ≡ find rest o
    unfolding scan
    scan_out s p d zero n rest o h = refl
    scan_out s p d (suc k) n rest o h =
        rw (scan_step s p d k n rest) (by_test (meets s p n) (scan_out s p d k (suc n) rest o (⊎_elim (λ l. inl (omega arith)) (λ l. inr (omega arith)) h)))
      where
        by_test : (t : Bool) → find (scan b s p d k (suc n) rest) o ≡ find rest o
            → find (cond t ((b + n, b + (n + d) % 65536, 0, 0) ∷ scan b s p d k (suc n) rest) (scan b s p d k (suc n) rest)) o ≡ find rest o
        by_test true on = find_on (b + n, b + (n + d) % 65536, 0, 0) _ o (λ e. ⊎_elim (λ l. omega arith) (λ l. omega arith) h) ∙ on
        by_test false on = on

    -- a number inside it is held by the row's own test
    scan_in : (s p d k n m : ℕ) (rest : List Row) (o : Mapping) → x ≡ b + m → n ≤ m → m < n + k
        → find (scan b s p d k n rest) o ≡ cond (meets s p m) (says (b + m, b + (m + d) % 65536, 0, 0)) (find rest o)
    scan_in s p d zero n m rest o e l h = absurd (omega arith)
    scan_in s p d (suc k) n m rest o e l h =
        rw (scan_step s p d k n rest)
        (⊎_elim (λ (i : n ≡ m). rw (sym i) (here (meets s p n) (omega arith)))
        (λ ne. further (meets s p n) (omega arith) (scan_in s p d k (suc n) m rest o e (omega arith) (omega arith)))
        (cases_eq n m))
      where
        tail : List Row
        tail = scan b s p d k (suc n) rest

        here : (t : Bool) → x ≡ b + n
            → find (cond t ((b + n, b + (n + d) % 65536, 0, 0) ∷ tail) tail) o ≡ cond t (says (b + n, b + (n + d) % 65536, 0, 0)) (find rest o)
        here true g = find_hit (b + n, b + (n + d) % 65536, 0, 0) tail o (sym g)
        here false g = scan_out s p d k (suc n) rest o (inl (omega arith))

        further : (t : Bool) → n < m → find tail o ≡ cond (meets s p m) (says (b + m, b + (m + d) % 65536, 0, 0)) (find rest o)
            → find (cond t ((b + n, b + (n + d) % 65536, 0, 0) ∷ tail) tail) o ≡ cond (meets s p m) (says (b + m, b + (m + d) % 65536, 0, 0)) (find rest o)
        further true g on = find_on (b + n, b + (n + d) % 65536, 0, 0) tail o (λ q. omega arith) ∙ on
        further false g on = on

    -- the single rows of a plane, written out
    pub find_singles : (qs : List Row) (m : ℕ) (o : Mapping) → x ≡ b + m → find (expand_singles b qs) o
        ≡ first_row (λ q. covers q.0 q.1 q.2 m) (λ q. says (b + m, b + (m + q.3) % 65536, 0, 0)) qs o
    unfolding expand_singles first_row
    find_singles [] m o e = refl
    find_singles (q ∷ qs) m o e =
        let on = find_singles qs m o e in
        let rest = expand_singles b qs in
        ⊎_elim
        (λ (l : q.0 ≤ m).
        ⊎_elim
        (λ (h : m ≤ q.1).
        rw (le-leb q.0 m l, le-leb m q.1 h)
        (scan_in q.0 q.2 q.3 (suc q.1 - q.0) q.0 m rest o e l (omega arith)
        ∙ ap (λ (z : Mapping). cond (meets q.0 q.2 m) (says (b + m, b + (m + q.3) % 65536, 0, 0)) z) on))
        (λ (h : q.1 < m).
        rw (le-leb q.0 m l, lt-leb m q.1 h)
        (scan_out q.0 q.2 q.3 (suc q.1 - q.0) q.0 rest o (inr (omega arith)) ∙ on))
        (split m q.1))
        (λ (l : m < q.0).
        rw (lt-leb q.0 m l)
        (scan_out q.0 q.2 q.3 (suc q.1 - q.0) q.0 rest o (inl (omega arith)) ∙ on))
        (split q.0 m)

    -- the multi rows of a plane, written out
    multis_step : (q : Row) (qs : List Row) → expand_multis b (q ∷ qs) ≡ (b + q.0, b + q.1, raised b q.2, raised b q.3) ∷ expand_multis b qs
    unfolding expand_multis
    multis_step q qs =
        rw (
          forced (b + q.0) (λ y. force (b + q.1) (λ z. (y, z, raised b q.2, raised b q.3) ∷ expand_multis b qs)),
          forced (b + q.1) (λ z. (b + q.0, z, raised b q.2, raised b q.3) ∷ expand_multis b qs),
        ) refl

    no_multis : (o : Mapping) → find (expand_multis b []) o ≡ o
    unfolding expand_multis
    no_multis o = find_nil o

    pub find_multis : (qs : List Row) (m : ℕ) (o : Mapping) → x ≡ b + m → find (expand_multis b qs) o
        ≡ first_row (λ q. eqb q.0 m) (λ q. says (b + q.0, b + q.1, raised b q.2, raised b q.3)) qs o
    unfolding first_row
    find_multis [] m o e = no_multis o
    find_multis (q ∷ qs) m o e =
        rw (multis_step q qs)
        (⊎_elim
        (λ (i : q.0 ≡ m). rw (eq-eqb q.0 m i) (find_hit _ (expand_multis b qs) o (omega arith)))
        (λ ne. rw (ne_eqb q.0 m ne) (find_on _ (expand_multis b qs) o (λ i. ne (omega arith)) ∙ find_multis qs m o e))
        (cases_eq q.0 m))

    -- rows that lie elsewhere hold no number
    pub singles_out : (lo hi : ℕ) (qs : List Row) (o : Mapping) → spans lo hi qs ≡ true → (x < b + lo) ⊎ (b + hi < x)
        → find (expand_singles b qs) o ≡ o
    unfolding expand_singles spans
    singles_out lo hi [] o t h = find_nil o
    singles_out lo hi (q ∷ qs) o t h =
        let t1 = (and_parts (leb lo q.0) (leb q.0 hi && (leb q.1 hi && spans lo hi qs)) t).1 in
        let t2 = (and_parts (leb q.0 hi) (leb q.1 hi && spans lo hi qs) t1).1 in
        let l = leb-true lo q.0 (and_parts (leb lo q.0) (leb q.0 hi && (leb q.1 hi && spans lo hi qs)) t).0 in
        let u = leb-true q.0 hi (and_parts (leb q.0 hi) (leb q.1 hi && spans lo hi qs) t1).0 in
        let v = leb-true q.1 hi (and_parts (leb q.1 hi) (spans lo hi qs) t2).0 in
        scan_out q.0 q.2 q.3 (suc q.1 - q.0) q.0 (expand_singles b qs) o
        (⊎_elim (λ k. inl (omega arith)) (λ k. inr (omega arith)) h)
        ∙ singles_out lo hi qs o (and_parts (leb q.1 hi) (spans lo hi qs) t2).1 h

    pub multis_out : (lo hi : ℕ) (qs : List Row) (o : Mapping) → lies lo hi qs ≡ true → (x < b + lo) ⊎ (b + hi < x)
        → find (expand_multis b qs) o ≡ o
    unfolding lies
    multis_out lo hi [] o t h = no_multis o
    multis_out lo hi (q ∷ qs) o t h =
        let t1 = (and_parts (leb lo q.0) (leb q.0 hi && lies lo hi qs) t).1 in
        let l = leb-true lo q.0 (and_parts (leb lo q.0) (leb q.0 hi && lies lo hi qs) t).0 in
        let u = leb-true q.0 hi (and_parts (leb q.0 hi) (lies lo hi qs) t1).0 in
        rw (multis_step q qs)
        (find_on _ (expand_multis b qs) o (λ e. ⊎_elim (λ k. omega arith) (λ k. omega arith) h)
        ∙ multis_out lo hi qs o (and_parts (leb q.0 hi) (lies lo hi qs) t1).1 h)
