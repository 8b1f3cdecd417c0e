-- Reading by pages gives what the rows say. A row that holds a number is one of the rows of the number's page, by one test over
-- the table; so the row that halving finds there is the only one that can hold it, and an empty page has none. Assumes nothing.
-- A lemma that no proof cites any more stands because docs/PORT.md names it.
use Rattle.std.proofs.Common.{◌≡◌, ℕ, zero, suc, ◌+◌, ◌*◌, ◌/◌, ◌%◌, ◌<◌, ◌≤◌, Bool, true, false, cond, ◌&&◌, eqb, ltb, leb, List, [], ◌∷◌, length, get_or, sym, refl, ap, ◌∙◌, ⊎_elim, arith, ltb-true, leb-true}
use Rattle.std.specs.Prelude.{Option, Some, None}
use Rattle.scalar.specs.Scalars.{between}
use Rattle.std.proofs.lemmas.Bool.{and_parts, both_ways, cases_eq}
use Rattle.casing.specs.declared.Mapping.{Mapping}
use Rattle.casing.specs.Rows.{Rows, Row, zip, first_row, covers, moved, single, multiple, singles, multis, looked, apart, tidy_singles, tidy_multis}
use Rattle.casing.specs.Reading.{or_else, Says, row_says, word_of, unpacked, packed, page_of, Halved, among, in_use, singles_paged, multis_paged, pages_fit, rows_fit, readable}
use Rattle.casing.proofs.Sorted.{Only, only, no_last}
use Rattle.casing.proofs.Reader.{empty, zip_length, zip_at, singles_parts, single_found, single_missed, multi_missed}

-- the parts of the test
pub record Readable (rows : Rows) (pages : List ℕ) : Type 0 where
  pub tidy : tidy_singles rows.starts rows.ends rows.steps rows.deltas ≡ true
  pub tidy_multis_lem : tidy_multis rows.multi rows.first rows.second rows.third ≡ true
  pub rise : apart 0 rows.ends rows.ends ≡ true
  pub paged : singles_paged pages 0 rows.starts rows.ends ≡ true
  pub multis_paged_lem : multis_paged pages rows.multi ≡ true
  pub inside : pages_fit (length rows.ends) pages ≡ true
  pub fit : rows_fit (singles rows) ≡ true

pub tested : (rows : Rows) (pages : List ℕ) → readable rows pages ≡ true → Readable rows pages
unfolding readable
tested rows pages t0 =
    let a = tidy_singles rows.starts rows.ends rows.steps rows.deltas in
    let b = tidy_multis rows.multi rows.first rows.second rows.third in
    let c = apart 0 rows.ends rows.ends in
    let d = singles_paged pages 0 rows.starts rows.ends in
    let e = multis_paged pages rows.multi in
    let f = pages_fit (length rows.ends) pages in
    let g = rows_fit (singles rows) in
    let t1 = (and_parts a (b && (c && (d && (e && (f && g))))) t0).1 in
    let t2 = (and_parts b (c && (d && (e && (f && g)))) t1).1 in
    let t3 = (and_parts c (d && (e && (f && g))) t2).1 in
    let t4 = (and_parts d (e && (f && g)) t3).1 in
    let t5 = (and_parts e (f && g) t4).1 in
    record {
      tidy = (and_parts a _ t0).0;
      tidy_multis_lem = (and_parts b _ t1).0;
      rise = (and_parts c _ t2).0;
      paged = (and_parts d _ t3).0;
      multis_paged_lem = (and_parts e _ t4).0;
      inside = (and_parts f g t5).0;
      fit = (and_parts f g t5).1;
    }

-- a row that holds x is among the rows of x's page
module _ (pages : List ℕ) (x : ℕ) where
  first_paged : (i s e : ℕ) → among (page_of pages (s / 256)) i ≡ true → among (page_of pages (e / 256)) i ≡ true → e / 256 ≤ suc (s / 256)
      → s ≤ x → x ≤ e → among (page_of pages (x / 256)) i ≡ true
  first_paged i s e p q n l h =
      ⊎_elim
      (λ (u : x / 256 ≡ s / 256). rw u p)
      (λ ne. let u : x / 256 ≡ e / 256 = omega arith in rw u q)
      (cases_eq (x / 256) (s / 256))

  paged_on : (i s e : ℕ) (ss es : List ℕ) → singles_paged pages i (s ∷ ss) (e ∷ es) ≡ true
      → (s ≤ x → x ≤ e → among (page_of pages (x / 256)) i ≡ true) × (singles_paged pages (suc i) ss es ≡ true)
  unfolding singles_paged
  paged_on i s e ss es t =
      let a = among (page_of pages (s / 256)) i in
      let b = among (page_of pages (e / 256)) i in
      let c = leb (e / 256) (suc (s / 256)) in
      let d = singles_paged pages (suc i) ss es in
      let t1 = (and_parts a (b && (c && d)) t).1 in
      let t2 = (and_parts b (c && d) t1).1 in
      (first_paged i s e (and_parts a (b && (c && d)) t).0 (and_parts b (c && d) t1).0 (leb-true _ _ (and_parts c d t2).0), (and_parts c d t2).1)

  pub single_paged : (i : ℕ) (ss es : List ℕ) → singles_paged pages i ss es ≡ true → length es ≡ length ss → (j : ℕ) → j < length ss
      → between (get_or ss j 0) (get_or es j 0) x ≡ true → among (page_of pages (x / 256)) (i + j) ≡ true
  single_paged i [] es t n j l h = absurd (omega arith)
  single_paged i (s ∷ ss) [] t n j l h = absurd (omega arith)
  single_paged i (s ∷ ss) (e ∷ es) t n zero l h =
      let z : i + 0 ≡ i = omega arith in
      rw z ((paged_on i s e ss es t).0 (leb-true s x (and_parts (leb s x) (leb x e) h).0) (leb-true x e (and_parts (leb s x) (leb x e) h).1))
  single_paged i (s ∷ ss) (e ∷ es) t n (suc j) l h =
      let z : i + suc j ≡ suc i + j = omega arith in
      rw z (single_paged (suc i) ss es (paged_on i s e ss es t).1 (omega arith) j (omega arith) h)

  pub multi_paged : (ms : List ℕ) → multis_paged pages ms ≡ true → (j : ℕ) → j < length ms → get_or ms j 0 ≡ x → in_use (page_of pages (x / 256)) ≡ true
  unfolding multis_paged
  multi_paged [] t j l e = absurd (omega arith)
  multi_paged (m ∷ ms) t zero l e = rw (sym e) (and_parts (in_use (page_of pages (m / 256))) (multis_paged pages ms) t).0
  multi_paged (m ∷ ms) t (suc j) l e =
      multi_paged ms (and_parts (in_use (page_of pages (m / 256))) (multis_paged pages ms) t).1 j (omega arith) e

-- a page's rows are rows of the table
pub page_fits : (n p a b : ℕ) (pages : List ℕ) → pages_fit n pages ≡ true → Some (a, b) ≡ page_of pages p → (a ≤ b) × (b ≤ n)
unfolding page_of pages_fit
page_fits n p a b [] t e = let z : ◌≡◌ {A = ℕ} 0 1 = cc in absurd (omega arith)
page_fits n p a b (q ∷ []) t e = let z : ◌≡◌ {A = ℕ} 0 1 = cc in absurd (omega arith)
page_fits n p a b (q ∷ (c ∷ [])) t e = let z : ◌≡◌ {A = ℕ} 0 1 = cc in absurd (omega arith)
page_fits n p a b (q ∷ (c ∷ (d ∷ l))) t e =
    let u = (and_parts (leb c d) (leb d n && pages_fit n l) t).1 in
    by_test (eqb q p) e (leb-true c d (and_parts (leb c d) _ t).0) (leb-true d n (and_parts (leb d n) (pages_fit n l) u).0) (page_fits n p a b l (and_parts (leb d n) (pages_fit n l) u).1)
  where
    by_test : (s : Bool) → Some (a, b) ≡ cond s (Some (c, d)) (page_of l p) → c ≤ d → d ≤ n → (Some (a, b) ≡ page_of l p → (a ≤ b) × (b ≤ n)) → (a ≤ b) × (b ≤ n)
    by_test true e f g on = let both : ◌≡◌ {A = ℕ × ℕ} (a, b) (c, d) = cc in let v : a ≡ c = ap (λ (q : ℕ × ℕ). q.0) both in let w : b ≡ d = ap (λ (q : ℕ × ℕ). q.1) both in (omega arith, omega arith)
    by_test false e f g on = on e

-- a row comes out of its word as it went in
split_off : (k r : ℕ) → k < 65536 → ((k + r * 65536) % 65536 ≡ k) × ((k + r * 65536) / 65536 ≡ r)
split_off k r l = (omega arith, omega arith)

word_holds : (k l m o : ℕ) → k < 65536 → l < 65536 → m < 65536 → o < 65536 → unpacked (word_of (k, l, m, o)) ≡ (k, l, m, o)
word_holds k l m o p q r s =
    let a = split_off k (l + (m + o * 65536) * 65536) p in
    let b = split_off l (m + o * 65536) q in
    let c = split_off m o r in
    let d : o % 65536 ≡ o = omega arith in
    rw (a.0, a.1, b.0, b.1, c.0, c.1, d) refl

fit_on : (q : Row) (qs : List Row) → rows_fit (q ∷ qs) ≡ true → (unpacked (word_of q) ≡ q) × (rows_fit qs ≡ true)
unfolding rows_fit
fit_on q qs t =
    let a = ltb q.0 65536 in
    let b = ltb q.1 65536 in
    let c = ltb q.2 65536 in
    let d = ltb q.3 65536 in
    let e = rows_fit qs in
    let t1 = (and_parts a (b && (c && (d && e))) t).1 in
    let t2 = (and_parts b (c && (d && e)) t1).1 in
    let t3 = (and_parts c (d && e) t2).1 in (
      word_holds q.0 q.1 q.2 q.3 (ltb-true _ _ (and_parts a (b && (c && (d && e))) t).0) (ltb-true _ _ (and_parts b (c && (d && e)) t1).0)
          (ltb-true _ _ (and_parts c (d && e) t2).0) (ltb-true _ _ (and_parts d e t3).0),
      (and_parts d e t3).1,
    )

-- what a row says, by the fields of its word
module _ (word start end step plane x : ℕ) (a : start ≡ word % 65536) (b : end ≡ word / 65536 % 65536) (c : step ≡ word / 65536 / 65536 % 65536) where
  pub word_moves : (delta to : ℕ) → delta ≡ word / 65536 / 65536 / 65536 % 65536 → covers start end step x ≡ true → to ≡ moved plane x delta
      → Some (to, 0, 0) ≡ row_says (unpacked word) plane x
  word_moves delta to d h e =
      let g : covers (word % 65536) (word / 65536 % 65536) (word / 65536 / 65536 % 65536) x ≡ true = rw (a, b, c) at h in
      rw (e, d, g) refl

  pub word_leaves : covers start end step x ≡ false → None ≡ row_says (unpacked word) plane x
  word_leaves h =
      let g : covers (word % 65536) (word / 65536 % 65536) (word / 65536 / 65536 % 65536) x ≡ false = rw (a, b, c) at h in
      rw g refl

pub packed_at : (qs : List Row) → rows_fit qs ≡ true → (j : ℕ) → j < length qs → unpacked (get_or (packed qs) j 0) ≡ get_or qs j empty
unfolding packed
packed_at [] t j l = absurd (omega arith)
packed_at (q ∷ qs) t zero l = (fit_on q qs t).0
packed_at (q ∷ qs) t (suc j) l = packed_at qs (fit_on q qs t).1 j (omega arith)

module _ (rows : Rows) (pages : List ℕ) (test : readable rows pages ≡ true) where
  abbrev parts : Readable rows pages
  parts = tested rows pages test

  -- what halving a page's rows requires
  pub page_rows : (p a b : ℕ) → Some (a, b) ≡ page_of pages p → (apart 0 rows.ends rows.ends ≡ true) × ((a ≤ b) × (b ≤ length rows.ends))
  page_rows p a b e = (parts.rise, page_fits (length rows.ends) p a b pages parts.inside e)

  module _ (plane x : ℕ) where
    held : (j : ℕ) → j < length rows.starts → between (get_or rows.starts j 0) (get_or rows.ends j 0) x ≡ true
        → among (page_of pages (x / 256)) j ≡ true
    held j k h =
        let z : 0 + j ≡ j = omega arith in
        rw z at (single_paged pages x 0 rows.starts rows.ends parts.paged
        (singles_parts _ _ _ _ parts.tidy).1.second j k h)

    -- an empty page has no rows
    pub empty_page : None ≡ page_of pages (x / 256) → (other : Mapping) → other ≡ looked rows plane x other
    empty_page e other =
        sym (
        single_missed rows.starts rows.ends rows.steps rows.deltas plane x (multiple (multis rows) plane x other) parts.tidy (length rows.starts)
        (record { inside = omega arith; others = λ j k ne. unheld j k (between (get_or rows.starts j 0) (get_or rows.ends j 0) x) refl })
        (λ l. absurd (omega arith))
        ∙ multi_missed rows.multi rows.first rows.second rows.third plane x other parts.tidy_multis_lem (length rows.multi)
        (record { inside = omega arith; others = λ j k ne. unlisted j k (between (get_or rows.multi j 0) (get_or rows.multi j 0) x) refl })
        (λ l. absurd (omega arith)))
      where
        unheld : (j : ℕ) → j < length rows.starts → (t : Bool) → between (get_or rows.starts j 0) (get_or rows.ends j 0) x ≡ t → t ≡ false
        unheld j k true h = absurd (both_ways _ (ap (λ (p : Option (ℕ × ℕ)). among p j) (sym e)) (held j k h))
        unheld j k false h = refl

        unlisted : (j : ℕ) → j < length rows.multi → (t : Bool) → between (get_or rows.multi j 0) (get_or rows.multi j 0) x ≡ t → t ≡ false
        unlisted j k true h =
            let m = get_or rows.multi j 0 in
            let l = leb-true m x (and_parts (leb m x) (leb x m) h).0 in
            let u = leb-true x m (and_parts (leb m x) (leb x m) h).1 in
            absurd (both_ways _ (ap in_use (sym e)) (multi_paged pages x rows.multi parts.multis_paged_lem j k (omega arith)))
        unlisted j k false h = refl

    module _ (a b r : ℕ) (e : Some (a, b) ≡ page_of pages (x / 256)) (h : Halved rows.ends a b x r) (z : Mapping) where
      spanned : b ≤ length rows.starts
      spanned = omega (arith, (page_fits (length rows.ends) (x / 256) a b pages parts.inside e).1, (singles_parts _ _ _ _ parts.tidy).1.second)

      in_span : (j : ℕ) → j < length rows.starts → between (get_or rows.starts j 0) (get_or rows.ends j 0) x ≡ true → (a ≤ j) × (j < b)
      in_span j k g =
          let w = ap (λ (p : Option (ℕ × ℕ)). among p j) e ∙ held j k g in
          (leb-true a j (and_parts (leb a j) (ltb j b) w).0, ltb-true j b (and_parts (leb a j) (ltb j b) w).1)

      one : Only rows.starts rows.ends x r
      one = only rows.starts rows.ends x (singles_parts _ _ _ _ parts.tidy).0 a b spanned in_span r h

      -- past the page's rows no single row covers the number
      pub past_rows : r ≡ b → single (singles rows) plane x z ≡ z
      past_rows l =
          single_missed rows.starts rows.ends rows.steps rows.deltas plane x z parts.tidy r one
          (λ k. rw (no_last rows.starts rows.ends x (singles_parts _ _ _ _ parts.tidy).0 a b spanned in_span r l k) refl)

      -- else the row found says what the single rows say
      row_says_lem : (r ≡ b → ⊥) → or_else (row_says (unpacked (get_or (packed (singles rows)) r 0)) plane x) z ≡ single (singles rows) plane x z
      row_says_lem ne =
          let even = (singles_parts rows.starts rows.ends rows.steps rows.deltas parts.tidy).1 in
          let k : r < length rows.starts = omega (arith, h.upto, spanned) in
          let n = zip_length rows.starts rows.ends rows.steps rows.deltas even in
          ap (λ (q : Row). or_else (row_says q plane x) z)
          (packed_at (singles rows) parts.fit r (omega arith) ∙ zip_at rows.starts rows.ends rows.steps rows.deltas even r k)
          ∙ (by_test (covers (get_or rows.starts r 0) (get_or rows.ends r 0) (get_or rows.steps r 0) x) refl k)
        where
          by_test : (t : Bool) → covers (get_or rows.starts r 0) (get_or rows.ends r 0) (get_or rows.steps r 0) x ≡ t → r < length rows.starts
              → or_else (row_says (get_or rows.starts r 0, get_or rows.ends r 0, get_or rows.steps r 0, get_or rows.deltas r 0) plane x) z
              ≡ single (singles rows) plane x z
          by_test true c k =
              rw c (sym (single_found rows.starts rows.ends rows.steps rows.deltas plane x z parts.tidy r one k c))
          by_test false c k =
              rw c (sym (single_missed rows.starts rows.ends rows.steps rows.deltas plane x z parts.tidy r one (λ l. c)))

      pub row_found : (r ≡ b → ⊥) → (found : Option (ℕ × ℕ × ℕ)) (word : ℕ) → found ≡ row_says (unpacked word) plane x → word ≡ get_or (packed (singles rows)) r 0
          → or_else found z ≡ single (singles rows) plane x z
      row_found ne found word f w =
          ap (λ (g : Option (ℕ × ℕ × ℕ)). or_else g z) (f ∙ ap (λ (n : ℕ). row_says (unpacked n) plane x) w) ∙ row_says_lem ne

-- a plane without multi rows
pub no_multis : (rows : Rows) (plane x : ℕ) (other : Mapping) → rows.multi ≡ [] → multiple (multis rows) plane x other ≡ other
unfolding multiple first_row zip
no_multis rows plane x other e = rw e refl

-- what was found, under another name
pub said : (found same_found : Option (ℕ × ℕ × ℕ)) (rows : Mapping → Mapping) → same_found ≡ found → Says found rows → (other : Mapping) → or_else same_found other ≡ rows other
said found same_found rows e says other = ap (λ (f : Option (ℕ × ℕ × ℕ)). or_else f other) e ∙ says other
