-- A whole mapping: the packed rows of two planes over what stands under them (ASCII letters, or another mapping's list), from
-- a floor on. Written out they are one list; if that list is Unicode's, and a few tests hold, the mapping is what Unicode's
-- list says of every number. The argument is made here once, and each mapping cites it. Assumes nothing.
use Rattle.std.proofs.Common.{◌≡◌, ℕ, ◌/◌, ◌%◌, ◌<◌, ◌≤◌, Bool, true, ◌&&◌, ◌⊎◌, List, ◌++◌, sym, refl, ap, ◌∙◌, inl, inr, ⊎_elim, arith, le-ltb, lt-ltb, eq-eqb, ne_eqb}
use Rattle.std.proofs.lemmas.Bool.{and_parts}
use Rattle.sets.proofs.Decide.{split}
use Rattle.casing.specs.declared.Mapping.{Mapping}
use Rattle.casing.specs.Answers.{made}
use Rattle.casing.specs.Rows.{Rows, Row, single, multiple, singles, multis, looked, in_rows, from_floor}
use Rattle.casing.specs.Listed.{quads, row_of}
use Rattle.casing.proofs.Expand.{expand_singles, expand_multis, merge, rising, spans, lies, find, find_append, find_merge, find_singles, find_multis, singles_out, multis_out}

abbrev pub made_row : Row → Mapping
made_row q = made q.1 q.2 q.3

-- the rows of both planes, written out
abbrev pub all_singles : Rows → Rows → List Row
all_singles rows0 rows1 = expand_singles 0 (singles rows0) ++ expand_singles 65536 (singles rows1)

abbrev pub all_multis : Rows → Rows → List Row
all_multis rows0 rows1 = expand_multis 0 (multis rows0) ++ expand_multis 65536 (multis rows1)

-- and what stands under them; 4000 is more than the rows of any list
abbrev pub written : Rows → Rows → List Row → List Row
written rows0 rows1 under = merge 4000 (all_singles rows0 rows1) (merge 4000 (all_multis rows0 rows1) under)

-- the one test of a mapping's rows: written out they rise, and none lies below the floor or out of its plane
abbrev pub sound : ℕ → Rows → Rows → Bool
sound floor rows0 rows1 =
    rising 0 (all_singles rows0 rows1)
    && (rising 0 (all_multis rows0 rows1)
    && (spans floor 65535 (singles rows0) && (spans 0 65535 (singles rows1) && (lies floor 65535 (multis rows0) && lies 0 65535 (multis rows1)))))

record Sound (floor : ℕ) (rows0 rows1 : Rows) : Type 0 where
  rise : rising 0 (all_singles rows0 rows1) ≡ true
  climb : rising 0 (all_multis rows0 rows1) ≡ true
  span0 : spans floor 65535 (singles rows0) ≡ true
  span1 : spans 0 65535 (singles rows1) ≡ true
  lie0 : lies floor 65535 (multis rows0) ≡ true
  lie1 : lies 0 65535 (multis rows1) ≡ true

tested : (a b c d e f : Bool) → (a && (b && (c && (d && (e && f))))) ≡ true
    → (a ≡ true) × (b ≡ true) × (c ≡ true) × (d ≡ true) × (e ≡ true) × (f ≡ true)
tested a b c d e f t =
    let t1 = (and_parts a (b && (c && (d && (e && f)))) t).1 in
    let t2 = (and_parts b (c && (d && (e && f))) t1).1 in
    let t3 = (and_parts c (d && (e && f)) t2).1 in
    let t4 = (and_parts d (e && f) t3).1 in
    ((and_parts a _ t).0, (and_parts b _ t1).0, (and_parts c _ t2).0, (and_parts d _ t3).0, (and_parts e f t4).0, (and_parts e f t4).1)

module _ (floor : ℕ) (rows0 rows1 : Rows) (under : List Row) (low : floor ≤ 65536) (t : sound floor rows0 rows1 ≡ true) where
  parts : Sound floor rows0 rows1
  parts =
      let u = tested (rising 0 (all_singles rows0 rows1)) (rising 0 (all_multis rows0 rows1)) (spans floor 65535 (singles rows0))
      (spans 0 65535 (singles rows1)) (lies floor 65535 (multis rows0)) (lies 0 65535 (multis rows1)) t in
      record { rise = u.0; climb = u.1; span0 = u.2; span1 = u.3; lie0 = u.4; lie1 = u.5 }

  module _ (n : ℕ) (o : Mapping) where
    -- a lookup in what is written out: plane by plane, single rows, then multi rows, then what stands under them
    layers : find n made_row (written rows0 rows1 under) o
        ≡ find n made_row (expand_singles 0 (singles rows0)) (find n made_row (expand_singles 65536 (singles rows1))
        (find n made_row (expand_multis 0 (multis rows0)) (find n made_row (expand_multis 65536 (multis rows1)) (find n made_row under o))))
    layers =
        find_merge n made_row 4000 0 (all_singles rows0 rows1) (merge 4000 (all_multis rows0 rows1) under) o parts.rise
        ∙ rw (find_merge n made_row 4000 0 (all_multis rows0 rows1) under o parts.climb) (
        find_append n made_row (expand_singles 0 (singles rows0)) (expand_singles 65536 (singles rows1)) _
        ∙ rw (find_append n made_row (expand_multis 0 (multis rows0)) (expand_multis 65536 (multis rows1)) (find n made_row under o)) refl)

    abbrev other : Mapping
    other = find n made_row under o

    -- out of plane 0, and out of plane 1
    out0 : (z : Mapping) → (n < floor) ⊎ (65536 ≤ n) → find n made_row (expand_singles 0 (singles rows0)) z ≡ z
    out0 z h = singles_out n made_row 0 floor 65535 (singles rows0) z parts.span0 (⊎_elim (λ l. inl (omega arith)) (λ l. inr (omega arith)) h)

    out0m : (z : Mapping) → (n < floor) ⊎ (65536 ≤ n) → find n made_row (expand_multis 0 (multis rows0)) z ≡ z
    out0m z h = multis_out n made_row 0 floor 65535 (multis rows0) z parts.lie0 (⊎_elim (λ l. inl (omega arith)) (λ l. inr (omega arith)) h)

    out1 : (z : Mapping) → (n < 65536) ⊎ (131072 ≤ n) → find n made_row (expand_singles 65536 (singles rows1)) z ≡ z
    out1 z h = singles_out n made_row 65536 0 65535 (singles rows1) z parts.span1 (⊎_elim (λ l. inl (omega arith)) (λ l. inr (omega arith)) h)

    out1m : (z : Mapping) → (n < 65536) ⊎ (131072 ≤ n) → find n made_row (expand_multis 65536 (multis rows1)) z ≡ z
    out1m z h = multis_out n made_row 65536 0 65535 (multis rows1) z parts.lie1 (⊎_elim (λ l. inl (omega arith)) (λ l. inr (omega arith)) h)

    in0 : n < 65536 → (z : Mapping) → find n made_row (expand_singles 0 (singles rows0)) z ≡ single (singles rows0) 0 (n % 65536) z
    unfolding single
    in0 l z = find_singles n made_row 0 (singles rows0) (n % 65536) z (omega arith)

    in0m : n < 65536 → (z : Mapping) → find n made_row (expand_multis 0 (multis rows0)) z ≡ multiple (multis rows0) 0 (n % 65536) z
    unfolding multiple
    in0m l z = find_multis n made_row 0 (multis rows0) (n % 65536) z (omega arith)

    in1 : 65536 ≤ n → n < 131072 → (z : Mapping) → find n made_row (expand_singles 65536 (singles rows1)) z ≡ single (singles rows1) 1 (n % 65536) z
    unfolding single
    in1 k l z = find_singles n made_row 65536 (singles rows1) (n % 65536) z (omega arith)

    in1m : 65536 ≤ n → n < 131072 → (z : Mapping) → find n made_row (expand_multis 65536 (multis rows1)) z ≡ multiple (multis rows1) 1 (n % 65536) z
    unfolding multiple
    in1m k l z = find_multis n made_row 65536 (multis rows1) (n % 65536) z (omega arith)

    below : n < floor → find n made_row (written rows0 rows1 under) o ≡ other
    below l = layers ∙ out0 _ (inl l) ∙ out1 _ (inl (omega arith)) ∙ out0m _ (inl l) ∙ out1m _ (inl (omega arith))

    plane0 : floor ≤ n → n < 65536 → find n made_row (written rows0 rows1 under) o ≡ looked rows0 0 (n % 65536) other
    plane0 k l =
        layers ∙ in0 l _
        ∙ ap (λ (z : Mapping). single (singles rows0) 0 (n % 65536) z)
        (out1 _ (inl l) ∙ in0m l _ ∙ ap (λ (z : Mapping). multiple (multis rows0) 0 (n % 65536) z) (out1m _ (inl l)))

    plane1 : 65536 ≤ n → n < 131072 → find n made_row (written rows0 rows1 under) o ≡ looked rows1 1 (n % 65536) other
    plane1 k l =
        layers ∙ out0 _ (inr k) ∙ in1 k l _
        ∙ ap (λ (z : Mapping). single (singles rows1) 1 (n % 65536) z) (out0m _ (inr k) ∙ in1m k l _)

    above : 131072 ≤ n → find n made_row (written rows0 rows1 under) o ≡ other
    above l = layers ∙ out0 _ (inr (omega arith)) ∙ out1 _ (inr l) ∙ out0m _ (inr (omega arith)) ∙ out1m _ (inr l)

    -- so it is the mapping of document 01, whatever stands under the rows
    pub written_maps : find n made_row (written rows0 rows1 under) o ≡ from_floor floor rows0 rows1 n other
    unfolding in_rows
    written_maps =
        ⊎_elim
        (λ (h : floor ≤ n).
        rw (le-ltb n floor h)
        (⊎_elim
        (λ (k : 65536 ≤ n).
        ⊎_elim
        (λ (l : 131072 ≤ n). let a : n / 65536 ≡ 0 → ⊥ = λ e. omega arith in let b : n / 65536 ≡ 1 → ⊥ = λ e. omega arith in
        rw (ne_eqb (n / 65536) 0 a, ne_eqb (n / 65536) 1 b) (above l))
        (λ (l : n < 131072). let a : n / 65536 ≡ 0 → ⊥ = λ e. omega arith in
        rw (ne_eqb (n / 65536) 0 a, eq-eqb (n / 65536) 1 (omega arith)) (plane1 k l))
        (split 131072 n))
        (λ (k : n < 65536). rw (eq-eqb (n / 65536) 0 (omega arith)) (plane0 h k))
        (split 65536 n)))
        (λ (h : n < floor). rw (lt-ltb n floor h) (below h))
        (split floor n)

  -- Unicode's list, if it is what is written out
  module _ (list : List ℕ) (same_list : written rows0 rows1 under ≡ quads list) where
    pub list_maps : (n : ℕ) → row_of list n ≡ from_floor floor rows0 rows1 n (find n made_row under (made n 0 0))
    unfolding row_of
    list_maps n =
        ap (λ (qs : List Row). find n made_row qs (made n 0 0)) (sym same_list)
        ∙ written_maps n (made n 0 0)
