-- Boundary by boundary, as the loops list it, or in pairs, as the document says it, the list of an accepted table is the
-- same. The pairs are read one boundary at a time, with what is held back so far: nothing, the start of a pair, the end of a
-- pair, or an end and the start after it. That boundaries do not fall is used where an equal pair is dropped behind an end
-- that is held back: no later start can equal that end. Assumes nothing.
use Rattle.std.specs.Prelude.{◌≡◌, ℕ, ◌<◌, ◌≤◌, Bool, true, false, List, [], ◌∷◌, None}
use mathlib.Core.Path.{◌∙◌, sym, refl, ap}
use mathlib.Core.Logic.{⊎_elim}
use native.Mathlib.Omega.{arith}
use borrow.Author.Tests.{le-leb, lt-leb, eq-eqb, ne_eqb}
use Rattle.std.proofs.lemmas.Bool.{cases_eq}
use Rattle.sets.proofs.Decide.{split}
use Rattle.sets.proofs.Members.{rising, rising_on}
use Rattle.skip.specs.Table.{boundaries}
use Rattle.skip.specs.Rules.{broken}
use Rattle.unpack.specs.Unpacking.{kept, unequal, joined_from, joined, flat, list}
use Rattle.unpack.specs.Flow.{when, flow, numbers}
use Rattle.unpack.proofs.Rising.{rising_less, boundaries_rise}

-- the steps of the definition
pub kept_none : kept [] ≡ []
unfolding kept
kept_none = refl

pub kept_in : (b : ℕ) (bs : List ℕ) → b ≤ 0x10FFFF → kept (b ∷ bs) ≡ b ∷ kept bs
unfolding kept
kept_in b bs h = simp (le-leb _ _ h)

pub kept_out : (b : ℕ) (bs : List ℕ) → 0x10FFFF < b → kept (b ∷ bs) ≡ kept bs
unfolding kept
kept_out b bs h = simp (lt-leb _ _ h)

kept_high : (bs : List ℕ) (p : ℕ) → rising p bs ≡ true → 0x10FFFF < p → kept bs ≡ []
kept_high [] p r h = kept_none
kept_high (b ∷ bs) p r h =
    let y = rising_on p b bs r in
    let k : 0x10FFFF < b = omega arith in
    kept_out b bs k ∙ kept_high bs b y.1 k

pub drops_same : (a b : ℕ) (bs : List ℕ) → a ≡ b → unequal (a ∷ (b ∷ bs)) ≡ unequal bs
unfolding unequal
drops_same a b bs e = simp (eq-eqb _ _ e)

pub drops_not : (a b : ℕ) (bs : List ℕ) → (a ≡ b → ⊥) → unequal (a ∷ (b ∷ bs)) ≡ a ∷ (b ∷ unequal bs)
unfolding unequal
drops_not a b bs e = simp (ne_eqb _ _ e)

pub drops_none : unequal [] ≡ []
unfolding unequal
drops_none = refl

pub drops_one : (a : ℕ) → unequal (a ∷ []) ≡ a ∷ []
unfolding unequal
drops_one a = refl

-- past the first start, to join is to drop equal pairs once more: those of an end and the start after it
pub joined_from_lem : (a : ℕ) (bs : List ℕ) → joined_from a bs ≡ a ∷ unequal bs
unfolding joined_from unequal
joined_from_lem a [] = refl
joined_from_lem a (b ∷ []) = refl
joined_from_lem a (b ∷ (c ∷ bs)) =
    ⊎_elim
    (λ e. rw (eq-eqb b c e) (joined_from_lem a bs))
    (λ e. rw (ne_eqb b c e, joined_from_lem c bs) refl)
    (cases_eq b c)

-- the steps of the loops
pub flow_none : (w : Bool) (p : ℕ) → flow w p [] ≡ when w p []
unfolding flow
flow_none w p = refl

pub flow_high : (w : Bool) (p b : ℕ) (bs : List ℕ) → 0x10FFFF < b → flow w p (b ∷ bs) ≡ flow w p []
unfolding flow
flow_high w p b bs h = rw (lt-leb b 0x10FFFF h) refl

pub flow_free : (p b : ℕ) (bs : List ℕ) → b ≤ 0x10FFFF → flow false p (b ∷ bs) ≡ flow true b bs
unfolding flow
flow_free p b bs h = rw (le-leb b 0x10FFFF h) refl

pub flow_same : (p b : ℕ) (bs : List ℕ) → b ≤ 0x10FFFF → p ≡ b → flow true p (b ∷ bs) ≡ flow false b bs
unfolding flow
flow_same p b bs h e = rw (le-leb b 0x10FFFF h, eq-eqb p b e) refl

pub flow_apart : (p b : ℕ) (bs : List ℕ) → b ≤ 0x10FFFF → (p ≡ b → ⊥) → flow true p (b ∷ bs) ≡ p ∷ flow true b bs
unfolding flow
flow_apart p b bs h e = rw (le-leb b 0x10FFFF h, ne_eqb p b e) refl

-- a boundary that waits below all to come is listed
flow_below : (e b : ℕ) (bs : List ℕ) → e < b → rising b bs ≡ true → flow true e bs ≡ e ∷ flow false b bs
flow_below e b [] l r = rw (flow_none true e, flow_none false b) refl
flow_below e b (c ∷ bs) l r =
    let y = rising_on b c bs r in
    ⊎_elim
    (λ h. flow_apart e c bs h (λ q. omega arith) ∙ rw (flow_free b c bs h) refl)
    (λ h. rw (flow_high true e c bs h, flow_high false b c bs h, flow_none true e, flow_none false b) refl)
    (split c 0x10FFFF)

-- at the end, with each that is held back
end_free : (p : ℕ) → joined (unequal []) ≡ flow false p []
end_free p = rw (drops_none, flow_none false p) refl

end_start : (a : ℕ) → joined (unequal (a ∷ [])) ≡ flow true a []
end_start a = rw (drops_one a, joined_from_lem a [], drops_none, flow_none true a) refl

end_end : (e : ℕ) → unequal (e ∷ unequal []) ≡ flow true e []
end_end e = rw (drops_none, drops_one e, flow_none true e) refl

end_touch : (a : ℕ) → unequal (a ∷ unequal (a ∷ [])) ≡ flow false a []
end_touch a = rw (drops_one a, drops_same a a [] refl, drops_none, flow_none false a) refl

end_both : (e a : ℕ) → (e ≡ a → ⊥) → unequal (e ∷ unequal (a ∷ [])) ≡ e ∷ flow true a []
end_both e a n = rw (drops_one a, drops_not e a [] n, drops_none, flow_none true a) refl

mutual
  -- nothing is held back
  free : (bs : List ℕ) (p : ℕ) → rising p bs ≡ true → joined (unequal (kept bs)) ≡ flow false p bs
  free [] p r = rw kept_none (end_free p)
  free (b ∷ bs) p r =
      let y = rising_on p b bs r in
      ⊎_elim
      (λ h. rw (kept_in b bs h, flow_free p b bs h) (start bs b y.1))
      (λ h. rw (kept_out b bs h, kept_high bs b y.1 h, flow_high false p b bs h) (end_free p))
      (split b 0x10FFFF)

  -- the start a of the first pair
  start : (bs : List ℕ) (a : ℕ) → rising a bs ≡ true → joined (unequal (a ∷ kept bs)) ≡ flow true a bs
  start [] a r = rw kept_none (end_start a)
  start (b ∷ bs) a r =
      let y = rising_on a b bs r in
      ⊎_elim
      (λ h.
      rw (kept_in b bs h)
      (⊎_elim
      (λ q. rw (drops_same a b (kept bs) q, flow_same a b bs h q) (free bs b y.1))
      (λ q. rw (drops_not a b (kept bs) q, joined_from_lem a (b ∷ unequal (kept bs)), flow_apart a b bs h q, ended bs b y.1) refl)
      (cases_eq a b)))
      (λ h. rw (kept_out b bs h, kept_high bs b y.1 h, flow_high true a b bs h) (end_start a))
      (split b 0x10FFFF)

  -- the end e of a pair
  ended : (bs : List ℕ) (e : ℕ) → rising e bs ≡ true → unequal (e ∷ unequal (kept bs)) ≡ flow true e bs
  ended [] e r = rw kept_none (end_end e)
  ended (b ∷ bs) e r =
      let y = rising_on e b bs r in
      ⊎_elim
      (λ h.
      rw (kept_in b bs h)
      (⊎_elim
      (λ q. rw (flow_same e b bs h q, q) (touching bs b y.1))
      (λ q. rw (flow_apart e b bs h q) (between bs e b (omega arith) y.1))
      (cases_eq e b)))
      (λ h. rw (kept_out b bs h, kept_high bs b y.1 h, flow_high true e b bs h) (end_end e))
      (split b 0x10FFFF)

  -- the end of a pair and the start of the next, both a
  touching : (bs : List ℕ) (a : ℕ) → rising a bs ≡ true → unequal (a ∷ unequal (a ∷ kept bs)) ≡ flow false a bs
  touching [] a r = rw kept_none (end_touch a)
  touching (b ∷ bs) a r =
      let y = rising_on a b bs r in
      ⊎_elim
      (λ h.
      rw (kept_in b bs h, flow_free a b bs h)
      (⊎_elim
      (λ q. rw (drops_same a b (kept bs) q, q) (ended bs b y.1))
      (λ q. rw (drops_not a b (kept bs) q, drops_same a a (b ∷ unequal (kept bs)) refl) (ended bs b y.1))
      (cases_eq a b)))
      (λ h. rw (kept_out b bs h, kept_high bs b y.1 h, flow_high false a b bs h) (end_touch a))
      (split b 0x10FFFF)

  -- the end e of a pair and the start a of the next, above it
  between : (bs : List ℕ) (e a : ℕ) → e < a → rising a bs ≡ true → unequal (e ∷ unequal (a ∷ kept bs)) ≡ e ∷ flow true a bs
  between [] e a l r = rw kept_none (end_both e a (λ q. omega arith))
  between (b ∷ bs) e a l r =
      let y = rising_on a b bs r in
      let n : (e ≡ a → ⊥) = λ q. omega arith in
      ⊎_elim
      (λ h.
      rw (kept_in b bs h)
      (⊎_elim
      (λ q.
      rw (drops_same a b (kept bs) q, flow_same a b bs h q)
      (ended bs e (rising_less e b bs (omega arith) y.1) ∙ flow_below e b bs (omega arith) y.1))
      (λ q.
      rw (drops_not a b (kept bs) q, drops_not e a (b ∷ unequal (kept bs)) n, flow_apart a b bs h q, ended bs b y.1) refl)
      (cases_eq a b)))
      (λ h. rw (kept_out b bs h, kept_high bs b y.1 h, flow_high true a b bs h) (end_both e a n))
      (split b 0x10FFFF)

-- number by number or in pairs
numbers_flat : (bs : List ℕ) → numbers false bs ≡ flat bs
unfolding numbers flat
numbers_flat [] = refl
numbers_flat (a ∷ []) = refl
numbers_flat (a ∷ (b ∷ bs)) = rw (numbers_flat bs) refl

module _ (hs os : List ℕ) (accepted : broken hs os ≡ None) where
  pub flow_is : joined (unequal (kept (boundaries hs os))) ≡ flow false 0 (boundaries hs os)
  flow_is = free (boundaries hs os) 0 (boundaries_rise hs os accepted)

  -- what the loops list is the list
  pub numbers_are : numbers false (flow false 0 (boundaries hs os)) ≡ list hs os
  numbers_are = numbers_flat _ ∙ ap flat (sym flow_is)
