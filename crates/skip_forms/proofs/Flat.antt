-- The records as flat pairs, and the buffer that holds them: one more record takes the place of two zeros. Assumes nothing.
use Prim.Native.Nat.{ℕ, suc, ◌+◌, ◌-◌, ◌*◌, ◌<◌, ◌≤◌}
use mathlib.Core.Path.{◌≡◌, refl, sym, ◌∙◌, ap}
use mathlib.Core.List.{List, [], ◌∷◌, ◌++◌, append_assoc}
use native.Mathlib.Numerals.{add-one}
use native.Mathlib.Omega.{arith}
use lib.ListN.{length, get_or, take, set, replicate, length-append, length-replicate}
use lib.Seq.{set_at, take-suc, take_at, take-length, length-take-le}
use Rattle.skip_forms.specs.declared.records.Range.{Range}
use Rattle.skip_forms.specs.Records.{flatten, filled}

-- what stands where no record is
abbrev pub none : Range
none = record { first = 0; last = 0 }

pub length_flatten : (rs : List Range) → length (flatten rs) ≡ length rs * 2
unfolding flatten
length_flatten [] = refl
length_flatten (r ∷ rs) = let e = length_flatten rs in omega (arith, e)

flatten_snoc : (rs : List Range) (r : Range) → flatten (rs ++ r ∷ []) ≡ flatten rs ++ r.first ∷ r.last ∷ []
unfolding flatten
flatten_snoc [] r = refl
flatten_snoc (x ∷ rs) r = ap (λ (l : List ℕ). x.first ∷ x.last ∷ l) (flatten_snoc rs r)

-- two stores after p, at the place k
two_stores : (p q : List ℕ) (k a b : ℕ) → length p ≡ k → set (set (p ++ 0 ∷ 0 ∷ q) k a) (k + 1) b ≡ p ++ a ∷ b ∷ q
two_stores p q k a b e =
    let long : length (p ++ a ∷ []) ≡ k + 1 = rw (length-append p (a ∷ []), e) refl in
    ap (λ (l : List ℕ). set l (k + 1) b) (set_at p 0 (0 ∷ q) a k e ∙ sym (append_assoc p (a ∷ []) (0 ∷ q)))
    ∙ set_at (p ++ a ∷ []) 0 q b (k + 1) long
    ∙ append_assoc p (a ∷ []) (b ∷ q)

module _ (rs : List Range) (i : ℕ) where
  length_first : i ≤ length rs → length (flatten (take i rs)) ≡ i * 2
  length_first l = length_flatten (take i rs) ∙ ap (λ (k : ℕ). k * 2) (length-take-le i rs l)

  pub length_filled : i ≤ length rs → i ≤ 1023 → length (filled i rs) ≡ 2046
  unfolding filled
  length_filled l m =
      let e = length-append (flatten (take i rs)) (replicate (2046 - i * 2) 0) in
      let f = length_first l in
      let z = length-replicate {A = ℕ} (2046 - i * 2) 0 in
      omega (arith, e, f, z)

  -- two stores at the place of record i
  pub filled_more : i < length rs → i < 1023
      → set (set (filled i rs) (i * 2) (get_or rs i none).first) (i * 2 + 1) (get_or rs i none).last ≡ filled (i + 1) rs
  unfolding filled
  filled_more l m =
      let elem = get_or rs i none in
      let room : 2046 - i * 2 ≡ suc (suc (2046 - suc i * 2)) = omega arith in
      rw (room, add-one i, take-suc rs i none l, flatten_snoc, append_assoc)
      (two_stores (flatten (take i rs)) (replicate (2046 - suc i * 2) 0) (i * 2) elem.first elem.last (length_first (omega arith)))

pub filled_none : (rs : List Range) → filled 0 rs ≡ replicate 2046 0
unfolding filled flatten
filled_none rs = refl

-- of a list that is not refused the buffer begins with all its pairs
pub filled_all : (rs : List Range) → take (length rs * 2) (filled (length rs) rs) ≡ flatten rs
unfolding filled
filled_all rs =
    rw (take-length rs) (take_at (flatten rs) (replicate (2046 - length rs * 2) 0) (length rs * 2) (length_flatten rs))
