-- No scalar value is mapped to a surrogate or past 0x10FFFF: where every mapped number of a list's rows is a scalar value, which is
-- one computed test, so is every number of every answer. Assumes nothing.
use Rattle.std.proofs.Common.{◌≡◌, ℕ, zero, suc, Bool, true, false, cond, ◌&&◌, eqb, List, [], ◌∷◌, get_or, refl}
use Rattle.std.specs.Prelude.{Err}
use Rattle.scalar.specs.Scalars.{scalar_else, is_scalar}
use Rattle.scalar.specs.declared.refusal.Refusal.{Refusal}
use Rattle.std.proofs.lemmas.Bool.{and_parts}
use Rattle.casing.specs.Answers.{to_of, made}
use Rattle.casing.specs.Rows.{Row, first_row}
use Rattle.casing.specs.Listed.{quads, row_of}

-- every number of an answer is a scalar value; past the three it reads 0, which is one
abbrev pub AllScalar : List ℕ → Type 0
AllScalar to = (k : ℕ) → is_scalar (get_or to k 0) ≡ true

-- every mapped number of the rows is a scalar value
unfoldable pub scalars : List Row → Bool
scalars [] = true
scalars (q ∷ qs) = is_scalar q.1 && (is_scalar q.2 && (is_scalar q.3 && scalars qs))

nought : is_scalar 0 ≡ true
unfolding scalar_else
nought = refl

of_three : (a b c : ℕ) → is_scalar a ≡ true → is_scalar b ≡ true → is_scalar c ≡ true → (k : ℕ) → is_scalar (get_or (a ∷ b ∷ c ∷ []) k 0) ≡ true
of_three a b c p q r zero = p
of_three a b c p q r (suc zero) = q
of_three a b c p q r (suc (suc zero)) = r
of_three a b c p q r (suc (suc (suc k))) = nought

made_scalar : (a b c : ℕ) → is_scalar a ≡ true → is_scalar b ≡ true → is_scalar c ≡ true → AllScalar (made a b c).to
unfolding made
made_scalar a b c p q r = of_three a b c p q r

pub refused_scalar : (r : Refusal) → AllScalar (to_of (Err r))
refused_scalar r = of_three 0 0 0 nought nought nought

found_scalar : (n : ℕ) → is_scalar n ≡ true → (qs : List Row) → scalars qs ≡ true
    → AllScalar (first_row (λ q. eqb q.0 n) (λ q. made q.1 q.2 q.3) qs (made n 0 0)).to
unfolding first_row scalars
found_scalar n s [] t = made_scalar n 0 0 s nought nought
found_scalar n s (q ∷ qs) t =
    let b = is_scalar q.2 && (is_scalar q.3 && scalars qs) in
    let u = (and_parts (is_scalar q.1) b t).1 in
    let v = (and_parts (is_scalar q.2) (is_scalar q.3 && scalars qs) u).1 in
    by_test (eqb q.0 n)
    (made_scalar q.1 q.2 q.3 (and_parts (is_scalar q.1) b t).0 (and_parts (is_scalar q.2) (is_scalar q.3 && scalars qs) u).0 (and_parts (is_scalar q.3) (scalars qs) v).0)
    (found_scalar n s qs (and_parts (is_scalar q.3) (scalars qs) v).1)
  where
    by_test : (t : Bool) → AllScalar (made q.1 q.2 q.3).to
        → AllScalar (first_row (λ q. eqb q.0 n) (λ q. made q.1 q.2 q.3) qs (made n 0 0)).to
        → AllScalar (cond t (made q.1 q.2 q.3) (first_row (λ q. eqb q.0 n) (λ q. made q.1 q.2 q.3) qs (made n 0 0))).to
    by_test true here on = here
    by_test false here on = on

pub row_scalar : (list : List ℕ) → scalars (quads list) ≡ true → (n : ℕ) → is_scalar n ≡ true → AllScalar (row_of list n).to
unfolding row_of
row_scalar list t n s = found_scalar n s (quads list) t
