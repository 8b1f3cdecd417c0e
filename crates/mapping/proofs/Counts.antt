-- What every answer of an entry is like, over any list of rows: a mapping counts 1 to 3 numbers, a refusal none, and every number
-- past the count is 0. Assumes nothing.
use Rattle.std.specs.Prelude.{◌≡◌, ℕ, zero, suc, ◌≤◌, Bool, true, false, cond, eqb, ltb, List, [], ◌∷◌, get_or, Result, Ok, Err, IsOk, IsErr}
use mathlib.Core.Path.{refl}
use native.Mathlib.Omega.{arith}
use borrow.Author.Tests.{eqb-true}
use Rattle.scalar.specs.Scalars.{scalar_else, between}
use Rattle.scalar.specs.declared.refusal.Refusal.{Refusal}
use Rattle.scalar.specs.declared.refusal.Refusal.TheVariants as refusal
use Rattle.casing.specs.declared.Mapping.{Mapping}
use Rattle.casing.specs.Answers.{to_of, count_of, made}
use Rattle.casing.specs.Rows.{Row, first_row}
use Rattle.casing.specs.Listed.{quads, row_of, mapping_of}

pub record Counted (answer : Result Mapping Refusal) : Type 0 where
  pub past : (k : ℕ) → count_of answer ≤ k → get_or (to_of answer) k 0 ≡ 0
  pub few : count_of answer ≤ 3
  pub answered : IsOk answer → 1 ≤ count_of answer
  pub not_answered : IsErr answer → count_of answer ≡ 0

get_or_beyond : (a b c k : ℕ) → 3 ≤ k → get_or (a ∷ b ∷ c ∷ []) k 0 ≡ 0
get_or_beyond a b c zero l = absurd (omega arith)
get_or_beyond a b c (suc zero) l = absurd (omega arith)
get_or_beyond a b c (suc (suc zero)) l = absurd (omega arith)
get_or_beyond a b c (suc (suc (suc k))) l = refl

module _ (a b c : ℕ) where
  past_made : (s t : Bool) → eqb c 0 ≡ s → eqb b 0 ≡ t → (k : ℕ) → cond s (cond t 1 2) 3 ≤ k → get_or (a ∷ b ∷ c ∷ []) k 0 ≡ 0
  past_made true true p q zero l = absurd (omega arith)
  past_made true true p q (suc zero) l = eqb-true b 0 q
  past_made true true p q (suc (suc zero)) l = eqb-true c 0 p
  past_made true true p q (suc (suc (suc k))) l = refl
  past_made true false p q zero l = absurd (omega arith)
  past_made true false p q (suc zero) l = absurd (omega arith)
  past_made true false p q (suc (suc zero)) l = eqb-true c 0 p
  past_made true false p q (suc (suc (suc k))) l = refl
  past_made false t p q k l = get_or_beyond a b c k l

  one_to_three : (s t : Bool) → (cond s (cond t 1 2) 3 ≤ 3) × (1 ≤ cond s (cond t 1 2) 3)
  one_to_three true true = (omega arith, omega arith)
  one_to_three true false = (omega arith, omega arith)
  one_to_three false t = (omega arith, omega arith)

  made_counted : Counted (Ok (made a b c))
  unfolding made
  made_counted =
      let h = one_to_three (eqb c 0) (eqb b 0) in
      record { past = past_made (eqb c 0) (eqb b 0) refl refl; few = h.0; answered = λ ok. h.1; not_answered = λ err. let no : ◌≡◌ {A = Bool} false true = err in let z : ◌≡◌ {A = ℕ} 0 1 = cc in absurd (omega arith) }

row_counted : (n : ℕ) (qs : List Row) → Counted (Ok (first_row (λ q. eqb q.0 n) (λ q. made q.1 q.2 q.3) qs (made n 0 0)))
unfolding first_row
row_counted n [] = made_counted n 0 0
row_counted n (q ∷ qs) = by_test (eqb q.0 n) (row_counted n qs)
  where
    by_test : (t : Bool) → Counted (Ok (first_row (λ q. eqb q.0 n) (λ q. made q.1 q.2 q.3) qs (made n 0 0)))
        → Counted (Ok (cond t (made q.1 q.2 q.3) (first_row (λ q. eqb q.0 n) (λ q. made q.1 q.2 q.3) qs (made n 0 0))))
    by_test true on = made_counted q.1 q.2 q.3
    by_test false on = on

zeros : (k : ℕ) → ◌≡◌ {A = ℕ} (get_or (0 ∷ 0 ∷ 0 ∷ []) k 0) 0
zeros zero = refl
zeros (suc zero) = refl
zeros (suc (suc zero)) = refl
zeros (suc (suc (suc k))) = refl

refused_counted : (r : Refusal) → Counted (Err r)
refused_counted r = record { past = λ k l. zeros k; few = omega arith; answered = λ ok. let no : ◌≡◌ {A = Bool} false true = ok in let z : ◌≡◌ {A = ℕ} 0 1 = cc in absurd (omega arith); not_answered = λ err. refl }

pub mapping_counted : (list : List ℕ) (n : ℕ) → Counted (mapping_of list n)
unfolding row_of scalar_else
mapping_counted list n = by_tests (ltb 0x10FFFF n) (between 0xD800 0xDFFF n)
  where
    by_tests : (s t : Bool) → Counted (cond s (Err refusal.AboveMax) (cond t (Err refusal.Surrogate) (Ok (row_of list n))))
    by_tests true t = refused_counted refusal.AboveMax
    by_tests false true = refused_counted refusal.Surrogate
    by_tests false false = row_counted n (quads list)
