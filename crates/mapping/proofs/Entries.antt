-- An entry over any number, for any list of rows: a refused check is the entry's own refusal, a valid one leads to the row of the
-- number. Assumes nothing.
-- A lemma that no proof cites any more stands because docs/PORT.md names it.
use Rattle.std.specs.Prelude.{◌≡◌, ℕ, List, Ok, Err}
use mathlib.Core.Path.{◌∙◌, ap}
use Rattle.scalar.specs.Scalars.{checked}
use Rattle.scalar.specs.declared.refusal.Refusal.{Refusal}
use Rattle.scalar.specs.declared.refusal.Refusal.TheVariants as refusal
use Rattle.scalar.proofs.Answers.{refused_as, valid_as, valid_value}
use Rattle.casing.specs.Listed.{row_of, mapping_of}

module _ (n : ℕ) where
  pub refused_entry : (list : List ℕ) (r : Refusal) → Err r ≡ checked n → Err r ≡ mapping_of list n
  refused_entry list r e = refused_as n Err (Ok (row_of list n)) r e

  pub valid_entry : (list : List ℕ) (v : ℕ) → Ok v ≡ checked n → Ok (row_of list v) ≡ mapping_of list n
  valid_entry list v e =
      ap (λ (k : ℕ). Ok (row_of list k)) (valid_value n v e)
      ∙ valid_as n (Err refusal.AboveMax) (Err refusal.Surrogate) (Ok (row_of list n)) v e
