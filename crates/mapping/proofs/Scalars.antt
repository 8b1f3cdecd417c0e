-- Every number that an entry answers is a scalar value: no refusal is needed for one that is not. One law over the list, and the
-- computed test of each mapping's rows. Assumes nothing.
use Rattle.std.specs.Prelude.{◌≡◌, ℕ, Bool, true, false, cond, ltb, List, Ok, Err}
use mathlib.Core.Path.{refl}
use Rattle.scalar.specs.Scalars.{scalar_else, between}
use Rattle.scalar.specs.declared.refusal.Refusal.TheVariants as refusal
use Rattle.casing.specs.Answers.{to_of}
use Rattle.casing.specs.Listed.{quads, row_of, mapping_of}
use Rattle.casing.proofs.Scalars.{AllScalar, scalars, row_scalar, refused_scalar}
use Rattle.casing_lower.specs.Unicode as lower
use Rattle.casing_upper.specs.Unicode as upper
use Rattle.casing_title.specs.Unicode as title
use Rattle.casing_lower.proofs.Same as lower-same
use Rattle.casing_upper.proofs.Same as upper-same
use Rattle.casing_title.proofs.Same as title-same

mapping_scalars : (list : List ℕ) → scalars (quads list) ≡ true → (n : ℕ) → AllScalar (to_of (mapping_of list n))
unfolding scalar_else
mapping_scalars list t n = by_tests (ltb 0x10FFFF n) (between 0xD800 0xDFFF n) (λ s. row_scalar list t n s)
  where
    by_tests : (s u : Bool) → (cond s false (cond u false true) ≡ true → AllScalar (row_of list n).to)
        → AllScalar (to_of (cond s (Err refusal.AboveMax) (cond u (Err refusal.Surrogate) (Ok (row_of list n)))))
    by_tests true u h = refused_scalar refusal.AboveMax
    by_tests false true h = refused_scalar refusal.Surrogate
    by_tests false false h = h refl

pub lower_scalars : (n : ℕ) → AllScalar (to_of (mapping_of lower.rows n))
lower_scalars = mapping_scalars lower.rows lower-same.all_scalars

pub upper_scalars : (n : ℕ) → AllScalar (to_of (mapping_of upper.rows n))
upper_scalars = mapping_scalars upper.rows upper-same.all_scalars

pub title_scalars : (n : ℕ) → AllScalar (to_of (mapping_of title.rows n))
title_scalars = mapping_scalars title.rows title-same.all_scalars
