-- What the core's promise of a list of pairs says of the records that it comes from. Assumes nothing.
use Prim.Native.Nat.{ℕ, ◌*◌, ◌/◌, ◌%◌, ◌<◌}
use mathlib.Core.Path.{◌≡◌, subst}
use mathlib.Core.List.{List}
use Rattle.std.specs.Prelude.{Result, Ok, Err}
use mathlib.Core.Bool.{Bool, true, false, cond}
use native.Mathlib.Omega.{arith}
use borrow.Author.Tests.{eq-eqb}
use lib.ListN.{length, take}
use lib.Dec.{ltb}
use Rattle.scalar.specs.declared.refusal.Refusal.TheVariants.{TooManyRanges, BadRange, ShortOffsets, ShortHeaders}
use Rattle.scalar.specs.Refusals.{number}
use Rattle.scalar.specs.declared.refusal.Refusal.{Refusal}
use Rattle.sets.specs.Lists.{ranges, bad_at}
use Rattle.sets.specs.Answers.{list_else}
use Rattle.sets.proofs.Answers.{many_refused}
use Rattle.pack.specs.Answers.{pack_else, offset_need, header_need, needs, Packs}
use Rattle.pack.specs.declared.Packed.{Packed}
use Rattle.skip_forms.specs.declared.records.Range.{Range}
use Rattle.skip_forms.specs.Records.{flatten, filled}
use Rattle.skip_forms.proofs.Flat.{length_flatten, filled_all}

-- none of the tests after the first answers 3
not_three : (many bad six seven : Bool) (k m n : ℕ) (p : Packed) (r : Refusal)
    → Err r ≡ cond many (Err TooManyRanges) (cond bad (Err (BadRange k)) (cond six (Err (ShortOffsets m)) (cond seven (Err (ShortHeaders n)) (Ok p))))
    → number r ≡ 3 → ⊥
not_three true bad six seven k m n p r e z = let q : r ≡ TooManyRanges = cc in let y = rw q at z in omega (arith, y)
not_three false true six seven k m n p r e z = let q : r ≡ BadRange k = cc in let y = rw q at z in omega (arith, y)
not_three false false true seven k m n p r e z = let q : r ≡ ShortOffsets m = cc in let y = rw q at z in omega (arith, y)
not_three false false false true k m n p r e z = let q : r ≡ ShortHeaders n = cc in let y = rw q at z in omega (arith, y)
not_three false false false false k m n p r e z = absurd cc

module _ (rs : List Range) (hs os : List ℕ) where
  -- more than 1,023 records are refused 4, and nothing is written: their pairs are even in number
  pub many : 1023 < length rs → Packs (flatten rs) hs os (Err TooManyRanges) hs os
  unfolding pack_else
  many m =
      let long = length_flatten rs in
      let even : length (flatten rs) % 2 ≡ 0 = omega (arith, long) in
      let more : 1023 < length (flatten rs) / 2 = omega (arith, long, m) in
      record {
        answers = many_refused Err (flatten rs) _ even more;
        leaves_headers = many_refused (λ r. hs) (flatten rs) _ even more;
        leaves_offsets = many_refused (λ r. os) (flatten rs) _ even more;
      }

  -- 3 can't arise for records
  pub never_three : (r : Refusal) (hs' os' : List ℕ) → Packs (flatten rs) hs os (Err r) hs' os' → number r ≡ 3 → ⊥
  unfolding pack_else list_else
  never_three r hs' os' p e =
      let long = length_flatten rs in
      let even : length (flatten rs) % 2 ≡ 0 = omega (arith, long) in
      let l = flatten rs in
      not_three (ltb 1023 (ranges l)) (ltb (bad_at 0 0 l) (ranges l)) (ltb (length os) (offset_need l)) (ltb (length hs) (header_need l))
      (bad_at 0 0 l) (offset_need l) (header_need l) (needs l) r (rw (eq-eqb _ _ even) at p.answers) e

  -- what is promised of the array's front is promised of the records
  pub front : (r : Result Packed Refusal) (hs' os' : List ℕ) → Packs (take (length rs * 2) (filled (length rs) rs)) hs os r hs' os'
      → Packs (flatten rs) hs os r hs' os'
  front r hs' os' p = subst (λ (l : List ℕ). Packs l hs os r hs' os') (filled_all rs) p
