-- The length entry and the encoder agree: with room for the length that the one answers, the other answers the same; with less,
-- a scalar value is refused 10 and the need is that length. Both follow from the two promises. Assumes nothing.
use Prim.Native.Nat.{ℕ, ◌≤◌, ◌<◌}
use mathlib.Core.Path.{◌≡◌, ◌∙◌, sym, refl}
use mathlib.Core.Bool.{Bool, true, false, cond}
use mathlib.Core.List.{List}
use lib.Dec.{ltb}
use Rattle.std.specs.Prelude.{Result, Ok, Err}
use lib.ListN.{length}
use native.Mathlib.Omega.{arith}
use borrow.Author.Tests.{lt-ltb, le-ltb, ltb-false}
use Rattle.scalar.specs.Scalars.{between, scalar_else}
use Rattle.scalar.specs.declared.refusal.Refusal.{Refusal}
use Rattle.scalar.specs.declared.refusal.Refusal.TheVariants as refusal
use Rattle.scalar.proofs.Answers.{IsScalar, scalar_good}
use Rattle.encoding.specs.Lengths.{measured}
use Rattle.encoding.specs.Writes.{Encodes}

-- a length that is answered is the good answer, and no test refused the number
answered_by : (above low : Bool) (r q : Refusal) (k l : ℕ) → Ok k ≡ cond above (Err r) (cond low (Err q) (Ok l))
    → (k ≡ l) × (above ≡ false) × (low ≡ false)
answered_by true low r q k l e = let z : ◌≡◌ {A = ℕ} 0 1 = cc in absurd (omega arith)
answered_by false true r q k l e = let z : ◌≡◌ {A = ℕ} 0 1 = cc in absurd (omega arith)
answered_by false false r q k l e = (cc, refl, refl)

answered : (len : ℕ → ℕ) (n k : ℕ) → Ok k ≡ measured len n → (k ≡ len n) × IsScalar n
unfolding scalar_else
answered len n k e =
    let a = answered_by (ltb 0x10FFFF n) (between 0xD800 0xDFFF n) _ _ k (len n) e in
    (a.0, record { inside = ltb-false 0x10FFFF n a.1; plain = a.2 })

module _ (units : ℕ → List ℕ) (len : ℕ → ℕ) (agree : (n : ℕ) → length (units n) ≡ len n) (n : ℕ) (o : List ℕ) where
  pub with_room : {r r' : Result ℕ Refusal} {o' : List ℕ} → r ≡ measured len n → Encodes units n o r' o' → len n ≤ length o → r ≡ r'
  with_room e p l = e ∙ sym (p.answers ∙ simp (agree n, le-ltb (length o) (len n) l))

  pub without_room : {r' : Result ℕ Refusal} {o' : List ℕ} (k : ℕ) → Ok k ≡ measured len n → Encodes units n o r' o' → length o < k
      → (r' ≡ Err (refusal.ShortBuffer k)) × (o' ≡ o)
  without_room k e p l =
      let a = answered len n k e in
      let d : length (units n) ≡ k = agree n ∙ sym a.0 in
      let t = lt-ltb (length o) k l in
      (p.answers ∙ sym (scalar_good n _ _ _ a.1) ∙ simp (d, t), p.leaves ∙ sym (scalar_good n _ _ _ a.1) ∙ simp (d, t))
