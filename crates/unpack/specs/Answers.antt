-- What the unpacker answers and leaves. Assumes nothing: these are definitions.
use Rattle.std.specs.Prelude.{◌≡◌, ℕ, cond, List, length, nat_lt, Result, Ok, Err}
use Rattle.scalar.specs.declared.refusal.Refusal.{Refusal}
use Rattle.scalar.specs.declared.refusal.Refusal.TheVariants as refusal
use Rattle.sets.specs.Buffers.{over}
use Rattle.skip.specs.Answers.{table_else}
use Rattle.unpack.specs.Unpacking.{list}

-- the unpacker tests 8, then 10 for a buffer too short for the list, with the need; else the last
unfoldable pub unpack_else : {A : Type 0} → (Refusal → A) → List ℕ → List ℕ → List ℕ → A → A
unpack_else refuse hs os out good =
    table_else refuse hs os (cond (nat_lt (length out) (length (list hs os))) (refuse (refusal.ShortBuffer (length (list hs os)))) good)

-- the answer to a table of headers hs and offsets os with a buffer out, which then holds out'
pub record Unpacks (hs os out : List ℕ) (r : Result ℕ Refusal) (out' : List ℕ) : Type 0 where
  -- a refusal, or how many numbers were written
  pub answers : r ≡ unpack_else Err hs os out (Ok (length (list hs os)))
  -- no refusal writes to a lent buffer; success leaves every place beyond the reported length unchanged
  pub leaves : out' ≡ unpack_else (λ r. out) hs os out (over (list hs os) out)

-- the value of an answer; a refusal writes nothing
abbrev pub unpacked_numbers : Result ℕ Refusal → ℕ
unpacked_numbers (Ok n) = n
unpacked_numbers (Err r) = 0
