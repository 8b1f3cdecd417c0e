-- What the packer answers and leaves. Assumes nothing: these are definitions.
use Rattle.std.specs.Prelude.{ℕ, ◌+◌, ◌*◌, ◌≡◌, List, cond, length, ltb, Result, Ok, Err}
use Rattle.scalar.specs.declared.refusal.Refusal.{Refusal}
use Rattle.scalar.specs.declared.refusal.Refusal.TheVariants as refusal
use Rattle.sets.specs.Lists.{ranges}
use Rattle.sets.specs.Buffers.{over}
use Rattle.sets.specs.Answers.{list_else}
use Rattle.pack.specs.Packing.{offsets, headers}
use Rattle.pack.specs.declared.Packed.{Packed}

-- n ranges give 2n+1 offsets
abbrev pub offset_need : List ℕ → ℕ
offset_need l = 2 * ranges l + 1

-- as many headers as there are runs
abbrev pub header_need : List ℕ → ℕ
header_need l = length (headers l)

-- the packer tests 3, 4, 5, 6, 7: the list's own, then 6 for an offset buffer shorter than 2n+1, then 7 for a header
-- buffer shorter than the runs, each with the need; else the last
unfoldable pub pack_else : {A : Type 0} → (Refusal → A) → List ℕ → List ℕ → List ℕ → A → A
pack_else refuse l hs os good =
    list_else refuse l
    (cond (ltb (length os) (offset_need l)) (refuse (refusal.ShortOffsets (offset_need l)))
    (cond (ltb (length hs) (header_need l)) (refuse (refusal.ShortHeaders (header_need l))) good))

-- what is written of a list
abbrev pub needs : List ℕ → Packed
needs l = record { headers = header_need l; offsets = offset_need l }

-- the answer to a list l with header buffer hs and offset buffer os, which then hold hs' and os'
pub record Packs (l hs os : List ℕ) (r : Result Packed Refusal) (hs' os' : List ℕ) : Type 0 where
  -- a refusal, or how many headers and offsets were written
  pub answers : r ≡ pack_else Err l hs os (Ok (needs l))
  -- no refusal writes to a lent buffer; success leaves every place beyond the reported length unchanged
  pub leaves_headers : hs' ≡ pack_else (λ r. hs) l hs os (over (headers l) hs)
  pub leaves_offsets : os' ≡ pack_else (λ r. os) l hs os (over (offsets l) os)

-- the values of an answer; a refusal writes nothing
abbrev pub packed_headers : Result Packed Refusal → ℕ
packed_headers (Ok p) = p.headers
packed_headers (Err r) = 0

abbrev pub packed_offsets : Result Packed Refusal → ℕ
packed_offsets (Ok p) = p.offsets
packed_offsets (Err r) = 0
