-- One set, one packing: two tables that keep the rules, unpacked and packed again, give the same headers and offsets exactly if
-- they agree at every number. A set has one list (sets' law `unique`), a list has one packing, and unpacking a packing gives
-- its list back. Assumes nothing.
use Rattle.std.specs.Prelude.{◌≡◌, ℕ, ◌≤◌, ◌↔◌, List, length, take, None, Result, Err}
use mathlib.Core.Path.{◌∙◌, sym, refl, ap}
use native.Mathlib.Omega.{arith}
use borrow.Author.Tests.{eq-eqb, lt-ltb}
use Rattle.scalar.specs.declared.refusal.Refusal.TheVariants as refusal
use Rattle.scalar.specs.declared.refusal.Refusal.{Refusal}
use Rattle.sets.specs.Boundaries.{member}
use Rattle.sets.specs.Lists.{ranges, holds}
use Rattle.sets.specs.Answers.{list_else}
use Rattle.sets.proofs.Good.{Good}
use Rattle.sets.proofs.Demand.{listed_exactly}
use Rattle.sets.proofs.Unique.{unique, good_fine}
use Rattle.skip.specs.Table.{boundaries}
use Rattle.skip.specs.Rules.{broken}
use Rattle.skip_rules.proofs.Stated.{Keeps, accepts_exactly}
use Rattle.pack.specs.Packing.{headers, offsets}
use Rattle.pack.specs.Answers.{offset_need, header_need, packed_headers, packed_offsets, pack_else, Packs}
use Rattle.pack.specs.declared.Packed.{Packed}
use Rattle.pack.proofs.Listed.{packs_listed}
use Rattle.unpack.specs.Unpacking.{list}
use Rattle.unpack.specs.Answers.{Unpacks, unpacked_numbers}
use Rattle.unpack.proofs.Apart.{unpack_apart, unpack_good}
use Rattle.unpack.proofs.RoundTrip.{unpack_pack}
use Rattle.unpack.proofs.SameSet.{unpack_same_set, unpacks_kept}

-- the tables agree at every number from 0 to 0x10FFFF
abbrev pub Agree : List ℕ → List ℕ → List ℕ → List ℕ → Type 0
Agree hs os hs' os' = (x : ℕ) → x ≤ 0x10FFFF → member (boundaries hs os) x ≡ member (boundaries hs' os') x

-- by the promises of the two entries: the table hs, os was unpacked into a buffer with room, what was reported there was packed into
-- buffers with room, and what the packer reported of them is the table hs'', os''
pub record Repacks (hs os hs'' os'' : List ℕ) : Type 0 where
  pub out : List ℕ
  pub unpacked : Result ℕ Refusal
  pub out' : List ℕ
  pub unpacks : Unpacks hs os out unpacked out'
  pub room : length (list hs os) ≤ length out
  pub hb : List ℕ
  pub ob : List ℕ
  pub answer : Result Packed Refusal
  pub hb' : List ℕ
  pub ob' : List ℕ
  pub packs : Packs (take (unpacked_numbers unpacked) out') hb ob answer hb' ob'
  pub room_headers : header_need (list hs os) ≤ length hb
  pub room_offsets : offset_need (list hs os) ≤ length ob
  pub headers_are : hs'' ≡ take (packed_headers answer) hb'
  pub offsets_are : os'' ≡ take (packed_offsets answer) ob'

-- then that table is the packing of the list
pub repacks_as : (hs os hs'' os'' : List ℕ) → Keeps hs os → ranges (list hs os) ≤ 1023 → Repacks hs os hs'' os''
    → (hs'' ≡ headers (list hs os)) × (os'' ≡ offsets (list hs os))
repacks_as hs os hs'' os'' k few t =
    let good = unpack_good hs os ((accepts_exactly hs os).1 k) few in
    let written = (unpacks_kept hs os t.out t.unpacked t.out' t.unpacks k t.room).writes in
    let promised : Packs (list hs os) t.hb t.ob t.answer t.hb' t.ob' = rw written at t.packs in
    let p = packs_listed (list hs os) t.hb t.ob t.answer t.hb' t.ob' promised ((listed_exactly (list hs os)).1 good) t.room_offsets t.room_headers in
    (t.headers_are ∙ p.writes_headers, t.offsets_are ∙ p.writes_offsets)

module _ (hs os hs' os' : List ℕ) (b : broken hs os ≡ None) (b' : broken hs' os' ≡ None) (few : ranges (list hs os) ≤ 1023) (few' : ranges (list hs' os') ≤ 1023) where
  good : Good (list hs os)
  good = unpack_good hs os b few

  good' : Good (list hs' os')
  good' = unpack_good hs' os' b' few'

  -- tables that agree have one list
  same_list : Agree hs os hs' os' → list hs os ≡ list hs' os'
  same_list s =
      unique 0 0 (list hs os) (list hs' os') (good_fine good) (good_fine good')
      (λ x h. unpack_same_set x h hs os b ∙ s x h ∙ sym (unpack_same_set x h hs' os' b'))

  -- lists with one packing are the same list
  back : headers (list hs os) ≡ headers (list hs' os') → offsets (list hs os) ≡ offsets (list hs' os') → list hs os ≡ list hs' os'
  back e f = sym (unpack_pack (list hs os) good) ∙ rw (e, f) (unpack_pack (list hs' os') good')

  agree : list hs os ≡ list hs' os' → Agree hs os hs' os'
  agree e x h = sym (unpack_same_set x h hs os b) ∙ ap (λ (l : List ℕ). holds l x) e ∙ unpack_same_set x h hs' os' b'

-- the request's sentence
pub one_packing : (hs os hs' os' hs₂ os₂ hs₃ os₃ : List ℕ) → Keeps hs os → Keeps hs' os' → ranges (list hs os) ≤ 1023 → ranges (list hs' os') ≤ 1023
    → Repacks hs os hs₂ os₂ → Repacks hs' os' hs₃ os₃ → ((hs₂ ≡ hs₃) × (os₂ ≡ os₃)) ↔ Agree hs os hs' os'
one_packing hs os hs' os' hs₂ os₂ hs₃ os₃ k k' few few' t t' =
    let b = (accepts_exactly hs os).1 k in
    let b' = (accepts_exactly hs' os').1 k' in
    let p = repacks_as hs os hs₂ os₂ k few t in
    let p' = repacks_as hs' os' hs₃ os₃ k' few' t' in (
      (λ e. agree hs os hs' os' b b' few few' (back hs os hs' os' b b' few few' (sym p.0 ∙ e.0 ∙ p'.0) (sym p.1 ∙ e.1 ∙ p'.1))),
      (λ s.
          let e = same_list hs os hs' os' b b' few few' s in
          (p.0 ∙ ap headers e ∙ sym p'.0, p.1 ∙ ap offsets e ∙ sym p'.1)),
    )

-- a table of 1,024 joined ranges is refused 4 by the packer
pub one_too_many : (hs os hb ob : List ℕ) (r : Result Packed Refusal) (hb' ob' : List ℕ) → Keeps hs os → ranges (list hs os) ≡ 1024
    → Packs (list hs os) hb ob r hb' ob' → r ≡ Err refusal.TooManyRanges
unfolding pack_else list_else
one_too_many hs os hb ob r hb' ob' k n p =
    let even = (unpack_apart hs os ((accepts_exactly hs os).1 k)).0 in
    p.answers ∙ rw (eq-eqb _ 0 even, lt-ltb 1023 (ranges (list hs os)) (omega arith)) refl
