-- What a caller learns from the answer Ok: the list is good, there was room, and the table is its packing. Assumes nothing.
use Prim.Native.Nat.{ℕ, ◌%◌, ◌≤◌}
use mathlib.Core.Path.{◌≡◌, ◌∙◌, sym, refl}
use mathlib.Core.List.{List}
use Rattle.std.specs.Prelude.{Result, Ok, Err}
use mathlib.Core.Bool.{Bool, true, false, cond}
use borrow.Author.Tests.{ltb-false, eqb-true}
use lib.ListN.{length}
use lib.Dec.{ltb, eqb}
use Rattle.scalar.specs.declared.refusal.Refusal.{Refusal}
use Rattle.scalar.specs.declared.refusal.Refusal.TheVariants as refusal
use Rattle.sets.specs.Lists.{ranges, bad_at}
use Rattle.sets.specs.Answers.{list_else}
use Rattle.sets.proofs.Good.{Good}
use Rattle.sets.proofs.Demand.{listed_exactly}
use Rattle.pack.specs.Answers.{offset_need, header_need, needs, pack_else, Packs}
use Rattle.pack.specs.declared.Packed.{Packed}
use Rattle.pack.proofs.Listed.{PacksListed, packs_listed}

-- the five tests, as Bools
done_by : (even many bad short-os short-hs : Bool) (u v w : Refusal) (p m : Packed)
    → Ok p
    ≡ cond even
    (cond many (Err refusal.TooManyRanges)
    (cond bad (Err u) (cond short-os (Err v) (cond short-hs (Err w) (Ok m)))))
    (Err refusal.OddList)
    → (even ≡ true) × (many ≡ false) × (bad ≡ false) × (short-os ≡ false) × (short-hs ≡ false)
done_by false many bad short-os short-hs u v w p m e = absurd cc
done_by true true bad short-os short-hs u v w p m e = absurd cc
done_by true false true short-os short-hs u v w p m e = absurd cc
done_by true false false true short-hs u v w p m e = absurd cc
done_by true false false false true u v w p m e = absurd cc
done_by true false false false false u v w p m e = (refl, refl, refl, refl, refl)

pub record Says (l hs os : List ℕ) (r : Result Packed Refusal) (hs' os' : List ℕ) : Type 0 where
  pub good : Good l
  pub room_headers : header_need l ≤ length hs
  pub room_offsets : offset_need l ≤ length os
  pub packs : PacksListed l r hs' os'

done_tests : (l hs os : List ℕ) (p : Packed) → Ok p ≡ pack_else Err l hs os (Ok (needs l))
    → Good l × (offset_need l ≤ length os) × (header_need l ≤ length hs)
unfolding pack_else list_else
done_tests l hs os p e =
    let z =
    done_by (eqb (length l % 2) 0) (ltb 1023 (ranges l)) (ltb (bad_at 0 0 l) (ranges l)) (ltb (length os) (offset_need l))
    (ltb (length hs) (header_need l)) (refusal.BadRange (bad_at 0 0 l)) (refusal.ShortOffsets (offset_need l))
    (refusal.ShortHeaders (header_need l)) p (needs l) e in (
      record { even = eqb-true _ _ z.0; few = ltb-false _ _ z.1; fine = ltb-false _ _ z.2 },
      ltb-false _ _ z.3,
      ltb-false _ _ z.4,
    )

pub done_says : (l hs os : List ℕ) (r : Result Packed Refusal) (hs' os' : List ℕ) (p : Packed) → Packs l hs os r hs' os' → r ≡ Ok p
    → Says l hs os r hs' os'
done_says l hs os r hs' os' p k e =
    let z = done_tests l hs os p (sym e ∙ k.answers) in
    record {
      good = z.0;
      room_headers = z.2;
      room_offsets = z.1;
      packs = packs_listed l hs os r hs' os' k ((listed_exactly l).1 z.0) z.1 z.2;
    }
