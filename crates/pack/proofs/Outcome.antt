-- The packer's promise, outcome by outcome: what each test decides. Assumes nothing.
use Prim.Native.Nat.{ℕ, ◌<◌, ◌≤◌}
use mathlib.Core.Path.{◌≡◌}
use mathlib.Core.List.{List}
use Rattle.std.specs.Prelude.{Ok, Err}
use borrow.Author.Tests.{lt-ltb, le-ltb}
use lib.ListN.{length}
use Rattle.scalar.specs.declared.refusal.Refusal.{Refusal}
use Rattle.scalar.specs.declared.refusal.Refusal.TheVariants.{ShortOffsets, ShortHeaders}
use Rattle.sets.specs.Buffers.{over}
use Rattle.sets.specs.Answers.{list_checked}
use Rattle.sets.proofs.Good.{Good}
use Rattle.sets.proofs.Answers.{refused_as, list_good}
use Rattle.pack.specs.Packing.{headers, offsets}
use Rattle.pack.specs.Answers.{offset_need, header_need, needs, pack_else, Packs}

module _ (l hs os : List ℕ) where
  -- 3, 4, 5
  pub refused_list : (r : Refusal) → Err r ≡ list_checked l → Packs l hs os (Err r) hs os
  unfolding pack_else
  refused_list r e =
      record {
        answers = refused_as l Err _ r e;
        leaves_headers = refused_as l (λ r. hs) _ r e;
        leaves_offsets = refused_as l (λ r. os) _ r e;
      }

  module _ (g : Good l) where
    pub refused_offsets : length os < offset_need l → Packs l hs os (Err (ShortOffsets (offset_need l))) hs os
    unfolding pack_else
    refused_offsets e =
        let t = lt-ltb (length os) (offset_need l) e in
        record {
          answers = rw t (list_good Err l _ g);
          leaves_headers = rw t (list_good (λ r. hs) l _ g);
          leaves_offsets = rw t (list_good (λ r. os) l _ g);
        }

    module _ (room : offset_need l ≤ length os) where
      pub refused_headers : length hs < header_need l → Packs l hs os (Err (ShortHeaders (header_need l))) hs os
      unfolding pack_else
      refused_headers e =
          let t6 = le-ltb (length os) (offset_need l) room in
          let t = lt-ltb (length hs) (header_need l) e in
          record {
            answers = rw (t6, t) (list_good Err l _ g);
            leaves_headers = rw (t6, t) (list_good (λ r. hs) l _ g);
            leaves_offsets = rw (t6, t) (list_good (λ r. os) l _ g);
          }

      pub done : header_need l ≤ length hs
          → Packs l hs os (Ok (needs l)) (over (headers l) hs) (over (offsets l) os)
      unfolding pack_else
      done e =
          let t6 = le-ltb (length os) (offset_need l) room in
          let t = le-ltb (length hs) (header_need l) e in
          record {
            answers = rw (t6, t) (list_good Err l _ g);
            leaves_headers = rw (t6, t) (list_good (λ r. hs) l _ g);
            leaves_offsets = rw (t6, t) (list_good (λ r. os) l _ g);
          }
