-- The unpacker's promise, outcome by outcome: what each test decides. Assumes nothing.
use Rattle.std.specs.Prelude.{◌≡◌, ℕ, ◌<◌, ◌≤◌, List, length, Ok, Err, None}
use borrow.Author.Tests.{lt-ltb, le-ltb}
use Rattle.scalar.specs.declared.refusal.Refusal.{Refusal}
use Rattle.scalar.specs.declared.refusal.Refusal.TheVariants.{ShortBuffer}
use Rattle.sets.specs.Buffers.{over}
use Rattle.skip.specs.Rules.{broken}
use Rattle.skip.specs.Answers.{checks}
use Rattle.skip.proofs.Answers.{refused_as, table_good}
use Rattle.unpack.specs.Unpacking.{list}
use Rattle.unpack.specs.Answers.{unpack_else, Unpacks}

module _ (hs os out : List ℕ) where
  -- 8
  pub refused_table : (r : Refusal) → Err r ≡ checks hs os → Unpacks hs os out (Err r) out
  unfolding unpack_else
  refused_table r e = record { answers = refused_as hs os Err _ r e; leaves = refused_as hs os (λ r. out) _ r e }

  module _ (kept : broken hs os ≡ None) where
    -- 10
    pub refused_short : length out < length (list hs os) → Unpacks hs os out (Err (ShortBuffer (length (list hs os)))) out
    unfolding unpack_else
    refused_short e =
        let t = lt-ltb (length out) (length (list hs os)) e in
        record { answers = rw t (table_good hs os Err _ kept); leaves = rw t (table_good hs os (λ r. out) _ kept) }

    pub done : length (list hs os) ≤ length out → Unpacks hs os out (Ok (length (list hs os))) (over (list hs os) out)
    unfolding unpack_else
    done e =
        let t = le-ltb (length out) (length (list hs os)) e in
        record { answers = rw t (table_good hs os Err _ kept); leaves = rw t (table_good hs os (λ r. out) _ kept) }
