-- The packer's theorems, from its promise: a listed list in buffers of the document's sizes is accepted, the table written
-- passes the five rules, and the search in it follows the list. Assumes nothing.
use Prim.Native.Nat.{ℕ, ◌+◌, ◌*◌, ◌≤◌}
use mathlib.Core.Path.{◌≡◌, ◌∙◌, sym, refl, ap}
use mathlib.Core.List.{List}
use mathlib.Core.Bool.{Bool, true}
use mathlib.Core.Logic.{◌↔◌}
use native.Mathlib.Omega.{arith}
use borrow.Author.Tests.{le-ltb}
use lib.ListN.{length, take}
use lib.Seq.{take_at}
use Rattle.std.specs.Prelude.{Result, Ok, Err}
use Rattle.scalar.specs.declared.refusal.Refusal.{Refusal}
use Rattle.sets.specs.Boundaries.{member}
use Rattle.sets.specs.Lists.{ranges, edges, holds}
use Rattle.sets.specs.Buffers.{over}
use Rattle.sets.specs.Demand.{Listed, Held}
use Rattle.sets.proofs.Members.{count_close}
use Rattle.sets.proofs.Good.{Good, good_member, edges_length}
use Rattle.sets.proofs.Demand.{listed_exactly, held_exactly}
use Rattle.skip.specs.Table.{boundaries, reads}
use Rattle.skip.specs.Answers.{accepted, checks, searches, finds}
use Rattle.skip.proofs.Answers.{table_good}
use Rattle.skip_rules.proofs.Stated.{Keeps, accepts_exactly}
use Rattle.pack.specs.Packing.{headers, offsets}
use Rattle.pack.specs.Answers.{offset_need, header_need, needs, packed_headers, packed_offsets, Packs}
use Rattle.pack.specs.declared.Packed.{Packed}
use Rattle.pack.proofs.Edges.{headers_runs}
use Rattle.pack.proofs.Written.{offsets_count, passes, bounds, runs_few}
use Rattle.pack.proofs.Outcome.{done}

-- a number is in the packed table exactly if some range of the list holds it
pub packed_member : (l : List ℕ) → Good l → (x : ℕ) → x ≤ 0x10FFFF → member (boundaries (headers l) (offsets l)) x ≡ holds l x
packed_member l g x h =
    rw (bounds l g, count_close x 0x1FFFFF (edges l) (omega arith)) (good_member g x)

-- what the search answers of the packed table
pub packed_search : (l : List ℕ) → Good l → (x : ℕ) → x ≤ 0x10FFFF
    → finds (headers l) (offsets l) x ≡ Ok (record { yes = holds l x; read = reads (headers l) (offsets l) x })
packed_search l g x h =
    sym (table_good (headers l) (offsets l) Err _ (passes l g)) ∙ rw (le-ltb 0x10FFFF x h, packed_member l g x h) refl

-- and the plain search
pub packed_yes : (l : List ℕ) → Good l → (x : ℕ) → x ≤ 0x10FFFF → searches (headers l) (offsets l) x ≡ Ok (holds l x)
packed_yes l g x h =
    sym (table_good (headers l) (offsets l) Err _ (passes l g)) ∙ rw (le-ltb 0x10FFFF x h, packed_member l g x h) refl

-- 2n+1 headers always suffice for n ranges
pub headers_suffice : (l : List ℕ) → Good l → header_need l ≤ offset_need l
headers_suffice l g =
    omega (arith, headers_runs l, (runs_few 0 (edges l)).1, edges_length l g.even, g.even)

-- what holds after the packer was given a list as in demand 3 and buffers of the document's sizes; the table is what stands
-- in the places that the answer reports
pub record PacksListed (l : List ℕ) (r : Result Packed Refusal) (hs' os' : List ℕ) : Type 0 where
  -- the packer accepts, and reports the runs and 2n+1
  pub accepts : r ≡ Ok (needs l)
  -- what it wrote is the packing
  pub writes_headers : take (packed_headers r) hs' ≡ headers l
  pub writes_offsets : take (packed_offsets r) os' ≡ offsets l
  -- it passes W1 to W5: the checker accepts it, and it keeps the rules as the document states them
  pub passes_check : checks (take (packed_headers r) hs') (take (packed_offsets r) os') ≡ accepted
  pub keeps_rules : Keeps (take (packed_headers r) hs') (take (packed_offsets r) os')
  -- for every number from 0 to 0x10FFFF the counted search in it answers
  pub finds_listed : (x : ℕ) → x ≤ 0x10FFFF
      → finds (take (packed_headers r) hs') (take (packed_offsets r) os') x
      ≡ Ok (record { yes = holds l x; read = reads (take (packed_headers r) hs') (take (packed_offsets r) os') x })
  -- and the plain search says yes exactly if some range of the list holds the number
  pub yes_exactly : (x : ℕ) → x ≤ 0x10FFFF
      → (searches (take (packed_headers r) hs') (take (packed_offsets r) os') x ≡ Ok true) ↔ Held l x

ok_same : (a b : Bool) → ◌≡◌ {A = Result Bool Refusal} (Ok a) (Ok b) → a ≡ b
ok_same a b e = cc

listed_by : (l hs os : List ℕ) (r : Result Packed Refusal) (hs' os' : List ℕ) → Good l → r ≡ Ok (needs l)
    → hs' ≡ over (headers l) hs → os' ≡ over (offsets l) os → PacksListed l r hs' os'
listed_by l hs os r hs' os' g e eh eo =
    let th : take (packed_headers r) hs' ≡ headers l = rw (e, eh) (take_at (headers l) _ (header_need l) refl) in
    let to : take (packed_offsets r) os' ≡ offsets l =
    rw (e, eo) (take_at (offsets l) _ (offset_need l) (omega (arith, offsets_count l g, g.even))) in
    record {
      accepts = e;
      writes_headers = th;
      writes_offsets = to;
      passes_check = rw (th, to) (sym (table_good (headers l) (offsets l) Err accepted (passes l g)));
      keeps_rules = rw (th, to) ((accepts_exactly (headers l) (offsets l)).0 (passes l g));
      finds_listed = λ x h. rw (th, to) (packed_search l g x h);
      yes_exactly = λ x h. rw (th, to, packed_yes l g x h) (λ e. (held_exactly x l).0 (ok_same _ _ e), λ w. ap Ok ((held_exactly x l).1 w));
    }

-- for every list as in demand 3, and buffers of the document's sizes
pub packs_listed : (l hs os : List ℕ) (r : Result Packed Refusal) (hs' os' : List ℕ) → Packs l hs os r hs' os' → Listed l
    → offset_need l ≤ length os → header_need l ≤ length hs → PacksListed l r hs' os'
packs_listed l hs os r hs' os' p w room-os room-hs =
    let g = (listed_exactly l).0 w in
    let d = done l hs os g room-os room-hs in
    listed_by l hs os r hs' os' g (p.answers ∙ sym d.answers) (p.leaves_headers ∙ sym d.leaves_headers)
    (p.leaves_offsets ∙ sym d.leaves_offsets)

-- a caller that has room for 2n+1 in both buffers is not refused
pub packs_sized : (l hs os : List ℕ) (r : Result Packed Refusal) (hs' os' : List ℕ) → Packs l hs os r hs' os' → Listed l
    → 2 * ranges l + 1 ≤ length os → 2 * ranges l + 1 ≤ length hs → PacksListed l r hs' os'
packs_sized l hs os r hs' os' p w room-os room-hs =
    packs_listed l hs os r hs' os' p w room-os (omega (arith, headers_suffice l ((listed_exactly l).0 w)))
