-- Unpacking what the packer wrote gives the list back, range by range: the boundaries of an accepted list climb strictly, so
-- nothing is dropped or joined, and only a range that ends at 0x10FFFF leaves its pair open. Assumes nothing.
use Rattle.std.specs.Prelude.{◌≡◌, ℕ, ◌+◌, ◌-◌, ◌%◌, ◌≤◌, List, [], ◌∷◌, ◌++◌, length, Result, Ok}
use mathlib.Core.Path.{◌∙◌, sym, refl}
use mathlib.Core.Logic.{⊎_elim}
use native.Mathlib.Omega.{arith}
use Rattle.scalar.specs.declared.refusal.Refusal.{Refusal}
use Rattle.sets.specs.Lists.{ranges, bad_at, edges}
use Rattle.sets.specs.Buffers.{over}
use Rattle.sets.proofs.Decide.{split}
use Rattle.sets.proofs.Good.{Good, pair_good}
use Rattle.pack.specs.Packing.{headers, offsets}
use Rattle.pack.proofs.Written.{passes, bounds}
use Rattle.unpack.specs.Unpacking.{kept, flat, list}
use Rattle.unpack.specs.Answers.{Unpacks}
use Rattle.unpack.proofs.Same.{kept_in, kept_out}
use Rattle.unpack.proofs.Apart.{Climbs, none, next, climbs_from, stays, flat_pair}
use Rattle.unpack.proofs.Outcome.{done}

edges_pair : (a b : ℕ) (l : List ℕ) → edges (a ∷ (b ∷ l)) ≡ a ∷ ((b + 1) ∷ edges l)
unfolding edges
edges_pair a b l = refl

-- the boundaries of a list with the closing one, up to 0x10FFFF
abbrev bounded : List ℕ → List ℕ
bounded l = kept (edges l ++ 0x1FFFFF ∷ [])

bounded_none : bounded [] ≡ []
unfolding edges kept
bounded_none = refl

flat_none : flat [] ≡ []
unfolding flat
flat_none = refl

flat_open : (a : ℕ) → flat (a ∷ []) ≡ a ∷ (0x10FFFF ∷ [])
unfolding flat
flat_open a = refl

-- past a range that ends at 0x10FFFF no range is accepted
last_range : (i low a b : ℕ) (l : List ℕ) → low ≤ a → a ≤ 0x10FFFF → b ≡ 0x10FFFF → length l % 2 ≡ 0 → i + ranges l ≤ bad_at i (b + 2) l
    → Climbs low (a ∷ bounded l) × (flat (a ∷ bounded l) ≡ a ∷ (b ∷ l))
last_range i low a b [] m h f e g = rw (bounded_none, flat_open a, f) (next m h none, refl)
last_range i low a b (c ∷ []) m h f e g = absurd (omega arith)
last_range i low a b (c ∷ (d ∷ l)) m h f e g = let z = pair_good i (b + 2) c d l e g in absurd (omega arith)

-- an accepted list comes back, range by range
back : (i low : ℕ) (l : List ℕ) → length l % 2 ≡ 0 → i + ranges l ≤ bad_at i low l → Climbs low (bounded l) × (flat (bounded l) ≡ l)
back i low [] e h = rw (bounded_none, flat_none) (none, refl)
back i low (a ∷ []) e h = absurd (omega arith)
back i low (a ∷ (b ∷ l)) e h =
    let z = pair_good i low a b l e h in
    let u : a ≤ 0x10FFFF = omega arith in
    let q : b + 1 - 1 ≡ b = omega arith in
    let f : length l % 2 ≡ 0 = omega arith in
    let m : a + 1 ≤ b + 1 = omega arith in
    let rest = edges l ++ 0x1FFFFF ∷ [] in
    rw (edges_pair a b l, kept_in a ((b + 1) ∷ rest) u)
    (⊎_elim
    (λ k.
    let y = back (i + 1) (b + 2) l f z.3 in
    rw (kept_in (b + 1) rest k, flat_pair a (b + 1) (kept rest), q, y.1)
    (next z.0 u (next m k (climbs_from (b + 1 + 1) (b + 2) _ (omega arith) y.0)), refl))
    (λ k. rw (kept_out (b + 1) rest k) (last_range (i + 1) low a b l z.0 u (omega arith) f z.3))
    (split (b + 1) 0x10FFFF))

-- unpacking what the packer wrote gives the list back
pub unpack_pack : (l : List ℕ) → Good l → list (headers l) (offsets l) ≡ l
unpack_pack l g =
    let z = back 0 0 l g.even (omega (arith, g.fine)) in
    rw (bounds l g, stays 0 (bounded l) z.0) z.1

-- and so does the unpacker: with room for the list it answers Ok and leaves the list in front, whatever it was lent
pub unpacks_packed : (l out : List ℕ) (r : Result ℕ Refusal) (out' : List ℕ) → Good l → Unpacks (headers l) (offsets l) out r out'
    → length l ≤ length out → (r ≡ Ok (length l)) × (out' ≡ over l out)
unpacks_packed l out r out' g p room =
    let same = unpack_pack l g in
    let d = done (headers l) (offsets l) out (passes l g) (rw same room) in
    (p.answers ∙ sym d.answers ∙ rw same refl, p.leaves ∙ sym d.leaves ∙ rw same refl)
