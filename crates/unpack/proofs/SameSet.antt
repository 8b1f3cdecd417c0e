-- Unpacking an accepted table gives a list whose membership is the table's at every number to 0x10FFFF: a pair of equal
-- boundaries that is dropped, an end and the start after it that are joined, count twice or not at all, and the boundaries
-- of the flat pairs are those that are left. Assumes nothing.
use Rattle.std.specs.Prelude.{◌≡◌, ℕ, ◌+◌, ◌-◌, ◌%◌, ◌≤◌, eqb, List, [], ◌∷◌, length, take, None, Result, Ok}
use mathlib.Core.Path.{◌∙◌, sym, refl, ap}
use mathlib.Core.Logic.{⊎_elim}
use native.Mathlib.Omega.{arith}
use lib.Seq.{take_at}
use Rattle.scalar.specs.declared.refusal.Refusal.{Refusal}
use Rattle.sets.specs.Boundaries.{count, member}
use Rattle.sets.specs.Lists.{ranges, bad_at, holds, edges}
use Rattle.sets.specs.Buffers.{over}
use Rattle.std.proofs.lemmas.Bool.{cases_eq}
use Rattle.sets.proofs.Decide.{split}
use Rattle.sets.proofs.Good.{rises}
use Rattle.sets.proofs.Members.{count_none, count_in, count_out, member_holds}
use Rattle.skip.specs.Table.{boundaries}
use Rattle.skip.specs.Rules.{broken}
use Rattle.skip_rules.proofs.Stated.{Keeps, accepts_exactly}
use Rattle.unpack.specs.Unpacking.{kept, unequal, joined, flat, list}
use Rattle.unpack.specs.Answers.{unpacked_numbers, Unpacks}
use Rattle.unpack.proofs.Same.{kept_none, kept_in, kept_out, drops_none, drops_one, drops_same, drops_not, joined_from_lem}
use Rattle.unpack.proofs.Apart.{Climbs, next, list_climbs, unpack_apart}
use Rattle.unpack.proofs.Outcome.{done}

module _ (x : ℕ) (top : x ≤ 0x10FFFF) where
  -- each boundary counts by itself
  count_cons : (b : ℕ) (bs : List ℕ) → count x (b ∷ bs) ≡ count x (b ∷ []) + count x bs
  count_cons b bs =
      ⊎_elim
      (λ h. rw (count_in x b bs h, count_in x b [] h, count_none x) (omega arith))
      (λ h. rw (count_out x b bs h, count_out x b [] h, count_none x) (omega arith))
      (split b x)

  -- one above 0x10FFFF counts for nothing
  kept_counts : (bs : List ℕ) → count x (kept bs) ≡ count x bs
  kept_counts [] = rw kept_none refl
  kept_counts (b ∷ bs) =
      ⊎_elim
      (λ h. rw (kept_in b bs h, count_cons b (kept bs), count_cons b bs, kept_counts bs) refl)
      (λ h. rw (kept_out b bs h, count_out x b bs (omega arith)) (kept_counts bs))
      (split b 0x10FFFF)

  -- an equal pair counts twice or not at all
  unequal_counts : (bs : List ℕ) → count x (unequal bs) % 2 ≡ count x bs % 2
  unequal_counts [] = rw drops_none refl
  unequal_counts (a ∷ []) = rw (drops_one a) refl
  unequal_counts (a ∷ (b ∷ bs)) =
      ⊎_elim
      (λ e.
      rw (drops_same a b bs e, count_cons a (b ∷ bs), count_cons b bs, e) (omega (arith, unequal_counts bs)))
      (λ e.
      rw (drops_not a b bs e, count_cons a (b ∷ bs), count_cons b bs, count_cons a (b ∷ unequal bs), count_cons b (unequal bs))
      (omega (arith, unequal_counts bs)))
      (cases_eq a b)

  joined_counts : (bs : List ℕ) → count x (joined bs) % 2 ≡ count x bs % 2
  joined_counts [] = refl
  joined_counts (a ∷ bs) =
      rw (joined_from_lem a bs, count_cons a (unequal bs), count_cons a bs) (omega (arith, unequal_counts bs))

  -- the boundaries of the flat pairs count as those that are left
  edges_none : count x (edges (flat [])) ≡ count x []
  unfolding edges flat
  edges_none = refl

  edges_open : (a : ℕ) → count x (edges (flat (a ∷ []))) ≡ count x (a ∷ [])
  unfolding edges flat
  edges_open a = rw (count_cons a (0x110000 ∷ []), count_out x 0x110000 [] (omega arith), count_none x) (omega arith)

  edges_pair : (a b : ℕ) (bs : List ℕ) → edges (flat (a ∷ (b ∷ bs))) ≡ a ∷ ((b - 1 + 1) ∷ edges (flat bs))
  unfolding edges flat
  edges_pair a b bs = refl

  flat_counts : (low : ℕ) (bs : List ℕ) → Climbs low bs → count x (edges (flat bs)) ≡ count x bs
  flat_counts low [] z = edges_none
  flat_counts low (a ∷ []) z = edges_open a
  flat_counts low (a ∷ (b ∷ bs)) (next l h (next m k z)) =
      let e : b - 1 + 1 ≡ b = omega arith in
      rw (edges_pair a b bs, e, count_cons a (b ∷ edges (flat bs)), count_cons b (edges (flat bs)), count_cons a (b ∷ bs), count_cons b bs)
      (omega (arith, flat_counts (b + 1) bs z))

  -- some range of the unpacked list holds x exactly if the table does
  pub unpack_same_set : (hs os : List ℕ) → broken hs os ≡ None → holds (list hs os) x ≡ member (boundaries hs os) x
  unpack_same_set hs os b =
      let left = kept (boundaries hs os) in
      let apart = unpack_apart hs os b in
      let rise = rises 0 0 0 (list hs os) (omega arith) apart.0 (omega (arith, apart.1)) in
      let count-is : count x (edges (list hs os)) % 2 ≡ count x (boundaries hs os) % 2 =
      omega
      (arith, flat_counts 0 _ (list_climbs hs os b), joined_counts (unequal left), unequal_counts left, kept_counts (boundaries hs os)) in
      sym (member_holds x 0 (list hs os) rise) ∙ ap (λ (n : ℕ). eqb n 1) count-is

-- so from the unpacker's promise: a table that keeps the rules, in a buffer with room, is unpacked to a list that holds
-- what the table does and has no range that 5 is given for
pub record UnpacksKept (hs os : List ℕ) (r : Result ℕ Refusal) (out' : List ℕ) : Type 0 where
  pub accepts : r ≡ Ok (length (list hs os))
  pub writes : take (unpacked_numbers r) out' ≡ list hs os
  pub same_set : (x : ℕ) → x ≤ 0x10FFFF → holds (take (unpacked_numbers r) out') x ≡ member (boundaries hs os) x
  pub apart : bad_at 0 0 (take (unpacked_numbers r) out') ≡ ranges (take (unpacked_numbers r) out')

kept_by : (hs os out : List ℕ) (r : Result ℕ Refusal) (out' : List ℕ) → broken hs os ≡ None → r ≡ Ok (length (list hs os))
    → out' ≡ over (list hs os) out → UnpacksKept hs os r out'
kept_by hs os out r out' b e eo =
    let t : take (unpacked_numbers r) out' ≡ list hs os = rw (e, eo) (take_at (list hs os) _ (length (list hs os)) refl) in
    record {
      accepts = e;
      writes = t;
      same_set = λ x h. rw t (unpack_same_set x h hs os b);
      apart = rw t (unpack_apart hs os b).1;
    }

pub unpacks_kept : (hs os out : List ℕ) (r : Result ℕ Refusal) (out' : List ℕ) → Unpacks hs os out r out' → Keeps hs os
    → length (list hs os) ≤ length out → UnpacksKept hs os r out'
unpacks_kept hs os out r out' p k room =
    let b = (accepts_exactly hs os).1 k in
    let d = done hs os out b room in
    kept_by hs os out r out' b (p.answers ∙ sym d.answers) (p.leaves ∙ sym d.leaves)
