-- How much room an unpacked list may need, so that a caller can size the buffer before the call: one boundary for each
-- offset, dropping and joining add none, and only an open last pair adds a number. Assumes nothing.
use Rattle.std.specs.Prelude.{◌≡◌, None, ℕ, ◌+◌, ◌≤◌, List, [], ◌∷◌, length}
use mathlib.Core.Logic.{⊎_elim}
use native.Mathlib.Omega.{arith}
use Rattle.std.proofs.lemmas.Bool.{cases_eq}
use Rattle.sets.proofs.Decide.{split}
use Rattle.skip.specs.Headers.{prefix_sum, run_end}
use Rattle.skip.specs.Table.{walk, boundaries}
use Rattle.skip.specs.Rules.{W1, W2, W3, W4, W5, broken}
use Rattle.skip.proofs.Lowest5.{all, few_offsets}
use Rattle.skip.proofs.Meaning.{walk_last, walk_on}
use Rattle.unpack.specs.Unpacking.{kept, unequal, joined, flat, list}
use Rattle.unpack.proofs.Rising.{walk_none, walk_bare}
use Rattle.unpack.proofs.Same.{kept_in, kept_out, drops_same, drops_not, joined_from_lem}

walk_few : (n : ℕ) (os : List ℕ) (i at : ℕ) (hs : List ℕ) → length (walk n i at hs os) ≤ length os
walk_few n [] i at hs = rw (walk_none n i at hs) (omega arith)
walk_few n (o ∷ os) i at [] = rw (walk_bare n i at o os) (omega arith)
walk_few n (o ∷ os) i at (h ∷ hs) =
    ⊎_elim
    (λ e. rw (walk_last n i at h o hs os e) (omega (arith, walk_few n os (i + 1) (prefix_sum h) hs)))
    (λ e. rw (walk_on n i at h o hs os e) (omega (arith, walk_few n os (i + 1) (at + o) (h ∷ hs))))
    (cases_eq (i + 1) (run_end n hs))

kept_few : (bs : List ℕ) → length (kept bs) ≤ length bs
unfolding kept
kept_few [] = omega arith
kept_few (b ∷ bs) =
    ⊎_elim
    (λ h. rw (kept_in b bs h) (omega (arith, kept_few bs)))
    (λ h. rw (kept_out b bs h) (omega (arith, kept_few bs)))
    (split b 0x10FFFF)

unequal_few : (bs : List ℕ) → length (unequal bs) ≤ length bs
unfolding unequal
unequal_few [] = omega arith
unequal_few (a ∷ []) = omega arith
unequal_few (a ∷ (b ∷ bs)) =
    ⊎_elim
    (λ e. rw (drops_same a b bs e) (omega (arith, unequal_few bs)))
    (λ e. rw (drops_not a b bs e) (omega (arith, unequal_few bs)))
    (cases_eq a b)

joined_few : (bs : List ℕ) → length (joined bs) ≤ length bs
joined_few [] = omega arith
joined_few (a ∷ bs) = rw (joined_from_lem a bs) (omega (arith, unequal_few bs))

flat_few : (bs : List ℕ) → length (flat bs) ≤ length bs + 1
unfolding flat
flat_few [] = omega arith
flat_few (a ∷ []) = omega arith
flat_few (a ∷ (b ∷ bs)) = omega (arith, flat_few bs)

-- one number more than there are offsets is always room enough
pub numbers_suffice : (hs os : List ℕ) → length (list hs os) ≤ length os + 1
numbers_suffice hs os =
    let left = kept (boundaries hs os) in
    omega
    (arith, flat_few (joined (unequal left)), joined_few (unequal left), unequal_few left, kept_few (boundaries hs os), walk_few (length os) os 0 0 hs)

-- by W1 a table that keeps the rules has at most 2,048 offsets
pub few : (hs os : List ℕ) → broken hs os ≡ None → length os ≤ 2048
few hs os b = few_offsets hs os (all (W1 hs os) (W2 hs) (W3 (length os) hs) (W4 0 hs) (W5 (length os) 0 0 hs os) b).0
