-- The boundaries of an accepted table do not fall: rule W5, offset by offset. Assumes nothing.
use Rattle.std.specs.Prelude.{◌≡◌, ℕ, ◌+◌, ◌≤◌, true, List, [], ◌∷◌, length, None}
use mathlib.Core.Path.{refl}
use mathlib.Core.Logic.{⊎_elim}
use native.Mathlib.Omega.{arith}
use borrow.Author.Tests.{le-leb}
use Rattle.std.proofs.lemmas.Bool.{cases_eq}
use Rattle.sets.proofs.Members.{rising, rising_on}
use Rattle.skip.specs.Headers.{prefix_sum, run_end}
use Rattle.skip.specs.Table.{walk, boundaries}
use Rattle.skip.specs.Rules.{W1, W2, W3, W4, W5, broken}
use Rattle.skip.proofs.Meaning.{walk_last, walk_on, rule_last, rule_on}
use Rattle.skip.proofs.Lowest5.{all}

rising_cons : (p b : ℕ) (bs : List ℕ) → p ≤ b → rising b bs ≡ true → rising p (b ∷ bs) ≡ true
unfolding rising
rising_cons p b bs l r = rw (le-leb p b l) r

rising_none : (p : ℕ) → rising p [] ≡ true
unfolding rising
rising_none p = refl

pub rising_less : (p q : ℕ) (bs : List ℕ) → p ≤ q → rising q bs ≡ true → rising p bs ≡ true
rising_less p q [] l s = rising_none p
rising_less p q (b ∷ bs) l s = let z = rising_on q b bs s in rising_cons p b bs (omega arith) z.1

pub walk_none : (n i at : ℕ) (hs : List ℕ) → walk n i at hs [] ≡ []
unfolding walk
walk_none n i at [] = refl
walk_none n i at (h ∷ hs) = refl

pub walk_bare : (n i at o : ℕ) (os : List ℕ) → walk n i at [] (o ∷ os) ≡ []
unfolding walk
walk_bare n i at o os = refl

walk_rising : (n : ℕ) (os : List ℕ) (i at : ℕ) (hs : List ℕ) → W5 n i at hs os ≡ true → rising at (walk n i at hs os) ≡ true
walk_rising n [] i at hs w = rw (walk_none n i at hs) (rising_none at)
walk_rising n (o ∷ os) i at [] w = rw (walk_bare n i at o os) (rising_none at)
walk_rising n (o ∷ os) i at (h ∷ hs) w =
    ⊎_elim
    (λ e.
    let v = rule_last n i at h o hs os e w in
    rw (walk_last n i at h o hs os e) (rising_cons at (prefix_sum h) _ v.0 (walk_rising n os (i + 1) (prefix_sum h) hs v.1)))
    (λ e.
    let v = rule_on n i at h o hs os e w in
    rw (walk_on n i at h o hs os e) (rising_cons at (at + o) _ (omega arith) (walk_rising n os (i + 1) (at + o) (h ∷ hs) v)))
    (cases_eq (i + 1) (run_end n hs))

pub boundaries_rise : (hs os : List ℕ) → broken hs os ≡ None → rising 0 (boundaries hs os) ≡ true
boundaries_rise hs os b =
    let w = all (W1 hs os) (W2 hs) (W3 (length os) hs) (W4 0 hs) (W5 (length os) 0 0 hs os) b in
    walk_rising (length os) os 0 0 hs w.4
