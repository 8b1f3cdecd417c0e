-- Which of five tests fails first. Assumes nothing.
use Rattle.std.specs.Prelude.{◌≡◌, ℕ, ◌<◌, ◌≤◌, Bool, true, false, ltb, leb, None, List, length}
use mathlib.Core.Path.{refl}
use borrow.Author.Tests.{ltb-true, leb-true}
use Rattle.skip.specs.Rules.{lowest_of, sized, W1}
use Rattle.std.proofs.lemmas.Bool.{and_parts}

module _ (a b c d e : Bool) where
  pub none : a ≡ true → b ≡ true → c ≡ true → d ≡ true → e ≡ true → None ≡ lowest_of a b c d e
  unfolding lowest_of
  none p q r s t = rw (p, q, r, s, t) refl

-- none only if all hold
pub all : (a b c d e : Bool) → lowest_of a b c d e ≡ None → (a ≡ true) × (b ≡ true) × (c ≡ true) × (d ≡ true) × (e ≡ true)
unfolding lowest_of
all true true true true true p = (refl, refl, refl, refl, refl)
all true true true true false p = absurd cc
all true true true false e p = absurd cc
all true true false d e p = absurd cc
all true false c d e p = absurd cc
all false b c d e p = absurd cc

pub size_low : (n : ℕ) → sized n ≡ true → 0 < n
size_low n h = ltb-true 0 n (and_parts (ltb 0 n) (leb n 2048) h).0

pub size_high : (n : ℕ) → sized n ≡ true → n ≤ 2048
size_high n h = leb-true n 2048 (and_parts (ltb 0 n) (leb n 2048) h).1

pub few_offsets : (hs os : List ℕ) → W1 hs os ≡ true → length os ≤ 2048
few_offsets hs os w = size_high (length os) (and_parts (sized (length hs)) (sized (length os)) w).1
