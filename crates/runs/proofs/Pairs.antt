-- What a turn of the loop over singletons leaves to look at. Assumes nothing.
use Rattle.std.proofs.Common.{◌≡◌, ℕ, List, [], ◌∷◌, false, ◌&&◌, ◌||◌, length, take, drop, nat_eq, refl}
use Prim.Native.Nat.{min}
use mathlib.Core.Logic.{◌⊎◌, ⊎_elim}
use Rattle.std.specs.List.{list_any}
use Rattle.std.proofs.lemmas.List.{take_min, drop_min}
use Rattle.runs.specs.Singletons.{among, listed}

among_any : (low : ℕ) (lows : List ℕ) → list_any (λ y. nat_eq y low) lows ≡ among low lows
unfolding among
among_any low [] = refl
among_any low (l ∷ lows) = rw (among_any low lows) refl

module _ (high low : ℕ) (lows : List ℕ) where
  -- this pair lists the byte pair, or the pairs after it do
  pub turn : {highs counts : List ℕ} {h c k n : ℕ} {hs cs own after : List ℕ} → highs ≡ h ∷ hs → counts ≡ c ∷ cs
      → k ≡ c → n ≡ min k (length lows) → own ≡ take n lows → after ≡ drop n lows
      → listed highs counts lows high low ≡ (nat_eq h high && list_any (λ y. nat_eq y low) own || listed hs cs after high low)
  unfolding listed
  turn {c = c} eh ec ek en eo ea =
      rw (eh, ec, eo, ea, en, ek, take_min c lows, drop_min c lows, among_any low (take c lows)) refl

  no_count : (highs counts : List ℕ) → counts ≡ [] → listed highs counts lows high low ≡ false
  unfolding listed
  no_count [] counts e = refl
  no_count (h ∷ highs) counts e = rw e refl

  -- no pair is left
  pub over : (highs counts : List ℕ) → (highs ≡ []) ⊎ (counts ≡ []) → listed highs counts lows high low ≡ false
  unfolding listed
  over highs counts = ⊎_elim (λ e. rw e refl) (no_count highs counts)
