-- A decoded length says how the bytes left read on, for a run of either kind. Assumes nothing.
use Prim.Native.Nat.{ℕ, suc, ◌+◌, ◌-◌, ◌*◌, ◌<◌, ◌≤◌}
use mathlib.Core.Path.{◌≡◌, ◌∙◌, sym, refl, subst}
use mathlib.Core.List.{List, [], ◌∷◌}
use mathlib.Core.Bool.{Bool, true, false, not, cond}
use native.Mathlib.Numerals.{add-one}
use native.Mathlib.Omega.{arith}
use borrow.Author.Tests.{leb-true, leb-false, lt-ltb, le-ltb}
use lib.ListN.{length, get_or, drop, drop_of_length-le}
use lib.Seq.{drop-cons}
use lib.Dec.{ltb, leb}
use Rattle.runs.specs.Lengths.{lengths, kind_at, length_at}
use Rattle.std.specs.Prelude.{Option, None, Some}

short : (b : ℕ) (rest : List ℕ) → ltb b 0x80 ≡ true → lengths (b ∷ rest) ≡ b ∷ lengths rest
unfolding lengths
short b [] e = simp e
short b (c ∷ rest) e = simp e

cut : (b : ℕ) → ltb b 0x80 ≡ false → lengths (b ∷ []) ≡ []
unfolding lengths
cut b e = simp e

long : (b low : ℕ) (rest : List ℕ) → ltb b 0x80 ≡ false → lengths (b ∷ (low ∷ rest)) ≡ ((b - 0x80) * 256 + low) ∷ lengths rest
unfolding lengths
long b low rest e = simp e

-- what a decoded run says of the list
abbrev pub Right : List ℕ → ℕ → Option (ℕ × ℕ) → Type 0
Right bytes at None = lengths (drop at bytes) ≡ []
Right bytes at (Some (len, next)) = (lengths (drop at bytes) ≡ len ∷ lengths (drop next bytes)) × (at < next) × (next ≤ length bytes)

module _ (bytes : List ℕ) (at : ℕ) where
  none : length bytes ≤ at → lengths (drop at bytes) ≡ []
  unfolding lengths
  none h = rw (drop_of_length-le bytes h) refl

  choose : (P : Option (ℕ × ℕ) → Type 0) (t : Bool) {p q : Option (ℕ × ℕ)} → (t ≡ true → P p) → (t ≡ false → P q) → P (cond t p q)
  choose P true f g = f refl
  choose P false f g = g refl

  two : at < length bytes → ltb (get_or bytes at 0) 0x80 ≡ false → at + 1 < length bytes
      → Right bytes at (Some ((get_or bytes at 0 - 0x80) * 256 + get_or bytes (at + 1) 0, at + 1 + 1))
  two l f h =
      let k : suc at < length bytes = rw add-one at h in
      (rw (add-one (at + 1), add-one at, drop-cons bytes at 0 l, drop-cons bytes (suc at) 0 k) (long _ _ _ f), omega arith, omega arith)

  one : at < length bytes → ltb (get_or bytes at 0) 0x80 ≡ true → Right bytes at (Some (get_or bytes at 0, at + 1))
  one l f = (rw (add-one, drop-cons bytes at 0 l) (short _ _ f), omega arith, omega arith)

  alone : at < length bytes → ltb (get_or bytes at 0) 0x80 ≡ false → length bytes ≤ at + 1 → Right bytes at None
  alone l f h =
      let k : length bytes ≤ suc at = rw add-one at h in
      rw (drop-cons bytes at 0 l, drop_of_length-le bytes k) (cut _ f)

  right : Right bytes at (length_at bytes at)
  right =
      choose (Right bytes at) (leb (length bytes) at) (λ e. none (leb-true (length bytes) at e))
      (λ e.
      let l = leb-false (length bytes) at e in
      choose (Right bytes at) (ltb (get_or bytes at 0) 0x80) (one l)
      (λ f.
      choose (Right bytes at) (leb (length bytes) (at + 1)) (λ g. alone l f (leb-true (length bytes) (at + 1) g))
      (λ g. two l f (leb-false (length bytes) (at + 1) g))))

module _ (bytes : List ℕ) (at : ℕ) {d : Option (ℕ × ℕ)} (e : d ≡ length_at bytes at) where
  known : {r : Option (ℕ × ℕ)} → d ≡ r → Right bytes at r
  known f = subst (λ (r : Option (ℕ × ℕ)). Right bytes at r) (sym e ∙ f) (right bytes at)

  pub ended : (kind : Bool) (x : ℕ) → d ≡ None → kind ≡ kind_at kind (lengths (drop at bytes)) x
  unfolding kind_at
  ended kind x f = rw (known f) refl

  pub less : {len next : ℕ} → d ≡ Some (len, next) → length bytes - next < length bytes - at
  less f = let k = known f in omega arith

  pub inside : (kind : Bool) {x len next : ℕ} → d ≡ Some (len, next) → x < len → kind ≡ kind_at kind (lengths (drop at bytes)) x
  unfolding kind_at
  inside kind f l = rw ((known f).0, lt-ltb _ _ l) refl

  pub onward : (kind : Bool) {x len next : ℕ} {r : Bool} → d ≡ Some (len, next) → len ≤ x
      → r ≡ kind_at (not kind) (lengths (drop next bytes)) (x - len) → r ≡ kind_at kind (lengths (drop at bytes)) x
  unfolding kind_at
  onward kind f l h = rw ((known f).0, le-ltb _ _ l) h
