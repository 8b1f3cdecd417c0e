-- A bitset equals a flat list at every number, by three computed tests: its bits change at the list's boundaries, the
-- boundaries rise, and the list ends before the map does. Past the map's end both say no. Assumes nothing.
use Rattle.std.specs.Prelude.{◌≡◌, ℕ, ◌+◌, ◌*◌, ◌/◌, ◌%◌, ◌^◌, ◌<◌, ◌≤◌, Bool, true, false, eqb, List, [], ◌∷◌, length}
use mathlib.Core.Path.{refl, sym, ap, ◌∙◌}
use mathlib.Core.Logic.{⊎_elim}
use native.Mathlib.Nat.{zero-div}
use native.Mathlib.Omega.{arith}
use borrow.Author.Tests.{le-leb, lt-leb}
use Rattle.sets.specs.Lists.{edges, holds}
use Rattle.sets.proofs.Decide.{split}
use Rattle.sets.proofs.Members.{rising, rising_on, none_below}
use Rattle.bitset.specs.Bitsets.{Bitset, bit, bucket_word, contains, all_below}
use Rattle.bitset.proofs.Tables.{in_map, past_map, below_head, below_tail}
use Rattle.bitset.proofs.Scan.{says, places, decides}

-- the places of a list say what its ranges hold
says_holds : (m p : ℕ) (l : List ℕ) → rising p (edges l) ≡ true → says false (edges l) m ≡ holds l m
unfolding edges holds says
says_holds m p [] r = refl
says_holds m p (a ∷ []) r = refl
says_holds m p (a ∷ (b ∷ l)) r =
    let y = rising_on p a ((b + 1) ∷ edges l) r in
    let z = rising_on a (b + 1) (edges l) y.1 in
    ⊎_elim
    (λ (h : a ≤ m).
    ⊎_elim
    (λ (k : m ≤ b).
    let n : m < b + 1 = omega arith in
    rw (le-leb a m h, lt-leb (b + 1) m n, le-leb m b k) refl)
    (λ (k : b < m).
    let n : b + 1 ≤ m = omega arith in
    rw (le-leb a m h, le-leb (b + 1) m n, lt-leb m b k) (says_holds m (b + 1) l z.1))
    (split m b))
    (λ (h : m < a).
    let w = none_below m (b + 1) l z.1 (omega arith) in
    rw (lt-leb a m h) (sym w.1))
    (split a m)

-- a list whose numbers are all below k holds nothing from k on
pub none_past : (m k : ℕ) (l : List ℕ) → all_below k l ≡ true → k ≤ m → holds l m ≡ false
unfolding holds
none_past m k [] h q = refl
none_past m k (a ∷ []) h q = refl
none_past m k (a ∷ (b ∷ l)) h q =
    let t = below_tail k a (b ∷ l) h in
    let s : b < m = omega (arith, below_head k b l t) in
    let u : a ≤ m = omega (arith, below_head k a (b ∷ l) h) in
    rw (le-leb a m u, lt-leb m b s) (none_past m k l (below_tail k b l t) q)

-- the bit of a number in its bucket's word
abbrev pub bit_of : Bitset → ℕ → Bool
bit_of t n = bit (n % 64) (bucket_word t (n / 64))

empty : (t : Bitset) (m i : ℕ) → bucket_word t i ≡ 0 → 64 * i ≤ m → m < 64 * i + 64 → bit_of t m ≡ false
empty t m i e a b =
    let n : m / 64 ≡ i = omega arith in
    ap (λ (k : ℕ). bit (m % 64) (bucket_word t k)) n ∙ ap (bit (m % 64)) e ∙ ap (λ (w : ℕ). eqb (w % 2) 1) (zero-div (2 ^ (m % 64)))

pub record Scanned (t : Bitset) (l : List ℕ) : Type 0 where
  pub same : places (bit_of t) (bucket_word t) (16 * length t.map) 0 false ≡ edges l
  pub rises : rising 0 (edges l) ≡ true
  pub ends : all_below (1024 * length t.map) l ≡ true

pub equal : (t : Bitset) (l : List ℕ) → Scanned t l → (m : ℕ) → contains t m ≡ holds l m
equal t l s m =
    ⊎_elim
    (λ (h : length t.map ≤ m / 64 / 16).
    sym (past_map t m h) ∙ sym (none_past m (1024 * length t.map) l s.ends (omega arith)))
    (λ (h : m / 64 / 16 < length t.map).
    sym (in_map t m h)
    ∙ sym (decides m (bit_of t) (bucket_word t) (λ i. empty t m i) (16 * length t.map) 0 false (omega arith) (omega arith))
    ∙ ap (λ (bs : List ℕ). says false bs m) s.same
    ∙ says_holds m 0 l s.rises)
    (split (length t.map) (m / 64 / 16))
