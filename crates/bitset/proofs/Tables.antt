-- A computed test over a table, and what it says at each place. Assumes nothing.
use Rattle.std.specs.Prelude.{◌≡◌, ℕ, zero, suc, ◌-◌, ◌/◌, ◌%◌, ◌<◌, ◌≤◌, true, false, ltb, List, [], ◌∷◌, length, get_or}
use mathlib.Core.Path.{refl}
use native.Mathlib.Omega.{arith}
use borrow.Author.Tests.{ltb-true, lt-ltb, le-ltb}
use Rattle.std.proofs.lemmas.Bool.{and_parts}
use Rattle.bitset.specs.Bitsets.{Bitset, bit, mapped, word_at, bucket_word, contains, all_below}

pub below_head : (k x : ℕ) (l : List ℕ) → all_below k (x ∷ l) ≡ true → x < k
unfolding all_below
below_head k x l h = ltb-true x k (and_parts (ltb x k) (all_below k l) h).0

pub below_tail : (k x : ℕ) (l : List ℕ) → all_below k (x ∷ l) ≡ true → all_below k l ≡ true
unfolding all_below
below_tail k x l h = (and_parts (ltb x k) (all_below k l) h).1

below_at : (k : ℕ) (l : List ℕ) (i : ℕ) → all_below k l ≡ true → i < length l → get_or l i 0 < k
below_at k [] i h b = absurd (omega arith)
below_at k (x ∷ l) zero h b = below_head k x l h
below_at k (x ∷ l) (suc i) h b = below_at k l i (below_tail k x l h) (omega arith)

-- what is read from a table whose entries are below k
pub below_read : (k : ℕ) (l : List ℕ) (i : ℕ) → all_below k l ≡ true → i < length l → {x : ℕ} → x ≡ get_or l i 0 → x < k
below_read k l i h b e = rw e (below_at k l i h b)

-- inside the map the answer is the bit of the bucket's word
pub in_map : (t : Bitset) (n : ℕ) → n / 64 / 16 < length t.map → bit (n % 64) (bucket_word t (n / 64)) ≡ contains t n
unfolding contains
in_map t n h = rw (lt-ltb _ _ h) refl

-- past its end it is no
pub past_map : (t : Bitset) (n : ℕ) → length t.map ≤ n / 64 / 16 → false ≡ contains t n
unfolding contains
past_map t n h = rw (le-ltb _ _ h) refl
