-- One law for any set that is read by buckets of 64: the places where its answer changes, found by a scan that passes
-- over an empty bucket at once, decide it at every number of the buckets scanned. Before the first place the answer
-- is p, and each place that is at most m turns it over. By induction on what is left to scan. Assumes nothing.
use Rattle.std.specs.Prelude.{◌≡◌, ℕ, zero, suc, ◌+◌, ◌*◌, ◌<◌, ◌≤◌, Bool, true, false, cond, not, ◌&&◌, eqb, leb, List, [], ◌∷◌}
use mathlib.Core.Path.{refl, sym, ap, ◌∙◌}
use mathlib.Core.Logic.{⊎_elim}
use native.Mathlib.Nat.{eq-or-lt_of_le, add-suc, suc-add}
use native.Mathlib.Omega.{arith}
use borrow.Author.Tests.{le-leb, lt-leb, eqb-true, not-true}
use Rattle.std.proofs.lemmas.Bool.{and_parts}
use Rattle.sets.proofs.Decide.{split}

-- what a rising list of places says of m: p before the first, and each one that is at most m turns it over
unfoldable pub says : Bool → List ℕ → ℕ → Bool
says p [] m = p
says p (b ∷ bs) m = cond (leb b m) (says (not p) bs m) p

-- (only the arm that is taken may be computed: `elim`, and not `cond`, in what follows)
-- the places among the k numbers from n on where f changes, with p before them; then the rest
unfoldable pub scan : (ℕ → Bool) → ℕ → ℕ → Bool → (Bool → List ℕ) → List ℕ
scan f zero n p rest = rest p
scan f (suc k) n p rest =
    elim (cond (f n) p (not p)) [ true ↦ scan f k (suc n) p rest | false ↦ n ∷ scan f k (suc n) (not p) rest ]

-- the places in the k buckets from i on
unfoldable pub places : (ℕ → Bool) → (ℕ → ℕ) → ℕ → ℕ → Bool → List ℕ
places f word zero i p = []
places f word (suc k) i p =
    elim (eqb (word i) 0 && not p) [
      | true ↦ places f word k (suc i) p
      | false ↦ scan f 64 (64 * i) p (λ q. places f word k (suc i) q)
    ]

cases : (b : Bool) (P : List ℕ → Type 0) (x y : List ℕ) → (b ≡ true → P x) → (b ≡ false → P y) → P (elim b [ true ↦ x | false ↦ y ])
cases true P x y s t = s refl
cases false P x y s t = t refl

kept : (a p : Bool) → cond a p (not p) ≡ true → p ≡ a
kept true p e = e
kept false true e = sym e
kept false false e = refl

turned : (a p : Bool) → cond a p (not p) ≡ false → not p ≡ a
turned true p e = ap not e
turned false true e = refl
turned false false e = e

module _ (m : ℕ) where
  pub says_in : (p : Bool) (b : ℕ) (bs : List ℕ) → b ≤ m → says p (b ∷ bs) m ≡ says (not p) bs m
  unfolding says
  says_in p b bs h = rw (le-leb b m h) refl

  pub says_out : (p : Bool) (b : ℕ) (bs : List ℕ) → m < b → says p (b ∷ bs) m ≡ p
  unfolding says
  says_out p b bs h = rw (lt-leb b m h) refl

  module _ (f : ℕ → Bool) where
    -- places past m say nothing of m
    before : (k n : ℕ) (p q : Bool) (rest : Bool → List ℕ) → m < n → ((a b : Bool) → says b (rest a) m ≡ b) → says q (scan f k n p rest) m ≡ q
    unfolding scan
    before zero n p q rest h g = g p q
    before (suc k) n p q rest h g =
        cases (cond (f n) p (not p)) (λ l. says q l m ≡ q) (scan f k (suc n) p rest) (n ∷ scan f k (suc n) (not p) rest)
        (λ e. before k (suc n) p q rest (omega arith) g)
        (λ e. says_out q n _ h)

    within : (k n : ℕ) (p : Bool) (rest : Bool → List ℕ) → n ≤ m → m < n + k → ((a b : Bool) → says b (rest a) m ≡ b) → says p (scan f k n p rest) m ≡ f m
    unfolding scan
    within zero n p rest a b g = absurd (omega arith)
    within (suc k) n p rest a b g =
        let less : m < suc n + k = omega (arith, add-suc n k, suc-add n k) in
        cases (cond (f n) p (not p)) (λ l. says p l m ≡ f m) (scan f k (suc n) p rest) (n ∷ scan f k (suc n) (not p) rest)
        (λ e. ⊎_elim
        (λ i. before k (suc n) p p rest (omega arith) g ∙ kept (f n) p e ∙ ap f i)
        (λ l. within k (suc n) p rest l less g)
        (eq-or-lt_of_le a))
        (λ e. says_in p n _ a ∙ ⊎_elim
        (λ i. before k (suc n) (not p) (not p) rest (omega arith) g ∙ turned (f n) p e ∙ ap f i)
        (λ l. within k (suc n) (not p) rest l less g)
        (eq-or-lt_of_le a))

    past : (k n : ℕ) (p : Bool) (rest : Bool → List ℕ) → n + k ≤ m → ((a : Bool) → says a (rest a) m ≡ f m) → says p (scan f k n p rest) m ≡ f m
    unfolding scan
    past zero n p rest a g = g p
    past (suc k) n p rest a g =
        let more : suc n + k ≤ m = omega (arith, add-suc n k, suc-add n k) in
        let here : n ≤ m = omega (arith, add-suc n k) in
        cases (cond (f n) p (not p)) (λ l. says p l m ≡ f m) (scan f k (suc n) p rest) (n ∷ scan f k (suc n) (not p) rest)
        (λ e. past k (suc n) p rest more g)
        (λ e. says_in p n _ here ∙ past k (suc n) (not p) rest more g)

    module _ (word : ℕ → ℕ) where
      before_places : (k i : ℕ) (p q : Bool) → m < 64 * i → says q (places f word k i p) m ≡ q
      unfolding places says
      before_places zero i p q h = refl
      before_places (suc k) i p q h =
          cases (eqb (word i) 0 && not p) (λ l. says q l m ≡ q) (places f word k (suc i) p) (scan f 64 (64 * i) p (λ a. places f word k (suc i) a))
          (λ e. before_places k (suc i) p q (omega arith))
          (λ e. before 64 (64 * i) p q (λ a. places f word k (suc i) a) h (λ a b. before_places k (suc i) a b (omega arith)))

      -- where an empty word means no, the places found in k buckets decide every number of them
      module _ (empty : (i : ℕ) → word i ≡ 0 → 64 * i ≤ m → m < 64 * i + 64 → f m ≡ false) where
        pub decides : (k i : ℕ) (p : Bool) → 64 * i ≤ m → m < 64 * i + 64 * k → says p (places f word k i p) m ≡ f m
        unfolding places
        decides zero i p a b = absurd (omega arith)
        decides (suc k) i p a b =
            cases (eqb (word i) 0 && not p) (λ l. says p l m ≡ f m) (places f word k (suc i) p) (scan f 64 (64 * i) p (λ q. places f word k (suc i) q))
            (λ e. ⊎_elim
            (λ (h : 64 * i + 64 ≤ m). decides k (suc i) p (omega arith) (omega arith))
            (λ (h : m < 64 * i + 64).
            before_places k (suc i) p p (omega arith)
            ∙ not-true p (and_parts (eqb (word i) 0) (not p) e).1
            ∙ sym (empty i (eqb-true (word i) 0 (and_parts (eqb (word i) 0) (not p) e).0) a h))
            (split (64 * i + 64) m))
            (λ e. ⊎_elim
            (λ (h : 64 * i + 64 ≤ m). past 64 (64 * i) p (λ q. places f word k (suc i) q) h (λ q. decides k (suc i) q (omega arith) (omega arith)))
            (λ (h : m < 64 * i + 64). within 64 (64 * i) p (λ q. places f word k (suc i) q) a h (λ x y. before_places k (suc i) x y (omega arith)))
            (split (64 * i + 64) m))
