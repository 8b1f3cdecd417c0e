-- The rows of Tables 3-6 and 3-5: what holds of every row holds of the table's answer. Assumes nothing.
use Prim.Native.Nat.{ℕ, ◌≤◌, ◌<◌}
use mathlib.Core.Path.{◌≡◌, refl}
use mathlib.Core.Bool.{Bool, true, false, cond}
use lib.Dec.{ltb}
use borrow.Author.Tests.{ltb-true, ltb-false}
use Rattle.encoding.specs.Tables.{row8, row16}

module _ {A : Type 0} (P : A → Type 0) (n : ℕ) where
  by_flag : (m : ℕ) (a b : A) (t : Bool) → ltb n m ≡ t → (n < m → P a) → (m ≤ n → P b) → P (cond t a b)
  by_flag m a b true e f g = f (ltb-true n m e)
  by_flag m a b false e f g = g (ltb-false n m e)

  by_test : (m : ℕ) (a b : A) → (n < m → P a) → (m ≤ n → P b) → P (cond (ltb n m) a b)
  by_test m a b f g = by_flag m a b (ltb n m) refl f g

  -- what holds of each row, at the numbers of that row, holds of the table's answer
  pub by_row8 : (a b c d : A) → (n < 0x80 → P a) → (0x80 ≤ n → n < 0x800 → P b) → (0x800 ≤ n → n < 0x10000 → P c) → (0x10000 ≤ n → P d)
      → P (row8 n a b c d)
  unfolding row8
  by_row8 a b c d f g h k = by_test 0x80 a _ f (λ l. by_test 0x800 b _ (g l) (λ m. by_test 0x10000 c d (h m) k))

  pub by_row16 : (a b : A) → (n < 0x10000 → P a) → (0x10000 ≤ n → P b) → P (row16 n a b)
  unfolding row16
  by_row16 a b f g = by_test 0x10000 a b f g

-- a function goes through the rows
cond_of : {A B : Type 0} (f : A → B) (t : Bool) (a b : A) → f (cond t a b) ≡ cond t (f a) (f b)
cond_of f true a b = refl
cond_of f false a b = refl

pub row8_of : {A B : Type 0} (f : A → B) (n : ℕ) (a b c d : A) → f (row8 n a b c d) ≡ row8 n (f a) (f b) (f c) (f d)
unfolding row8
row8_of f n a b c d = simp (cond_of f)

pub row16_of : {A B : Type 0} (f : A → B) (n : ℕ) (a b : A) → f (row16 n a b) ≡ row16 n (f a) (f b)
unfolding row16
row16_of f n a b = cond_of f (ltb n 0x10000) a b
