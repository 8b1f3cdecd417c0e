-- A skip table whose boundaries are those of a flat list, and one more past the last number, keeps the rules and answers
-- as the list. One law for every table and every closing sum, from computed tests. Assumes nothing.
use Prim.Native.Nat.{ℕ, ◌≤◌, ◌<◌}
use mathlib.Core.Path.{◌≡◌, sym, ap, ◌∙◌}
use mathlib.Core.Bool.{true}
use mathlib.Core.List.{List, [], ◌∷◌, ◌++◌}
use native.Mathlib.Omega.{arith}
use Rattle.std.specs.Prelude.{None}
use lib.ListN.{length}
use Rattle.sets.specs.Boundaries.{member, odd}
use Rattle.sets.specs.Lists.{edges, holds}
use Rattle.sets.proofs.Members.{rising, member_holds, count_close}
use Rattle.skip.specs.Table.{boundaries}
use Rattle.skip.specs.Rules.{W1, W2, W3, W4, W5, broken}
use Rattle.skip.proofs.Fast.{fast_walk, fast_walk_lem, fast_w5, fast_w5_lem}
use Rattle.skip.proofs.Lowest5.{none}

-- n offsets; the closing sum is the last boundary
pub record Walked (headers offsets flat : List ℕ) (n closing : ℕ) : Type 0 where
  pub size : length offsets ≡ n
  pub walks : fast_walk n 0 0 headers offsets ≡ edges flat ++ closing ∷ []
  pub rises : rising 0 (edges flat) ≡ true
  pub closes : 0x10FFFF < closing
  pub W1-kept : W1 headers offsets ≡ true
  pub W2-kept : W2 headers ≡ true
  pub W3-kept : W3 n headers ≡ true
  pub W4-kept : W4 0 headers ≡ true
  pub W5-kept : fast_w5 n 0 0 headers offsets ≡ true

module _ (headers offsets flat : List ℕ) (n closing : ℕ) (w : Walked headers offsets flat n closing) where
  pub bounds : boundaries headers offsets ≡ edges flat ++ closing ∷ []
  bounds = rw w.size (sym (fast_walk_lem n 0 0 headers offsets) ∙ w.walks)

  pub keeps : broken headers offsets ≡ None
  keeps =
      sym
      (none (W1 headers offsets) (W2 headers) (W3 (length offsets) headers) (W4 0 headers) (W5 (length offsets) 0 0 headers offsets)
      w.W1-kept w.W2-kept (rw w.size w.W3-kept) w.W4-kept (rw w.size (sym (fast_w5_lem n 0 0 headers offsets) ∙ w.W5-kept)))

  pub answers : (x : ℕ) → x ≤ 0x10FFFF → member (boundaries headers offsets) x ≡ holds flat x
  answers x h =
      ap (λ (bs : List ℕ). member bs x) bounds
      ∙ ap odd (count_close x closing (edges flat) (omega (arith, w.closes)))
      ∙ member_holds x 0 flat w.rises
