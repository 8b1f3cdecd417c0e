-- What a plane's tables say no to, as one flat list: the singletons and the no runs. Three tests on the tables, each
-- computed once, make it hold at every number. Assumes nothing.
use Prim.Native.Nat.{ℕ, ◌+◌}
use mathlib.Core.Path.{◌≡◌, ◌∙◌, refl, ap}
use mathlib.Core.List.{List}
use mathlib.Core.Bool.{Bool, true, false, cond, not, ◌&&◌, ◌||◌}
use native.Mathlib.Omega.{arith}
use Rattle.sets.specs.Lists.{holds, edges}
use Rattle.sets.proofs.Members.{rising, member_holds}
use Rattle.runs.specs.Lengths.{lengths, kind_at}
use Rattle.runs.specs.Tables.{printable_by}
use Rattle.runs.proofs.Boundaries.{sums, kind_member}
use Rattle.runs.proofs.Points.{singles, bytes, singles_hold}
use Rattle.runs.proofs.Unions.{merge, merge_holds}
use Rattle.runs.proofs.Spans.{ranges}

-- the no runs of a length list that starts with yes
abbrev pub gaps : List ℕ → List ℕ
gaps normal = ranges (sums 0 (lengths normal))

abbrev pub flat : List ℕ → List ℕ → List ℕ → List ℕ → List ℕ
flat highs counts lows normal = merge (singles highs counts lows) (gaps normal)

neither : (s t : Bool) → (not s && cond t false true) ≡ not (s || t)
neither true t = refl
neither false true = refl
neither false false = refl

module _ (highs counts lows normal : List ℕ) (low : bytes lows ≡ true) (paired : edges (gaps normal) ≡ sums 0 (lengths normal))
    (rises : rising 0 (edges (gaps normal)) ≡ true) (x : ℕ) where
  runs_hold : kind_at true (lengths normal) x ≡ cond (holds (gaps normal) x) false true
  runs_hold =
      let e : 0 + x ≡ x = omega arith in
      let k = rw e at (kind_member true 0 (lengths normal) x) in
      let h = rw paired at (member_holds x 0 (gaps normal) rises) in
      k ∙ ap (λ (t : Bool). cond t false true) h

  pub flat_holds : printable_by highs counts lows normal x ≡ not (holds (flat highs counts lows normal) x)
  flat_holds =
      rw (singles_hold x highs counts lows low, runs_hold, merge_holds x (singles highs counts lows) (gaps normal))
      (neither (holds (singles highs counts lows) x) (holds (gaps normal) x))
