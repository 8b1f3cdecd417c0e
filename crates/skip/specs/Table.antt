-- What a skip table means. Clients cite `boundaries` and `reads`. Assumes nothing: these are definitions.
use Rattle.std.specs.Prelude.{ℕ, ◌+◌, ◌-◌, min, cond, List, [], ◌∷◌, length, take, drop, ◌==◌, nat_lt}
use Rattle.sets.specs.Boundaries.{count}
use Rattle.skip.specs.Headers.{start_index, prefix_sum, run_end}

-- each offset stands for one boundary, from index i on: the last of a run is the run's prefix sum, any other is the
-- previous sum plus the offsets of the run up to and including it (`at` is the sum so far)
unfoldable pub walk : ℕ → ℕ → ℕ → List ℕ → List ℕ → List ℕ
walk n i at hs [] = []
walk n i at [] (o ∷ os) = []
walk n i at (h ∷ hs) (o ∷ os) =
    cond (i + 1 == run_end n hs)
    (prefix_sum h ∷ walk n (i + 1) (prefix_sum h) hs os)
    ((at + o) ∷ walk n (i + 1) (at + o) (h ∷ hs) os)

abbrev pub boundaries : List ℕ → List ℕ → List ℕ
boundaries hs os = walk (length os) 0 0 hs os

-- offsets read in the run of x, the first whose sum is above x (a number equal to a prefix sum belongs to the next run):
-- with L offsets, the smaller of L-1 and one more than the boundaries among the first L-1 that are at most x
unfoldable pub reads_from : ℕ → List ℕ → ℕ → List ℕ → ℕ
reads_from x os p [] = 0
reads_from x os p (h ∷ hs) =
    cond (nat_lt x (prefix_sum h))
    (min (run_end (length os) hs - start_index h - 1)
    (count x (take (run_end (length os) hs - start_index h - 1) (walk (length os) (start_index h) p (h ∷ hs) (drop (start_index h) os))) + 1))
    (reads_from x os (prefix_sum h) hs)

abbrev pub reads : List ℕ → List ℕ → ℕ → ℕ
reads hs os x = reads_from x os 0 hs
