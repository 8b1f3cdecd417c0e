-- Header words. Assumes nothing: these are definitions.
use Rattle.std.specs.Prelude.{ℕ, ◌/◌, ◌%◌, List, [], ◌∷◌}

-- a header word is start index times 2^21 plus prefix sum
abbrev pub start_index : ℕ → ℕ
start_index h = h / 2097152

abbrev pub prefix_sum : ℕ → ℕ
prefix_sum h = h % 2097152

-- a run's offsets lie from its start to the next start, or to the end: where the run before the headers hs ends, of n offsets
abbrev pub run_end : ℕ → List ℕ → ℕ
run_end n [] = n
run_end n (g ∷ hs) = start_index g
