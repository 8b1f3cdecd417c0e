-- What a plane's tables say of the low 16 bits. Assumes nothing: this is a definition.
use Rattle.std.specs.Prelude.{ℕ, ◌/◌, ◌%◌, List, Bool, true, not, ◌&&◌}
use Rattle.runs.specs.Lengths.{lengths, kind_at}
use Rattle.runs.specs.Singletons.{listed}

-- "A listed singleton is no; else a length list decides, starting with yes."
abbrev pub printable_by : List ℕ → List ℕ → List ℕ → List ℕ → ℕ → Bool
printable_by highs counts lows normal x = not (listed highs counts lows (x / 256) (x % 256)) && kind_at true (lengths normal) x
