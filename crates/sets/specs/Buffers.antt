-- What a lent buffer holds after a success. Assumes nothing: this is a definition.
use Rattle.std.specs.Prelude.{ℕ, List, ◌++◌, length, drop}

-- new in front; every place beyond the reported length unchanged
abbrev pub over : List ℕ → List ℕ → List ℕ
over new old = new ++ drop (length new) old
