-- A list lent as range records. Assumes nothing: these are definitions.
use Rattle.std.specs.Prelude.{ℕ, ◌-◌, ◌*◌, List, [], ◌∷◌, ◌++◌, take, replicate}
use Rattle.skip_forms.specs.declared.records.Range.{Range}

-- the list that the records stand for, as flat pairs: first, last, first, last ..
unfoldable pub flatten : List Range → List ℕ
flatten [] = []
flatten (r ∷ rs) = r.first ∷ r.last ∷ flatten rs

-- the pairs of the first n records, then zeros up to 2,046 numbers. Serves the crate itself
unfoldable pub filled : ℕ → List Range → List ℕ
filled n rs = flatten (take n rs) ++ replicate (2046 - n * 2) 0
