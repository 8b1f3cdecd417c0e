-- Longer lists are refused, and what the core promises of the pairs it promises of the records. Assumes nothing.
use Rattle.skip_forms.proofs.Packed.{many, front}
use Rattle.skip_forms.proofs.records.pack_ranges.Goals as goal

pub returns-then-ranges-gt-MAX_RANGES : goal.returns-then-ranges-gt-MAX_RANGES
returns-then-ranges-gt-MAX_RANGES c = many _ _ _ c.if-ranges-gt-MAX_RANGES.true

pub returns : goal.returns
returns c = front _ _ _ _ _ _ (rw c.flat_pairs-pairs.ensures at c.pack.ensures)
