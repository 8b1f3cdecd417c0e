-- What is left of the text, after the number so far, spells what the whole text does. Assumes nothing.
use Rattle.std.proofs.Common.{◌≡◌, Some, drop}
use Rattle.lines.specs.Numbers.{spelt, number_of}
use Rattle.lines.proofs.number.parse.Given as goal

abbrev pub invariant-loop-b : goal.invariant-loop-b
invariant-loop-b l = number_of l.base l.text ≡ spelt l.base (Some l.n) (drop l.b-index l.text)
