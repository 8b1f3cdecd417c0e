-- How many lines may still come stays as it was. Assumes nothing.
use Rattle.std.proofs.Common.{◌≡◌}
use Rattle.lines.proofs.input.Lines.read_line.Given as goal

abbrev pub invariant-loop : goal.invariant-loop
invariant-loop g l = l.self.input.turns ≡ l.initial.self.input.turns
