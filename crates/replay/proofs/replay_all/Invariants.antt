-- Each line that is read uses up a turn. Assumes nothing.
use Rattle.replay.proofs.replay_all.Given as goal

abbrev pub decreases-loop-line : goal.decreases-loop-line
decreases-loop-line g l = l.lines.input.turns
