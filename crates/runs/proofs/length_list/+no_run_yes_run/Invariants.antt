-- The measure of `runs::length_list::yes_run` and `no_run`: the bytes left. Assumes nothing.
use Rattle.std.proofs.Common.{◌-◌, length}
use Rattle.runs.proofs.length_list.+no_run_yes_run.Given as goal

abbrev pub decreases-no_run : goal.decreases-no_run
decreases-no_run l = length l.bytes.now - l.at

abbrev pub decreases-yes_run : goal.decreases-yes_run
decreases-yes_run l = length l.bytes.now - l.at
