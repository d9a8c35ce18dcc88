use Rattle.routine.proofs.starts.Beginnings.+after.Given as goal

abbrev pub decreases-after : goal.decreases-after
decreases-after l = l.i
