use Rattle.routine.proofs.starts.Beginnings.+act.Given as goal

abbrev pub decreases-act : goal.decreases-act
decreases-act l = l.i
