use Rattle.std.proofs.Common.{◌≡◌, ◌∷◌, take, vec_items}
use Rattle.golog.specs.Points.{no_act, act_words}
use Rattle.text.specs.Parse.{parsed_prog}
use Rattle.routine.proofs.starts.Beginnings.acts.Given as goal

abbrev pub invariant-loop-word : goal.invariant-loop-word
invariant-loop-word l = vec_items l.acts ≡ no_act ∷ take l.word (act_words (parsed_prog l.self.program.now))
