use Rattle.text.proofs.Stepping.{unfit_word, unfit_end}
use Rattle.text.proofs.reader.Reader.misplaced.Goals as goal

pub returns-in_default : goal.returns-in_default
returns-in_default c N S h = unfit_end c.args.self.now c.in_default.is N c.args.end S h

pub returns-in-Strange : goal.returns-in-Strange
returns-in-Strange c N S h = rw c.into.ensures (unfit_word c.args.self.now c.in-Some.token c.in-Some.is N c.args.end S h)

pub returns-in_default-word : goal.returns-in_default-word
returns-in_default-word c N S h = unfit_word c.args.self.now c.in-Some.token c.in-Some.is N c.args.end S h
