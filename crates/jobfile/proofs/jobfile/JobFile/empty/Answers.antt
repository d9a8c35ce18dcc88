use Rattle.std.proofs.Common.{ap, ◌∙◌, rules}
use Rattle.locks.specs.Allowed.{marked_in}
use Rattle.model.proofs.Tables.{unmarked}
use Rattle.jobfile.proofs.jobfile.JobFile.empty.Goals as goal

pub returns : goal.returns
returns c = record {
  lock = search rules;
  facts = search rules;
  acts = search rules;
  marks = λ a e. ap (λ l. marked_in l a e) c.none.ensures ∙ unmarked 248 a e;
  most = search rules;
  text = search rules;
  routine = search rules;
}
