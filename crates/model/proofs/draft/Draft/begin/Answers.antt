use Rattle.std.proofs.Common.{ap, ◌∙◌, rules}
use Rattle.locks.specs.Allowed.{marked_in}
use Rattle.model.proofs.Beginning.{begins_with}
use Rattle.model.proofs.Tables.{unmarked}
use Rattle.model.proofs.draft.Draft.begin.Goals as goal

pub returns : goal.returns
returns c = (
  begins_with c.args.file.now c.in_ok-raw.raw.kind c.in_ok-raw.raw.body.now c.in_ok-raw.raw.rest.now c.in_ok-head.head c.in_ok-raw.ensures.1 (search rules) (search rules),
  record {
    few_acts = search rules;
    group = search rules;
    facts = search rules;
    acts = search rules;
    lowest = search rules;
    moves = search rules;
    marks = λ a e. ap (λ l. marked_in l a e) c.none.ensures ∙ unmarked 248 a e;
    allowance = search rules;
    text = search rules;
  },
)
