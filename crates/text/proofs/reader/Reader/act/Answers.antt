use Rattle.std.proofs.lemmas.Result.{MatchResult-weaker}
use Rattle.golog.specs.Reading.State.{want}
use Rattle.text.specs.Said.{said}
use Rattle.text.specs.Rest.{names_of}
use Rattle.text.proofs.Stepping.{hands_on, memory_tells, nameless_tells}
use Rattle.text.proofs.Programs.{act_unknown, act_over, act_read}
use Rattle.text.proofs.reader.Reader.act.Goals as goal

pub returns-in_err-act : goal.returns-in_err-act
returns-in_err-act c =
    hands_on _ _ _ _ c.from_residual.ensures.1
    (λ K A e.
    nameless_tells c.args.self.now c.args.token c.requires.ahead_value (names_of c.args.level) c.args.level.end (want K A) c.in_err-act.field-0.0 _ c.in_err-act.ensures
    (act_unknown c.args.level c.args.self.now (said c.args.token.word) c.args.name.now c.requires.word_value K A))

pub returns-in_err-take_act : goal.returns-in_err-take_act
returns-in_err-take_act c =
    hands_on _ _ _ _ c.from_residual-in_err-take_act.ensures.1
    (act_over c.args.level c.args.self.now (said c.args.token.word) c.args.name.now c.in_ok-act.act c.requires.word_value c.in_ok-act.ensures c.in_err-take_act.field-0.0 c.in_err-take_act.ensures)

pub returns : goal.returns
returns c =
    MatchResult-weaker c.node.result c.node.ensures
    (λ i h. act_read c.args.level c.args.self.now (said c.args.token.word) c.args.name.now c.in_ok-act.act c.requires.word_value c.in_ok-act.ensures c.take_act.new.self c.node.new.self i c.in_ok-take_act.ensures h)
    (λ f h K A e. memory_tells f _ h)
