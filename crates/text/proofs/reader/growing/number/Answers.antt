use Rattle.std.proofs.Common.{◌≡◌, None, Some, inr, sym, ◌∙◌, rules}
use mathlib.Core.Option.{some}
use Rattle.std.proofs.lemmas.Result.{err_from_is_err_and}
use Rattle.words.specs.Listed.{name_list}
use Rattle.golog.specs.Grammar.{number_of}
use Rattle.text.specs.declared.fault.TextFault.TheVariants.{Unknown}
use Rattle.text.proofs.Growing.{has_number, has_no_number}
use Rattle.text.proofs.reader.growing.number.Goals as goal

pub returns-in_err-number : goal.returns-in_err-number
returns-in_err-number c =
    let p = err_from_is_err_and c.from_residual.result c.from_residual.ensures.1 in
    let f : c.find.result ≡ None = search rules in
    let u : c.in_err-number.field-0.0 ≡ Unknown c.args.at = search rules in
    rw (p.1, p.2) (inr (u, has_no_number (name_list c.args.names.now) c.args.word.now (sym f ∙ c.find.ensures)))

pub returns : goal.returns
returns c =
    let f : c.find.result ≡ Some c.in_ok-number.number = search rules in
    let is : number_of (name_list c.args.names.now) c.args.word.now ≡ some c.in_ok-number.number =
    has_number (name_list c.args.names.now) c.args.word.now _ (sym f ∙ c.find.ensures) in
    search rules
