use Rattle.std.proofs.Common.{length, refl, ◌∙◌, arith, rules}
use Rattle.text.specs.declared.reader.Level.{Level}
use Rattle.text.specs.Rest.{both_names, names_of}
use Rattle.text.proofs.Stepping.{hands_on}
use Rattle.text.proofs.Texts.{first_rest, reading_begins, whole_refused, whole_read, whole_unplaced}
use Rattle.text.proofs.reader.whole.read_whole.Goals as goal

pub returns-in_err-root : goal.returns-in_err-root
returns-in_err-root c =
    let V : Level = record { facts = c.args.facts; acts = c.args.acts; end = length c.args.text.now; depth = 0; shallow = omega arith } in
    hands_on _ _ _ _ c.from_residual.ensures.1
    (whole_refused V c.args.text.now _ refl
    (reading_begins (names_of V) c.args.text.now _ (first_rest c.next-ahead.result c.new-words.result c.next-ahead.new.self c.next-ahead.ensures.steps ∙ c.new-words.ensures) refl refl)
    c.in_err-root.field-0.0 c.in_err-root.ensures)

pub returns-then-is_some : goal.returns-then-is_some
returns-then-is_some c =
    let N = both_names c.args.facts.now c.args.acts.now in
    whole_unplaced _ c.args.text.now _ refl
    (reading_begins N c.args.text.now _ (first_rest c.next-ahead.result c.new-words.result c.next-ahead.new.self c.next-ahead.ensures.steps ∙ c.new-words.ensures) refl refl)
    c.choice.new.self _ c.in_ok-root.ensures (search rules) c.misplaced.result c.misplaced.ensures

pub returns : goal.returns
returns c =
    let N = both_names c.args.facts.now c.args.acts.now in (
      c.in_ok-root.ensures.there,
      whole_read _ c.args.text.now _ refl
          (reading_begins N c.args.text.now _ (first_rest c.next-ahead.result c.new-words.result c.next-ahead.new.self c.next-ahead.ensures.steps ∙ c.new-words.ensures) refl refl)
          c.choice.new.self _ c.in_ok-root.ensures (search rules),
    )
