use Rattle.std.proofs.Common.{◌≡◌, sym, ap, ◌∙◌, ap₂, subst}
use Rattle.golog.specs.Points.{OneWay, ways}
use Rattle.text.specs.Parse.{parsed_prog}
use Rattle.routine.specs.Kept.{tables_prog}
use Rattle.routine.proofs.Ways.{tables_one_way}
use Rattle.routine.proofs.routine.Routine.new.Goals as goal

pub invariant_of-result : goal.invariant_of-result
invariant_of-result c = record { one = ∣ tables_one_way c.in_ok-tables.tables c.in-None.ensures ∣₁ }

pub returns-in-None : goal.returns-in-None
returns-in-None c =
    let t = c.in_ok-tables.tables in
    let same : tables_prog t ≡ parsed_prog c.args.parsed = ap parsed_prog c.in_ok-tables.ensures in (
      same,
      ap₂ ways (sym (t.every ∙ ap (λ p. p.facts) c.in_ok-tables.ensures)) (sym same) ∙ c.in-None.ensures,
      subst OneWay same (tables_one_way t c.in-None.ensures),
    )
