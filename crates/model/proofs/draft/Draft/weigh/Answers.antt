use Rattle.std.proofs.Common.{◌<◌, length, sym, arith}
use Rattle.items.specs.Layout.{said}
use Rattle.model.proofs.Inside.{bad_field_inside}
use Rattle.model.proofs.draft.Draft.weigh.Goals as goal

pub overflow_add-result-in-Some : goal.overflow_add-result-in-Some
overflow_add-result-in-Some c =
    let inside : c.in-Some.field < length c.args.raw.body.now =
    bad_field_inside c.args.self.now.head.form c.args.self.now.group c.args.raw.at c.args.raw.kind c.args.raw.body.now
    (said c.in_ok-item.item) c.in_ok-item.ensures c.args.self.now.head c.in-Some.field (sym c.in-Some.ensures) in
    omega (arith, inside)
