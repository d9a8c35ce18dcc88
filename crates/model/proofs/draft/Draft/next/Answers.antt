use Rattle.std.proofs.Common.{◌∙◌}
use Rattle.items.specs.Layout.{said}
use Rattle.model.proofs.Fitting.{weigh_fit, turn_good}
use Rattle.model.proofs.draft.Draft.next.Goals as goal

pub returns : goal.returns
returns c = λ k s.
    let h = c.args.self.head in
    let found = c.in_ok-raw.raw in
    let i = said c.in_ok-item.item in
    let w = c.in_ok-item.ensures k s in (
      i,
      turn_good h k found.at _ c.args.bytes.now found.kind found.body.now found.rest.now i (c.in_ok-raw.ensures.0 ∙ c.saturating_sub-at.ensures) c.in_ok-raw.ensures.1 w,
      c.text-text.ensures,
      c.in_ok-enter.ensures.stands k s (weigh_fit h k found.at found.kind found.body.now i w),
      c.in_ok-enter.ensures.head,
    )
