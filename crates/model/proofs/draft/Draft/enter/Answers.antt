use Rattle.std.proofs.Common.{◌≡◌, ◌+◌, ◌*◌, ◌<◌, true, length, set, sym, ap, ◌∙◌, subst, rules}
use Rattle.items.specs.Layout.{said}
use Rattle.items.specs.Layout.Entry.{mark}
use Rattle.locks.specs.Allowed.{marks_list, marked_in}
use Rattle.model.specs.Contents.{with_item, marked_of}
use Rattle.model.specs.Stands.{Fit}
use Rattle.model.proofs.Tables.{mark_more}
use Rattle.model.proofs.draft.Draft.enter.Goals as goal

pub returns-in-Mark : goal.returns-in-Mark
returns-in-Mark c = record {
  head = search rules;
  stands = λ k s f.
      let a = c.in-Mark.act in
      let e = c.in-Mark.reaction in
      let old = c.args.self.now.marks in
      let is : said c.args.item ≡ mark a e = ap said c.in-Mark.is in
      let fit : Fit c.args.self.now.head k (mark a e) = subst (Fit c.args.self.now.head k) is f in
      let ha : a < 31 = search rules in
      let he : e < 8 = search rules in
      let within : a * 8 + e < length (marks_list old) = search rules in
      let ok : c.add-in-Mark.result ≡ true = search rules in
      let ms : marks_list c.add-in-Mark.new.self ≡ set (marks_list old) (a * 8 + e) true = search rules in
      record {
        few_acts = search rules;
        group = search rules;
        facts = search rules;
        acts = search rules;
        lowest = search rules;
        moves = search rules;
        marks = λ x y.
            ap (λ l. marked_in l x y) ms
            ∙ (mark_more (marks_list old) k.marks a e ha he within s.marks x y ∙ ap (λ i. marked_of (with_item k i).marks x y) (sym is));
        allowance = search rules;
        text = search rules;
      };
}
