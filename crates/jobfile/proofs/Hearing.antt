-- The program so far, one record on.
use Rattle.std.proofs.Common.{◌≡◌, ℕ, List, length, Some, None, Ok, Err, Option, Result, sym, refl, ap, ◌∙◌, subst, inl, inr}
use mathlib.Core.Option as logic
use mathlib.Core.Option.{none, some}
use Rattle.items.specs.declared.item.Header.{Header}
use Rattle.items.specs.Layout.{Entry, text_in}
use Rattle.items.specs.Layout.Entry.{head, fact, act, rule, change, state, move, mark, allowance, routine}
use Rattle.model.specs.Contents.{Contents, with_item, first_of}
use Rattle.model.specs.declared.draft.Draft.{Draft}
use Rattle.model.specs.Stands.{Fit, Stands}
use Rattle.model.proofs.Inside.{nothing_is_some}
use Rattle.golog.specs.Reading as golog
use Rattle.golog.specs.Reading.{Reading, read}
use Rattle.golog.specs.Reading.Reading.{tree, refused}
use Rattle.text.specs.declared.parsed.Parsed.{Parsed}
use Rattle.text.specs.declared.fault.TextFault.{TextFault}
use Rattle.text.specs.Faults.{said_fault}
use Rattle.text.specs.Parse.{ReadAs, RefusedAs, parsed_prog}
use Rattle.text.specs.Rest.{both_names}
use Rattle.jobfile.specs.Verdict.{Refusal, names_in, heard, listen}
use Rattle.jobfile.specs.Verdict.Refusal.{of_text}
use Rattle.jobfile.specs.Refused.{TextRefused}
use Rattle.jobfile.specs.Heard.{ParsedStands, Listened, program_of}
use Rattle.jobfile.proofs.Formatting.{nothing_behind}

-- the text of an item is the last that came
text_came : (i : Entry) (c : Contents) (t : List ℕ) → text_in i ≡ Some t → ((with_item c i).group ≡ 5) × (first_of (with_item c i).texts ≡ Some t)
text_came (head h) c t e = absurd (nothing_is_some t e)
text_came (fact n) c t e = absurd (nothing_is_some t e)
text_came (act n) c t e = absurd (nothing_is_some t e)
text_came (rule a n l) c t e = absurd (nothing_is_some t e)
text_came (change a x n l s k) c t e = absurd (nothing_is_some t e)
text_came (state v) c t e = absurd (nothing_is_some t e)
text_came (move s a x v) c t e = absurd (nothing_is_some t e)
text_came (mark a x) c t e = absurd (nothing_is_some t e)
text_came (allowance k) c t e = absurd (nothing_is_some t e)
text_came (routine u) c t e = (refl, e)

listened : (o : Option (List ℕ)) (i : Entry) (c : Contents) → text_in i ≡ o → (new : Option Parsed) → Listened o None new (length (with_item c i).facts) → ParsedStands new (with_item c i)
listened None i c s new l = subst (λ x. ParsedStands x (with_item c i)) (sym l) tt
listened (Some t) i c s new l =
    let k = text_came i c t s in
    subst (λ x. ParsedStands x (with_item c i)) (sym l.1) (k.0, (t, k.1), l.2)

pub parsed_more : (h : Header) (c : Contents) (i : Entry) (o : Option (List ℕ)) (old new : Option Parsed) → Fit h c i → text_in i ≡ o → ParsedStands old c →
    Listened o old new (length (with_item c i).facts) → ParsedStands new (with_item c i)
parsed_more h c i o None new f s p l = listened o i c s new l
parsed_more h c i o (Some q) new f s p l = absurd (nothing_behind h c i p.1.0 p.0 p.1.1 f)

module _ (d : Draft) (c : Contents) (s : Stands d c) (o : Option (List ℕ)) (t : List ℕ) (e : o ≡ Some t) (old : Option Parsed) where
  same_names : both_names d.facts d.acts ≡ names_in c
  same_names = λ i. record { facts = s.facts i; acts = s.acts i }

  heard_as : (r : Reading) → read (both_names d.facts d.acts) t ≡ r → listen o c (program_of old) ≡ heard r
  heard_as r k = ap (λ x. listen x c (program_of old)) e ∙ ap heard (ap (λ N. read N t) (sym same_names) ∙ k)

  -- a text that is read is the program so far
  pub heard_text : (p : Parsed) → ReadAs d.facts d.acts t p →
      (listen o c (program_of old) ≡ Ok (Some (parsed_prog p))) × Listened o old (Some p) (length c.facts)
  heard_text p r =
      (heard_as _ r.reads, subst (λ x. Listened x old (Some p) (length c.facts)) (sym e) (p, refl, r.all_facts ∙ ap length s.facts))

  -- one that is refused ends the reading
  pub unheard_text : (f : TextFault) → RefusedAs d.facts d.acts t f → TextRefused (said_fault f) (listen o c (program_of old))
  unheard_text f (inl m) = subst (λ x. TextRefused (said_fault x) (listen o c (program_of old))) (sym m) tt
  unheard_text f (inr (g, w, r)) = subst (λ x. TextRefused x (listen o c (program_of old))) (sym w) (heard_as _ r)

-- what a refused text makes of one verdict it makes of another
pub refused_too : {X Y : Type 0} (o : logic.Option golog.TextFault) (x : Result X Refusal) (y : Result Y Refusal) →
    ((f : Refusal) → x ≡ Err f → y ≡ Err f) → TextRefused o x → TextRefused o y
refused_too none x y k r = tt
refused_too (some f) x y k r = k (of_text f) r
