use Rattle.std.proofs.Common.{◌≡◌, Some, Ok, sym, ap, ◌∙◌}
use Rattle.golog.specs.Points.{ways}
use Rattle.text.specs.Parse.{parsed_prog}
use Rattle.jobfile.specs.Verdict.{Said, verdict, ended_ways}
use Rattle.jobfile.proofs.Formatting.{accepted_is_job_file}
use Rattle.jobfile.proofs.jobfile.JobFile.read.Goals as goal

pub returns : goal.returns
returns c =
    let m = c.in_ok-model.ensures in
    let b = c.in_ok-routine.ensures in
    let p = parsed_prog c.in_ok-model.parsed in
    let said : Said = record { head = m.0; contents = m.1; program = p } in
    let accepted : verdict c.args.file.now ≡ Ok said = m.4 ∙ ap (λ w. ended_ways w m.0 m.1 p) (ap (λ n. ways n p) (sym m.3) ∙ b.1) in
    record {
      said = said;
      accepted = accepted;
      format = accepted_is_job_file c.args.file.now said accepted;
      held = record {
        lock = m.2.lock;
        facts = m.2.facts;
        acts = m.2.acts;
        marks = m.2.marks;
        most = m.2.most;
        text = ap (λ t. Some t) c.in_ok-text.ensures.items ∙ m.2.text;
        routine = b.0;
      };
    }
