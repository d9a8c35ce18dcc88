-- From the bytes of a job file, and the calls of a job, to what comes of them.
use Rattle.std.specs.Prelude.{◌≡◌, ℕ, List, [], ◌∷◌, map, Ok, Err, codes, Result, slice_index_or}
use Rattle.model.specs.Contents.{pile_said}
use Rattle.faults.specs.Faults.{model_number, layer_of, model_place}
use Rattle.jobfile.specs.Verdict.{Refusal, Said, names_in, verdict}
use Rattle.jobfile.specs.Verdict.Refusal.{too_long, of_model, of_text, of_ways}
use Rattle.golog.specs.Faults.{Fault}
use Rattle.golog.specs.Points.{two_ways_fault}
use Rattle.golog.specs.Reading.{text_fault}
use Rattle.golog.specs.Jobs.{Call, Phase}
use Rattle.golog.specs.Jobs.Call.{perform, tell, ask}
use Rattle.golog.specs.Jobs.Phase.{ready, finished}
use Rattle.golog.specs.Cases.{Outcome, Told, outcome}
use Rattle.golog.specs.Cases.Outcome.{fault, sheet}
use Rattle.golog.specs.Cases.Told.{done, turned_back, stands}
use Rattle.worked.specs.Files.{small_file, mark_record, allowance_record}

abbrev fault_of : ℕ → ℕ → ℕ → Fault
fault_of n l p = record { number = n; layer = l; place = p }

-- why a file is refused, as it is told
abbrev told : Refusal → Fault
told (too_long most) = fault_of 3 2 most
told (of_model f) = fault_of (model_number f) (layer_of f) (model_place f)
told (of_text f) = text_fault f
told (of_ways p q r) = two_ways_fault p q r

-- a file that is read goes on to its sheet: make it, pass it, and run the job
abbrev after_reading : List Call → Result Said Refusal → Outcome
after_reading calls (Err f) = fault (told f)
after_reading calls (Ok s) = outcome (names_in s.contents) (pile_said s.head s.contents) (slice_index_or s.contents.texts 0 []) calls

abbrev pub comes_of : List ℕ → List Call → Outcome
comes_of file calls = after_reading calls (verdict file)

pub record Worked : Type 0 where
  pub file : List ℕ
  pub calls : List Call
  pub expected : Outcome

abbrev worked : List (List ℕ) → List ℕ → List Call → Outcome → Worked
worked layer text calls o = record { file = small_file layer text; calls = calls; expected = o }

abbrev job_at : Phase → ℕ → ℕ → ℕ → Told
job_at f p n c = stands (record { phase = f; position = p; act = 255; number = n; count = c })

abbrev wind_then_close : List ℕ
wind_then_close = codes "while not wound do wind od ; close"

-- the slipping is marked, and k of it are borne
abbrev slips : ℕ → List (List ℕ)
slips k = mark_record 0 1 ∷ allowance_record k ∷ []

abbrev pub cases : List Worked
cases =
    worked (slips 1) wind_then_close [] (sheet 3 16 [])
    ∷ worked (allowance_record 0 ∷ []) wind_then_close [] (fault (fault_of 13 5 0))
    ∷ worked (slips 0) wind_then_close [] (sheet 2 8 [])
    ∷ worked (mark_record 1 0 ∷ slips 0) wind_then_close [] (sheet 2 8 [])
    ∷ worked (slips 1) (codes "nil") [] (sheet 0 8 [])
    ∷ worked (slips 1) (codes "( wind ) *") [] (sheet 0 16 [])
    ∷ worked [] (codes "wind ; [wound] | wind ; [not wound]") [] (sheet 1 6 [])
    ∷ worked (slips 1) (codes "wind ; close | wind ; close") [] (fault (fault_of 11 4 67))
    ∷ worked (slips 1) (codes "wind wind") [] (fault (fault_of 7 3 5))
    ∷ worked (slips 1) wind_then_close
    (ask ∷ perform ∷ tell 1 ∷ ask ∷ perform ∷ tell 1 ∷ tell 0 ∷ ask ∷ perform ∷ tell 0 ∷ ask ∷ [])
    (sheet 3 16
    (job_at ready 1 3 0
    ∷ done
    ∷ done
    ∷ job_at ready 8 2 1
    ∷ done
    ∷ turned_back (fault_of 22 7 8)
    ∷ done
    ∷ job_at ready 10 1 2
    ∷ done
    ∷ done
    ∷ job_at finished 22 0 3
    ∷ []))
    ∷ []

-- Each case comes out as expected.
abbrev pub WorkedCasesComeOut : Type 0
WorkedCasesComeOut = map (λ w. comes_of w.file w.calls) cases ≡ map (λ w. w.expected) cases
