-- From a routine's text and a lock to what comes of them, and texts to try reading on.
use Rattle.std.specs.Prelude.{◌≡◌, ℕ, zero, suc, List, [], ◌∷◌, ◌++◌, map, codes}
use Rattle.locks.specs.Meaning.{Meaning}
use Rattle.golog.specs.Faults.{Fault}
use Rattle.golog.specs.Programs.{Prog, nil, if_then_else}
use Rattle.golog.specs.Programs.Cond.{always, fact, negated, both, any}
use Rattle.golog.specs.Programs.Prog.{act, test, seq, alt, star}
use Rattle.golog.specs.Points.{ways, Ways, two_ways_fault}
use Rattle.golog.specs.Points.Ways.{one_way, two_ways}
use Rattle.golog.specs.Positions.{positions}
use Rattle.golog.specs.Sheets.{Made, Passed, size_fault, no_sheet_fault, false_row_fault, numbers, acts_for, make, pass}
use Rattle.golog.specs.Sheets.Passed.{accepted, too_large, false_row}
use Rattle.golog.specs.Sheets.Made.{made, no_sheet, oversize}
use Rattle.golog.specs.Jobs.{Plain, Call, Answer, job_fault, plain_begin, plain_answers}
use Rattle.golog.specs.Grammar.{Names}
use Rattle.golog.specs.Reading.{read, Reading, text_fault}
use Rattle.golog.specs.Reading.TextFault.{misplaced, unknown, over_limit}

-- what a call of a job is told
pub data Told : Type 0 where
  done : Told
  turned_back : Fault → Told
  stands : Plain → Told

-- What comes of a routine for a lock: a fault; or the least number of steps, the count of rows, and what the calls of a job are told.
pub data Outcome : Type 0 where
  fault : Fault → Outcome
  sheet : ℕ → ℕ → List Told → Outcome

abbrev told : Answer → Told
told Answer.taken = done
told (Answer.refused f) = turned_back (job_fault f)
told (Answer.seen j) = stands j

-- the job's calls on a sheet, if pass accepts it
abbrev job_outcome : Meaning → Prog → List Call → ℕ → ℕ → List ℕ → List ℕ → Passed → Outcome
job_outcome m t cs n r N A accepted = sheet n r (map told (plain_answers m t N A cs (plain_begin m t N)))
job_outcome m t cs n r N A (too_large c) = fault (size_fault c)
job_outcome m t cs n r N A (false_row p) = fault (false_row_fault p)

-- the sheet that make makes
abbrev sheet_outcome : Meaning → Prog → List Call → Made → Outcome
sheet_outcome m t cs (made n r) = let N = numbers m t in let A = acts_for m t N in job_outcome m t cs n r N A (pass m t N A)
sheet_outcome m t cs (no_sheet p) = fault (no_sheet_fault p)
sheet_outcome m t cs (oversize c) = fault (size_fault c)

abbrev routine_outcome : Meaning → Prog → List Call → Ways → Outcome
routine_outcome m t cs one_way = sheet_outcome m t cs (make m t (positions m t) (positions m t))
routine_outcome m t cs (two_ways p q r) = fault (two_ways_fault p q r)

-- read the text, check it for two ways, make a sheet in tables of just the size, pass it, and run the job
abbrev pub outcome : Names → Meaning → List ℕ → List Call → Outcome
outcome names lock text calls =
    elim (read names text) [
      | Reading.tree t ↦ routine_outcome lock t calls (ways lock.facts t)
      | Reading.refused f ↦ fault (text_fault f)
    ]

-- the names that the texts use
abbrev small_names : Names
small_names = record { facts = codes "wound" ∷ codes "shut" ∷ []; acts = codes "wind" ∷ codes "close" ∷ [] }

-- Texts, and what reading them answers. The strange sign behind a misplaced word is not looked at;
-- a name of 25 letters is none; a comment needs no LF; a name in the other's place is not known.
abbrev repeated : ℕ → List ℕ → List ℕ → List ℕ
repeated zero w end = end
repeated (suc n) w end = w ++ repeated n w end

abbrev pub texts : List (List ℕ × Reading)
texts =
    (codes "wind wind ?", Reading.refused (misplaced 5))
    ∷ (codes "wind$", Reading.refused (misplaced 4))
    ∷ (codes "abcdefghijklmnopqrstuvwxy", Reading.refused (misplaced 0))
    ∷ (codes "abcdefghijklmnopqrstuvwx", Reading.refused (unknown 0))
    ∷ (codes "", Reading.refused (misplaced 0))
    ∷ (codes " # wind", Reading.refused (misplaced 7))
    ∷ (codes "wind # c", Reading.tree (act 0))
    ∷ (codes "( foo", Reading.refused (unknown 2))
    ∷ (codes "( wind", Reading.refused (misplaced 6))
    ∷ (codes "wound", Reading.refused (unknown 0))
    ∷ (codes "[wind]", Reading.refused (unknown 1))
    ∷ (codes "wind;close;wind", Reading.tree (seq (seq (act 0) (act 1)) (act 0)))
    ∷ (codes "wind|close;wind**", Reading.tree (alt (act 0) (seq (act 1) (star (star (act 0))))))
    ∷ (codes "[not wound and shut or true]", Reading.tree (test (any (both (negated (fact 0)) (fact 1)) always)))
    ∷ (codes "if not not shut then nil else wind fi", Reading.tree (if_then_else (negated (negated (fact 1))) nil (act 0)))
    ∷ (repeated 63 (codes "wind;") (codes "wind"), Reading.refused (over_limit 315))
    ∷ (repeated 33 (codes "(") [], Reading.refused (over_limit 32))
    ∷ (repeated 32 (codes "(") [], Reading.refused (misplaced 32))
    ∷ (repeated 256 (codes "nil;") (codes "nil"), Reading.refused (over_limit 1024))
    ∷ []

abbrev pub TextsComeOut : Type 0
TextsComeOut = map (λ x. read small_names x.0) texts ≡ map (λ x. x.1) texts
