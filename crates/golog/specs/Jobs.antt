-- The plain job: what a job on a sheet does, as a machine.
use Rattle.std.specs.Prelude.{◌≡◌, ℕ, zero, suc, Bool, true, false, cond, ◌&&◌, ◌⊎◌, List, [], ◌∷◌, ◌++◌, ◌==◌, nat_lt, slice_index_or}
use Rattle.locks.specs.Meaning.{Meaning}
use Rattle.golog.specs.Faults.{Fault, job_layer}
use Rattle.golog.specs.Programs.{Prog}
use Rattle.golog.specs.Points.{no_act}
use Rattle.golog.specs.Positions.{positions, state_of, first_position, may_stop, Lead, lead}
use Rattle.golog.specs.Positions.Lead.{to, lost}
use Rattle.golog.specs.Sheets.{number_at}

pub data Phase : Type 0 where
  ready : Phase
  waiting : Phase
  finished : Phase
  given_up : Phase

-- A job: its phase, its position, the act that it waits for (255 unless it waits), the number of its row, and the tells taken.
pub record Plain : Type 0 where
  pub phase : Phase
  pub position : ℕ
  pub act : ℕ
  pub number : ℕ
  pub count : ℕ

pub data Call : Type 0 where
  perform : Call
  tell : ℕ → Call
  ask : Call
  give_up : Call

-- Why a call is turned back, each with the job's position: do on a job not ready; tell on one not waiting;
-- a reaction that is impossible there for the act done; a row that is missing or does not fit; give up on a job that is over.
pub data JobFault : Type 0 where
  not_ready : ℕ → JobFault
  not_waiting : ℕ → JobFault
  impossible : ℕ → JobFault
  unfit_row : ℕ → JobFault
  over : ℕ → JobFault

-- faults 20 to 24
abbrev pub job_fault : JobFault → Fault
job_fault (not_ready p) = record { number = 20; layer = job_layer; place = p }
job_fault (not_waiting p) = record { number = 21; layer = job_layer; place = p }
job_fault (impossible p) = record { number = 22; layer = job_layer; place = p }
job_fault (unfit_row p) = record { number = 23; layer = job_layer; place = p }
job_fault (over p) = record { number = 24; layer = job_layer; place = p }

pub data Answer : Type 0 where
  taken : Answer
  refused : JobFault → Answer
  seen : Plain → Answer

-- ready, or finished at number 0
abbrev pub phase_at : ℕ → Phase
phase_at n = cond (n == 0) finished ready

-- a job that stands at the position, with its row's number
abbrev pub standing_at : Meaning → Prog → List ℕ → ℕ → ℕ → Plain
standing_at m δ N p c =
    let n = number_at m δ N p in record { phase = phase_at n; position = p; act = no_act; number = n; count = c }

-- Begin takes the first position and its row's number.
abbrev pub plain_begin : Meaning → Prog → List ℕ → Plain
plain_begin m δ N = standing_at m δ N (first_position m) 0

-- whether the reaction is possible at the position for the act; past the last position there is none
abbrev pub possible_at : Meaning → Prog → ℕ → ℕ → ℕ → Bool
possible_at m δ p a e = nat_lt p (positions m δ) && m.possible (state_of m p) a e

-- where the job moves; from a lost position, which no passed sheet has, it does not
abbrev pub moves_to : ℕ → Lead → ℕ
moves_to p (to q) = q
moves_to p lost = p

-- Do takes the row's act and waits.
abbrev pub plain_perform : Meaning → List ℕ → Plain → Phase → Plain × Answer
plain_perform m A j ready =
    (record { phase = waiting; position = j.position; act = slice_index_or A j.position no_act; number = j.number; count = j.count }, taken)
plain_perform m A j waiting = (j, refused (not_ready j.position))
plain_perform m A j finished = (j, refused (not_ready j.position))
plain_perform m A j given_up = (j, refused (not_ready j.position))

-- Tell gives a reaction, moves where it leads, takes that row's number, counts one and is ready, or finished at 0.
abbrev pub plain_tell : Meaning → Prog → List ℕ → ℕ → Plain → Phase → Plain × Answer
plain_tell m δ N e j ready = (j, refused (not_waiting j.position))
plain_tell m δ N e j waiting =
    elim (possible_at m δ j.position j.act e) [
      | true ↦ (standing_at m δ N (moves_to j.position (lead m δ j.position j.act e)) (suc j.count), taken)
      | false ↦ (j, refused (impossible j.position))
    ]
plain_tell m δ N e j finished = (j, refused (not_waiting j.position))
plain_tell m δ N e j given_up = (j, refused (not_waiting j.position))

-- Give up ends a ready or waiting job.
abbrev pub plain_give_up : Plain → Phase → Plain × Answer
plain_give_up j ready =
    (record { phase = given_up; position = j.position; act = no_act; number = j.number; count = j.count }, taken)
plain_give_up j waiting =
    (record { phase = given_up; position = j.position; act = no_act; number = j.number; count = j.count }, taken)
plain_give_up j finished = (j, refused (over j.position))
plain_give_up j given_up = (j, refused (over j.position))

-- One call: the job after it, and the answer. Ask answers the job as it stands.
abbrev pub plain_call : Meaning → Prog → List ℕ → List ℕ → Call → Plain → Plain × Answer
plain_call m δ N A perform j = plain_perform m A j j.phase
plain_call m δ N A (tell e) j = plain_tell m δ N e j j.phase
plain_call m δ N A ask j = (j, seen j)
plain_call m δ N A give_up j = plain_give_up j j.phase

-- A list of calls: the job after them, and the answers.
abbrev pub plain_after : Meaning → Prog → List ℕ → List ℕ → List Call → Plain → Plain
plain_after m δ N A [] j = j
plain_after m δ N A (c ∷ cs) j = plain_after m δ N A cs (plain_call m δ N A c j).0

abbrev pub plain_answers : Meaning → Prog → List ℕ → List ℕ → List Call → Plain → List Answer
plain_answers m δ N A [] j = []
plain_answers m δ N A (c ∷ cs) j =
    let r = plain_call m δ N A c j in r.1 ∷ plain_answers m δ N A cs r.0

-- the act and reaction of a call that was a tell and was taken
abbrev pub told_by : Call → Answer → Plain → List (ℕ × ℕ)
told_by perform x j = []
told_by (tell e) taken j = (j.act, e) ∷ []
told_by (tell e) (refused f) j = []
told_by (tell e) (seen v) j = []
told_by ask x j = []
told_by give_up x j = []

-- the acts and reactions of the tells that were taken, of a list of calls
abbrev pub plain_told : Meaning → Prog → List ℕ → List ℕ → List Call → Plain → List (ℕ × ℕ)
plain_told m δ N A [] j = []
plain_told m δ N A (c ∷ cs) j =
    let r = plain_call m δ N A c j in told_by c r.1 j ++ plain_told m δ N A cs r.0

-- Given do when ready and any possible reaction when waiting, the job is finished after at most n tells, where Final holds,
-- and none of these calls is turned back.
abbrev pub Finished : Meaning → Prog → Plain → Type 0
Finished m δ j = (j.phase ≡ finished) × (may_stop m δ j.position ≡ true)

abbrev pub Finishes : Meaning → Prog → List ℕ → List ℕ → ℕ → Plain → Type 0
Finishes m δ N A zero j = Finished m δ j
Finishes m δ N A (suc n) j =
    Finished m δ j
    ⊎ ((j.phase ≡ ready)
    × ((plain_call m δ N A perform j).1 ≡ taken)
    × ((e : ℕ) → m.possible (state_of m j.position) (plain_call m δ N A perform j).0.act e ≡ true →
    ((plain_call m δ N A (tell e) (plain_call m δ N A perform j).0).1 ≡ taken)
    × Finishes m δ N A n (plain_call m δ N A (tell e) (plain_call m δ N A perform j).0).0))
