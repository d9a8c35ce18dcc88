-- What the readers of programs do.
use Rattle.std.specs.Prelude.{◌≡◌, ℕ, ◌<◌, ◌≤◌, List, ◌∷◌, length, ◌≢◌}
use Rattle.std.proofs.Math.Option.{none, some}
use Rattle.golog.specs.Programs.{Prog}
use Rattle.golog.specs.Words.{Token}
use Rattle.golog.specs.Grammar.{Sort}
use Rattle.golog.specs.Grammar.Sort.{choice, sequence, item, atom}
use Rattle.golog.specs.Reading.{Sofar, Frame, State, nothing, advance, depth, most_depth}
use Rattle.golog.specs.Reading.Frame.{in_round, in_then, in_else, in_do}
use Rattle.golog.specs.Reading.State.{want, have}
use Rattle.golog.specs.Reading.Advance.{goes}
use Rattle.tree.specs.Held.{nodes, prog_at}
use Rattle.text.specs.declared.word.Mark.{Mark}
use Rattle.text.specs.declared.word.Mark.TheVariants.{Close, Semicolon, Bar, Star, Else, Fi, Od}
use Rattle.text.specs.declared.fault.TextFault.{TextFault}
use Rattle.text.specs.declared.reader.Level.{Level}
use Rattle.text.specs.declared.reader.Reader.{Reader}
use Rattle.text.specs.Said.{mark_word}
use Rattle.text.specs.Faults.{Tells}
use Rattle.text.specs.Rest.{rest, names_of, goes_on, next_mark}
use Rattle.text.specs.Built.{Grows}

-- what was read before a part of each sort
abbrev pub prog_before : Sort → Sofar → Sofar
prog_before choice A = nothing
prog_before sequence A = (A.0, none)
prog_before item A = A
prog_before atom A = A

-- which marks are not next behind a part of each sort
abbrev pub ProgStops : Sort → List Token → Type 0
ProgStops atom ts = Unit {0}
ProgStops item ts = next_mark ts ≡ some Star → ⊥
ProgStops sequence ts = (next_mark ts ≢ some Star) × (next_mark ts ≢ some Semicolon)
ProgStops choice ts = (next_mark ts ≢ some Star) × (next_mark ts ≢ some Semicolon) × (next_mark ts ≢ some Bar)

-- a program of the sort was read, and stands in the tree
pub record ProgRead (k : Sort) (v : Level) (s t : Reader) (i : ℕ) : Type 0 where
  pub fewer : length (rest t) < length (rest s)
  pub stops : ProgStops k (rest t)
  pub grows : Grows s.tree t.tree
  pub there : i < length (nodes t.tree)
  pub on : (K : List Frame) (A : Sofar) → length K ≡ v.depth → goes_on v s (want K (prog_before k A)) ≡ goes_on v t (have K (prog_before k A) (prog_at t.tree i))

-- a program i that was read became a program j of the sort k, behind parts of the sort l
pub record ProgJoined (k l : Sort) (v : Level) (s : Reader) (i : ℕ) (t : Reader) (j : ℕ) : Type 0 where
  pub fewer : length (rest t) ≤ length (rest s)
  pub stops : ProgStops l (rest t)
  pub grows : Grows s.tree t.tree
  pub there : j < length (nodes t.tree)
  pub on : (K : List Frame) (A : Sofar) → length K ≡ v.depth → goes_on v s (have K (prog_before k A) (prog_at s.tree i)) ≡ goes_on v t (have K (prog_before k A) (prog_at t.tree j))

abbrev pub ProgRefused : Sort → Level → Reader → TextFault → Type 0
ProgRefused k v s f = (K : List Frame) (A : Sofar) → length K ≡ v.depth → Tells f (goes_on v s (want K (prog_before k A)))

-- the mark that closes a choice
abbrev pub frame_closer : Frame → Mark
frame_closer (in_round A) = Close
frame_closer (in_then A c) = Else
frame_closer (in_else A c q) = Fi
frame_closer (in_do A c) = Od

-- a choice, and the mark that closes it
pub record InsideRead (v : Level) (s t : Reader) (m : Mark) (i : ℕ) : Type 0 where
  pub fewer : length (rest t) < length (rest s)
  pub grows : Grows s.tree t.tree
  pub there : i < length (nodes t.tree)
  pub on : (F : Frame) (K : List Frame) (U : State) → length (F ∷ K) ≡ v.depth → advance (names_of v) (have (F ∷ K) nothing (prog_at t.tree i)) (mark_word m) ≡ goes U →
      depth U ≤ most_depth → goes_on v s (want (F ∷ K) nothing) ≡ goes_on v t U

abbrev pub InsideRefused : Level → Reader → Mark → TextFault → Type 0
InsideRefused v s m f =
    (F : Frame) (K : List Frame) → length (F ∷ K) ≡ v.depth → frame_closer F ≡ m →
    ((p : Prog) → (U : State) × (advance (names_of v) (have (F ∷ K) nothing p) (mark_word m) ≡ goes U)) → Tells f (goes_on v s (want (F ∷ K) nothing))
