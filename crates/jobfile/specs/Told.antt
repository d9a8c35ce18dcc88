-- The line that tells of a file.
use Rattle.std.specs.Prelude.{◌≡◌, ℕ, ◌≤◌, ◌⊎◌, List, length}
use Rattle.pile.specs.Pile.{pile_meaning}
use Rattle.golog.specs.Points.{points}
use Rattle.routine.specs.Routines.{routine_prog}
use Rattle.faults.specs.declared.fault.FileFault.{FileFault}
use Rattle.faults.specs.Faults.{refusal_line}
use Rattle.jobfile.specs.declared.jobfile.JobFile.{JobFile}
use Rattle.jobfile.specs.Held.{ReadWell, read_line}
use Rattle.jobfile.specs.Refused.{Refused}
use Rattle.jobfile.specs.Verdict.{verdict_within}

-- The file is read, and the line tells the points and the states of what it says; or it is refused, and the line tells the fault.
abbrev pub LineOf : ℕ → List ℕ → List ℕ → Type 0
LineOf limit file line =
    ((j : JobFile) × (length file ≤ limit) × ReadWell j file × (line ≡ read_line (points (routine_prog j.routine)) (pile_meaning j.lock).states))
    ⊎ ((f : FileFault) × Refused f (verdict_within limit file) × (line ≡ refusal_line f))
