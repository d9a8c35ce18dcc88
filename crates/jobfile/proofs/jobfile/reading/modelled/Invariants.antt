use Rattle.std.proofs.Common.{◌≡◌, ℕ, ◌≤◌, length}
use Rattle.model.specs.Contents.{Contents}
use Rattle.model.specs.Stands.{Stands}
use Rattle.jobfile.specs.Heard.{ParsedStands, program_of}
use Rattle.jobfile.specs.Verdict.{judge, verdict}
use Rattle.jobfile.proofs.jobfile.reading.modelled.Given as goal

-- what is left of the file gives the verdict on the whole, behind what the draft holds and the program so far
abbrev pub invariant-loop-rest : goal.invariant-loop-rest
invariant-loop-rest l =
    (c : Contents) × Stands l.draft c × ParsedStands l.parsed c
    × ((n : ℕ) × (length l.rest ≤ n) × (judge n l.draft.head c (program_of l.parsed) (length l.file) l.rest ≡ verdict l.file))

abbrev pub decreases-loop-rest : goal.decreases-loop-rest
decreases-loop-rest l = length l.rest
