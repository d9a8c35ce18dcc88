use Rattle.std.proofs.Common.{◌+◌, ◌-◌, ◌≤◌, vec_len}
use Rattle.intake.proofs.start_of.Given as goal

abbrev pub invariant-loop-part : goal.invariant-loop-part
invariant-loop-part g l = vec_len l.bytes ≤ 16384 + 1024

abbrev pub decreases-loop-part : goal.decreases-loop-part
decreases-loop-part g l = 16385 - vec_len l.bytes
