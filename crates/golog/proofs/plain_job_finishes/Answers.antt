use Rattle.golog.proofs.PlainJob.{plain_finishes}
use Rattle.golog.proofs.plain_job_finishes.Goals as goal

pub returns : goal.returns
returns c = plain_finishes
