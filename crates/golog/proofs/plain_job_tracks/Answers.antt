use Rattle.golog.proofs.PlainJob.{plain_tracks}
use Rattle.golog.proofs.plain_job_tracks.Goals as goal

pub returns : goal.returns
returns c = plain_tracks
