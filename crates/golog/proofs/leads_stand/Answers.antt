use Rattle.golog.proofs.Leads.{lead_is_trans}
use Rattle.golog.proofs.leads_stand.Goals as goal

pub returns : goal.returns
returns c = lead_is_trans
