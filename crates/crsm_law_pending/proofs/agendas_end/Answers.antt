use Rattle.crsm_law_pending.proofs.Counting.{agendas_end}
use Rattle.crsm_law_pending.proofs.agendas_end.Goals as goal

pub returns : goal.returns
returns c = agendas_end c.events_end_whole.ensures
