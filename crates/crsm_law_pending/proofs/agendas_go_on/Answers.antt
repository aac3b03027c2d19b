use Rattle.crsm_law_pending.proofs.Agendas.{agendas_go_on}
use Rattle.crsm_law_pending.proofs.agendas_go_on.Goals as goal

pub returns : goal.returns
returns c = agendas_go_on c.sends_are_told.ensures
