use Rattle.crsm_law_pending.proofs.Agendas.{agendas_begin}
use Rattle.crsm_law_pending.proofs.agendas_begin.Goals as goal

pub returns : goal.returns
returns c = agendas_begin
