use Rattle.std.proofs.Common.{◌∙◌, sym}
use Rattle.crsm_mpreplica.proofs.ExecLemmas.{line-noop}
use Rattle.crsm_mpreplica.proofs.records.exec_line.Goals as goal

pub returns-in-Noop : goal.returns-in-Noop
returns-in-Noop c done v place e = line-noop _ _ done v place (sym c.in-Noop.is ∙ e)
