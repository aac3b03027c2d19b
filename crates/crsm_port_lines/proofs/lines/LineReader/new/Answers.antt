use Rattle.std.proofs.Common.{refl}
use Rattle.crsm_port_lines.proofs.UpToDate.{begins_up_to_date}
use Rattle.crsm_port_lines.proofs.lines.LineReader.new.Goals as goal

pub returns-clause-up_to_date : goal.returns-clause-up_to_date
returns-clause-up_to_date g c = λ had begins. begins_up_to_date (g.H.Handler.handling c.args.handler) had _ begins refl c.new.ensures.items c.new-2.ensures
