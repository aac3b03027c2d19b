use Rattle.std.proofs.Common.{sym}
use Rattle.crsm_link.proofs.Taking.{nothing_taken}
use Rattle.crsm_link.proofs.inbound.In.new.Goals as goal

pub returns-clause-arrived : goal.returns-clause-arrived
returns-clause-arrived c = sym nothing_taken
