use Rattle.crsm_link.proofs.Taking.{taken_is_prefix}
use Rattle.crsm_link.proofs.inbound.taken_is_a_prefix.Goals as goal

pub returns : goal.returns
returns c = taken_is_prefix
