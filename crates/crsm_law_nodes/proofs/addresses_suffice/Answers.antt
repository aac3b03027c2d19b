use Rattle.crsm_law_nodes.proofs.Nodes.{addresses_suffice}
use Rattle.crsm_law_nodes.proofs.addresses_suffice.Goals as goal

pub returns : goal.returns
returns c n ls h peers are ps disk own net = addresses_suffice c.senders_are_named.ensures n ls h peers are ps disk own net
