use Rattle.crsm_sim_network.proofs.Receiving.{nobody}
use Rattle.crsm_sim_network.proofs.receivers.Receivers.none.Goals as goal

pub returns : goal.returns
returns c = nobody
