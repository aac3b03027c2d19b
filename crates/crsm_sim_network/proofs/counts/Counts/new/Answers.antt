use Rattle.crsm_sim_network.proofs.Counting.{no_more}
use Rattle.crsm_sim_network.proofs.counts.Counts.new.Goals as goal

pub returns : goal.returns
returns c = no_more
