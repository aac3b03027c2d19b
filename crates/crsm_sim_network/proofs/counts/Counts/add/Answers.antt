use Rattle.crsm_sim_network.proofs.Counting.{one_more}
use Rattle.crsm_sim_network.proofs.counts.Counts.add.Goals as goal

pub returns : goal.returns
returns c xs few is = one_more c.args.self.now.each xs c.args.class c.saturating_add.result c.requires few is c.saturating_add.ensures
