use Rattle.crsm_sim_network.proofs.Counting.{moved}
use Rattle.crsm_sim_network.proofs.counts.Counts.change.Goals as goal

pub returns : goal.returns
returns c xs i few g is =
    moved c.args.self.now.each xs i c.args.from c.args.to c.saturating_add.result c.saturating_sub.result c.requires.from c.requires.to few g is c.saturating_add.ensures c.saturating_sub.ensures
