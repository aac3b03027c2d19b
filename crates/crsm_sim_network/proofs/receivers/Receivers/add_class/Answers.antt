use Rattle.crsm_sim_network.proofs.Receiving.{added}
use Rattle.crsm_sim_network.proofs.receivers.Receivers.add_class.Goals as goal

pub returns : goal.returns
returns c test is = added c.args.self.now c.args.class test c.requires is
