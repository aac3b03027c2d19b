use Rattle.crsm_mpworld.proofs.Marked.{marks}
use Rattle.crsm_mpworld.proofs.network.MpNetwork.use_up.Goals as goal

pub returns-clause-used : goal.returns-clause-used
returns-clause-used c packets bytes h = marks c.args.self.now packets bytes c.args.number _ h c.use_up.ensures.packets
