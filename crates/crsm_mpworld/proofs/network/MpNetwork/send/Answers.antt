use Rattle.crsm_mpworld.proofs.Marked.{sends}
use Rattle.crsm_mpworld.proofs.network.MpNetwork.send.Goals as goal

pub returns-clause-sent : goal.returns-clause-sent
returns-clause-sent c from message last packets bytes h = sends c.args.self.now packets bytes from c.args.to message _ h last c.in_ok-append.ensures.packets
