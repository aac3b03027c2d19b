use Rattle.std.proofs.Common.{[], ◌∷◌, ap, arith, inr, length, length-append}
use Rattle.crsm_port_flow.proofs.Earlies.{frames_within, peers_keep}
use Rattle.crsm_port_flow.proofs.Keepings.{ready_more}
use Rattle.crsm_port_flow.proofs.peers.FromPeers.make_ready.Goals as goal

pub invariant_of-self-2-clause-few : goal.invariant_of-self-2-clause-few
invariant_of-self-2-clause-few c =
    let p = c.args.self.now in
    omega (arith, c.requires.few, ap length c.push_back_reserved.ensures.items, length-append p.ready.items (c.in_ok-datagram.datagram ∷ []), frames_within p.early.frames.items, p.early.wide)

pub returns-clause-ready : goal.returns-clause-ready
returns-clause-ready c = (c.in_ok-datagram.datagram, c.in_ok-datagram.ensures.copy, c.push_back_reserved.ensures.items)

pub returns-clause-only : goal.returns-clause-only
returns-clause-only c =
    let p = c.args.self.now in
    let ready = c.push_back_reserved.new.self.items in
    let frames = p.early.frames.items in
    peers_keep p.ready.items ready frames frames c.args.from c.args.bytes.now (ready_more c.args.from c.args.bytes.now c.in_ok-datagram.datagram p.ready.items ready c.in_ok-datagram.ensures.copy c.push_back_reserved.ensures.items) (λ a b h. inr h)
