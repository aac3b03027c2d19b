use Rattle.std.proofs.Common.{inl, refl}
use Rattle.crsm_port_flow.proofs.Keepings.{request_kept}
use Rattle.crsm_port_flow.specs.declared.requests.Waiting.{Waiting}
use Rattle.crsm_port_flow.proofs.clients.Clients.take_request.Goals as goal

pub returns-in_ok-datagram-in-Waits-clause-taken : goal.returns-in_ok-datagram-in-Waits-clause-taken
returns-in_ok-datagram-in-Waits-clause-taken c =
    let r : Waiting = record { command = c.in-Some.command; datagram = c.in_ok-datagram-in-Waits.datagram; since = c.args.now } in
    inl ((r, c.requires, c.in-Some.ensures.named, c.in_ok-datagram-in-Waits.ensures.kept, refl, c.keep.ensures.last), refl)

pub returns-in_ok-datagram-in-Waits-clause-only : goal.returns-in_ok-datagram-in-Waits-clause-only
returns-in_ok-datagram-in-Waits-clause-only c =
    let r : Waiting = record { command = c.in-Some.command; datagram = c.in_ok-datagram-in-Waits.datagram; since = c.args.now } in
    let old = c.args.self.now in
    request_kept c.args.from c.args.bytes.now r old.requests.waiting.items c.keep.new.self.waiting.items old.operate old.operate c.in_ok-datagram-in-Waits.ensures.kept refl c.keep.ensures.last
