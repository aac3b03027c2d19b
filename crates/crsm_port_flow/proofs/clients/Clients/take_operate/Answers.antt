use Rattle.std.proofs.Common.{false, inr, refl}
use Rattle.crsm_port_flow.specs.declared.clients.Operate.{Operate}
use Rattle.crsm_port_flow.proofs.clients.Clients.take_operate.Goals as goal

pub returns-in-Some-clause-taken : goal.returns-in-Some-clause-taken
returns-in-Some-clause-taken c =
    let o : Operate = record { datagram = c.in_ok-datagram.datagram; at = c.args.now; has_gone = false } in
    inr (inr ((o, c.requires, c.in_ok-datagram.ensures.kept, refl, refl, c.replace.ensures.after), refl))

pub returns-in_default-clause-taken : goal.returns-in_default-clause-taken
returns-in_default-clause-taken c =
    let o : Operate = record { datagram = c.in_ok-datagram.datagram; at = c.args.now; has_gone = false } in
    inr (inr ((o, c.requires, c.in_ok-datagram.ensures.kept, refl, refl, c.replace.ensures.after), refl))
