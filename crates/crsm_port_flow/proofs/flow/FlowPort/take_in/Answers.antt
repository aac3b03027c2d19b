use Rattle.std.proofs.Common.{Err, ap, inl, inr, subst, take}
use Rattle.crsm_port_flow.proofs.Losing.{comes_unless_early, lost_as}
use Rattle.crsm_port_flow.specs.Losses.{CountsLoss}
use Rattle.crsm_port_flow.specs.declared.datagram.Losses.{Losses}
use Rattle.crsm_port_flow.proofs.flow.FlowPort.take_in.Goals as goal

pub returns-clause-comes : goal.returns-clause-comes
returns-clause-comes g c =
    let s = c.args.self.now in
    let loss = c.in-Err.loss in
    let counted = subst (λ (before : Losses). CountsLoss loss before c.count.new.self) c.takes.ensures.lost c.count.ensures in
    let (peers, clients) = c.in-Err.ensures.unchanged in
    inr (peers, clients, lost_as c.args.from (take c.args.len s.room.items) s.hearing.peers.items s.inbound loss s.lost c.count.new.self (λ is. c.in-Err.ensures.dropped (ap Err is)) (λ is. c.in-Err.ensures.no_memory (ap Err is)) counted)

pub returns-in_default-clause-comes : goal.returns-in_default-clause-comes
returns-in_default-clause-comes g c = inl (c.in_default.ensures.comes, c.takes.ensures.lost)

pub returns-clause-all_but_early_frames_come : goal.returns-clause-all_but_early_frames_come
returns-clause-all_but_early_frames_come g c =
    let s = c.args.self.now in
    comes_unless_early c.args.from (take c.args.len s.room.items) s.now s.hearing.peers.items s.inbound c.takes.new.self.inbound s.lost c.count.new.self (returns-clause-comes g c)

pub returns-in_default-clause-all_but_early_frames_come : goal.returns-in_default-clause-all_but_early_frames_come
returns-in_default-clause-all_but_early_frames_come g c = λ is none. inl c.in_default.ensures.comes
