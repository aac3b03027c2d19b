use Rattle.std.proofs.Common.{[], inl, inr, refl, subst}
use Rattle.crsm_port_flow.specs.Again.{NotesWent}
use Rattle.crsm_port_flow.specs.declared.again.Again.{Again}
use Rattle.crsm_port_flow.proofs.peers.FromPeers.take_again.Goals as goal

pub returns-then-holds_back-clause-goes : goal.returns-then-holds_back-clause-goes
returns-then-holds_back-clause-goes c =
    let f = c.args.frame in
    inr ((f.from, f.to, f.epoch, f.number, c.requires.head, c.holds_back.ensures.0 c.if-holds_back.true), refl)

pub returns-clause-goes : goal.returns-clause-goes
returns-clause-goes c = let (d, is, more) = c.in_ok-make_ready.ensures.ready in inl (d, [], is, more)

pub returns-clause-noted : goal.returns-clause-noted
returns-clause-noted c =
    let f = c.args.frame in
    let noted = subst (λ (a : Again). NotesWent f.from f.epoch f.number c.args.now a c.note_went.new.self) c.make_ready.ensures.again c.note_went.ensures in
    let (d, is, more) = c.in_ok-make_ready.ensures.ready in
    inr (f.from, f.to, f.epoch, f.number, c.requires.head, noted, (d, [], is, more))
