use Rattle.std.proofs.Common.{inl, inr, refl}
use Rattle.std.proofs.lemmas.Option.{none-some}
use Rattle.crsm_port_flow.proofs.Keepings.{asked_same}
use Rattle.crsm_port_flow.specs.declared.heads.Head.{Head}
use Rattle.crsm_port_flow.specs.declared.inbound.Inbound.{Inbound}
use Rattle.crsm_port_flow.proofs.inbound.Inbound.note_sent.Goals as goal

pub returns-in-Some-clause-rest : goal.returns-in-Some-clause-rest
returns-in-Some-clause-rest c = λ a b has. elim has [
  | inl peers ↦ inl (c.note_expected.ensures.only a b peers)
  | inr clients ↦ inr clients
]

pub returns-then-is_reply-clause-rest : goal.returns-then-is_reply-clause-rest
returns-then-is_reply-clause-rest c =
    let i = c.args.self.now in
    let j : Inbound = record i { clients = c.note_answered.new.self } in
    asked_same i j refl c.note_answered.ensures.waiting c.note_answered.ensures.operate

pub returns-in-Some-clause-goes_by : goal.returns-in-Some-clause-goes_by
returns-in-Some-clause-goes_by c =
    let h = c.in-Some.expected in
    inl (h.from, h.to, h.epoch, h.number, c.in-Some.ensures.head, c.note_expected.ensures.lost, c.note_expected.ensures.expected, c.note_expected.ensures.acknowledged)

pub returns-else-is_reply-clause-goes_by : goal.returns-else-is_reply-clause-goes_by
returns-else-is_reply-clause-goes_by c =
    inr ((λ from to epoch number has. let h : Head = record { from = from; to = to; epoch = epoch; number = number } in none-some h (c.in_default.ensures.only h has)), refl)
