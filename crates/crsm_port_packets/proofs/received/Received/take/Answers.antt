use Rattle.std.proofs.Common.{List, ℕ, inl, inr, refl, subst}
use Rattle.crsm_port.specs.Passing.{Cut, IsOf, Only}
use Rattle.crsm_port_packets.specs.Format.{fields_of}
use Rattle.crsm_port_packets.proofs.Takings.{bundle_opens, fragment_opens, whole_given}
use Rattle.crsm_port_packets.proofs.received.Received.take.Goals as goal

pub returns-in-Bundle-clause-opens : goal.returns-in-Bundle-clause-opens
returns-in-Bundle-clause-opens c = bundle_opens c.args.from c.args.now c.args.packet.now c.args.self.now c.begin.new.self c.in-Bundle.entries.now c.in-Bundle.ensures.kind c.begin.ensures.only c.begin.ensures.fragments

pub returns-in-Bundle-clause-opened : goal.returns-in-Bundle-clause-opened
returns-in-Bundle-clause-opened c = λ _. inl (c.in-Bundle.entries.now, c.in-Bundle.ensures.kind, c.begin.ensures.begins)

pub returns-in-Ok-true-clause-whole : goal.returns-in-Ok-true-clause-whole
returns-in-Ok-true-clause-whole c =
    let whole = c.add.new.whole.items in
    let handed : IsOf (Cut (Only c.args.from whole)) c.hand_up.new.buf c.hand_up.result =
    subst (λ (x : List ℕ). IsOf (Cut (Only c.args.from x)) c.hand_up.new.buf c.hand_up.result) c.as_slice.ensures.value c.hand_up.ensures.cut in
    whole_given c.args.from c.args.now c.args.packet.now whole c.hand_up.new.buf (fields_of c.in-Fragment.fragment) c.args.self.now c.add.new.self.pieces.items c.hand_up.result c.in-Fragment.ensures.kind c.add.ensures.kept (c.add.ensures.whole (cc)) handed

pub returns-in-Ok-true-clause-opens : goal.returns-in-Ok-true-clause-opens
returns-in-Ok-true-clause-opens c = fragment_opens c.args.from c.args.now c.args.packet.now c.args.self.now _ (fields_of c.in-Fragment.fragment) c.in-Fragment.ensures.kind refl c.add.ensures.kept

pub returns-in-Ok-false-clause-opens : goal.returns-in-Ok-false-clause-opens
returns-in-Ok-false-clause-opens c = fragment_opens c.args.from c.args.now c.args.packet.now c.args.self.now _ (fields_of c.in-Fragment.fragment) c.in-Fragment.ensures.kind refl c.add.ensures.kept

pub returns-in-Ok-false-clause-opened : goal.returns-in-Ok-false-clause-opened
returns-in-Ok-false-clause-opened c = λ _. inr (inl (fields_of c.in-Fragment.fragment, c.in-Fragment.ensures.kind, refl, elim (c.add.ensures.waits (cc)) [ inl many ↦ inl many | inr keeps ↦ inr (inl keeps) ]))

pub returns-in-Err-clause-opens : goal.returns-in-Err-clause-opens
returns-in-Err-clause-opens c = fragment_opens c.args.from c.args.now c.args.packet.now c.args.self.now _ (fields_of c.in-Fragment.fragment) c.in-Fragment.ensures.kind refl c.add.ensures.kept

pub returns-in-Err-clause-opened : goal.returns-in-Err-clause-opened
returns-in-Err-clause-opened c = λ _. inr (inl (fields_of c.in-Fragment.fragment, c.in-Fragment.ensures.kind, refl, inr (inr c.raise.ensures.rose)))
