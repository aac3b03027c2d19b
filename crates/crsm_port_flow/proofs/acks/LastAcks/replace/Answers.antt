use Rattle.std.proofs.Common.{arith, refl, take}
use Rattle.crsm_port_flow.proofs.Sendings.{held_replaced, holds_replaced, stay_replaced}
use Rattle.crsm_port_flow.proofs.acks.LastAcks.replace.Goals as goal

pub returns-in-Some-clause-only : goal.returns-in-Some-clause-only
returns-in-Some-clause-only c = held_replaced c.args.self.now.acks.items c.args.place c.args.ack c.args.ack.to (take c.args.ack.len c.args.ack.bytes) refl

pub returns-in-Some-clause-held : goal.returns-in-Some-clause-held
returns-in-Some-clause-held c = λ _.
    holds_replaced c.args.self.now.acks.items c.args.place c.args.ack c.args.ack.to (take c.args.ack.len c.args.ack.bytes) (omega (arith, c.in-Some.ensures.variant.0 refl, c.args.self.now.acks.ok)) refl

pub returns-in-Some-clause-stay : goal.returns-in-Some-clause-stay
returns-in-Some-clause-stay c = stay_replaced c.args.self.now.acks.items c.args.place c.args.ack (omega (arith, c.in-Some.ensures.variant.0 refl, c.args.self.now.acks.ok)) c.requires
