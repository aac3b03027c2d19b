use Rattle.crsm_port_flow.proofs.Sendings.{held_as, stay_as, stay_pushed}
use Rattle.crsm_port_flow.specs.Acks.{held_in}
use Rattle.crsm_port_flow.proofs.acks.LastAcks.hold.Goals as goal

pub returns-in-Some-clause-only : goal.returns-in-Some-clause-only
returns-in-Some-clause-only c =
    held_as (held_in c.args.self.now.acks.items) (held_in c.replace.new.self.acks.items) c.new-ack.result c.args.to c.args.bytes.now c.new-ack.ensures c.replace.ensures.only

pub returns-in-Some-clause-stay : goal.returns-in-Some-clause-stay
returns-in-Some-clause-stay c = stay_as c.args.self.now.acks.items c.replace.new.self.acks.items c.new-ack.result c.args.to c.args.bytes.now c.new-ack.ensures c.replace.ensures.stay

pub returns-then-len-lt-MOST_HELD-clause-stay : goal.returns-then-len-lt-MOST_HELD-clause-stay
returns-then-len-lt-MOST_HELD-clause-stay c = stay_pushed c.args.self.now.acks.items c.push.new.self.items c.new-ack.result c.args.to c.args.bytes.now _ c.push.ensures.items
