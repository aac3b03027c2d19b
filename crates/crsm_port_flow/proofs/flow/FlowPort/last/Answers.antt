use Rattle.std.proofs.Common.{refl}
use Rattle.crsm_port_flow.proofs.Keepings.{next_is, next_kept, next_rest}
use Rattle.crsm_port_flow.proofs.Reading.{same_rest}
use Rattle.crsm_port_flow.proofs.flow.FlowPort.last.Goals as goal

pub returns-in-Some-clause-within : goal.returns-in-Some-clause-within
returns-in-Some-clause-within g c = (next_is c.args.self.now.inbound c.hand_up.new.self c.args.buf.now c.hand_up.new.buf c.in-Some.got c.in-Some.ensures.goes).1

pub returns-in-Some-clause-nothing : goal.returns-in-Some-clause-nothing
returns-in-Some-clause-nothing g c = λ is. absurd ((next_is c.args.self.now.inbound c.hand_up.new.self c.args.buf.now c.hand_up.new.buf c.in-Some.got c.in-Some.ensures.goes).0 is)

pub returns-in-Some-clause-some : goal.returns-in-Some-clause-some
returns-in-Some-clause-some g c = λ is. absurd ((next_is c.args.self.now.inbound c.hand_up.new.self c.args.buf.now c.hand_up.new.buf c.in-Some.got c.in-Some.ensures.goes).0 is)

pub returns-in-Some-clause-kept : goal.returns-in-Some-clause-kept
returns-in-Some-clause-kept g c = next_kept c.args.self.now.inbound c.hand_up.new.self c.args.buf.now c.hand_up.new.buf c.in-Some.got c.in-Some.ensures.goes

pub returns-in-Some-clause-rest : goal.returns-in-Some-clause-rest
returns-in-Some-clause-rest g c = next_rest c.args.self.now.inbound c.hand_up.new.self c.args.buf.now c.hand_up.new.buf c.in-Some.got c.in-Some.ensures.goes

pub returns-in-None-clause-rest : goal.returns-in-None-clause-rest
returns-in-None-clause-rest g c = same_rest c.args.self.now.inbound c.hand_up.new.self (c.in-None.ensures.same refl)

pub returns-in-Some-clause-stays : goal.returns-in-Some-clause-stays
returns-in-Some-clause-stays g c = λ is. absurd ((next_is c.args.self.now.inbound c.hand_up.new.self c.args.buf.now c.hand_up.new.buf c.in-Some.got c.in-Some.ensures.goes).0 is)
