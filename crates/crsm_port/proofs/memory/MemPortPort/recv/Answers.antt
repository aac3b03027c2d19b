use Rattle.std.proofs.Common.{List, subst, ap}
use Rattle.crsm_port.specs.Inside.{memory_of}
use Rattle.crsm_port.specs.Meaning.{Packet}
use Rattle.crsm_port.specs.Memory.{Memory, traffic_of}
use Rattle.crsm_port.specs.Passing.{Among}
use Rattle.crsm_port.proofs.Passings.{is_waiting, wait_still}
use Rattle.crsm_port.proofs.memory.MemPortPort.recv.Goals as goal

pub returns-clause-hands_up : goal.returns-clause-hands_up
returns-clause-hands_up c =
    let old = traffic_of (memory_of c.self.inside) in
    let new = traffic_of c.take.new.self in
    rw (← c.self.view_is) (record {
      given = is_waiting old new c.args.buf.now c.take.new.buf c.take.result c.take.ensures.got;
      no_more_given = wait_still old new c.args.buf.now c.take.new.buf c.take.result c.take.ensures.got;
      no_more_sent = λ a b h. subst (λ (ps : List Packet). Among ps a b) (ap (λ (m : Memory). m.sent) c.take.ensures.arrivals) h;
    })
