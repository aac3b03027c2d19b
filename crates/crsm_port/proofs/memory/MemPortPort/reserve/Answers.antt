use Rattle.std.proofs.Common.{List, subst}
use Rattle.crsm_port.specs.Meaning.{Packet}
use Rattle.crsm_port.specs.Passing.{Among}
use Rattle.crsm_port.proofs.memory.MemPortPort.reserve.Goals as goal

pub returns-in_err-reserve-clause-rests : goal.returns-in_err-reserve-clause-rests
returns-in_err-reserve-clause-rests c =
    rw (← c.self.view_is) (record { no_more_given = λ a b h. h; no_more_sent = λ a b h. subst (λ (ps : List Packet). Among ps a b) c.reserve.ensures.same h })

pub returns-clause-rests : goal.returns-clause-rests
returns-clause-rests c =
    rw (← c.self.view_is) (record { no_more_given = λ a b h. h; no_more_sent = λ a b h. subst (λ (ps : List Packet). Among ps a b) c.reserve.ensures.same h })
