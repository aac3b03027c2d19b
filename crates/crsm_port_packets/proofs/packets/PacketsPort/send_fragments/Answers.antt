use Rattle.std.proofs.Common.{List, ℕ, subst}
use Rattle.std.specs.Prelude.{OnOk}
use Rattle.crsm_port_packets.specs.Cutting.{SendsCut}
use Rattle.crsm_port_packets.proofs.packets.PacketsPort.send_fragments.Goals as goal

pub returns-clause-goes : goal.returns-clause-goes
returns-clause-goes g c =
    let M = g.P.Port.meaning in
    subst (λ (name : List ℕ). OnOk c.send_fragments.result (SendsCut c.args.to c.args.bytes.now name (M c.args.self.now.port) (M c.send_fragments.new.port))) c.name_of.ensures.name c.send_fragments.ensures.goes
