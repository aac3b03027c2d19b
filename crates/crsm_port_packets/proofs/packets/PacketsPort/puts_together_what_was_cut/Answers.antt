use Rattle.crsm_port.specs.Passing.{Among}
use Rattle.crsm_port_packets.proofs.Cuttings.{cut_together}
use Rattle.crsm_port_packets.specs.Held.{fragments_with}
use Rattle.crsm_port_packets.proofs.packets.PacketsPort.puts_together_what_was_cut.Goals as goal

pub returns : goal.returns
returns g c = λ cuts apart are. cut_together (Among cuts) (fragments_with (g.P.Port.gives c.args.self.now.port) c.args.self.now.received) apart are
