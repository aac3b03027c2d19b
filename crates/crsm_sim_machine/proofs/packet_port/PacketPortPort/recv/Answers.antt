use Rattle.crsm_sim_machine.proofs.PacketPorts.{came}
use Rattle.crsm_sim_machine.proofs.packet_port.PacketPortPort.recv.Goals as goal

pub returns-in-Waits-clause-receives : goal.returns-in-Waits-clause-receives
returns-in-Waits-clause-receives c =
    came c.args.self.now.slot c.in-Waits.from c.in-Waits.bytes c.args.self.now.empties c.args.self.now.losses c.args.buf.now c.copy-len.new.buf c.copy-len.result
    c.in-Waits.is c.copy-len.ensures.len c.copy-len.ensures.bytes
