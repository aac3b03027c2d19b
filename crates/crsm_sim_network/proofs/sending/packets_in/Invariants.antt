use Rattle.std.proofs.Common.{◌≡◌, ◌≤◌, length, take}
use Rattle.crsm_sim_network.specs.Packets.{sent_of}
use Rattle.crsm_sim_network.proofs.sending.packets_in.Given as goal

abbrev pub invariant-loop-send : goal.invariant-loop-send
invariant-loop-send l = record { count : l.count ≡ length (sent_of (take l.send-index l.sends)); most : l.count ≤ l.send-index }
