use Rattle.std.proofs.Common.{◌≡◌, ◌+◌, ◌++◌, ℕ, List, length, map, take}
use Rattle.crsm_port.specs.Sent.{packets_of}
use Rattle.crsm_spec.specs.World as on_paper
use Rattle.crsm_sim_network.specs.Packets.{AreSpelt, NetworkStands, sent_of}
use Rattle.crsm_sim_network.proofs.network.Network.send_all.Given as goal

abbrev pub invariant-loop-i : goal.invariant-loop-i
invariant-loop-i l =
    (packets : List on_paper.Packet) (bytes : ℕ) → NetworkStands l.initial.self packets bytes → AreSpelt l.sends (packets_of l.sent) l.first →
    NetworkStands l.self (packets ++ map (on_paper.packet_of l.k) (sent_of (take l.i l.sends))) (bytes + on_paper.packets_size (sent_of (take l.i l.sends)))
    × (l.lines ≡ l.initial.lines ++ on_paper.send_lines l.k (length packets) (sent_of (take l.i l.sends)))
