use Rattle.std.proofs.Common.{◌≡◌, ℕ, List, take}
use Rattle.std.specs.Prelude.{filter}
use Rattle.crsm_spec.specs.World as on_paper
use Rattle.crsm_sim_network.specs.Packets.{NetworkStands, is_fresh_for, is_up_among}
use Rattle.crsm_sim_network.proofs.network.Network.still_due.Given as goal

abbrev pub invariant-loop-number : goal.invariant-loop-number
invariant-loop-number l = (packets : List on_paper.Packet) (bytes : ℕ) → NetworkStands l.self packets bytes
    → l.due.items ≡ filter (is_fresh_for (is_up_among l.self.ups.items) packets) (take l.number-index l.self.near.items)
