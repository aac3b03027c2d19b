use Rattle.std.proofs.Common.{◌≡◌, ◌++◌, ◌-◌, ℕ, List, take}
use Rattle.std.specs.Prelude.{filter}
use Rattle.std.specs.List.{range_with_len}
use Rattle.crsm_mpspec.specs.World as on_paper
use Rattle.crsm_mpworld.specs.Packets.{MpNetworkStands, is_fresh_for, is_up_among}
use Rattle.crsm_mpworld.proofs.network.MpNetwork.still_due.Given as goal

abbrev pub invariant-loop-number : goal.invariant-loop-number
invariant-loop-number l = (packets : List on_paper.Packet) (bytes : ℕ) → MpNetworkStands l.self packets bytes
    → l.due.items ≡ filter (is_fresh_for (is_up_among l.self.ups.items) packets) (take l.number-index l.self.near.items)

abbrev pub invariant-loop-later : goal.invariant-loop-later
invariant-loop-later l = (packets : List on_paper.Packet) (bytes : ℕ) → MpNetworkStands l.self packets bytes
    → l.due.items ≡ filter (is_fresh_for (is_up_among l.self.ups.items) packets) (l.self.near.items ++ range_with_len l.self.near_end (l.later - l.self.near_end))
