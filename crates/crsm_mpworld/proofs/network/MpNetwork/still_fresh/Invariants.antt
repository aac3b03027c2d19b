use Rattle.std.proofs.Common.{◌≡◌, ◌++◌, ◌-◌, true, ℕ, List, take}
use Rattle.std.specs.Prelude.{filter}
use Rattle.std.specs.List.{range_with_len}
use Rattle.crsm_mpspec.specs.World as on_paper
use Rattle.crsm_mpworld.specs.Packets.{MpNetworkStands, is_fresh_for}
use Rattle.crsm_mpworld.proofs.network.MpNetwork.still_fresh.Given as goal

abbrev pub invariant-loop-number : goal.invariant-loop-number
invariant-loop-number l = (packets : List on_paper.Packet) (bytes : ℕ) → MpNetworkStands l.self packets bytes → l.kept.items ≡ filter (is_fresh_for (λ k. true) packets) (take l.number-index l.self.fresh.items)

abbrev pub invariant-loop-later : goal.invariant-loop-later
invariant-loop-later l = (packets : List on_paper.Packet) (bytes : ℕ) → MpNetworkStands l.self packets bytes
    → l.kept.items ≡ filter (is_fresh_for (λ k. true) packets) (l.self.fresh.items ++ range_with_len l.self.fresh_end (l.later - l.self.fresh_end))
