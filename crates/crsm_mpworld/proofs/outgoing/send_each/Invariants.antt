use Rattle.std.proofs.Common.{◌≡◌, ℕ, List, length, map}
use Rattle.std.specs.List.{AllByRecursion}
use Rattle.crsm_mpreplica.specs.Made.{to_send}
use Rattle.crsm_mpspec.specs.declared.message.MpMessage.{MpMessage}
use Rattle.crsm_mpspec.specs.World as on_paper
use Rattle.crsm_mpworld.specs.Fits.{FitsSend}
use Rattle.crsm_mpworld.specs.Packets.{MpNetworkStands}
use Rattle.crsm_mpworld.proofs.Letting.{Going}
use Rattle.crsm_mpworld.proofs.outgoing.send_each.Given as goal

abbrev pub invariant-loop-multicast : goal.invariant-loop-multicast
invariant-loop-multicast l = record {
  fits : AllByRecursion FitsSend l.sends;
  going : (packets : List on_paper.Packet) (bytes : ℕ) (out : List (ℕ × MpMessage)) → MpNetworkStands l.initial.network packets bytes → l.initial.sends ≡ map to_send out →
      Going l.k out l.sends packets bytes l.initial.lines l.network l.lines;
}

abbrev pub decreases-loop-multicast : goal.decreases-loop-multicast
decreases-loop-multicast l = length l.sends
