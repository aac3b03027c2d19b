use Rattle.crsm_mpspec.specs.Sends.{others_below}
use Rattle.crsm_mpworld.specs.Effects.{HasSent, to_each}
use Rattle.crsm_mpworld.specs.Packets.{HasSameLast, WhereKept, WhereNetwork}
use Rattle.crsm_mpworld.proofs.outgoing.send_to_others.Given as goal

abbrev pub invariant-loop-to : goal.invariant-loop-to
invariant-loop-to l = record {
  last : HasSameLast l.initial.network l.network;
  sent : WhereKept l.initial.network l.k l.kind (λ m. WhereNetwork l.initial.network (λ packets bytes.
      HasSent l.k (to_each m (others_below l.me l.to)) packets bytes l.initial.lines l.network l.lines));
}
