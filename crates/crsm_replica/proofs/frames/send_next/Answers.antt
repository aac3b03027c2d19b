use Rattle.std.proofs.Common.{◌+◌, ◌++◌, sym, subst, map, arith, take, get_or, [], ◌∷◌}
use Rattle.std.proofs.lemmas.List.{take_all}
use Rattle.crsm_replica_output.specs.Made.{OutputStands}
use Rattle.crsm_replica_epoch.specs.Linked.{others_of}
use Rattle.crsm_spec.specs.Draft.{next_frame}
use Rattle.crsm_replica.proofs.Sending.{sent-none, sent-other, passed-me}
use Rattle.crsm_replica.proofs.frames.send_next.Goals as goal
use Rattle.crsm_replica.proofs.frames.send_next.Goals.{then-k-me+in_ok-copy+in_ok-send_frame, else-k-me}

pub loop-k-init : goal.loop-k-init
loop-k-init c r m runs holds me now = sent-none c.args.output.now m holds

pub loop-k-preserved : goal.loop-k-preserved
loop-k-preserved c r m runs holds me now =
    elim c.if-k-me.branch [
      | then-k-me+in_ok-copy+in_ok-send_frame w ↦
          subst (λ output. OutputStands output (record m { sends = m.sends ++ map (next_frame r c.args.payload.now) (others_of c.args.me (take (c.loop-k.k-index + 1) c.args.members.now)) })) (sym w.output-is)
          (sent-other c.loop-k.output w.send_frame.new.output m (next_frame r c.args.payload.now) c.args.members.now c.loop-k.k-index c.args.me c.loop-k-test.true w.if-k-me.true
          (c.loop-k.invariant r m runs holds me now)
          (λ n h. subst (λ p. OutputStands w.send_frame.new.output (record n { sends = n.sends ++ next_frame r p (get_or c.args.members.now c.loop-k.k-index 0) ∷ [] })) w.in_ok-copy.ensures
          (w.in_ok-send_frame.ensures r n runs h me now)))
      | else-k-me w ↦
          subst (λ output. OutputStands output (record m { sends = m.sends ++ map (next_frame r c.args.payload.now) (others_of c.args.me (take (c.loop-k.k-index + 1) c.args.members.now)) })) (sym w.output-is)
          (passed-me c.loop-k.output m (next_frame r c.args.payload.now) c.args.members.now c.loop-k.k-index c.args.me c.loop-k-test.true w.if-k-me.false
          (c.loop-k.invariant r m runs holds me now))
    ]

pub returns : goal.returns
returns c r m runs holds me now =
    subst (λ ks. OutputStands c.loop-k.output (record m { sends = m.sends ++ map (next_frame r c.args.payload.now) (others_of c.args.me ks) })) (take_all c.loop-k.k-index c.args.members.now (omega arith))
    (c.loop-k.invariant r m runs holds me now)
