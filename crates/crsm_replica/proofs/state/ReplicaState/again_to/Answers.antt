use Rattle.std.proofs.Common.{◌≡◌, ◌∙◌, ◌<◌, ◌^◌, ◌++◌, ap, sym, subst, arith, length, map}
use Rattle.std.proofs.lemmas.Result.{IfOk-weaker}
use Rattle.crsm_replica_output.specs.Made.{OutputStands, made_of}
use Rattle.crsm_spec.specs.Log.{known}
use Rattle.crsm_spec.specs.Replica.{frames_to}
use Rattle.crsm_fact_log.proofs.Known.{known-epoch}
use Rattle.crsm_replica.specs.Again.{frame_again}
use Rattle.crsm_replica.specs.Replica.{ReplicaStands}
use Rattle.crsm_replica.proofs.Framed.{again, again-none}
use Rattle.crsm_replica.proofs.state.ReplicaState.again_to.Goals as goal

pub returns-then-pushed_to-eq0 : goal.returns-then-pushed_to-eq0
unfolding ReplicaStands
returns-then-pushed_to-eq0 c x s = again-none c.args.self.now x c.args.k s (sym (c.pushed_to.ensures x.replica s.epoch_state) ∙ c.if-pushed_to-eq0.true)

pub returns : goal.returns
unfolding ReplicaStands
returns c =
    IfOk-weaker c.send_again.result _ _ (λ _ is x s.
    let r = x.replica in
    let small : length (frames_to r c.args.k) < 2 ^ 64 = omega (arith, c.pushed_to.ensures r s.epoch_state, c.pushed_to.type_inv) in
    let now : c.known.result.now.epoch ≡ known r.log = ap (λ d. d.epoch) (c.known.ensures.value r.me r.n r.log s.ledger) ∙ known-epoch r.n r.log in
    again c.args.self.now x c.args.k c.send_again.new.output c.as_slice.result.now s c.requires small (c.as_slice.ensures ∙ c.in_ok-due.ensures r s.epoch_state)
    (subst (λ e. OutputStands c.send_again.new.output (record (made_of x) { sends = x.sends ++ map (frame_again r.me e c.args.k) c.as_slice.result.now })) now
    (subst (λ m. OutputStands c.send_again.new.output (record (made_of x) { sends = x.sends ++ map (frame_again m c.known.result.now.epoch c.args.k) c.as_slice.result.now })) s.me
    (is (made_of x) s.output)))) c.send_again.ensures
