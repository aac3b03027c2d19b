use Rattle.std.proofs.Common.{◌≡◌, ◌∙◌, ℕ, sym, ap, subst, arith}
use Rattle.std.specs.Prelude.{Some, None}
use Rattle.crsm_mpspec.specs.Replica.{Replica}
use Rattle.crsm_mpreplica.specs.State.{MpReplicaStands}
use Rattle.crsm_mpcore.specs.Ticks.{ask_again, question, send_where}
use Rattle.crsm_mpcore.proofs.TickLemmas.{sent-none-yet, sent-one, sent-nothing, where-replica, question-fits}
use Rattle.crsm_mpcore.proofs.ticks.ask_again.Goals as goal
use Rattle.crsm_mpcore.proofs.ticks.ask_again.Goals.{in-Some+in_ok-send, in_default}

pub loop-to-init : goal.loop-to-init
loop-to-init c x s = subst (MpReplicaStands c.args.state.now) (sym (sent-none-yet (question x.replica.me x.replica.note) x)) s

pub loop-to-preserved : goal.loop-to-preserved
loop-to-preserved c x s =
    let k = c.loop-to.to in
    let q = question x.replica.me x.replica.note in
    let y = send_where q k x in
    let i = c.loop-to.invariant x s in
    let same = where-replica q k x in
    let r : c.question_to.result ≡ q k = c.question_to.ensures y i ∙ ap (λ (r : Replica). question r.me r.note k) same in
    elim c.match-question_to.branch [
      | in-Some+in_ok-send w ↦
          let at : q k ≡ Some w.in-Some.message = sym r ∙ w.in-Some.is in
          let fits = question-fits c.args.state.now.note x.replica.me k x.replica.log x.replica.note w.in-Some.message s.note at in
          rw (w.state-is, sent-one q k x w.in-Some.message at) (w.in_ok-send.ensures y i fits)
      | in_default w ↦
          let at : q k ≡ None = sym r ∙ w.in_default.is in
          rw (w.state-is, sent-nothing q k x at) i
    ]

pub returns : goal.returns
unfolding ask_again
returns c x s =
    let last : c.loop-to.to ≡ x.replica.n = omega (arith, c.loop-to-test.false, c.loop-to.auto.to-end, c.n-to-end.ensures.is x s) in
    subst (λ (k : ℕ). MpReplicaStands c.loop-to.state (send_where (question x.replica.me x.replica.note) k x)) last (c.loop-to.invariant x s)
