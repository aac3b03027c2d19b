use Rattle.std.proofs.Common.{◌≡◌, ◌∙◌, ℕ, sym, ap, subst, arith}
use Rattle.std.specs.Prelude.{Some, None}
use Rattle.crsm_mpspec.specs.Replica.{Replica}
use Rattle.crsm_mpreplica.specs.State.{MpReplicaStands}
use Rattle.crsm_mpcore.specs.Ticks.{IsOpen, propose_slot, proposal, send_where}
use Rattle.crsm_mpcore.proofs.TickLemmas.{sent-none-yet, sent-one, sent-nothing, where-replica, proposal-fits}
use Rattle.crsm_mpcore.proofs.ticks.propose_again.Goals as goal
use Rattle.crsm_mpcore.proofs.ticks.propose_again.Goals.{in-Some+in_ok-send, in_default}

pub loop-to-init : goal.loop-to-init
loop-to-init c x s is_open = subst (MpReplicaStands c.args.state.now) (sym (sent-none-yet (proposal c.args.slot x.replica x.replica.note) x)) s

pub loop-to-preserved : goal.loop-to-preserved
loop-to-preserved c x s is_open =
    let k = c.loop-to.to in
    let q = proposal c.args.slot x.replica x.replica.note in
    let y = send_where q k x in
    let i = c.loop-to.invariant x s is_open in
    let same = where-replica q k x in
    let r : c.in_ok-message.field-0 ≡ q k
    = c.in_ok-message.ensures y i (subst (λ (r : Replica). IsOpen c.args.slot r r.note) (sym same) is_open) ∙ ap (λ (r : Replica). proposal c.args.slot r r.note k) same in
    elim c.match-branch-2.branch [
      | in-Some+in_ok-send w ↦
          let at : q k ≡ Some w.in-Some.message = sym r ∙ w.in-Some.is in
          let fits = proposal-fits c.args.state.now.note c.args.slot x.replica x.replica.note k w.in-Some.message s.note s.ledger.sound at in
          rw (w.state-is, sent-one q k x w.in-Some.message at) (w.in_ok-send.ensures y i fits)
      | in_default w ↦
          let at : q k ≡ None = sym r ∙ w.in_default.is in
          rw (w.state-is, sent-nothing q k x at) i
    ]

pub returns : goal.returns
unfolding propose_slot
returns c x s is_open =
    let last : c.loop-to.to ≡ x.replica.n = omega (arith, c.loop-to-test.false, c.loop-to.auto.to-end, c.n-to-end.ensures.is x s) in
    subst (λ (k : ℕ). MpReplicaStands c.loop-to.state (send_where (proposal c.args.slot x.replica x.replica.note) k x)) last (c.loop-to.invariant x s is_open)
