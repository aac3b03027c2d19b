use Rattle.std.proofs.Common.{◌≡◌, [], ◌∷◌, refl, sym, subst, rules, true, false}
use Rattle.crsm_replica.specs.Replica.{ReplicaStands}
use Rattle.crsm_replica_output.specs.Made.{made_of}
use Rattle.crsm_spec.specs.Types.{Rec}
use Rattle.crsm_spec.specs.Fits.{fits}
use Rattle.crsm_spec.specs.Draft.{keep}
use Rattle.crsm_base.specs.Spelling.{FitsDecision}
use Rattle.crsm_replica_coordinator.specs.declared.coordinator.Coordinator.{Coordinator as CoordinatorInMemory}
use Rattle.crsm_replica_coordinator.specs.Coordinator.{CoordinatorStands}
use Rattle.crsm_spec.specs.Log.{active, live, decision}
use Rattle.crsm_spec.specs.Replica.{Coordinator}
use Rattle.crsm_spec.specs.Draft.{noting}
use Rattle.crsm_spec.specs.Coordinate.{forget_epoch}
use Rattle.crsm_replica.specs.Replica.{learnt}
use Rattle.crsm_replica.proofs.Rebuilt.{moved, learnt_same, recorded, unrecorded, it_fits, it_does_not, where_fit, where_not, fitting_both, fitting_not}
use Rattle.crsm_replica.proofs.state.ReplicaState.learn_decision.Goals as goal

pub returns-then-not-fit : goal.returns-then-not-fit
unfolding ReplicaStands keep learnt noting forget_epoch
returns-then-not-fit c x s =
    let r = x.replica in
    let d = c.in_ok-copy.field-0 in
    let n = it_does_not c.in_ok-fit.fit r.me r.n r.log (Rec.Decide d) (made_of x) c.put.new.ledger c.put.new.output (search rules) (c.in_ok-fit.ensures.kept x.replica.me x.replica.n x.replica.log (made_of x) s.ledger s.output) in
    let not = fitting_not x.fitting (fits r.me r.n r.log (Rec.Decide d)) n.0 in
    learnt_same false x c.in_ok-copy.ensures (
      sym not,
      moved ((where_not x (learnt d x) not)) (unrecorded c.args.self.now x c.put.new.ledger c.put.new.output s n.1 n.2),
    )

pub returns : goal.returns
unfolding ReplicaStands keep learnt noting forget_epoch active live
returns c x s =
    let r = x.replica in
    let d = c.in_ok-copy.field-0 in
    let rec : Rec = Rec.Decide d in
    let f = it_fits c.in_ok-fit.fit r.me r.n r.log rec (made_of x) c.put.new.ledger c.put.new.output (search rules) (c.in_ok-fit.ensures.kept x.replica.me x.replica.n x.replica.log (made_of x) s.ledger s.output) in
    let fit = fitting_both x.fitting (fits r.me r.n r.log rec) s.sound.fitting f.0 in
    let fits_too : FitsDecision d = subst FitsDecision (sym c.in_ok-copy.ensures) c.requires in
    let idle : c.replace.new.dest ≡ c.quiet.result = c.replace.ensures.after in
    learnt_same true x c.in_ok-copy.ensures (
      sym fit,
      moved ((where_fit x (learnt d x) fit))
          (recorded c.args.self.now x rec c.put.new.ledger c.put.new.output c.forget.new.epoch_state c.replace.new.dest Coordinator.Idle [] [] [] [] [] [] []
          s f.0 fits_too f.1 (c.forget.ensures.inactive (record r { log = rec ∷ r.log; coordinator = Coordinator.Idle }) (f.0, s.sound.kept) refl)
          (subst (λ (m : CoordinatorInMemory). CoordinatorStands m r.me r.n (decision (rec ∷ r.log)) Coordinator.Idle) (sym idle) (c.quiet.ensures r.me r.n (decision (rec ∷ r.log)))) tt tt),
    )
