use Rattle.std.proofs.Common.{sym, subst}
use Rattle.std.specs.Prelude.{Option}
use Rattle.crsm_replica_coordinator.specs.Coordinator.{CoordinatorStands}
use Rattle.crsm_replica_output.specs.Made.{made_of}
use Rattle.crsm_spec.specs.Types.{Decision}
use Rattle.crsm_spec.specs.Fits.{fits}
use Rattle.crsm_spec.specs.Draft.{keep}
use Rattle.crsm_replica.specs.Replica.{ReplicaStands}
use Rattle.crsm_replica.proofs.Rebuilt.{moved, recorded, unrecorded, applied_one, applied_none, in_both, where_fit, where_not, fitting_both, fitting_not, same_decision, no_enter}
use Rattle.crsm_replica.proofs.state.ReplicaState.keep.Goals as goal

pub returns-in_default-applied : goal.returns-in_default-applied
unfolding ReplicaStands keep
returns-in_default-applied c x s =
    let r = x.replica in
    let n = applied_none c.in-Ok.applied r.me r.n r.log c.args.rec c.apply.new.ledger c.in_default-applied.not-Some (c.in-Ok.ensures.kept r.me r.n r.log s.ledger) in
    let not = fitting_not x.fitting (fits r.me r.n r.log c.args.rec) n.0 in (
      sym not,
      moved ((where_not x (keep c.args.rec x) not)) (unrecorded c.args.self.now x c.apply.new.ledger c.args.self.now.output s n.1 s.output),
    )

pub returns : goal.returns
unfolding ReplicaStands keep
returns c x s =
    let r = x.replica in
    let f = applied_one c.in-Ok.applied c.in-Some.lines r.me r.n r.log c.args.rec c.apply.new.ledger c.in-Some.is (c.in-Ok.ensures.kept r.me r.n r.log s.ledger) in
    let fit = fitting_both x.fitting (fits r.me r.n r.log c.args.rec) s.sound.fitting f.0 in
    let both = in_both r.me r.n r.log c.args.rec (made_of x) c.apply.new.ledger c.args.self.now.output c.keep-2.new.self c.in-Some.lines f.2 f.1 s.output c.in_ok-keep.ensures in (
      sym fit,
      moved ((where_fit x (keep c.args.rec x) fit))
          (recorded c.args.self.now x c.args.rec c.apply.new.ledger c.keep-2.new.self c.keep.new.self c.args.self.now.coordinator r.coordinator r.issued r.received r.votes r.owed r.pushed r.acked r.taken
          s f.0 c.requires.spelt both (c.in-Ok-keep.ensures r s.epoch_state (c.last_stamp-last.ensures.value r.me r.n r.log s.ledger) f.0 (no_enter c.args.rec c.requires.plain))
          (subst (λ (o : Option Decision). CoordinatorStands c.args.self.now.coordinator r.me r.n o r.coordinator) (sym (same_decision r.log c.args.rec c.requires.plain)) s.coordinator)
          s.sound.owed s.sound.pushed),
    )
