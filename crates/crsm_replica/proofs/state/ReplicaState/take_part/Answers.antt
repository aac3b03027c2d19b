use Rattle.std.proofs.lemmas.Result.{IfOk-weaker}
use Rattle.crsm_replica.specs.Replica.{ReplicaStands}
use Rattle.crsm_segment.specs.Taking.{piece}
use Rattle.crsm_spec.specs.Parts.{with_part}
use Rattle.crsm_replica.proofs.Rebuilt.{gathered_one}
use Rattle.crsm_replica.proofs.state.ReplicaState.take_part.Goals as goal

pub returns-clause-part : goal.returns-clause-part
unfolding ReplicaStands
returns-clause-part c =
    IfOk-weaker c.take.result _ _ (λ _ takes x s.
    gathered_one c.args.self.now x c.take.new.self (with_part (piece c.args.from c.args.boot c.args.number c.args.index c.args.count c.args.bytes.now) x.replica.parts) s
    (takes x.replica.parts s.gathered).0) c.take.ensures

pub returns-clause-whole : goal.returns-clause-whole
unfolding ReplicaStands
returns-clause-whole c = IfOk-weaker c.take.result _ _ (λ _ takes x s. (takes x.replica.parts s.gathered).1) c.take.ensures
