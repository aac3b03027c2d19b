use Rattle.std.proofs.Common.{List, ◌∷◌, subst}
use Rattle.crsm_replica.specs.Replica.{ReplicaStands}
use Rattle.std.specs.List.{AllByRecursion}
use Rattle.crsm_base.specs.Spelling.{FitsStamp}
use Rattle.crsm_spec.specs.Types.{Stamp}
use Rattle.crsm_spec.specs.Frames.{owing}
use Rattle.crsm_replica.proofs.Rebuilt.{ran}
use Rattle.crsm_replica.proofs.state.ReplicaState.paid.Goals as goal

pub returns : goal.returns
unfolding ReplicaStands owing
returns c x t ts s is =
    let r = x.replica in
    let fit : AllByRecursion FitsStamp (t ∷ ts) = subst (λ (all : List Stamp). AllByRecursion FitsStamp all) is s.sound.owed in
    ran c.args.self.now x c.paid.new.self r.issued r.received r.votes ts r.pushed r.acked r.taken s
    (c.paid.ensures x.replica t ts s.epoch_state is) fit.1 s.sound.pushed
