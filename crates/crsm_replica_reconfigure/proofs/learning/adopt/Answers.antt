use Rattle.std.proofs.Common.{◌≡◌, ◌<◌, sym, subst, arith}
use Rattle.std.specs.Prelude.{◌^◌}
use Rattle.std.proofs.lemmas.Result.{IfOk-weaker}
use Rattle.crsm_base.specs.Spelling.{FitsEntries}
use Rattle.crsm_spec.specs.Types.{Rec}
use Rattle.crsm_spec.specs.Draft.{keep}
use Rattle.crsm_spec.specs.Step.{if_fitting}
use Rattle.crsm_replica.specs.Replica.{ReplicaStands}
use Rattle.crsm_replica_reconfigure.proofs.learning.adopt.Goals as goal

pub keep-requires-clause-spelt : goal.keep-requires-clause-spelt
keep-requires-clause-spelt c =
    let small : c.args.place < 2 ^ 64 = omega arith in
    (small, subst FitsEntries (sym c.in_ok-entries.ensures) c.requires)

pub returns : goal.returns
returns c =
    IfOk-weaker c.keep.result _ _ (λ fits made x s.
    let copy : c.in_ok-entries.entries ≡ c.args.entries.now = c.in_ok-entries.ensures in
    subst (λ es. (fits ≡ (keep (Rec.Adopt c.args.place es) x).fitting) × ReplicaStands c.keep.new.self (if_fitting x (keep (Rec.Adopt c.args.place es) x))) copy (made x s)) c.keep.ensures
