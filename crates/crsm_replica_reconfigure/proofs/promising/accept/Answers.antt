use Rattle.std.proofs.Common.{◌≡◌, ◌<◌, sym, subst, arith}
use Rattle.std.specs.Prelude.{◌^◌}
use Rattle.std.proofs.lemmas.Result.{IfOk-weaker}
use Rattle.crsm_base.specs.Spelling.{FitsDecision}
use Rattle.crsm_spec.specs.Types.{Rec}
use Rattle.crsm_spec.specs.Draft.{keep}
use Rattle.crsm_spec.specs.Step.{if_fitting}
use Rattle.crsm_replica.specs.Replica.{ReplicaStands}
use Rattle.crsm_replica_reconfigure.proofs.promising.accept.Goals as goal

pub keep-requires-clause-spelt : goal.keep-requires-clause-spelt
keep-requires-clause-spelt c =
    let small : c.args.instance < 2 ^ 64 = omega arith in
    (small, c.requires.ballot, subst FitsDecision (sym c.in_ok-decision.ensures) c.requires.decision)

pub returns : goal.returns
returns c =
    IfOk-weaker c.keep.result _ _ (λ fits made x s.
    let copy : c.in_ok-decision.decision ≡ c.args.decision.now = c.in_ok-decision.ensures in
    subst (λ d. (fits ≡ (keep (Rec.Accept c.args.instance c.args.ballot d) x).fitting) × ReplicaStands c.keep.new.self (if_fitting x (keep (Rec.Accept c.args.instance c.args.ballot d) x))) copy (made x s)) c.keep.ensures
