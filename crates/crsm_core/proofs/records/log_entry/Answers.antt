use Rattle.std.proofs.Common.{◌≡◌, sym, subst}
use Rattle.std.proofs.lemmas.Result.{IfOk-weaker}
use Rattle.crsm_base.specs.Spelling.{FitsEntry}
use Rattle.crsm_spec.specs.Types.{Entry, Rec}
use Rattle.crsm_spec.specs.Draft.{keep}
use Rattle.crsm_spec.specs.Step.{if_fitting}
use Rattle.crsm_replica.specs.Replica.{ReplicaStands}
use Rattle.crsm_core.proofs.records.log_entry.Goals as goal

pub keep-requires-clause-spelt : goal.keep-requires-clause-spelt
keep-requires-clause-spelt c = subst FitsEntry (sym c.in_ok-copy.ensures) c.requires

pub returns : goal.returns
returns c =
    IfOk-weaker c.keep.result _ _ (λ fits made x s.
    subst (λ (e : Entry). (fits ≡ (keep (Rec.Prepare e) x).fitting) × ReplicaStands c.keep.new.self (if_fitting x (keep (Rec.Prepare e) x))) c.in_ok-copy.ensures (made x s)) c.keep.ensures
