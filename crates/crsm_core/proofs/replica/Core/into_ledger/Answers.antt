use Rattle.std.proofs.Common.{subst}
use Rattle.crsm_ledger.specs.Ledger.{LedgerStands}
use Rattle.crsm_spec.specs.Draft.{begun}
use Rattle.crsm_spec.specs.Replica.{Replica}
use Rattle.crsm_core.proofs.StepLemmas.{begun_is}
use Rattle.crsm_core.proofs.replica.Core.into_ledger.Goals as goal

pub returns : goal.returns
returns c = λ r s.
    subst (λ (q : Replica). LedgerStands q.me q.n c.into_ledger.result q.log) (begun_is r) (c.into_ledger.ensures (begun r) s.stands)
