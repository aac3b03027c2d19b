use Rattle.std.proofs.Common.{subst}
use Rattle.crsm_ledger.specs.Ledger.{LedgerStands}
use Rattle.crsm_spec.specs.Draft.{begun}
use Rattle.crsm_spec.specs.Replica.{Replica}
use Rattle.crsm_core.proofs.StepLemmas.{begun_is}
use Rattle.crsm_core.proofs.replica.Core.ledger.Goals as goal

pub returns-clause-standing : goal.returns-clause-standing
returns-clause-standing c = λ r s.
    subst (λ (q : Replica). LedgerStands q.me q.n c.ledger.result.now q.log) (begun_is r) (c.ledger.ensures.stands (begun r) s.stands)
