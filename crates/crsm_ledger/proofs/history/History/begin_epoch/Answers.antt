use Rattle.crsm_ledger.proofs.ExecutedLemmas.{begins}
use Rattle.crsm_ledger.proofs.history.History.begin_epoch.Goals as goal

pub returns-clause-begun : goal.returns-clause-begun
returns-clause-begun c = λ x es has below. begins c.args.self.now x c.args.epoch es has below
