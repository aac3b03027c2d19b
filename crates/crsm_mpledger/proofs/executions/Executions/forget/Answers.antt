use Rattle.std.proofs.Common.{refl}
use Rattle.crsm_mpledger.proofs.LedgerLemmas.{forgets}
use Rattle.crsm_mpledger.proofs.executions.Executions.forget.Goals as goal

pub returns-clause-stands : goal.returns-clause-stands
returns-clause-stands c values s =
    let old = c.args.self.now in
    forgets old (record old { first = old.count; slots = c.clear.new.self }) values s refl refl refl c.clear.ensures.items
