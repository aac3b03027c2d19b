use Rattle.std.proofs.Common.{◌++◌, List, subst}
use Rattle.crsm_spec.specs.Types.{Entry}
use Rattle.crsm_spec.specs.Log.{known, executed}
use Rattle.crsm_ledger.specs.Executed.{HistoryStands}
use Rattle.crsm_ledger.proofs.KeepLemmas.{adopts}
use Rattle.crsm_ledger.proofs.ledger.Ledger.follow_adopt.Goals as goal

pub returns-clause-kept : goal.returns-clause-kept
returns-clause-kept c = λ place me n log s fit.
    let done = c.in_ok-run_all.ensures.executed (known log) (executed log) s.executed in
    adopts s place c.args.entries.now c.run_all.new.self fit
    (subst (λ (es : List Entry). HistoryStands c.run_all.new.self.history (known log) (executed log ++ es)) c.as_slice.ensures done) c.run_all.ensures.logged
