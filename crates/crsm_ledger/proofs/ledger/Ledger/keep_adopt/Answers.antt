use Rattle.std.proofs.Common.{◌++◌, List, ◌∙◌, ap, subst}
use Rattle.crsm_spec.specs.Types.{Entry, Line}
use Rattle.crsm_spec.specs.Log.{known, executed}
use Rattle.crsm_spec.specs.Lines.{exec_lines}
use Rattle.crsm_ledger.specs.Executed.{HistoryStands}
use Rattle.crsm_ledger.proofs.KeepLemmas.{lines-adopt, adopts}
use Rattle.crsm_ledger.proofs.ledger.Ledger.keep_adopt.Goals as goal

pub returns-clause-kept : goal.returns-clause-kept
returns-clause-kept c = λ place me n log s fit.
    let done = c.in_ok-execute_all.ensures.executed (known log) (executed log) s.executed in (
      done.1
          ∙ ap (λ (ls : List Line). ls ++ exec_lines c.args.self.now.me (executed log) c.as_slice.result.now) c.new-lines.ensures
          ∙ ap (λ (es : List Entry). exec_lines c.args.self.now.me (executed log) es) c.as_slice.ensures
          ∙ lines-adopt s place c.args.entries.now,
      adopts s place c.args.entries.now c.execute_all.new.self fit
          (subst (λ (es : List Entry). HistoryStands c.execute_all.new.self.history (known log) (executed log ++ es)) c.as_slice.ensures done.0) c.execute_all.ensures.logged,
    )
