use Rattle.std.proofs.Common.{◌∙◌}
use Rattle.crsm_spec.specs.Log.{executed, logged}
use Rattle.crsm_ledger.proofs.LoggedLemmas.{length-kept}
use Rattle.crsm_ledger.proofs.ReadLemmas.{has-logged}
use Rattle.crsm_ledger.proofs.ledger.Ledger.logged_len.Goals as goal

pub returns-clause-value : goal.returns-clause-value
returns-clause-value c = λ me n log s. c.len.ensures ∙ length-kept (executed log) c.args.self.now.held.logged (logged log) s.says.kept

pub returns-clause-holds : goal.returns-clause-holds
returns-clause-holds c = λ es h. c.len.ensures ∙ length-kept h.done c.args.self.now.held.logged es h.kept

pub returns-clause-some : goal.returns-clause-some
returns-clause-some c = has-logged c.args.self.now c.args.self.now.held.held
