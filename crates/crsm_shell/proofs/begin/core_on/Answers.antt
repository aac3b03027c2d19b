use Rattle.std.proofs.Common.{sym, subst}
use Rattle.crsm_core.specs.Core.{CoreAwaits}
use Rattle.crsm_core.specs.declared.replica.Core.{Core}
use Rattle.crsm_ledger.specs.declared.ledger.Ledger.{Ledger}
use Rattle.crsm_shell.specs.Beginning.{IsLedgerOf}
use Rattle.crsm_shell.proofs.begin.core_on.Goals as goal

pub returns-clause-awaits : goal.returns-clause-awaits
returns-clause-awaits c me n log is =
    let i = subst (λ (l : Ledger). IsLedgerOf l me n log) (sym c.in_ok-ledger.ensures.same) is in
    subst (λ (core : Core). CoreAwaits core me n log) (sym c.in_ok-in_a_place.ensures) (c.in_ok-core.ensures me n log i.stands i.fits i.spelt i.number i.some)

pub returns-clause-room : goal.returns-clause-room
returns-clause-room c me n log is = c.in_ok-ledger.ensures.room me n log is.stands
