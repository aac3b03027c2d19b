use Rattle.std.proofs.Common.{sym, subst}
use Rattle.std.proofs.Math.Logic.{∥∥₁_map}
use Rattle.crsm_core.specs.declared.replica.Core.{Core}
use Rattle.crsm_core.specs.Core.{CoreStands}
use Rattle.crsm_shell.specs.Shell.{HasLog}
use Rattle.crsm_shell.specs.Words.{disk_of}
use Rattle.crsm_shell.proofs.Cores.{core_ledger}
use Rattle.crsm_shell.proofs.Groups.{all_kept, inside}
use Rattle.crsm_shell.proofs.shell.Shell.into_log.Goals as goal

pub returns-clause-stands : goal.returns-clause-stands
returns-clause-stands g c kept r steps s none =
    let old = c.args.self in
    let m = g.D.Disk.meaning (disk_of old) in
    let core = subst (λ (core : Core). CoreStands core r) (sym c.into_inner.ensures) (inside old m kept r steps s).core in
    record {
      ledger = core_ledger c.into_inner.result r c.into_ledger-ledger.result core (c.into_ledger-ledger.ensures r core);
      file = λ honest. subst (HasLog r.me r.n m.seen) (sym (all_kept old m kept r steps s none)) ((inside old m kept r steps s).file honest);
    }

pub invariant_of-result-clause-stands : goal.invariant_of-result-clause-stands
invariant_of-result-clause-stands g c =
    ∥∥₁_map (c.args.self.stands c.requires) (λ one.
    let r = one.replica in
    let core = subst (λ (core : Core). CoreStands core r) (sym c.into_inner.ensures) one.stands in
    record { me = r.me; n = r.n; log = r.log; is = core_ledger c.into_inner.result r c.into_ledger-ledger.result core (c.into_ledger-ledger.ensures r core) })
