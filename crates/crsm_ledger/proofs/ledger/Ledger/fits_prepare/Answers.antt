use Rattle.std.proofs.Common.{◌≡◌, ◌∙◌, ap, sym}
use Rattle.std.specs.Prelude.{not}
use Rattle.crsm_spec.specs.Log.{executed, logged}
use Rattle.crsm_spec.specs.Types.{Decision}
use Rattle.crsm_fact_log.proofs.Known.{known-epoch}
use Rattle.crsm_ledger.proofs.FitsLemmas.{can-log, fits-prepare}
use Rattle.crsm_ledger.proofs.ReadLemmas.{known-is}
use Rattle.crsm_ledger.proofs.ledger.Ledger.fits_prepare.Goals as goal

pub returns-clause-value : goal.returns-clause-value
returns-clause-value c = λ me n log s.
    let epoch : c.epoch.result ≡ c.args.self.now.known.epoch = c.epoch.ensures ∙ s.executed.epoch ∙ sym (ap (λ (d : Decision). d.epoch) (known-is s) ∙ known-epoch n log) in
    cc (fits-prepare s c.args.entry.now, c.is_newest-is_newest.ensures (executed log) (logged log) s.kept, epoch)

pub returns-clause-can : goal.returns-clause-can
returns-clause-can c = λ passes.
    can-log c.args.self.now.is_live (not c.args.self.now.is_suspended) c.is_among-is_member.result c.is_newest-is_newest.result c.epoch.result c.args.self.now.held.history.epoch c.args.self.now.held.logged c.args.entry.now passes c.epoch.ensures c.is_newest-is_newest.ensures
