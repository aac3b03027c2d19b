use Rattle.std.proofs.Common.{◌∙◌, ap, sym}
use Rattle.std.specs.Prelude.{Some}
use Rattle.crsm_spec.specs.Types.{Entry}
use Rattle.crsm_ledger.proofs.HeldLemmas.{placed-at}
use Rattle.crsm_ledger.proofs.LoggedLemmas.{kept-at}
use Rattle.crsm_ledger.proofs.held.HeldEntries.entry.Goals as goal

pub copy-requires : goal.copy-requires
copy-requires c =
    let old = c.args.self.now in
    placed-at old.history.spelt old.history.epoch old.logged c.args.index c.at.result.now old.held c.at.ensures.value

pub returns-clause-value : goal.returns-clause-value
returns-clause-value c = λ done es s all.
    let r = kept-at done c.args.self.now.logged es c.args.index c.at.result.now all c.at.ensures.value in
    r.1 ∙ ap (λ (e : Entry). Some e) (sym (c.in_ok-entry.ensures.value done r.0 s r.2.kept))
