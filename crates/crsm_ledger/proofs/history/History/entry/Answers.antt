use Rattle.std.proofs.Common.{◌∙◌, ap, sym}
use Rattle.std.specs.Prelude.{Some}
use Rattle.crsm_spec.specs.Types.{Entry}
use Rattle.crsm_ledger.proofs.ExecutedLemmas.{entry_at, slice_get-spells}
use Rattle.crsm_ledger.proofs.history.History.entry.Goals as goal

pub returns-clause-value : goal.returns-clause-value
returns-clause-value c = λ es s.
    let lent = sym c.at.ensures.value ∙ slice_get-spells c.args.self.now.spelt es c.args.place s in
    let found = entry_at es c.args.place c.at.result.now s.fit lent in
    found.1 ∙ ap (λ (e : Entry). Some e) (sym (c.in_ok-entry.ensures.value found.0 found.3 found.2))
