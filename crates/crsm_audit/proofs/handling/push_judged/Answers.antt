use Rattle.std.proofs.Common.{◌∙◌}
use Rattle.crsm_law_sheets.specs.Sheets.{one_list}
use Rattle.crsm_audit.proofs.Taking.{concludes}
use Rattle.crsm_audit.proofs.Verdicts.{one_fits, one_spelt}
use Rattle.crsm_audit.proofs.handling.push_judged.Goals as goal

pub returns : goal.returns
returns c = λ n ls d whole.
    let accounts = c.args.accounts.now in
    concludes c.agreeing_sheets_are_safe.ensures n accounts ls c.in_ok-verdict.verdict c.args.text.now c.push_verdict.new.out d whole
    (λ sheets stand. c.in_ok-verdict.ensures n sheets stand)
    (λ sheets stand. c.in_ok-push_verdict.ensures (one_list n sheets) (one_fits n accounts sheets stand) (c.longest.ensures ∙ one_spelt n accounts sheets stand))
