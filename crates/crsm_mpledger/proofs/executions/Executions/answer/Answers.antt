use Rattle.std.proofs.Common.{◌∙◌, ap, sym, Some}
use Rattle.std.specs.Prelude.{take}
use Rattle.crsm_mpspec.specs.Types.{Answer}
use Rattle.crsm_mpledger.proofs.ExecutedLemmas.{answer-of-applied, answer-of-noop, executions-get, none_some}
use Rattle.crsm_mpledger.proofs.executions.Executions.answer.Goals as goal

pub returns-in_ok-copy-in-Some-Applied : goal.returns-in_ok-copy-in-Some-Applied
returns-in_ok-copy-in-Some-Applied c values s most v found =
    ap (λ (a : Answer). Some a) c.in_ok-copy-in-Some-Applied.ensures
    ∙ answer-of-applied (take c.args.slot values) v _ _ _ (ap Some (sym c.in-Some-Applied.field-0-is) ∙ c.in-Some-Applied.ensures values s most ∙ executions-get values c.args.slot v found)

pub returns-in-Some-Noop : goal.returns-in-Some-Noop
returns-in-Some-Noop c values s most v found =
    answer-of-noop (take c.args.slot values) v (ap Some (sym c.in-Some-Noop.field-0-is) ∙ c.in-Some-Noop.ensures values s most ∙ executions-get values c.args.slot v found)

pub returns-in-None : goal.returns-in-None
returns-in-None c values s most v found =
    absurd (none_some _ (c.in-None.ensures values s most ∙ executions-get values c.args.slot v found))
