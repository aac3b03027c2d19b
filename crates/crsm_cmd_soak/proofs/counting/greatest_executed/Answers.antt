use Rattle.std.proofs.Common.{◌∙◌, ap, refl, take_all}
use Rattle.std.specs.Prelude.{max}
use Rattle.crsm_cmd_soak.specs.Counting.{greatest, executed_in}
use Rattle.crsm_cmd_soak.proofs.Sums.{greatest_more}
use Rattle.crsm_cmd_soak.proofs.counting.greatest_executed.Goals as goal

pub loop-line-init : goal.loop-line-init
unfolding greatest
loop-line-init c = refl

pub loop-line-preserved : goal.loop-line-preserved
loop-line-preserved c =
    c.max-greatest.ensures ∙ ap (max c.loop-line.greatest) c.executed_in.ensures ∙ ap (λ n. max n (executed_in c.line-item.result)) c.loop-line.invariant
    ∙ greatest_more executed_in c.args.lines.now c.loop-line.line-index c.line-item.result c.loop-line-test.true c.line-item.is

pub returns : goal.returns
returns c = c.loop-line.invariant ∙ ap (greatest executed_in) (take_all c.loop-line.line-index c.args.lines.now c.loop-line-test.false)
