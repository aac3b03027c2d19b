use Rattle.std.proofs.Common.{◌∙◌, ap, refl, take_all}
use Rattle.std.specs.Prelude.{max}
use Rattle.crsm_cmd_soak.specs.Counting.{greatest, known_in}
use Rattle.crsm_cmd_soak.proofs.Sums.{greatest_more}
use Rattle.crsm_cmd_soak.proofs.counting.greatest_known.Goals as goal

pub loop-line-init : goal.loop-line-init
unfolding greatest
loop-line-init c = refl

pub loop-line-preserved : goal.loop-line-preserved
loop-line-preserved c =
    c.max-greatest.ensures ∙ ap (max c.loop-line.greatest) c.known_in.ensures ∙ ap (λ n. max n (known_in c.line-item.result)) c.loop-line.invariant
    ∙ greatest_more known_in c.args.lines.now c.loop-line.line-index c.line-item.result c.loop-line-test.true c.line-item.is

pub returns : goal.returns
returns c = c.loop-line.invariant ∙ ap (greatest known_in) (take_all c.loop-line.line-index c.args.lines.now c.loop-line-test.false)
