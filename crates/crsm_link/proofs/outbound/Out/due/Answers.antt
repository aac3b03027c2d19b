use Rattle.std.proofs.Common.{◌≡◌, ◌∙◌, ap, take, arith, length, min}
use Rattle.std.specs.List.{enumerate_from}
use Rattle.crsm_link.proofs.Numbered.{numbered, one_more_numbered, first_of_numbered}
use Rattle.crsm_link.proofs.outbound.Out.due.Goals as goal

pub loop-index-preserved : goal.loop-index-preserved
loop-index-preserved c =
    one_more_numbered _ _ _ _ _ _ _ c.loop-index.invariant (omega arith) c.index.ensures c.in_ok-payload.ensures c.in_ok-push.ensures.ok

pub returns : goal.returns
returns c pushed acked s =
    let e : c.loop-index.index ≡ min (length c.args.self.now.frames.items) 64 = omega arith in
    c.loop-index.invariant ∙ ap (λ n. take n (enumerate_from c.args.self.now.first c.args.self.now.frames.items)) e
    ∙ first_of_numbered c.args.self.now.first c.args.self.now.frames.items ∙ ap (take 64) (numbered c.args.self.now pushed acked s)
