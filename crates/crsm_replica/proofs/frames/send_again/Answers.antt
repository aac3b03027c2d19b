use Rattle.std.proofs.Common.{◌≡◌, ◌∙◌, ◌++◌, ap, subst, map, get_or, arith}
use Rattle.std.proofs.lemmas.List.{take_all}
use Rattle.crsm_replica_output.specs.Made.{OutputStands}
use Rattle.crsm_replica.specs.Again.{frame_again}
use Rattle.crsm_replica.proofs.Sending.{sent-none, sent-more, again-is}
use Rattle.crsm_replica.proofs.frames.send_again.Goals as goal

pub loop-frame-init : goal.loop-frame-init
loop-frame-init c m holds = sent-none c.args.output.now m holds

pub loop-frame-preserved : goal.loop-frame-preserved
loop-frame-preserved c m holds =
    let here : c.frame-item.result ≡ get_or c.args.frames.now c.loop-frame.frame-index c.frame-item.result = c.frame-item.is in
    sent-more c.loop-frame.output c.send.new.self m (frame_again c.args.me c.args.epoch c.args.to) c.args.frames.now c.loop-frame.frame-index c.frame-item.result _ c.loop-frame-test.true
    (again-is c.args.me c.args.epoch c.args.to c.frame-item.result _ c.in_ok-copy.ensures ∙ ap (frame_again c.args.me c.args.epoch c.args.to) here)
    (c.loop-frame.invariant m holds) c.in_ok-send.ensures

pub returns : goal.returns
returns c m holds =
    subst (λ fs. OutputStands c.loop-frame.output (record m { sends = m.sends ++ map (frame_again c.args.me c.args.epoch c.args.to) fs }))
    (take_all c.loop-frame.frame-index c.args.frames.now (omega arith)) (c.loop-frame.invariant m holds)
