use Rattle.crsm_mpworld.specs.Effects.{ending_of}
use Rattle.crsm_mpworld.proofs.Series.{each_begins, each_next, each_full, each_ends}
use Rattle.crsm_mpworld.proofs.world.MpWorld.deliver_each.Goals as goal

pub loop-number-init : goal.loop-number-init
loop-number-init c v t h = each_begins v t c.args.due.now c.no_lines-lines.new.self _ h c.no_lines-lines.ensures.none

pub loop-number-preserved : goal.loop-number-preserved
unfolding ending_of
loop-number-preserved c v t h =
    each_next v t c.args.due.now c.loop-number.number-index c.loop-number.self c.go.new.self c.loop-number.lines c.go.new.lines c.is_full.result (c.loop-number.invariant v t h) c.loop-number-test.true c.is_full.ensures.full c.if-is_full.false
    c.in_ok-go.ensures

pub returns-then-is_full : goal.returns-then-is_full
returns-then-is_full c v h t = each_full v t c.args.due.now c.loop-number.number-index c.loop-number.self c.loop-number.lines c.is_full.result (c.loop-number.invariant v t (c.no_lines-lines.ensures.holds v h)) c.loop-number-test.true c.is_full.ensures.full c.if-is_full.true

pub returns : goal.returns
returns c v h t = each_ends v t c.args.due.now c.loop-number.number-index c.loop-number.self c.loop-number.lines (c.loop-number.invariant v t (c.no_lines-lines.ensures.holds v h)) c.loop-number-test.false
