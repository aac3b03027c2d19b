use Rattle.std.proofs.Common.{None, ◌∷◌, [], ap, arith, length, length-append}
use Rattle.crsm_port_flow.proofs.Earlies.{none_pushed}
use Rattle.crsm_port_flow.proofs.early.no_frames.Goals as goal

pub loop-frames-preserved : goal.loop-frames-preserved
loop-frames-preserved c =
    let before = c.loop-frames.frames.items in
    record {
      free = none_pushed before c.push.new.self.items c.loop-frames.invariant.free c.in_ok-push.ensures.items;
      few = omega (arith, ap length c.in_ok-push.ensures.items, length-append before (None ∷ []));
    }
