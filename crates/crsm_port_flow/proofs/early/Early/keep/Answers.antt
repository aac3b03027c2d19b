use Rattle.std.proofs.Common.{◌<◌, Some, arith, length, refl}
use Rattle.crsm_port_flow.proofs.Earlies.{set_at}
use Rattle.crsm_port_flow.specs.Early.{place_of}
use Rattle.crsm_port_flow.specs.declared.early.Frame.{Frame}
use Rattle.crsm_port_flow.proofs.early.Early.keep.Goals as goal

pub returns-clause-waits : goal.returns-clause-waits
returns-clause-waits c =
    let frames = c.args.self.now.frames.items in
    let g : Frame = record { from = c.args.frame.from; number = c.args.frame.number; datagram = c.args.datagram } in
    let within : c.place_of.result < length frames = omega (arith, c.place_of.ensures.within, c.args.self.now.wide) in
    (g, set_at frames c.place_of.result (place_of c.args.frame.from c.args.frame.number) (Some g) c.place_of.ensures.place within, refl, refl, refl)
