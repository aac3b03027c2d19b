use Rattle.std.proofs.Common.{◌<◌, ◌∙◌, sym, ap, arith, length, Some}
use Rattle.std.proofs.lemmas.Option.{slice_get-get_or}
use Rattle.crsm_mpworld.specs.Sent.{marked}
use Rattle.crsm_mpworld.proofs.Messages.{marks_none, marks_one}
use Rattle.crsm_mpworld.proofs.sent.Packets.use_up.Goals as goal

pub returns-then-number-len-clause-packets : goal.returns-then-number-len-clause-packets
returns-then-number-len-clause-packets c =
    let there : c.args.number < length c.self.inside.packets.items = omega (arith, c.if-number-len.true, c.len.ensures) in
    marks_one _ _ c.args.number c.index_mut-packet.result.now (slice_get-get_or _ _ c.index_mut-packet.result.now there ∙ ap Some (sym c.index_mut-packet.ensures.value))
    ∙ ap (λ s. marked c.args.number s.packets) c.self.view_is

pub returns-else-number-len-clause-packets : goal.returns-else-number-len-clause-packets
returns-else-number-len-clause-packets c =
    ap (λ s. s.packets) (sym c.self.view_is) ∙ marks_none _ _ c.args.number (omega (arith, c.if-number-len.false, c.len.ensures))
    ∙ ap (λ s. marked c.args.number s.packets) c.self.view_is
