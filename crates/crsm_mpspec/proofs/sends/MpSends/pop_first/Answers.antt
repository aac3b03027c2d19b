use Rattle.std.proofs.Common.{◌≡◌, ◌++◌, List, length, sym, ap, ◌∙◌, arith}
use Rattle.std.specs.List.{flat_map}
use Rattle.crsm_mpspec.specs.declared.send.MpSend.{MpSend}
use Rattle.crsm_mpspec.specs.Sends.{receivers, sends_of}
use Rattle.crsm_mpspec.proofs.SendLemmas.{no-sends}
use Rattle.crsm_mpspec.proofs.sends.MpSends.pop_first.Goals as goal

pub loop-multicast-preserved : goal.loop-multicast-preserved
loop-multicast-preserved c =
    let m = c.in-Some.multicast in
    let none : length (receivers m.receivers) ≡ 0 = omega (arith, c.len.ensures, c.if-len-gt0.false) in
    ap (λ (ms : List MpSend). ms ++ flat_map sends_of c.pop_front.new.self.items) (sym (no-sends m none))
    ∙ sym (ap (flat_map sends_of) c.in-Some.ensures.items) ∙ c.loop-multicast.invariant
