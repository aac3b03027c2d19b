use Rattle.std.proofs.Common.{◌≡◌, ◌++◌, ◌∙◌, refl, ap, subst, List, length, length-append, arith}
use Rattle.std.proofs.lemmas.List.{length-map}
use Rattle.std.specs.List.{AllByRecursion}
use Rattle.crsm_mpspec.specs.declared.send.MpSend.{MpSend}
use Rattle.crsm_mpspec.specs.Sends.{receivers, sends_of}
use Rattle.crsm_mpworld.specs.Fits.{FitsSend}
use Rattle.crsm_mpworld.proofs.Letting.{Going, going_begins, going_next, going_ends}
use Rattle.crsm_mpworld.proofs.Receivers.{all_split}
use Rattle.crsm_mpworld.proofs.outgoing.send_each.Goals as goal

pub loop-multicast-init : goal.loop-multicast-init
loop-multicast-init c = record {
  fits = c.requires;
  going = λ packets bytes out h e. going_begins c.args.k out _ packets bytes c.args.lines.now c.args.network.now e h;
}

pub loop-multicast-preserved : goal.loop-multicast-preserved
loop-multicast-preserved c =
    let at = c.loop-multicast in
    let steps : at.sends ≡ sends_of c.in-Some.multicast ++ c.pop_first.new.self = c.in-Some.ensures.first in
    record {
      fits = (all_split FitsSend _ _ (subst (AllByRecursion FitsSend) steps at.invariant.fits)).1;
      going = λ packets bytes out h e.
          going_next c.args.k out c.in-Some.multicast _ packets bytes c.args.lines.now at.lines c.send_one.new.lines at.network c.send_one.new.network
          (subst (λ (xs : List MpSend). Going c.args.k out xs packets bytes c.args.lines.now at.network at.lines) steps (at.invariant.going packets bytes out h e))
          c.in_ok-send_one.ensures;
    }

pub loop-multicast-smaller : goal.loop-multicast-smaller
loop-multicast-smaller c =
    let m = c.in-Some.multicast in
    let all : length (sends_of m) ≡ length (receivers m.receivers) = length-map (receivers m.receivers) _ in
    omega (arith, ap length c.in-Some.ensures.first ∙ length-append (sends_of m) c.pop_first.new.self, all, c.in-Some.ensures.some)

pub send_one-requires : goal.send_one-requires
send_one-requires c = record {
  fit = (all_split FitsSend _ _ (subst (AllByRecursion FitsSend) c.in-Some.ensures.first c.loop-multicast.invariant.fits)).0;
  some = c.in-Some.ensures.some;
}

pub returns : goal.returns
returns c packets bytes h out e =
    let at = c.loop-multicast in
    going_ends c.args.k out _ packets bytes c.args.lines.now at.lines at.network (at.invariant.going packets bytes out h e) (c.in_default.ensures.none refl)
