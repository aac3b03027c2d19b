use Rattle.std.proofs.Common.{◌≡◌, ◌∙◌, ◌++◌, [], ◌∷◌, ◌-◌, ap, arith, get_or, length}
use Rattle.std.specs.Prelude.{filter}
use Rattle.std.specs.List.{range_with_len}
use Rattle.crsm_mpworld.specs.Packets.{is_fresh_for, is_up_among}
use Rattle.crsm_mpworld.proofs.Gets.{filter_next, filter_whole}
use Rattle.crsm_mpworld.proofs.Numbers.{filter_later, range_none}
use Rattle.crsm_mpworld.proofs.network.MpNetwork.still_due.Goals as goal

pub loop-number-preserved : goal.loop-number-preserved
loop-number-preserved c packets bytes h =
    let test = is_fresh_for (is_up_among c.args.self.now.ups.items) packets in
    c.in_ok-add_due.ensures packets bytes h ∙ ap (λ ks. ks ++ filter test (get_or c.deref-number-items.result.now c.loop-number.number-index 0 ∷ [])) (c.loop-number.invariant packets bytes h)
    ∙ filter_next test _ _ c.loop-number.number-index c.deref-number-items.ensures.value c.loop-number-test.true

pub loop-later-init : goal.loop-later-init
loop-later-init c packets bytes h =
    let test = is_fresh_for (is_up_among c.args.self.now.ups.items) packets in
    let network = c.args.self.now in
    c.loop-number.invariant packets bytes h ∙ filter_whole test _ _ c.loop-number.number-index c.deref-number-items.ensures.value c.loop-number-test.false
    ∙ ap (filter test) (range_none network.near.items network.near_end network.near_end (omega arith))

pub loop-later-preserved : goal.loop-later-preserved
loop-later-preserved c packets bytes h =
    let test = is_fresh_for (is_up_among c.args.self.now.ups.items) packets in
    let network = c.args.self.now in
    c.in_ok-add_due-2.ensures packets bytes h ∙ ap (λ ks. ks ++ filter test (c.loop-later.later ∷ [])) (c.loop-later.invariant packets bytes h)
    ∙ filter_later test network.near.items network.near_end c.loop-later.later (omega (arith, c.loop-later.auto.later))

pub returns : goal.returns
returns c packets bytes h =
    let network = c.args.self.now in
    let last : c.loop-later.later - network.near_end ≡ length packets - network.near_end = omega (arith, c.count-later-end.ensures packets bytes h, h.near_end, c.loop-later-test.false, c.loop-later.auto.later-end, c.loop-later.auto.later) in
    c.loop-later.invariant packets bytes h ∙ ap (λ n. filter (is_fresh_for (is_up_among c.args.self.now.ups.items) packets) (network.near.items ++ range_with_len network.near_end n)) last
