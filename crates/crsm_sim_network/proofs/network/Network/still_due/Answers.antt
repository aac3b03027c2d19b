use Rattle.std.proofs.Common.{◌∙◌, ◌++◌, [], ◌∷◌, ap, get_or}
use Rattle.std.specs.Prelude.{filter}
use Rattle.crsm_sim_network.specs.Packets.{is_fresh_for, is_up_among}
use Rattle.crsm_sim_network.proofs.Gets.{filter_next, filter_whole}
use Rattle.crsm_sim_network.proofs.network.Network.still_due.Goals as goal

pub loop-number-preserved : goal.loop-number-preserved
loop-number-preserved c packets bytes h =
    let test = is_fresh_for (is_up_among c.args.self.now.ups.items) packets in
    c.in_ok-add_due.ensures packets bytes h ∙ ap (λ ks. ks ++ filter test (get_or c.deref-number-items.result.now c.loop-number.number-index 0 ∷ [])) (c.loop-number.invariant packets bytes h)
    ∙ filter_next test _ _ c.loop-number.number-index c.deref-number-items.ensures.value c.loop-number-test.true

pub returns : goal.returns
returns c packets bytes h = c.loop-number.invariant packets bytes h ∙ filter_whole (is_fresh_for (is_up_among c.args.self.now.ups.items) packets) _ _ c.loop-number.number-index c.deref-number-items.ensures.value c.loop-number-test.false
