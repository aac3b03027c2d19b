use Rattle.std.proofs.Common.{◌∙◌, true, ◌++◌, [], ◌∷◌, ap, get_or}
use Rattle.std.specs.Prelude.{filter}
use Rattle.crsm_sim_network.specs.Packets.{is_fresh_for}
use Rattle.crsm_sim_network.proofs.Gets.{filter_next, filter_whole}
use Rattle.crsm_sim_network.proofs.network.Network.still_fresh.Goals as goal

pub loop-number-preserved : goal.loop-number-preserved
loop-number-preserved c packets bytes h =
    c.in_ok-add_fresh.ensures packets bytes h ∙ ap (λ ks. ks ++ filter (is_fresh_for (λ k. true) packets) (get_or c.deref-number-items.result.now c.loop-number.number-index 0 ∷ [])) (c.loop-number.invariant packets bytes h)
    ∙ filter_next (is_fresh_for (λ k. true) packets) _ _ c.loop-number.number-index c.deref-number-items.ensures.value c.loop-number-test.true

pub returns : goal.returns
returns c packets bytes h = c.loop-number.invariant packets bytes h ∙ filter_whole (is_fresh_for (λ k. true) packets) _ _ c.loop-number.number-index c.deref-number-items.ensures.value c.loop-number-test.false
