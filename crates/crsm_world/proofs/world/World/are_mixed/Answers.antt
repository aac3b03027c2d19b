use Rattle.std.proofs.Common.{◌∙◌, ◌==◌, not, ap, sym}
use Rattle.std.specs.List.{list_any}
use Rattle.crsm_spec.specs.Possible.{are_mixed, receivers, is_not_sent}
use Rattle.crsm_sim_network.specs.Packets.{receiver_or}
use Rattle.crsm_world.proofs.Reasons.{mixed, not_mixed, empty_is}
use Rattle.crsm_world.proofs.world.World.are_mixed.Goals as goal

pub returns-in-Some : goal.returns-in-Some
returns-in-Some c v h e =
    let all = c.in-Some.ensures.cases.0 in
    let to = c.receiver_or.ensures v.packets v.bytes h.network in
    c.one_is_for_another.ensures v h ∙ ap (λ k. list_any (λ i. not (receiver_or v.packets i == k)) c.in-Some.others.now) to
    ∙ sym (mixed v c.in-Some.first.now c.in-Some.others.now (ap (list_any (is_not_sent v)) (sym all) ∙ e)) ∙ ap (λ is. are_mixed (receivers v is)) (sym all)

pub returns-in-None : goal.returns-in-None
returns-in-None c v h e = sym (ap (λ is. are_mixed (receivers v is)) (empty_is c.args.numbers.now c.in-None.ensures.cases) ∙ not_mixed v)
