use Rattle.std.proofs.Common.{◌∙◌, ap, sym}
use Rattle.std.specs.Prelude.{nat_eq, ◌||◌}
use Rattle.crsm_sim_network.proofs.Receiving.{alike}
use Rattle.crsm_world.specs.Machines.{is_up_in}
use Rattle.crsm_world.proofs.Looking.{added_down, added_up}
use Rattle.crsm_world.proofs.machines.Machines.add_up.Goals as goal

pub returns-then-is_up : goal.returns-then-is_up
returns-then-is_up c n places h test is =
    let up = sym (c.is_up.ensures.up n places h ∙ ap (is_up_in places) c.from.ensures) ∙ c.if-is_up.true in
    alike _ (λ j. test j || nat_eq j c.args.k) _ (λ j. added_up test c.args.k j (is_up_in places c.args.k) up) (c.add.ensures test is)

pub returns-else-is_up : goal.returns-else-is_up
returns-else-is_up c n places h test is =
    let down = sym (c.is_up.ensures.up n places h ∙ ap (is_up_in places) c.from.ensures) ∙ c.if-is_up.false in
    alike _ test _ (λ j. added_down test c.args.k j (is_up_in places c.args.k) down) is
