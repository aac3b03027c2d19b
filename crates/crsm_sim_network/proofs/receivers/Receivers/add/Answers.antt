use Rattle.std.specs.Prelude.{nat_eq, min, ◌||◌}
use Rattle.std.proofs.Common.{ap}
use Rattle.crsm_sim_network.proofs.Receiving.{alike, own_class}
use Rattle.crsm_sim_network.proofs.receivers.Receivers.add.Goals as goal

pub returns : goal.returns
returns c test is =
    alike _ (λ j. test j || nat_eq (min j 15) c.args.k) _ (λ j. ap (λ b. test j || b) (own_class j c.args.k c.requires)) (c.add_class.ensures test is)
