use Rattle.std.specs.Prelude.{false, true, nat_eq, nat_lt, min, ◌||◌}
use Rattle.crsm_sim_network.proofs.Receiving.{alike, all_classes, no_classes, one_class}
use Rattle.crsm_sim_network.proofs.receivers.Receivers.any.Goals as goal

pub loop-class-init : goal.loop-class-init
loop-class-init c = alike _ (λ k. false) _ no_classes c.none-any.ensures

pub loop-class-preserved : goal.loop-class-preserved
loop-class-preserved c =
    let k = c.loop-class.class in
    alike _ (λ j. nat_lt (min j 15) k || nat_eq (min j 15) k) _ (λ j. one_class j k) (c.add_class.ensures (λ j. nat_lt (min j 15) k) c.loop-class.invariant)

pub returns : goal.returns
returns c = alike _ (λ j. nat_lt (min j 15) c.loop-class.class) (λ j. true) (λ j. all_classes j c.loop-class.class c.loop-class-test.false) c.loop-class.invariant
