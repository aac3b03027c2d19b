use Rattle.std.proofs.Common.{sym, take_all}
use Rattle.std.proofs.lemmas.List.Sums.{fold_more}
use Rattle.crsm_spec.specs.Moments.{use_up}
use Rattle.crsm_sim_network.specs.Packets.{used_up}
use Rattle.crsm_world.proofs.world.World.use_up_all.Goals as goal

pub loop-number-preserved : goal.loop-number-preserved
unfolding use_up used_up
loop-number-preserved c v h =
    let was = c.loop-number.invariant v h in
    rw (fold_more (λ u j. use_up j u) v c.args.numbers.now c.loop-number.number-index 0 c.loop-number-test.true) (record { sites = was.sites; network = c.use_up.ensures _ _ was.network })

pub returns : goal.returns
returns c v h = rw (sym (take_all c.loop-number.number-index c.args.numbers.now c.loop-number-test.false)) (c.loop-number.invariant v h)
