use Rattle.std.proofs.Common.{◌∙◌, sym}
use Rattle.std.specs.Cmp.{booleans_Decides}
use Rattle.std.proofs.lemmas.Slice.Eq.{slice_eq-Decides}
use Rattle.crsm_sim_network.proofs.network.Network.see.Goals as goal

pub returns-then-eq-clause-ups : goal.returns-then-eq-clause-ups
returns-then-eq-clause-ups c =
    let same = slice_eq-Decides booleans_Decides c.as_slice.result.now c.args.ups.now c.eq.result c.eq.ensures in
    sym c.as_slice.ensures.value ∙ same.0 c.if-eq.true
