use Rattle.std.proofs.lemmas.Result.{IfOk-weaker}
use Rattle.crsm_spec.specs.Coordinate.{advance, adopt_tail}
use Rattle.crsm_replica_reconfigure.proofs.learning.advance.Goals as goal

pub returns : goal.returns
unfolding advance
returns c =
    IfOk-weaker c.enter.result _ _ (λ _ made x s f.
    made (adopt_tail x) (c.in_ok-adopt_tail.ensures x s f)) c.enter.ensures
