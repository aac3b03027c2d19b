use Rattle.std.proofs.Common.{ℕ, List, subst}
use Rattle.crsm_core.specs.Inputs.{input_of}
use Rattle.crsm_spec.specs.Node.{Turn, turn, input_of as input_of_turn}
use Rattle.crsm_replica_rerun.specs.Stages.{TakesTurn}
use Rattle.crsm_replica_rerun.proofs.step.suspect.Goals as goal

pub returns : goal.returns
unfolding turn input_of_turn input_of
returns c =
    subst (λ (m : List ℕ). TakesTurn c.args.core.now (Turn.Suspect m, c.args.reading) c.step.result c.step.new.core) c.in_ok-members.ensures c.step.ensures
