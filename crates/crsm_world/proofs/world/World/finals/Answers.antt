use Rattle.crsm_world.proofs.SoFar.{is_lawful}
use Rattle.crsm_world.proofs.world.World.finals.Goals as goal

pub returns-clause-laws : goal.returns-clause-laws
returns-clause-laws c = λ n acts done.
    is_lawful c.args.self.now n acts c.runs_are_safe.ensures c.answered_are_kept.ensures c.decisions_always_agree.ensures c.rounds_are_bounded.ensures done
