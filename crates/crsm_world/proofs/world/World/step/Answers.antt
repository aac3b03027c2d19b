use Rattle.std.proofs.Common.{[], ◌∷◌, ◌++◌, refl}
use Rattle.crsm_spec.specs.Run.{last_world}
use Rattle.crsm_world.specs.Doing.{act_of}
use Rattle.crsm_world.specs.World.{WorldStands}
use Rattle.crsm_world.proofs.SoFar.{does_more, is_lawful}
use Rattle.crsm_world.proofs.world.World.step.Goals as goal

pub returns-clause-done : goal.returns-clause-done
unfolding WorldStands
returns-clause-done c n acts done =
    let before = done.stands.holds in
    let here = c.in_default.ensures.answers (last_world n acts) before in
    let after = (c.in-Ok.ensures (last_world n acts) before here).after in
    does_more c.args.self.now _ n acts c.args.event.now done c.requires here (record { unspent = refl; holds = record { sites = after.sites; network = after.network } })

pub returns-clause-laws : goal.returns-clause-laws
returns-clause-laws c n acts done =
    is_lawful _ n (acts ++ act_of c.args.event.now ∷ []) c.runs_are_safe.ensures c.answered_are_kept.ensures c.decisions_always_agree.ensures c.rounds_are_bounded.ensures
    (returns-clause-done c n acts done)
