use Rattle.std.proofs.Common.{◌∙◌, ap, Err}
use Rattle.std.specs.Prelude.{is_some}
use Rattle.crsm_world.specs.Doing.{bad_of}
use Rattle.crsm_world.proofs.Reasons.{hit, pass, no_more}
use Rattle.crsm_world.proofs.world.World.check_bytes.Goals as goal

pub returns-in-Ok : goal.returns-in-Ok
unfolding bad_of
returns-in-Ok c ne = hit _ _ _ (ap is_some c.in-Ok.ensures.value)

pub returns-in-Err-NotOne : goal.returns-in-Err-NotOne
returns-in-Err-NotOne c = pass _ _ _ (ap is_some (c.in-Err-NotOne.ensures.none (ap (λ e. Err e) c.in-Err-NotOne.field-0-is))) ∙ no_more
