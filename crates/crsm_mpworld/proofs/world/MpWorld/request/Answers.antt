use Rattle.std.proofs.Common.{◌∙◌, ap, subst, sym}
use Rattle.crsm_base.specs.declared.Command.{Command}
use Rattle.crsm_base.specs.Spelling.{FitsCommand}
use Rattle.crsm_mpspec.specs.declared.input.MpInput.{MpInput}
use Rattle.crsm_mpspec.specs.Moments.{step_at}
use Rattle.crsm_mpworld.specs.Effects.{ending_of}
use Rattle.crsm_mpworld.proofs.Leading.{on_as}
use Rattle.crsm_mpworld.proofs.world.MpWorld.request.Goals as goal

pub returns : goal.returns
returns c v h =
    let same = c.in_ok-command.ensures ∙ c.in_ok-own.ensures in
    on_as _ _ _ _ _ _ _ (ap (λ (x : Command). step_at (ending_of c.args.ending) v c.args.k (MpInput.Request x) 0) (sym same)) (c.in_ok-arrive.ensures v h)

pub share_command-requires : goal.share_command-requires
share_command-requires c = subst FitsCommand (sym c.in_ok-own.ensures) c.requires.fits

pub arrive-requires-clause-fits : goal.arrive-requires-clause-fits
arrive-requires-clause-fits c = subst FitsCommand (sym (c.in_ok-command.ensures ∙ c.in_ok-own.ensures)) c.requires.fits
