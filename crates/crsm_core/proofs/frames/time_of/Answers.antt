use Rattle.std.proofs.Common.{◌∙◌, ap, sym}
use Rattle.crsm_spec.specs.Types.{InEpoch}
use Rattle.crsm_spec.specs.Frames.{time_of}
use Rattle.crsm_core.proofs.FrameLemmas.{time_as}
use Rattle.crsm_core.proofs.frames.time_of.Goals as goal

pub returns-in-Prepare : goal.returns-in-Prepare
returns-in-Prepare c = sym (ap time_of c.in-Prepare.is ∙ time_as (InEpoch.Prepare c.in-Prepare.entry))

pub returns-in-PrepareOk : goal.returns-in-PrepareOk
returns-in-PrepareOk c = sym (ap time_of c.in-PrepareOk.is ∙ time_as (InEpoch.PrepareOk c.in-PrepareOk.stamp c.in-PrepareOk.at))

pub returns-in-ClockTime : goal.returns-in-ClockTime
returns-in-ClockTime c = sym (ap time_of c.in-ClockTime.is ∙ time_as (InEpoch.ClockTime c.in-ClockTime.at))
