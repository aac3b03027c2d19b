-- The cause of a refusal.
use Rattle.crsm_spec.specs.Acts.{Bad}
use Rattle.crsm_mpspec.specs.Possible.{Cause}
use Rattle.crsm_sim_schedule.specs.declared.Cause.{Cause as Told}

-- Why an act is not possible. The causes of groups and of bytes are met by no act, since such acts have no meaning
-- here.
unfoldable pub cause_told : Cause → Told
cause_told Cause.NotHere = Told.NotHere
cause_told (Cause.Met (Bad.Full bytes)) = Told.Full bytes
cause_told (Cause.Met Bad.NoSuchReplica) = Told.NoSuchReplica
cause_told (Cause.Met Bad.NoSuchDatagram) = Told.NoSuchDatagram
cause_told (Cause.Met Bad.Used) = Told.Used
cause_told (Cause.Met Bad.Fresh) = Told.Fresh
cause_told (Cause.Met Bad.Mixed) = Told.NotHere
cause_told (Cause.Met Bad.IsDown) = Told.IsDown
cause_told (Cause.Met Bad.IsUp) = Told.IsUp
cause_told (Cause.Met Bad.TooFew) = Told.TooFew
cause_told (Cause.Met Bad.Forged) = Told.NotHere
