-- The cause of a refusal.
use Rattle.crsm_spec.specs.Acts.{Bad}
use Rattle.crsm_sim_schedule.specs.declared.Cause.{Cause}

-- why an act is not possible
unfoldable pub cause_of : Bad → Cause
cause_of (Bad.Full bytes) = Cause.Full bytes
cause_of Bad.NoSuchReplica = Cause.NoSuchReplica
cause_of Bad.NoSuchDatagram = Cause.NoSuchDatagram
cause_of Bad.Used = Cause.Used
cause_of Bad.Fresh = Cause.Fresh
cause_of Bad.Mixed = Cause.Mixed
cause_of Bad.IsDown = Cause.IsDown
cause_of Bad.IsUp = Cause.IsUp
cause_of Bad.TooFew = Cause.TooFew
cause_of Bad.Forged = Cause.Forged
