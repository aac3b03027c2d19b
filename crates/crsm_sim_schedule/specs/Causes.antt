-- The cause of a refusal.
use Rattle.crsm_sim_schedule.specs.declared.cause.Cause.{Cause}
use Rattle.crsm_port_lines.specs.declared.LineRefusal.{LineRefusal}
use Rattle.crsm_port_lines.specs.declared.LineRefusal.TheVariants.{Refused, TooLong, Cut}

-- the cause to report for a bad line
abbrev pub cause_in : LineRefusal Cause → Cause
cause_in (Refused cause) = cause
cause_in TooLong = Cause.Unreadable
cause_in Cut = Cause.Unreadable
