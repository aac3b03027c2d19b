-- The cause to report for a bad line.
use Rattle.crsm_port_lines.specs.declared.LineRefusal.{LineRefusal}
use Rattle.crsm_port_lines.specs.declared.LineRefusal.TheVariants.{Refused, TooLong, Cut}
use Rattle.crsm_cmd_replay_node.specs.declared.cause.SheetCause.{SheetCause}

abbrev pub cause_in : LineRefusal SheetCause → SheetCause
cause_in (Refused cause) = cause
cause_in TooLong = SheetCause.Unreadable
cause_in Cut = SheetCause.Unreadable
