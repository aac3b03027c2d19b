-- The command that a value of a slot is.
use Rattle.std.specs.Prelude.{[], Option, None, Some}
use Rattle.crsm_base.specs.declared.Command.{Command}
use Rattle.crsm_base.specs.declared.Op.{Op}

-- of a noop it is some command
abbrev pub command_in : Option Command → Command
command_in (Some c) = c
command_in None = record { client = 0; number = 0; op = Op.Get [] }
