-- Plain types under short paths, and the value of a slot.
use Rattle.std.specs.Prelude.{Option}
pub use Rattle.crsm_base.specs.declared.Ballot.{Ballot}
pub use Rattle.crsm_base.specs.declared.Op.{Op}
pub use Rattle.crsm_base.specs.declared.Command.{Command}
pub use Rattle.crsm_base.specs.declared.Answer.{Answer}

-- the value of a slot: a command, or none where the slot is a noop
abbrev pub Value : Type 0
Value = Option Command
