-- Kinds of tasks.
use Rattle.std.specs.Prelude.{◌<◌, ◌⊎◌}
use Rattle.crsm_base.specs.Spelling.{FitsCommand}
use Rattle.crsm_text_words.specs.Orders.{IsClusterSize, IsLock, IsNode}
use Rattle.crsm_text_words.specs.declared.order.Task.{Task}
use Rattle.crsm_text_words.specs.declared.order.Task.TheVariants.{Replay, ReplayNode, Client, Operate, Soak, Node, Audit, Lock, Delay, DelayTimes, ReplayMp, Dump}

-- the tasks that read the lines of an input
abbrev pub IsReader : Task → Type 0
IsReader Replay = Unit {0}
IsReader (ReplayNode me n) = Unit {0}
IsReader (Audit n) = Unit {0}
IsReader Delay = Unit {0}
IsReader DelayTimes = Unit {0}
IsReader ReplayMp = Unit {0}
IsReader _ = ⊥

-- the tasks that read an input as a log file
abbrev pub IsLogReader : Task → Type 0
IsLogReader (Dump me n part) = Unit {0}
IsLogReader _ = ⊥

-- the tasks that read an input
abbrev pub TakesInput : Task → Type 0
TakesInput task = IsReader task ⊎ IsLogReader task

-- the tasks that ask a replica over the port
abbrev pub IsAsker : Task → Type 0
IsAsker (Client to turns command) = Unit {0}
IsAsker (Operate to members) = Unit {0}
IsAsker (Lock t) = Unit {0}
IsAsker _ = ⊥

-- the tasks that run a replica over a disk and by a clock
abbrev pub IsRunner : Task → Type 0
IsRunner (Node t) = Unit {0}
IsRunner _ = ⊥

-- the tasks that are done over the port
abbrev pub IsOverPort : Task → Type 0
IsOverPort task = IsAsker task ⊎ IsRunner task

-- its values are within the limits
abbrev pub IsWithinLimits : Task → Type 0
IsWithinLimits (ReplayNode me n) = (me < 15) × IsClusterSize n
IsWithinLimits (Client to turns command) = FitsCommand command
IsWithinLimits (Soak number n steps) = IsClusterSize n
IsWithinLimits (Node t) = IsNode t
IsWithinLimits (Audit n) = IsClusterSize n
IsWithinLimits (Lock t) = IsLock t
IsWithinLimits (Dump me n part) = (me < 15) × IsClusterSize n
IsWithinLimits _ = Unit {0}
