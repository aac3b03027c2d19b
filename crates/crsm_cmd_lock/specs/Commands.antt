-- The effects of the command `lock`, by how it ended.
use Rattle.std.specs.Prelude.{◌≡◌, ◌⊎◌, ℕ, List, [], ◌∷◌, ◌++◌, Option}
use Rattle.crsm_client.specs.declared.error.AskError.TheVariants.{NoAnswer, PortFault}
use Rattle.crsm_io.specs.Streams.{Puts, PutsPrefix}
use Rattle.crsm_lease.specs.Texts.{told_text}
use Rattle.crsm_lease.specs.declared.told.Told.{Told}
use Rattle.crsm_port.specs.Meaning.{Meaning}
use Rattle.crsm_cmd_lock.specs.declared.command.LockEnd.{LockEnd}
use Rattle.crsm_cmd_lock.specs.declared.command.LockEnd.TheVariants as end
use Rattle.crsm_cmd_lock.specs.declared.command.LockOrder.{LockOrder}
use Rattle.crsm_cmd_lock.specs.Learning.{Fails, Learns, Starves}

-- the line that the client is shown
abbrev pub told_line : Told → List ℕ
told_line told = told_text told ++ 10 ∷ []

-- the line is written; the sink had `had` and has `has` written
abbrev pub WritesTold : Told → Option (List ℕ) → Option (List ℕ) → LockEnd → Type 0
WritesTold told had has end.Done = Puts had has (told_line told)
WritesTold told had has end.WriteFault = PutsPrefix had has (told_line told)
WritesTold told had has end.NoMemory = has ≡ had
WritesTold told had has _ = ⊥

abbrev pub LockRan : LockOrder → Meaning → Meaning → Option (List ℕ) → Option (List ℕ) → LockEnd → Type 0
LockRan order old new had has end.Done = (told : Told) × Learns order old new told × Puts had has (told_line told)
LockRan order old new had has end.WriteFault = (told : Told) × Learns order old new told × PutsPrefix had has (told_line told)
LockRan order old new had has end.NoAnswer = Fails order old new NoAnswer × (has ≡ had)
LockRan order old new had has end.PortFault = Fails order old new PortFault × (has ≡ had)
LockRan order old new had has end.NoMemory = (Starves order old new ⊎ ((told : Told) × Learns order old new told)) × (has ≡ had)

-- no answer, unless memory ran out
abbrev pub IsNoAnswer : LockEnd → Type 0
IsNoAnswer end.NoAnswer = Unit {0}
IsNoAnswer end.NoMemory = Unit {0}
IsNoAnswer _ = ⊥

-- done, unless memory ran out
abbrev pub IsDone : LockEnd → Type 0
IsDone end.Done = Unit {0}
IsDone end.NoMemory = Unit {0}
IsDone _ = ⊥
