-- The effects of the command `client`, by how it ended.
use Rattle.std.specs.Prelude.{◌≡◌, ℕ, List, Option, Result, Ok, Err}
use Rattle.crsm_base.specs.declared.Outcome.{Outcome}
use Rattle.crsm_io.specs.Streams.{Puts, PutsPrefix}
use Rattle.crsm_port.specs.Meaning.{Meaning}
use Rattle.crsm_text.specs.Values.{outcome_text}
use Rattle.crsm_client.specs.Asking.{Asks, IsAnswered}
use Rattle.crsm_client.specs.declared.command.ClientEnd.{ClientEnd}
use Rattle.crsm_client.specs.declared.command.ClientEnd.TheVariants as end
use Rattle.crsm_client.specs.declared.command.ClientOrder.{ClientOrder}
use Rattle.crsm_client.specs.declared.error.AskError.{AskError}
use Rattle.crsm_client.specs.declared.error.AskError.TheVariants.{NoAnswer, PortFault}

-- an outcome is written; the sink had `had` and has `has` written
abbrev pub WritesOutcome : Outcome → Option (List ℕ) → Option (List ℕ) → ClientEnd → Type 0
WritesOutcome outcome had has end.Done = Puts had has (outcome_text outcome)
WritesOutcome outcome had has end.WriteFault = PutsPrefix had has (outcome_text outcome)
WritesOutcome outcome had has end.NoMemory = has ≡ had
WritesOutcome outcome had has _ = ⊥

-- it asks every hundred turns
abbrev pub Asked : ℕ → ClientOrder → Meaning → Meaning → Result Outcome AskError → Type 0
Asked cluster order old new result = Asks cluster order.to order.command order.turns 100 old new result

abbrev pub ClientRan : ℕ → ClientOrder → Meaning → Meaning → Option (List ℕ) → Option (List ℕ) → ClientEnd → Type 0
ClientRan cluster order old new had has end.Done = (outcome : Outcome) × Asked cluster order old new (Ok outcome) × Puts had has (outcome_text outcome)
ClientRan cluster order old new had has end.NoAnswer = Asked cluster order old new (Err NoAnswer) × (has ≡ had)
ClientRan cluster order old new had has end.PortFault = Asked cluster order old new (Err PortFault) × (has ≡ had)
ClientRan cluster order old new had has end.WriteFault =
    (outcome : Outcome) × Asked cluster order old new (Ok outcome) × PutsPrefix had has (outcome_text outcome)
ClientRan cluster order old new had has end.NoMemory =
    (result : Result Outcome AskError) × Asked cluster order old new result × IsAnswered result × (has ≡ had)

-- done, unless memory ran out
abbrev pub IsDone : ClientEnd → Type 0
IsDone end.Done = Unit {0}
IsDone end.NoMemory = Unit {0}
IsDone _ = ⊥

-- no answer, unless memory ran out
abbrev pub IsNoAnswer : ClientEnd → Type 0
IsNoAnswer end.NoAnswer = Unit {0}
IsNoAnswer end.NoMemory = Unit {0}
IsNoAnswer _ = ⊥
