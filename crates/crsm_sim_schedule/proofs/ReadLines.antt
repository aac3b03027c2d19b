-- What the parser returns for a line.
use Rattle.std.proofs.Common.{◌≡◌, ℕ, List, Result, Ok, Err}
use Rattle.std.specs.Prelude.{IfOk}
use Rattle.crsm_text.specs.declared.error.LineError.{LineError}
use Rattle.crsm_text.specs.Reads.{ReadsAs}
use Rattle.crsm_schedule.specs.declared.Event.{Event}
use Rattle.crsm_schedule.specs.Grammar.{FitsEvent, event_text}
use Rattle.crsm_sim_schedule.specs.Handled.{IsReadAs}

-- a parser that finds the event of each line that has one
pub read_as : (line : List ℕ) (r : Result Event LineError) → IfOk r (λ e. FitsEvent e × (line ≡ event_text e))
    → ((e : Event) → FitsEvent e → line ≡ event_text e → ReadsAs r e) → IsReadAs line r
read_as line (Ok e) found only = found
read_as line (Err LineError.Unreadable) found only = λ e fits same. cc (only e fits same)
read_as line (Err LineError.NoMemory) found only = tt
