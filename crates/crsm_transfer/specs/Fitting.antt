-- The comparison of a page of executed entries with a log.
use Rattle.std.specs.Prelude.{ℕ, ◌-◌, ◌==◌, ◌||◌, nat_lt, if◌then◌else◌, List, length, take, drop}
use Rattle.crsm_spec.specs.Types.{Entry, Control}
use Rattle.crsm_base.specs.Spelling.{FitsEntries}
use Rattle.crsm_base.specs.declared.control.Control.TheVariants.{Page}
use Rattle.crsm_spec.specs.Log.{Log, known, executed, active}
use Rattle.crsm_spec.specs.Controls.{new_entries}
use Rattle.crsm_transfer.specs.declared.answer.Fit.{Fit}
use Rattle.crsm_transfer.specs.declared.answer.Fit.TheVariants.{Ahead, Gap, Nothing, Adopt}

-- the message is a page of executed entries
abbrev pub IsPage : Control → Type 0
IsPage (Page epoch from es) = Unit {0}
IsPage _ = ⊥

-- those of the entries from a place on that lie behind the executed ones, and below the base while it is not reached
unfoldable pub new_above : ℕ → ℕ → ℕ → List Entry → List Entry
new_above done base from es =
    let new = drop (done - from) es in
    if nat_lt done base then take (base - done) new else new

-- The first that applies, to a page whose sender knows this epoch and that begins at this place.
unfoldable pub fit_of : Log → ℕ → ℕ → List Entry → Fit
fit_of log epoch from es =
    if nat_lt (known log) epoch then Ahead
    else if nat_lt (length (executed log)) from then Gap
    else if active log || length (new_entries log from es) == 0 then Nothing
    else Adopt (new_entries log from es)

-- the entries to be adopted have an encoding
abbrev pub FitsAdopted : Fit → Type 0
FitsAdopted (Adopt es) = FitsEntries es
FitsAdopted _ = Unit {0}

abbrev pub fit_in : Log → Control → Fit
fit_in log (Page epoch from es) = fit_of log epoch from es
fit_in log _ = Nothing
