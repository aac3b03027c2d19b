-- The entries that a ledger holds: those executed, and those logged in the known epoch.
use Rattle.std.specs.Prelude.{◌≡◌, ℕ, ◌<◌, true, List, [], ◌∷◌, ◌++◌, length, Option, Some}
use Rattle.std.specs.List.{AllByRecursion}
use Rattle.crsm_base.specs.Spelling.{FitsEntry, Rises}
use Rattle.crsm_spec.specs.Types.{Stamp, Entry, Line}
use Rattle.crsm_spec.specs.Lists.{first_of}
use Rattle.crsm_spec.specs.Log.{above}
use Rattle.crsm_spec.specs.Fits.{is_newest}
use Rattle.crsm_spec.specs.Lines.{exec_line}
use Rattle.crsm_ledger.specs.declared.history.History.{History}
use Rattle.crsm_ledger.specs.declared.kept.LoggedItem.{LoggedItem}
use Rattle.crsm_ledger.specs.Executed.{HistoryStands, Spells, last_stamp_in}
use Rattle.crsm_ledger.specs.Sorted.{AreKeptFor, items_above}

-- these are the executed entries, and the logged ones of epoch x, the known one
pub record Holds (history : History) (items : List LoggedItem) (x : ℕ) (done es : List Entry) : Type 0 where
  pub executed : HistoryStands history x done
  pub kept : AreKeptFor done items es

-- Some entries are executed, with these encodings, and some are logged, of which these items are kept. All have
-- encodings; those logged are of epoch x and rise.
pub record HasEntries (encodings : List (List ℕ)) (x : ℕ) (items : List LoggedItem) : Type 0 where
  pub done : List Entry
  pub logged : List Entry
  pub executed : Spells encodings done
  pub kept : AreKeptFor done items logged
  pub fit : AllByRecursion FitsEntry logged
  pub of_epoch : AllByRecursion (λ e. e.epoch ≡ x) logged
  pub rise : Rises logged

-- the entry is of epoch x, the known one, and newer than each logged one of its origin
pub record CanBeLogged (x : ℕ) (items : List LoggedItem) (e : Entry) : Type 0 where
  pub epoch : e.epoch ≡ x
  pub newest : (done es : List Entry) → AreKeptFor done items es → is_newest e es ≡ true

-- a logged entry is above the stamp of the last executed one
abbrev pub HasNext : Option Stamp → List LoggedItem → Type 0
HasNext last items = 0 < length (items_above last items)

-- the first logged entry above the last executed one is executed, with this line
pub record ExecutesNext (me x : ℕ) (done es : List Entry) (line : Line) (history : History) (items : List LoggedItem) : Type 0 where
  pub entry : Entry
  pub next : first_of (above (last_stamp_in x done) es) ≡ Some entry
  pub line_is : line ≡ exec_line me done entry
  pub holds : Holds history items x (done ++ entry ∷ []) es
