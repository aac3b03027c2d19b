-- The relation of a ledger's fields to the log that it stands for.
use Rattle.std.specs.Prelude.{◌≡◌, ℕ, ◌<◌, ◌≤◌, Bool, true, false, List, [], ◌∷◌, length, Option, Result, IfOk}
use Rattle.std.specs.List.{AllByRecursion}
use Rattle.crsm_base.specs.declared.NoMemory.{NoMemory}
use Rattle.crsm_base.specs.Spelling.{FitsEntry, Rises}
use Rattle.crsm_spec.specs.Types.{Ballot, Entry, Decision, Rec, Line}
use Rattle.crsm_spec.specs.Lists.{numbers_below}
use Rattle.crsm_spec.specs.Log.{Log, known, start, boots, live, suspended, has_entered, promised, accepted, logged_in, logged, executed}
use Rattle.crsm_spec.specs.Fits.{fits}
use Rattle.crsm_spec.specs.Lines.{lines_of}
pub use Rattle.crsm_fact_log.specs.Known.{founding}
unfoldable pub use Rattle.crsm_fact_log.specs.Known.{known_decision}
use Rattle.crsm_ledger.specs.declared.ledger.Ledger.{Ledger}
use Rattle.crsm_ledger.specs.Executed.{HistoryStands, Spells}
use Rattle.crsm_ledger.specs.Held.{CanBeLogged, HasNext}
use Rattle.crsm_ledger.specs.Sorted.{AreKeptFor}

-- Of epochs above the known one nothing is logged, executed or entered.
pub record NoneAbove (log : Log) : Type 0 where
  pub logged : (x : ℕ) → known log < x → logged_in x log ≡ []
  pub entered : (x : ℕ) → known log < x → has_entered x log ≡ false
  pub executed : AllByRecursion (λ e. e.epoch ≤ known log) (executed log)

-- the facts of a log that a ledger keeps as fields
pub record Facts : Type 0 where
  pub me : ℕ
  pub n : ℕ
  pub founders : List ℕ
  pub boots : ℕ
  pub known : Decision
  pub start : ℕ
  pub live : Bool
  pub suspended : Bool
  pub entered : Bool
  pub promised : Ballot
  pub accepted : Option (Ballot × Decision)

-- the facts in the fields of a ledger
abbrev pub fields_of : Ledger → Facts
fields_of l = record {
  me = l.me;
  n = l.n;
  founders = l.founders;
  boots = l.boots;
  known = l.known;
  start = l.start;
  live = l.is_live;
  suspended = l.is_suspended;
  entered = l.has_entered;
  promised = l.promised;
  accepted = l.accepted;
}

-- the facts of the log of replica me, in a cluster that began with n
unfoldable pub facts_of : ℕ → ℕ → Log → Facts
facts_of me n log = record {
  me = me;
  n = n;
  founders = numbers_below n;
  boots = boots log;
  known = known_decision n log;
  start = start log;
  live = live log;
  suspended = suspended log;
  entered = has_entered (known log) log;
  promised = promised log;
  accepted = accepted log;
}

-- how many entries the ledger has executed
unfoldable pub executed_count : Ledger → ℕ
executed_count l = length l.held.history.spelt

-- how many entries of the known epoch the ledger has logged
unfoldable pub logged_count : Ledger → ℕ
logged_count l = length l.held.logged

-- the number of the known epoch
unfoldable pub epoch_of : Ledger → ℕ
epoch_of l = l.held.history.epoch

-- these are the logged entries of the known epoch that the ledger holds
pub record HoldsLogged (l : Ledger) (es : List Entry) : Type 0 where
  pub done : List Entry
  pub executed : Spells l.held.history.spelt done
  pub kept : AreKeptFor done l.held.logged es

-- the ledger holds logged entries, which have encodings, are of the known epoch and rise
pub record HasLogged (l : Ledger) : Type 0 where
  pub entries : List Entry
  pub holds : HoldsLogged l entries
  pub fit : AllByRecursion FitsEntry entries
  pub of_epoch : AllByRecursion (λ e. e.epoch ≡ epoch_of l) entries
  pub rise : Rises entries

-- the ledger's entries let the record come next: it logs an entry that is newer, or there is one to execute
abbrev pub CanFollow : Ledger → Rec → Type 0
CanFollow l (Rec.Prepare e) = CanBeLogged l.held.history.epoch l.held.logged e
CanFollow l (Rec.Commit stamp) = HasNext l.held.history.last_stamp l.held.logged
CanFollow l (Rec.Boot me n) = Unit {0}
CanFollow l (Rec.Adopt place es) = Unit {0}
CanFollow l (Rec.Suspend x) = Unit {0}
CanFollow l (Rec.Promise i b) = Unit {0}
CanFollow l (Rec.Accept i b d) = Unit {0}
CanFollow l (Rec.Decide d) = Unit {0}
CanFollow l (Rec.Enter x) = Unit {0}

-- The fields of the ledger of replica me, in a cluster that began with n, are what the log says.
pub record FieldsStand (me n : ℕ) (ledger : Ledger) (log : Log) : Type 0 where
  pub few : n ≤ 15
  pub facts : fields_of ledger ≡ facts_of me n log
  pub kept : AreKeptFor (executed log) ledger.held.logged (logged log)
  pub executed : HistoryStands ledger.held.history (known log) (executed log)
  pub none_above : NoneAbove log

-- If the old ledger's fields are the facts of a log after which the record fits, the lines are the record's, and the
-- new ledger's fields are the facts of the log with the record; or memory ran out.
abbrev pub Keeps : Ledger → Rec → Result (List Line) NoMemory → Ledger → Type 0
Keeps old rec result new =
    (me n : ℕ) (log : Log) → FieldsStand me n old log → fits me n log rec ≡ true →
    IfOk result (λ lines. (lines ≡ lines_of me log rec) × FieldsStand me n new (rec ∷ log))

-- If the old ledger's fields are the facts of a log after which the record fits, the new one's fields are the facts of
-- the log with the record.
abbrev pub Follows : Ledger → Rec → Ledger → Type 0
Follows old rec new =
    (me n : ℕ) (log : Log) → FieldsStand me n old log → fits me n log rec ≡ true → FieldsStand me n new (rec ∷ log)

-- memory ran out while a record was applied, and the fields say nothing
abbrev pub IsSpent : Ledger → Type 0
IsSpent ledger = ledger.is_spent ≡ true

-- the ledger is not spent, and says what the log says
pub record LedgerStands (me n : ℕ) (ledger : Ledger) (log : Log) : Type 0 where
  pub unspent : ledger.is_spent ≡ false
  pub says : FieldsStand me n ledger log

-- a record's kind, its first byte
unfoldable pub kind : Rec → ℕ
kind (Rec.Boot me n) = 1
kind (Rec.Prepare e) = 2
kind (Rec.Commit s) = 3
kind (Rec.Adopt place es) = 4
kind (Rec.Suspend x) = 5
kind (Rec.Promise i b) = 6
kind (Rec.Accept i b d) = 7
kind (Rec.Decide d) = 8
kind (Rec.Enter x) = 9

-- for each log that the ledger stands for
abbrev pub WhereStands : Ledger → (ℕ → ℕ → Log → Type 0) → Type 0
WhereStands ledger P = (me n : ℕ) (log : Log) → LedgerStands me n ledger log → P me n log

-- for each log that the ledger says
abbrev pub WhereFieldsStand : Ledger → (ℕ → ℕ → Log → Type 0) → Type 0
WhereFieldsStand ledger P = (me n : ℕ) (log : Log) → FieldsStand me n ledger log → P me n log
