-- What the state of a machine stands for.
use Rattle.std.specs.Prelude.{◌≡◌, ℕ, List, [], ◌∷◌, length, None}
use Rattle.std.specs.List.{AllByRecursion}
use Rattle.crsm_core.specs.Core.{FitsSent}
use Rattle.crsm_port_image.specs.Calls.{contents}
use Rattle.crsm_disk.specs.Memory.{Memory, meaning_of, good_left}
use Rattle.crsm_ledger.specs.Recovered.{with_records}
use Rattle.crsm_spec.specs.Log.{Log, known, executed}
use Rattle.crsm_spec.specs.Replica.{Replica}
use Rattle.crsm_spec.specs.Draft.{Draft}
use Rattle.crsm_spec.specs.World.{Site}
use Rattle.crsm_shell.specs.declared.stopped.StoppedLog.{StoppedLog}
use Rattle.crsm_shell.specs.declared.shell.Shell.{Shell}
use Rattle.crsm_shell.specs.Again.{IsStoppedLog, disk_in}
use Rattle.crsm_shell.specs.Shell.{HasLog, ShellStands, sends_of}
use Rattle.crsm_shell.specs.Words.{disk_of, peers_of}
use Rattle.crsm_sim_machine.specs.declared.stopped.LogSummary.{LogSummary}
use Rattle.crsm_sim_machine.specs.declared.stopped.Left.{Left}
use Rattle.crsm_sim_machine.specs.declared.stopped.Left.TheVariants as left
use Rattle.crsm_sim_machine.specs.declared.stopped.Stopped.{Stopped}
use Rattle.crsm_sim_machine.specs.declared.state.MachineState.{MachineState}
use Rattle.crsm_sim_machine.specs.declared.state.MachineState.TheVariants as state

-- ---- down

-- the disk holds this log of replica me, and all its calls go well
pub record IsDisk (me n : ℕ) (disk : Memory) (log : Log) : Type 0 where
  pub holds : HasLog me n (contents disk.first disk.calls) log
  pub well : good_left disk ≡ None

-- the summary of the records of a log
pub record SumsUp (summary : LogSummary) (log : Log) : Type 0 where
  pub known : summary.known ≡ known log
  pub executed : summary.executed ≡ length (executed log)

-- replica me left this log, with its ledger, and all calls of its disk go well
pub record IsLog (me n : ℕ) {g : _} (left : StoppedLog Memory g) (log : Log) : Type 0 where
  pub stands : IsStoppedLog left (meaning_of (disk_in left)) me n log
  pub well : good_left (disk_in left) ≡ None

-- this log of replica me is left
abbrev pub HasLeft : (me n : ℕ) → Left → Log → Type 0
HasLeft me n (left.Disk disk) log = IsDisk me n disk log
HasLeft me n (left.Log rest) log = IsLog me n rest log

-- replica me is down, and left this log
pub record IsStopped (me n : ℕ) (stopped : Stopped) (log : Log) : Type 0 where
  pub left : HasLeft me n stopped.left log
  pub summary : SumsUp stopped.summary log

-- ---- up

-- Replica me is up as r, and all its datagrams have an address. Its disk, whose calls do not fail, has the log `kept`;
-- these steps came since.
pub record IsUpAs (me n : ℕ) {g : _} (shell : Shell Memory g) (kept : Log) (r : Replica) (steps : List Draft) : Type 0 where
  pub is_me : r.me ≡ me
  pub began : r.n ≡ n
  pub stands : ShellStands shell (meaning_of (disk_of shell)) kept r steps
  pub peers : length (peers_of shell) ≡ 15
  pub fits : AllByRecursion FitsSent (sends_of steps)
  pub well : good_left (disk_of shell) ≡ None

-- for whatever replica the shell is, with its log on the disk and the steps that came since
abbrev pub WhereUpAs : {g : _} → Shell Memory g → ((me n : ℕ) → Log → Replica → List Draft → Type 0) → Type 0
WhereUpAs shell P = (me n : ℕ) (kept : Log) (r : Replica) (steps : List Draft) → IsUpAs me n shell kept r steps → P me n kept r steps

-- the same where one step has come since, which this draft made
abbrev pub WhereStepped : {g : _} → Shell Memory g → ((me n : ℕ) → Log → Draft → Type 0) → Type 0
WhereStepped shell P =
    (me n : ℕ) (kept : Log) (x : Draft) → IsUpAs me n shell kept x.replica (x ∷ []) → x.replica.log ≡ with_records kept x.batch → P me n kept x

-- ---- either

abbrev pub IsIn : (me n : ℕ) → MachineState → Site → Type 0
IsIn me n (state.Up shell) (Site.Up r) = IsUpAs me n shell r.log r []
IsIn me n (state.Up shell) (Site.Down log) = ⊥
IsIn me n (state.Down stopped) (Site.Up r) = ⊥
IsIn me n (state.Down stopped) (Site.Down log) = IsStopped me n stopped log
IsIn me n state.Spent s = ⊥

abbrev pub IsUpIn : (me n : ℕ) → MachineState → Replica → List Draft → Type 0
IsUpIn me n (state.Up shell) r steps = (kept : Log) × IsUpAs me n shell kept r steps
IsUpIn me n (state.Down stopped) r steps = ⊥
IsUpIn me n state.Spent r steps = ⊥

-- ---- which of them

-- the replica is up, or memory ran out
abbrev pub IsUpOrSpent : MachineState → Type 0
IsUpOrSpent (state.Up shell) = Unit {0}
IsUpOrSpent (state.Down stopped) = ⊥
IsUpOrSpent state.Spent = Unit {0}

-- the replica is down, or memory ran out
abbrev pub IsDownOrSpent : MachineState → Type 0
IsDownOrSpent (state.Up shell) = ⊥
IsDownOrSpent (state.Down stopped) = Unit {0}
IsDownOrSpent state.Spent = Unit {0}

-- ---- what is known of each machine

-- some log of replica me is on the disk
pub record HasSomeLog (me n : ℕ) (disk : Memory) : Type 0 where
  pub log : Log
  pub on_disk : IsDisk me n disk log

-- some log of replica me is left
pub record HasSomeLeft (me n : ℕ) (left : Left) : Type 0 where
  pub log : Log
  pub has : HasLeft me n left log

-- it is the log of some replica
pub record HasSomeReplica {g : _} (left : StoppedLog Memory g) : Type 0 where
  pub me : ℕ
  pub n : ℕ
  pub log : Log
  pub is : IsLog me n left log

-- replica me is up, on some log and with some steps that came since
pub record IsUp (me n : ℕ) {g : _} (shell : Shell Memory g) : Type 0 where
  pub kept : Log
  pub replica : Replica
  pub steps : List Draft
  pub is : IsUpAs me n shell kept replica steps

-- some replica is up
abbrev pub IsSomeUp : {g : _} → Shell Memory g → Type 0
IsSomeUp shell = (me : ℕ) × (n : ℕ) × IsUp me n shell

-- the state is one of replica me, or memory ran out
abbrev pub IsStateOf : (me n : ℕ) → MachineState → Type 0
IsStateOf me n (state.Up shell) = IsUp me n shell
IsStateOf me n (state.Down stopped) = HasSomeLeft me n stopped.left
IsStateOf me n state.Spent = Unit {0}
