-- The results of a machine's steps.
use Rattle.std.specs.Prelude.{◌≡◌, ℕ, Bool, true, false, ◌&&◌, nat_lt, List, [], ◌∷◌, ◌++◌, length, map, drop, Option, Some, None, if◌then◌else◌}
use Rattle.crsm_spec.specs.Log.{Log, spec}
use Rattle.crsm_spec.specs.Replica.{Replica}
use Rattle.crsm_spec.specs.Draft.{Draft}
use Rattle.crsm_spec.specs.World.{Site, body_size}
use Rattle.crsm_spec.specs.Moments.{is_kept}
use Rattle.crsm_base.specs.Messages.{datagram_bytes}
use Rattle.crsm_core.specs.Core.{Answers}
use Rattle.crsm_port_faults.specs.Failing.{good_of}
use Rattle.crsm_disk.specs.Memory.{Memory as Disk}
use Rattle.crsm_ledger.specs.Recovered.{with_records}
use Rattle.crsm_port.specs.Memory.{Memory}
use Rattle.crsm_shell.specs.declared.shell.Shell.{Shell}
use Rattle.crsm_shell.specs.Shell.{sends_of}
use Rattle.crsm_sim_machine.specs.declared.start.Running.{Running}
use Rattle.crsm_sim_machine.specs.declared.stopped.Stopped.{Stopped}
use Rattle.crsm_sim_machine.specs.declared.machine.Machine.{Machine}
use Rattle.crsm_sim_machine.specs.declared.step.Step.{Step}
use Rattle.crsm_sim_machine.specs.declared.step.Boot.{Boot}
use Rattle.crsm_sim_machine.specs.Machine.{MachineStands, MachinePends}
use Rattle.crsm_sim_machine.specs.States.{IsStopped, IsUpAs}

-- the step is what the draft has made, and takes as many bytes
pub record Makes (step : Step) (x : Draft) : Type 0 where
  pub batch : Answers step.batch x
  pub size : step.size ≡ body_size x.batch

-- the machine has made the step of a draft, and is up with the replica that the draft left
abbrev pub HasStepped : Machine → (me n : ℕ) → Step → Draft → Type 0
HasStepped machine me n step x = Makes step x × MachineStands machine me n (Site.Up x.replica)

-- the same where the step is pending, behind these
abbrev pub HasTaken : Machine → (me n : ℕ) → List Draft → Step → Draft → Type 0
HasTaken machine me n steps step x = Makes step x × MachinePends machine me n x.replica (steps ++ x ∷ [])

-- The shell of r, with this log on the disk, has made the step of a draft, which is pending behind others.
abbrev pub ShellHasTaken : {g : _} → Shell Disk g → (me n : ℕ) → Log → Replica → List Draft → Step → Draft → Type 0
ShellHasTaken shell me n kept r steps step x =
    Makes step x × (x.replica.log ≡ with_records r.log x.batch) × IsUpAs me n shell kept x.replica (steps ++ x ∷ [])

-- the shell has made the step of a draft, and nothing is pending
abbrev pub ShellHasStepped : {g : _} → Shell Disk g → (me n : ℕ) → Step → Draft → Type 0
ShellHasStepped shell me n step x = Makes step x × IsUpAs me n shell x.replica.log x.replica []

-- no call of the port fails
abbrev pub IsWell : Memory → Type 0
IsWell port = good_of port.failing ≡ None

-- from this index on the port has sent the output of these steps, in order, and nothing else; and no further call of it
-- fails
pub record Sends (port : Memory) (first : ℕ) (steps : List Draft) : Type 0 where
  pub texts : drop first (map (λ d. d.bytes) port.sent) ≡ map (λ s. datagram_bytes s.datagram) (sends_of steps)
  pub well : IsWell port

-- a draft that sends nothing, and whose lines are those of its records alone
pub record IsQuiet (x : Draft) : Type 0 where
  pub excess : x.excess ≡ []
  pub sends : x.sends ≡ []
  pub replies : x.replies ≡ []

-- the boot is what the draft has made, and takes as many bytes
pub record Boots (boot : Boot) (x : Draft) : Type 0 where
  pub lines : boot.lines ≡ x.lines
  pub size : boot.size ≡ body_size x.batch
  pub quiet : IsQuiet x

-- the machine has made a boot, and is up with the replica that the boot left
abbrev pub HasBooted : Machine → (me n : ℕ) → Boot → Draft → Type 0
HasBooted machine me n boot x = Boots boot x × MachineStands machine me n (Site.Up x.replica)

-- the same of a shell that was booted
abbrev pub IsRunning : (me n : ℕ) → Running → Draft → Type 0
IsRunning me n running x = (running.boot.lines ≡ x.lines) × (running.boot.size ≡ body_size x.batch) × IsUpAs me n running.shell x.replica.log x.replica []

-- ---- a step that is stopped

-- whether a step that stops after this number of device calls is durable
unfoldable pub is_cut_kept : ℕ → ℕ → Draft → Bool
is_cut_kept calls fill x = is_kept calls fill && nat_lt 0 (length x.batch)

-- the log that such a step leaves on the disk
abbrev pub log_after : (calls fill : ℕ) → Log → Draft → Log
log_after calls fill log x = if is_cut_kept calls fill x then x.replica.log else log

-- The step of r was stopped: the replica is down with its records, or without them.
abbrev pub IsCut : (calls fill me n : ℕ) → Replica → Draft → Option Step → Machine → Type 0
IsCut calls fill me n r x (Some step) machine =
    (is_cut_kept calls fill x ≡ true) × Makes step x × MachineStands machine me n (Site.Down x.replica.log)
IsCut calls fill me n r x None machine = (is_cut_kept calls fill x ≡ false) × MachineStands machine me n (Site.Down r.log)

-- the same for the state that is left
abbrev pub LeavesCut : (calls fill me n : ℕ) → Replica → Draft → Option Step → Stopped → Type 0
LeavesCut calls fill me n r x (Some step) left = (is_cut_kept calls fill x ≡ true) × Makes step x × IsStopped me n left x.replica.log
LeavesCut calls fill me n r x None left = (is_cut_kept calls fill x ≡ false) × IsStopped me n left r.log

-- ---- readers

-- the replicas whose majorities count in the known epoch, where the replica is up
unfoldable pub spec_at : ℕ → Site → Option (List ℕ)
spec_at n (Site.Up r) = Some (spec n r.log)
spec_at n (Site.Down log) = None
