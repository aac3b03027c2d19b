-- The result of a boot.
use Rattle.std.specs.Prelude.{◌≡◌, ◌⊎◌, ℕ, ◌+◌, List, [], ◌∷◌, ◌++◌, length, false, IsTrue, Some}
use Rattle.crsm_base.specs.Records.{body_bytes}
use Rattle.crsm_spec.specs.Log.{Log}
use Rattle.crsm_spec.specs.Step.{boot}
use Rattle.crsm_spec.specs.World.{body_size}
use Rattle.crsm_port_faults.specs.Counts.{Rose}
use Rattle.crsm_port_faults.specs.Plan.{Plan}
use Rattle.crsm_disk.specs.Meaning.{Meaning}
use Rattle.crsm_ledger.specs.Recovered.{AreKept, IsBadAt}
use Rattle.crsm_log.specs.Format.{Reading, bad, bodies_of, found, gate_in, reading}
use Rattle.crsm_log.specs.Log.{Goes, MeetsIn, Serves, Used, mount_calls, mount_count, put_calls, recorded}
use Rattle.crsm_shell.specs.declared.begin.Begun.{Begun}
use Rattle.crsm_shell.specs.declared.boot.Booted.{Booted}
use Rattle.crsm_shell.specs.declared.errors.BootError.{BootError}
use Rattle.crsm_shell.specs.declared.errors.BootError.TheVariants as boots
use Rattle.crsm_shell.specs.declared.errors.TurnError.{TurnError}
use Rattle.crsm_shell.specs.Errors.{keep_failure}
use Rattle.crsm_shell.specs.Flushing.{IsFull, NotKept}
use Rattle.crsm_shell.specs.Shell.{HasLog, ShellStands}

-- the body that a boot on this log puts
abbrev pub boot_body : (me n : ℕ) → Log → List ℕ
boot_body me n log = body_bytes (boot me n log).batch

-- The boot on this log is kept and answered.
pub record Boots {D : Type 0} {g : _} (b : Booted D g) (new : Meaning) (me n : ℕ) (log : Log) : Type 0 where
  pub stands : ShellStands b.shell new (boot me n log).replica.log (boot me n log).replica []
  pub lines : b.lines ≡ (boot me n log).lines
  pub size : b.size ≡ body_size (boot me n log).batch

-- why the bodies of a file are no log of replica me
abbrev pub IsBadLog : (me n : ℕ) → (file : List ℕ) → (entry why : ℕ) → Type 0
IsBadLog me n file entry why =
    ((why ≡ 10) × (reading file ≡ bad entry)) ⊎ ((reading file ≡ found (bodies_of file)) × IsBadAt me n (bodies_of file) entry why)

-- how many calls of the disk are made before a log that reads so is refused
abbrev pub refusal_count : Reading → List ℕ → ℕ
refusal_count (found bodies) file = mount_count file
refusal_count (bad entry) file = 3

-- the log is refused, and not for a fault of the disk
abbrev pub IsOfLog : BootError → Type 0
IsOfLog (boots.BadLog entry why) = Unit {0}
IsOfLog boots.LogFull = Unit {0}
IsOfLog boots.DiskFault = ⊥
IsOfLog boots.NoMemory = ⊥

-- the file has a log, and the boot on it does not fit behind it
abbrev pub HasFullLog : (me n : ℕ) → List ℕ → Type 0
HasFullLog me n file = (log : Log) × HasLog me n file log × IsFull file (boot_body me n log)

-- It is not booted, and why.
pub record RefusesBoot (me n : ℕ) (old new : Meaning) (why : BootError) : Type 0 where
  pub goes : Goes old new
  pub fault : why ≡ boots.DiskFault → Rose old.faults new.faults
  pub meets : IsTrue old.honest → why ≡ boots.DiskFault → MeetsIn (mount_count old.seen + 4) old.plan
  pub bad_log : IsTrue old.honest → (entry kind : ℕ) → why ≡ boots.BadLog entry kind → IsBadLog me n old.seen entry kind
  pub full : IsTrue old.honest → why ≡ boots.LogFull → HasFullLog me n old.seen
  -- no call of the disk failed before
  pub served : IsTrue old.honest → IsOfLog why → (p : Plan) → old.plan ≡ Some p → Serves (refusal_count (reading old.seen) old.seen) p.good
  -- the log reads as before
  pub stays : IsTrue old.honest → (why ≡ boots.DiskFault → ⊥) → reading new.seen ≡ reading old.seen

-- The effect of a boot from this log on the disk: the calls of a mount and of a put.
pub record BootsOn (me n : ℕ) (log : Log) (old new : Meaning) : Type 0 where
  pub history : new.history ≡ recorded (put_calls (gate_in old.seen) (boot_body me n log)) (recorded (mount_calls old.seen) old.history)
  pub plan : (p : Plan) → old.plan ≡ Some p → Used (mount_count old.seen + 4) p new.plan
  pub fits : IsFull old.seen (boot_body me n log) → ⊥

-- what a crash could leave before, or a file that reads as the one before
abbrev pub ReadsAsBefore : Meaning → List ℕ → Type 0
ReadsAsBefore old file = old.may_leave file ⊎ (reading file ≡ reading old.seen)

-- a crash leaves what it might have left before, or the log as it was found or with the boot behind it
abbrev pub IsBootedOrBefore : (me n : ℕ) → Log → Meaning → List ℕ → Type 0
IsBootedOrBefore me n log old file = ReadsAsBefore old file ⊎ HasLog me n file (boot me n log).replica.log

-- the file has the log that was found and the boot on it, for which there was room
abbrev pub HasBoot : (me n : ℕ) → (found_file file : List ℕ) → Type 0
HasBoot me n found_file file =
    (log : Log) × HasLog me n found_file log × (IsFull found_file (boot_body me n log) → ⊥) × (reading file ≡ found (bodies_of found_file ++ boot_body me n log ∷ []))

-- a crash leaves what it might have left before, or the bodies as they were found or with the boot's behind them
abbrev pub IsLeftByBoot : (me n : ℕ) → Meaning → List ℕ → Type 0
IsLeftByBoot me n old file = ReadsAsBefore old file ⊎ HasBoot me n old.seen file

-- the body of the boot, for which there was room, is behind those that were found
abbrev pub AddsBoot : {D : Type 0} {g : _} → (me n : ℕ) → Booted D g → (old new : Meaning) → Type 0
AddsBoot me n b old new =
    (log : Log) → AreKept me n [] b.bodies log → (IsFull old.seen (boot_body me n log) → ⊥) × (reading new.seen ≡ found (b.bodies ++ boot_body me n log ∷ []))

-- ---- the boot that is kept on a mounted log

-- the shell is that of this boot, and nothing is pending
pub record IsBooted {D : Type 0} {g : _} (b : Booted D g) (begun : Begun) (bodies : List (List ℕ)) : Type 0 where
  pub core : b.shell.core.value ≡ begun.core.value
  pub peers : b.shell.peers.items ≡ begun.peers.items
  pub body : b.shell.body ≡ []
  pub outbox : b.shell.outbox ≡ []
  pub pending : b.shell.pending ≡ 0
  pub failed : b.shell.failed ≡ false
  pub found : b.bodies ≡ bodies
  pub lines : b.lines ≡ begun.lines
  pub size : b.size ≡ length begun.body

-- the body of the boot is not put, and why
pub record FailsToKeep (gate : ℕ) (body : List ℕ) (old new : Meaning) (why : BootError) : Type 0 where
  pub turn : TurnError
  pub is : why ≡ keep_failure turn
  pub not_kept : NotKept turn gate body old new
