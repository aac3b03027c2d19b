-- The reasons why a group is not durable, as errors of a node.
use Rattle.std.proofs.Common.{◌≡◌, IsTrue, ℕ, List, refl}
use Rattle.std.specs.Prelude.{Option, Err}
use Rattle.crsm_disk.specs.Meaning.{Meaning as DiskMeaning, Same}
use Rattle.crsm_port_faults.specs.Counts.{Rose}
use Rattle.crsm_port.specs.Meaning.{Meaning as PortMeaning}
use Rattle.crsm_spec.specs.Draft.{Draft}
use Rattle.crsm_spec.specs.Replica.{Replica}
use Rattle.crsm_shell.specs.Flushing.{IsFullFor, LeavesGroup, SendsNone}
use Rattle.crsm_shell.specs.Words.{disk_of}
use Rattle.crsm_shell.specs.declared.errors.TurnError.{TurnError}
use Rattle.crsm_shell.specs.declared.errors.TurnError.TheVariants as errors
use Rattle.crsm_shell.specs.declared.shell.Shell.{Shell}
use Rattle.crsm_node.specs.Errors.{turn_failure}
use Rattle.crsm_node.specs.Steps.{KeepsGroup}

-- the error of a failed flush
pub record FlushFails {D : Type 0} {g : _} (meaning : D → DiskMeaning) (before after : Shell D g) (old new : PortMeaning) (steps : List Draft) (why : TurnError) : Type 0 where
  pub no_port_fault : why ≡ errors.PortFault → ⊥
  pub not_failed : why ≡ errors.Failed → ⊥
  pub unsent : SendsNone old new
  pub fault : why ≡ errors.DiskFault → Rose (meaning (disk_of before)).faults (meaning (disk_of after)).faults
  pub unwritten : (why ≡ errors.DiskFault → ⊥) → Same (meaning (disk_of before)) (meaning (disk_of after))
  pub left : IsTrue (meaning (disk_of before)).honest → LeavesGroup meaning before after steps
  pub full : IsTrue (meaning (disk_of before)).honest → why ≡ errors.LogFull → IsFullFor meaning before steps
  pub not_full : IsTrue (meaning (disk_of before)).honest → why ≡ errors.DiskFault → IsFullFor meaning before steps → ⊥

other_full : errors.LogFull ≡ errors.DiskFault → ⊥
other_full is = cc

other_memory : errors.NoMemory ≡ errors.DiskFault → ⊥
other_memory is = cc

pub flush_fails : {D : Type 0} {g : _} (meaning : D → DiskMeaning) (before after : Shell D g) (old new : PortMeaning) (had : Option (List ℕ)) (faults : ℕ) (lines : List ℕ) (r : Replica) (steps : List Draft) (why : TurnError) →
    FlushFails meaning before after old new steps why → KeepsGroup meaning before after old new had had faults faults lines r steps (Err (turn_failure why))
flush_fails meaning before after old new had faults lines r steps errors.PortFault h = absurd (h.no_port_fault refl)
flush_fails meaning before after old new had faults lines r steps errors.Failed h = absurd (h.not_failed refl)
flush_fails meaning before after old new had faults lines r steps errors.DiskFault h =
    (record { unsent = h.unsent; unwritten = refl }, record { fault = h.fault refl; left = h.left; fits = λ honest. h.not_full honest refl })
flush_fails meaning before after old new had faults lines r steps errors.LogFull h =
    (record { unsent = h.unsent; unwritten = refl }, record { same = h.unwritten other_full; full = λ honest. h.full honest refl })
flush_fails meaning before after old new had faults lines r steps errors.NoMemory h = (record { unsent = h.unsent; unwritten = refl }, h.unwritten other_memory)
