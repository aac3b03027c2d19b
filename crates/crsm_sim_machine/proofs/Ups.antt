-- Errors that a shell which stands for a replica does not return.
use Rattle.std.proofs.Common.{◌≡◌, ℕ, List, Ok, Err, Bool, true, false, None, refl, sym, ◌∙◌, subst, arith}
use Rattle.std.proofs.lemmas.Option.{none-some}
use Rattle.crsm_disk.specs.Memory.{Memory, meaning_of as disk_meaning, good_left}
use Rattle.crsm_port_faults.specs.Counts.{Rose}
use Rattle.crsm_spec.specs.Log.{Log}
use Rattle.crsm_spec.specs.Draft.{Draft}
use Rattle.crsm_spec.specs.Replica.{Replica}
use Rattle.crsm_shell.specs.declared.errors.TurnError.{TurnError}
use Rattle.crsm_shell.specs.declared.errors.TurnError.TheVariants as errors
use Rattle.crsm_shell.specs.declared.shell.Shell.{Shell}
use Rattle.crsm_shell.specs.Flushing.{StopsGroup}
use Rattle.crsm_shell.specs.Shell.{ShellStands}
use Rattle.crsm_shell.specs.Taking.{Takes}
use Rattle.crsm_shell.specs.Words.{disk_of, has_failed}
use Rattle.crsm_replica_io.specs.declared.input.WantedInput.{WantedInput}
use Rattle.crsm_replica_io.specs.declared.input.WantedInput.TheVariants as what
use Rattle.crsm_replica_io.specs.declared.input.ReceivedInput.{ReceivedInput}
use Rattle.crsm_replica_io.specs.declared.input.ReceivedInput.TheVariants as taken
use Rattle.crsm_replica_io.specs.declared.input.TakeError.{TakeError}
use Rattle.crsm_replica_io.specs.declared.input.TakeError.TheVariants as take_error
use Rattle.crsm_replica_io.specs.Input.{TakesInput}
use Rattle.crsm_sim_machine.specs.declared.packet_port.PacketPort.{PacketPort}
use Rattle.crsm_sim_machine.specs.PacketPorts.{meaning_of}
use Rattle.crsm_sim_machine.proofs.Disks.{plan_of}

-- what cannot be
both : (b : Bool) → b ≡ true → b ≡ false → ⊥
both b is other = cc

-- ---- it has not failed

pub is_well : {g : _} (shell : Shell Memory g) (kept : Log) (r : Replica) (steps : List Draft) → ShellStands shell (disk_meaning (disk_of shell)) kept r steps → has_failed shell ≡ false
unfolding ShellStands
is_well shell kept r steps stands = stands.well

pub not_failed : {g : _} (shell : Shell Memory g) (kept : Log) (r : Replica) (steps : List Draft) → ShellStands shell (disk_meaning (disk_of shell)) kept r steps → has_failed shell ≡ true → ⊥
unfolding ShellStands
not_failed shell kept r steps stands failed = both (has_failed shell) failed stands.well

-- ---- no call of its disk fails

pub no_stop : {g : _} (before after : Shell Memory g) (kept : Log) (r : Replica) (steps : List Draft) → good_left (disk_of before) ≡ None → StopsGroup disk_meaning before after kept r steps → ⊥
no_stop before after kept r steps well stops = none-some stops.made (sym well ∙ stops.good (plan_of (disk_of before)) refl refl)

-- ---- its port does not fail

not_taken : (e : TakeError) (t : ReceivedInput) → Err e ≡ Ok t → ⊥
not_taken e t is = cc

no_port_fault : (p u : PacketPort) (wanted : WantedInput) (buffer : List ℕ) → TakesInput wanted 8192 buffer (meaning_of p) (meaning_of u) (Err take_error.PortFault) → ⊥
no_port_fault p u what.Receive buffer takes = let rose : Rose 0 0 = takes.fault refl in omega (arith, rose)
no_port_fault p u what.Tick buffer takes = not_taken take_error.PortFault taken.Tick takes.1
no_port_fault p u (what.Suspect ms) buffer takes = not_taken take_error.PortFault (taken.Suspect ms) takes.1

module _ (p u : PacketPort) (wanted : WantedInput) (buffer : List ℕ) (why : TurnError) (takes : Takes wanted buffer (meaning_of p) (meaning_of u) (Err why)) where
  for_it : (e : TurnError) → why ≡ e → Takes wanted buffer (meaning_of p) (meaning_of u) (Err e)
  for_it e is = subst (λ (x : TurnError). Takes wanted buffer (meaning_of p) (meaning_of u) (Err x)) is takes

  pub not_port_fault : why ≡ errors.PortFault → ⊥
  not_port_fault is = no_port_fault p u wanted buffer (for_it errors.PortFault is)

  pub not_disk_fault : why ≡ errors.DiskFault → ⊥
  not_disk_fault is = for_it errors.DiskFault is

  pub not_full : why ≡ errors.LogFull → ⊥
  not_full is = for_it errors.LogFull is
