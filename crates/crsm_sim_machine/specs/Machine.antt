-- What a machine stands for.
use Rattle.std.specs.Prelude.{◌≡◌, ℕ, List}
use Rattle.crsm_spec.specs.Log.{Log}
use Rattle.crsm_spec.specs.Replica.{Replica}
use Rattle.crsm_spec.specs.Draft.{Draft}
use Rattle.crsm_spec.specs.World.{Site}
use Rattle.crsm_sim_machine.specs.declared.machine.Machine.{Machine}
use Rattle.crsm_sim_machine.specs.States.{IsDownOrSpent, IsIn, IsUpIn, IsUpOrSpent}

-- The machine is this site of replica me, in a cluster that began with n.
unfoldable pub MachineStands : Machine → (me n : ℕ) → Site → Type 0
MachineStands machine me n s = (machine.me ≡ me) × (machine.n ≡ n) × IsIn me n machine.state s

-- The machine is up with r, whose last steps were these; they are not kept yet.
unfoldable pub MachinePends : Machine → (me n : ℕ) → Replica → List Draft → Type 0
MachinePends machine me n r steps = (machine.me ≡ me) × (machine.n ≡ n) × IsUpIn me n machine.state r steps

-- the machine is not down, and the machine is not up; it is neither where memory ran out
abbrev pub IsNotDown : Machine → Type 0
IsNotDown machine = IsUpOrSpent machine.state

abbrev pub IsNotUp : Machine → Type 0
IsNotUp machine = IsDownOrSpent machine.state

-- for each replica that is up on the machine, with these steps pending
abbrev pub WherePending : Machine → ((me n : ℕ) → Replica → List Draft → Type 0) → Type 0
WherePending machine P = (me n : ℕ) (r : Replica) (steps : List Draft) → MachinePends machine me n r steps → P me n r steps

-- for each log with which the machine is down
abbrev pub WhereDown : Machine → ((me n : ℕ) → Log → Type 0) → Type 0
WhereDown machine P = (me n : ℕ) (log : Log) → MachineStands machine me n (Site.Down log) → P me n log

-- for each site that the machine is
abbrev pub WhereStands : Machine → (ℕ → ℕ → Site → Type 0) → Type 0
WhereStands machine P = (me n : ℕ) (s : Site) → MachineStands machine me n s → P me n s

-- for each replica that is up on the machine, with nothing pending
abbrev pub WhereUp : Machine → (ℕ → ℕ → Replica → Type 0) → Type 0
WhereUp machine P = (me n : ℕ) (r : Replica) → MachineStands machine me n (Site.Up r) → P me n r
