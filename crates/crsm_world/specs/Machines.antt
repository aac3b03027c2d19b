-- The machines of the replicas, and their representation in memory.
use Rattle.std.specs.Prelude.{◌≡◌, ◌≢◌, ◌≤◌, ℕ, ◌+◌, Bool, true, false, ◌==◌, if◌then◌else◌, List, [], ◌∷◌, ◌++◌, length, Option, Some, None, slice_get, slice_set}
use Rattle.std.specs.Option.{option_map_or}
use Rattle.crsm_spec.specs.World.{Site, is_up}
use Rattle.crsm_spec.specs.Log.{Log}
use Rattle.crsm_spec.specs.Replica.{Replica}
use Rattle.crsm_spec.specs.Draft.{Draft}
use Rattle.crsm_spec.specs.Step.{boot}
use Rattle.crsm_sim_machine.specs.declared.Machine.{Machine}
use Rattle.crsm_sim_machine.specs.declared.Step.{Step}
use Rattle.crsm_sim_machine.specs.declared.Boot.{Boot}
use Rattle.crsm_sim_machine.specs.Outcomes.{IsWell, Makes, Sends, Boots, is_cut_kept, spec_at}
use Rattle.crsm_sim_machine.specs.Machine.{IsNotDown, IsNotUp, MachineStands, MachinePends}
use Rattle.crsm_world.specs.declared.machines.Machines.{Machines}

-- each machine is held as this says, by number from k
abbrev pub EachIs : (ℕ → Machine → Site → Type 0) → ℕ → List Machine → List Site → Type 0
EachIs P k [] [] = Unit {0}
EachIs P k (s ∷ sites) (p ∷ places) = P k s p × EachIs P (k + 1) sites places
EachIs P k [] (p ∷ places) = ⊥
EachIs P k (s ∷ sites) [] = ⊥

-- the machine is this site of replica k
abbrev pub IsSite : ℕ → ℕ → Machine → Site → Type 0
IsSite n k machine place = MachineStands machine k n place

-- the machines are these sites in a cluster that began with n, and no call of their port fails
pub record MachinesStand (sites : Machines) (n : ℕ) (places : List Site) : Type 0 where
  pub founders : sites.founders.count ≡ n
  pub few : length places ≤ 15
  pub each : EachIs (IsSite n) 0 sites.items.items places
  pub well : IsWell sites.port

-- the machine is up with these steps, which are not kept yet
pub record IsPending (n k : ℕ) (steps : List Draft) (machine : Machine) (place : Site) : Type 0 where
  pub replica : Replica
  pub up : place ≡ Site.Up replica
  pub pends : MachinePends machine k n replica steps

-- the machine is this site of replica j, where these steps of k are not kept yet
pub record IsSiteBeside (k n : ℕ) (steps : List Draft) (j : ℕ) (machine : Machine) (place : Site) : Type 0 where
  pub here : j ≡ k → IsPending n j steps machine place
  pub others : j ≢ k → MachineStands machine j n place

-- The same where the last steps of replica k, these, are not kept yet.
pub record MachinesPend (k : ℕ) (steps : List Draft) (sites : Machines) (n : ℕ) (places : List Site) : Type 0 where
  pub founders : sites.founders.count ≡ n
  pub few : length places ≤ 15
  pub each : EachIs (IsSiteBeside k n steps) 0 sites.items.items places
  pub well : IsWell sites.port

-- replica k was stopped in a step: it is down with the step's records, or without them
abbrev pub MachinesCut : (calls fill n : ℕ) → List Site → (k : ℕ) → Replica → Draft → Option Step → Machines → Type 0
MachinesCut calls fill n places k r x (Some step) sites =
    (is_cut_kept calls fill x ≡ true) × Makes step x × MachinesStand sites n (slice_set places k (Site.Down x.replica.log))
MachinesCut calls fill n places k r x None sites =
    (is_cut_kept calls fill x ≡ false) × MachinesStand sites n (slice_set places k (Site.Down r.log))

-- replica k has booted on this log
abbrev pub MachinesBoot : ℕ → List Site → (k : ℕ) → Log → Option Boot → Machines → Type 0
MachinesBoot n places k log (Some made) sites = Boots made (boot k n log) × MachinesStand sites n (slice_set places k (Site.Up (boot k n log).replica))
MachinesBoot n places k log None sites = ⊥

-- the places with one more, if k is the number of replicas
unfoldable pub roomed : List Site → ℕ → List Site
roomed places k = if k == length places then places ++ Site.Down [] ∷ [] else places

-- replica k is down with this log, or is the next new one
abbrev pub CanBoot : List Site → ℕ → Log → Type 0
CanBoot places k log = slice_get (roomed places k) k ≡ Some (Site.Down log)

-- the replicas whose majorities count in the known epoch of k, where it is up
unfoldable pub spec_in : ℕ → List Site → ℕ → Option (List ℕ)
spec_in n places k = option_map_or (spec_at n) (slice_get places k) None

-- replica k is up
unfoldable pub is_up_in : List Site → ℕ → Bool
is_up_in places k = option_map_or is_up (slice_get places k) false

-- its number, where it is up
unfoldable pub up_in : List Site → ℕ → Option ℕ
up_in places k = if is_up_in places k then Some k else None

-- machine k is not down, and machine k is not up, if there is one; it is neither where memory ran out
abbrev pub IsNotDownAt : Machines → ℕ → Type 0
IsNotDownAt machines k = (machine : Machine) → slice_get machines.items.items k ≡ Some machine → IsNotDown machine

abbrev pub IsNotUpAt : Machines → ℕ → Type 0
IsNotUpAt machines k = (machine : Machine) → slice_get machines.items.items k ≡ Some machine → IsNotUp machine

-- for the sites that the machines are
abbrev pub WhereMachinesStand : Machines → (ℕ → List Site → Type 0) → Type 0
WhereMachinesStand machines P = (n : ℕ) (sites : List Site) → MachinesStand machines n sites → P n sites

-- for the sites that the machines are, and the one of replica k among them
abbrev pub WhereSite : Machines → ℕ → (ℕ → List Site → Site → Type 0) → Type 0
WhereSite machines k P = (n : ℕ) (sites : List Site) (p : Site) → MachinesStand machines n sites → slice_get sites k ≡ Some p → P n sites p

-- for the sites that the machines are, where replica k is up
abbrev pub WhereUp : Machines → ℕ → (ℕ → List Site → Replica → Type 0) → Type 0
WhereUp machines k P =
    (n : ℕ) (sites : List Site) (r : Replica) → MachinesStand machines n sites → slice_get sites k ≡ Some (Site.Up r) → P n sites r

-- the same where its last steps are not kept yet
abbrev pub WherePending : Machines → ℕ → (ℕ → List Site → Replica → List Draft → Type 0) → Type 0
WherePending machines k P =
    (n : ℕ) (sites : List Site) (r : Replica) (steps : List Draft) → MachinesPend k steps machines n sites → slice_get sites k ≡ Some (Site.Up r) → P n sites r steps

-- The step is the output of the draft, and the machines are these sites with the draft's replica at k. The port has
-- sent, from this index on, the draft's datagrams.
abbrev pub StepsTo : Step → (first : ℕ) → Draft → Machines → ℕ → List Site → ℕ → Type 0
StepsTo step first x machines n sites k =
    Makes step x × MachinesStand machines n (slice_set sites k (Site.Up x.replica)) × Sends machines.port first (x ∷ [])

-- the step is not kept yet, behind others
abbrev pub PendsTo : Step → List Draft → Draft → Machines → ℕ → List Site → ℕ → Type 0
PendsTo step steps x machines n sites k = Makes step x × MachinesPend k (steps ++ x ∷ []) machines n (slice_set sites k (Site.Up x.replica))
