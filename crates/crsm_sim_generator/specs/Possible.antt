-- The events that are possible in a world with this view.
use Rattle.std.specs.Prelude.{◌≡◌, ◌≤◌, ◌⊎◌, ℕ, true, List, length, None, Some, slice_get}
use Rattle.crsm_base.specs.Replicas.{majority}
use Rattle.crsm_sim_generator.specs.Drawing.{drawn_next}
use Rattle.crsm_sim_generator.specs.View.{View, is_up_in, up_replicas, down_replicas, fresh_to_any, fresh_to_up, used_to_up}
use Rattle.crsm_sim_generator.specs.declared.drawing.Drawing.{Drawing}
use Rattle.crsm_schedule.specs.declared.Event.{Event}
use Rattle.crsm_schedule.specs.declared.Event.TheVariants.{One, Lose, Crash, Start, Settle, CutLost, CutKept, Batch, CutLostBatch, CutAt}
use Rattle.crsm_schedule.specs.declared.Single.{Single}
use Rattle.crsm_schedule.specs.declared.Single.TheVariants.{Request, Go, Again, Tick, Suspect, Junk}

-- the number stands in the list
pub record IsAmong (numbers : List ℕ) (i : ℕ) : Type 0 where
  pub place : ℕ
  pub is : slice_get numbers place ≡ Some i

-- all replicas that are up are to be the members, a majority of n
pub record IsSuspicion (n : ℕ) (v : View) (r : ℕ) (members : List ℕ) : Type 0 where
  pub up : is_up_in v r ≡ true
  pub members_are : members ≡ up_replicas v
  pub enough : majority n ≤ length members

-- a replica that is down boots, or replica 0 where none is up
pub data CanStart (v : View) (k : ℕ) : Type 0 where
  one_down : IsAmong (down_replicas v) k → CanStart v k
  none_up : k ≡ 0 → slice_get (up_replicas v) 0 ≡ None → CanStart v k

-- The step has what it needs. Bytes from nowhere are never drawn.
abbrev pub SingleCanHappen : ℕ → View → Single → Type 0
SingleCanHappen n v (Request r reading command) = is_up_in v r ≡ true
SingleCanHappen n v (Go i reading) = IsAmong (fresh_to_up v) i
SingleCanHappen n v (Again i reading) = IsAmong (used_to_up v) i
SingleCanHappen n v (Tick r reading) = is_up_in v r ≡ true
SingleCanHappen n v (Suspect r reading members) = IsSuspicion n v r members
SingleCanHappen n v (Junk r reading bytes) = ⊥

-- The event has what it needs. Some kinds are never drawn.
abbrev pub CanHappen : ℕ → View → Event → Type 0
CanHappen n v (One single) = SingleCanHappen n v single
CanHappen n v (Lose i) = IsAmong (fresh_to_any v) i
CanHappen n v (Crash r) = is_up_in v r ≡ true
CanHappen n v (Start k) = CanStart v k
CanHappen n v (Settle reading) = Unit {0}
CanHappen n v (CutLost single) = ⊥
CanHappen n v (CutKept sends single) = SingleCanHappen n v single
CanHappen n v (Batch reading numbers) = ⊥
CanHappen n v (CutLostBatch reading numbers) = ⊥
CanHappen n v (CutAt calls fill single) = ⊥

abbrev pub DrawnCanHappen : Type 0
DrawnCanHappen = (n : ℕ) (v : View) (s : Drawing) → CanHappen n v (drawn_next n v s).0
