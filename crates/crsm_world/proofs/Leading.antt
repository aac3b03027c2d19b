-- The effects of the endings of a step.
use Rattle.std.proofs.Common.{◌≡◌, ◌-◌, ℕ, true, false, cond, List, [], ◌∷◌, ◌++◌, length, take, Some, append_assoc, ap, sym, ◌∙◌, subst, append-nil}
use Rattle.std.specs.Prelude.{slice_get, slice_set}
use Rattle.crsm_spec.specs.Types.{Line}
use Rattle.crsm_spec.specs.Draft.{Draft}
use Rattle.crsm_spec.specs.Node.{Turn, turn}
use Rattle.crsm_spec.specs.World.{Site, World as Cluster, Moment, Ending, whole_step, cut_step, lost_step, then_down, after_step, down, with_site, log_of}
use Rattle.crsm_spec.specs.Moments.{silent, cut_at, begun_at, world_after, lines_of}
use Rattle.crsm_world.specs.Several.{together}
use Rattle.crsm_sim_machine.specs.Outcomes.{is_cut_kept}
use Rattle.crsm_world.specs.declared.world.World.{World}
use Rattle.crsm_world.specs.Machines.{MachinesStand}
use Rattle.crsm_sim_network.specs.Packets.{NetworkStands}
use Rattle.crsm_sim_network.specs.declared.Network.{Network}
use Rattle.crsm_world.specs.declared.machines.Machines.{Machines}
use Rattle.crsm_world.specs.declared.ending.Effects.{Effects}
use Rattle.crsm_world.specs.Effects.{LetsOut, Leaves}
use Rattle.crsm_world.specs.Turning.{turn_at}
use Rattle.crsm_world.specs.World.{Leads, LeadsOn}
use Rattle.crsm_world.proofs.Turns.{IsUp, turn_here, log_here}

-- ---- behind other lines

pub on_as : (m n : Moment) (s : Machines) (p : Network) (before lines : List Line) → m ≡ n → LeadsOn n s p before lines → LeadsOn m s p before lines
on_as m n s p before lines e h = subst (λ (x : Moment). LeadsOn x s p before lines) (sym e) h

pub on_still : (v : Cluster) (s : Machines) (p : Network) (lines : List Line) → MachinesStand s v.n v.sites → NetworkStands p v.packets v.bytes → LeadsOn (silent v v) s p lines lines
unfolding silent
on_still v s p lines places packets = record { places = places; packets = packets; told = sym (append-nil lines) }

pub on_whole : (v : Cluster) (k : ℕ) (x : Draft) (s : Machines) (p : Network) (before lines : List Line) → MachinesStand s v.n (slice_set v.sites k (Site.Up x.replica))
    → LetsOut before v.packets v.bytes k x x.sends x.replies p lines → LeadsOn (whole_step v k x) s p before lines
unfolding whole_step after_step
on_whole v k x s p before lines h o = record { places = h; packets = o.stands; told = o.told }

pub on_kept : (count : ℕ) (v : Cluster) (k : ℕ) (x : Draft) (s : Machines) (p : Network) (before lines all : List Line) → MachinesStand s v.n (slice_set v.sites k (Site.Down x.replica.log))
    → LetsOut before v.packets v.bytes k x (take count x.sends) (take (count - length x.sends) x.replies) p lines → all ≡ lines ++ Line.Down k ∷ [] → LeadsOn (cut_step count v k x) s p before all
unfolding cut_step then_down after_step
on_kept count v k x s p before lines all h o e = record { places = h; packets = o.stands; told = e ∙ ap (λ ls. ls ++ Line.Down k ∷ []) o.told ∙ append_assoc before _ (Line.Down k ∷ []) }

pub on_down : (v : Cluster) (k : ℕ) (place : Site) (s : Machines) (p : Network) (before all : List Line) → slice_get v.sites k ≡ Some place → MachinesStand s v.n (slice_set v.sites k (Site.Down (log_of place)))
    → NetworkStands p v.packets v.bytes → all ≡ before ++ Line.Down k ∷ [] → LeadsOn (down v k) s p before all
unfolding down with_site
on_down v k place s p before all e h packets g = record {
  places = subst (λ (log : _). MachinesStand s v.n (slice_set v.sites k (Site.Down log))) (sym (log_here v k place e)) h;
  packets = packets;
  told = g;
}

pub on_begun : (v : Cluster) (m : Moment) (s : Machines) (p : Network) (before lines : List Line) → LeadsOn m s p before lines → LeadsOn (begun_at v m) s p before lines
unfolding begun_at
on_begun v m s p before lines h = record { places = h.places; packets = h.packets; told = h.told }

-- behind no lines
pub leads_on : (m : Moment) (w : World) (before lines : List Line) → before ≡ [] → LeadsOn m w.sites w.network before lines → Leads m w lines
leads_on m w before lines e h = record { after = record { sites = h.places; network = h.packets }; told = h.told ∙ ap (λ ls. ls ++ m.lines) e }

-- ---- what is left

pub leaves_as : (m n : Moment) (v : Cluster) (l : Effects) (s : Machines) → m ≡ n → Leaves n v l s → Leaves m v l s
leaves_as m n v l s e h = subst (λ (x : Moment). Leaves x v l s) (sym e) h

pub leaves_cut : (calls fill : ℕ) (v : Cluster) (k : ℕ) (x : Draft) (l : Effects) (s : Machines) → is_cut_kept calls fill x ≡ true → Leaves (cut_step 0 v k x) v l s → Leaves (cut_at calls fill v k x) v l s
unfolding cut_at is_cut_kept
leaves_cut calls fill v k x l s e h = leaves_as (cut_at calls fill v k x) (cut_step 0 v k x) v l s (ap (λ b. cond b (cut_step 0 v k x) (lost_step v k x)) e) h

pub leaves_lost : (calls fill : ℕ) (v : Cluster) (k : ℕ) (x : Draft) (l : Effects) (s : Machines) → is_cut_kept calls fill x ≡ false → Leaves (down v k) v l s → Leaves (cut_at calls fill v k x) v l s
unfolding cut_at is_cut_kept lost_step
leaves_lost calls fill v k x l s e h = leaves_as (cut_at calls fill v k x) (down v k) v l s (ap (λ b. cond b (cut_step 0 v k x) (lost_step v k x)) e) h

pub leaves_here : (ends : Ending) (v : Cluster) (k j : ℕ) (t : Turn) (reading : ℕ) (l : Effects) (s : Machines) (u : IsUp v.sites k j) → Leaves (ends v j (turn u.replica (t, reading))) v l s → Leaves (turn_at ends v k t reading) v l s
leaves_here ends v k j t reading l s u h =
    leaves_as (turn_at ends v k t reading) (ends v j (turn u.replica (t, reading))) v l s (turn_here ends v k t reading u.replica u.up ∙ ap (λ i. ends v i (turn u.replica (t, reading))) (sym u.number)) h

-- ---- a whole world

pub leads_as : (m n : Moment) (w : World) (lines : List Line) → m ≡ n → Leads n w lines → Leads m w lines
leads_as m n w lines e h = subst (λ (x : Moment). Leads x w lines) (sym e) h

pub leads_still : (v : Cluster) (w : World) (lines : List Line) → MachinesStand w.sites v.n v.sites → NetworkStands w.network v.packets v.bytes → lines ≡ [] → Leads (silent v v) w lines
unfolding silent
leads_still v w lines s p e = record { after = record { sites = s; network = p }; told = e }

pub leads_begun : (v : Cluster) (m : Moment) (w : World) (lines : List Line) → Leads m w lines → Leads (begun_at v m) w lines
unfolding begun_at
leads_begun v m w lines h = record { after = h.after; told = h.told }

-- one moment as an act
pub leads_one : (v : Cluster) (m : Moment) (w : World) (lines : List Line) → Leads m w lines → Leads (together v (m ∷ [])) w lines
unfolding together world_after lines_of
leads_one v m w lines h = record { after = h.after; told = h.told ∙ sym (append-nil m.lines) }
