-- The effect of a boot.
use Rattle.std.proofs.Common.{◌≡◌, ◌+◌, ◌==◌, ℕ, true, false, cond, List, [], ◌∷◌, ◌++◌, length, map, Option, Some, None, refl, ap, sym, ◌∙◌, subst, arith, append-nil}
use Rattle.std.specs.Prelude.{slice_get, slice_set}
use Rattle.crsm_spec.specs.Types.{Datagram, Line}
use Rattle.crsm_spec.specs.Log.{Log}
use Rattle.crsm_spec.specs.Draft.{Draft, Reply}
use Rattle.crsm_spec.specs.Step.{boot}
use Rattle.crsm_spec.specs.World.{Site, Packet, World as Cluster, body_size, packet_of, packets_size, send_lines, whole_step, after_step, log_of, log_at}
use Rattle.crsm_spec.specs.Moments.{begun_at, with_room, start_at}
use Rattle.crsm_sim_machine.specs.declared.Boot.{Boot}
use Rattle.crsm_sim_machine.specs.Outcomes.{IsQuiet}
use Rattle.crsm_world.specs.declared.machines.Machines.{Machines}
use Rattle.crsm_sim_network.specs.declared.Network.{Network}
use Rattle.crsm_world.specs.declared.world.World.{World}
use Rattle.crsm_world.specs.Machines.{MachinesStand, MachinesBoot, roomed}
use Rattle.crsm_sim_network.specs.Packets.{NetworkStands}
use Rattle.crsm_world.specs.World.{Leads}
use Rattle.crsm_world.specs.Starting.{CanStart}
use Rattle.crsm_world.proofs.Turns.{log_here}
use Rattle.crsm_world.proofs.Leading.{leads_as}

pub room_is : (v : Cluster) (k : ℕ) → with_room v k ≡ record v { sites = roomed v.sites k }
unfolding with_room roomed
room_is v k = elim (k == length v.sites) as (λ b. cond b (record v { sites = v.sites ++ Site.Down [] ∷ [] }) v ≡ record v { sites = cond b (v.sites ++ Site.Down [] ∷ []) v.sites }) [ true ↦ refl | false ↦ refl ]

pub can_boot : (v : Cluster) (k : ℕ) (can : CanStart v k) → slice_get (roomed v.sites k) k ≡ Some (Site.Down can.log)
can_boot v k can = ap (λ (u : Cluster). slice_get u.sites k) (sym (room_is v k)) ∙ can.down

quiet_network : (network : Network) (packets : List Packet) (bytes k : ℕ) (sends : List (ℕ × Datagram)) → sends ≡ [] → NetworkStands network packets bytes → NetworkStands network (packets ++ map (packet_of k) sends) (bytes + packets_size sends)
unfolding packets_size
quiet_network network packets bytes k sends e h = rw e (rw (append-nil packets) (let z : bytes ≡ bytes + 0 = omega arith in subst (λ (n : ℕ). NetworkStands network packets n) z h))

quiet_lines : (ls ex : List Line) (k n : ℕ) (sends : List (ℕ × Datagram)) (replies : List Reply) → ex ≡ [] → sends ≡ [] → replies ≡ [] → ls ≡ ((ls ++ ex) ++ send_lines k n sends) ++ map (λ a. a.line) replies
unfolding send_lines
quiet_lines ls ex k n sends replies e f g = rw (e, f, g) (sym (append-nil ((ls ++ []) ++ []) ∙ append-nil (ls ++ []) ∙ append-nil ls))

leads_boot : (v u : Cluster) (k size : ℕ) (x : Draft) (w : World) (lines : List Line) → MachinesStand w.sites u.n (slice_set u.sites k (Site.Up x.replica))
    → NetworkStands w.network u.packets (u.bytes + size) → size ≡ body_size x.batch → IsQuiet x → lines ≡ x.lines → Leads (begun_at v (whole_step u k x)) w lines
unfolding begun_at whole_step after_step
leads_boot v u k size x w lines s p z q l = record {
  after = record { sites = s; network = quiet_network w.network u.packets (u.bytes + body_size x.batch) k x.sends q.sends (subst (λ (n : ℕ). NetworkStands w.network u.packets (u.bytes + n)) z p) };
  told = l ∙ quiet_lines x.lines x.excess k (length u.packets) x.sends x.replies q.excess q.sends q.replies;
}

pub log_down : (log : Log) → log_of (Site.Down log) ≡ log
unfolding log_of
log_down log = refl

pub started : (v : Cluster) (k : ℕ) (can : CanStart v k) (w : World) (made : Boot) (o : Option Boot) → o ≡ Some made → MachinesBoot v.n (roomed v.sites k) k can.log o w.sites
    → NetworkStands w.network v.packets (v.bytes + made.size) → Leads (start_at v k) w made.lines
unfolding start_at
started v k can w made o e b p =
    let boots = subst (λ (r : Option Boot). MachinesBoot v.n (roomed v.sites k) k can.log r w.sites) e b in
    let u : Cluster = record v { sites = roomed v.sites k } in
    let log : log_at u k ≡ can.log = log_here u k (Site.Down can.log) (can_boot v k can) ∙ log_down can.log in
    leads_as _ (begun_at v (whole_step u k (boot k v.n can.log))) w made.lines
    (ap (λ (t : Cluster). begun_at v (whole_step t k (boot k t.n (log_at t k)))) (room_is v k) ∙ ap (λ l. begun_at v (whole_step u k (boot k v.n l))) log)
    (leads_boot v u k made.size (boot k v.n can.log) w made.lines boots.1 p boots.0.size boots.0.quiet boots.0.lines)

pub not_started : (v : Cluster) (k : ℕ) (can : CanStart v k) (sites : Machines) (o : Option Boot) → o ≡ None → MachinesBoot v.n (roomed v.sites k) k can.log o sites → ⊥
not_started v k can sites o e b = subst (λ (r : Option Boot). MachinesBoot v.n (roomed v.sites k) k can.log r sites) e b
