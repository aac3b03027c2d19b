-- When a world shows the hosts of a cluster, and the changes that keep this at one of them.
use Rattle.std.proofs.Common.{◌≡◌, ℕ, ◌<◌, ◌≤◌, List, [], length, refl, sym, ap, subst, inl, inr, arith}
use Rattle.std.specs.Prelude.{Option, Some, None, slice_get}
use Rattle.std.specs.Option.{option_map_or}
use Rattle.std.proofs.lemmas.Bool.{cases_eq}
use Rattle.crsm_spec.specs.Types.{Datagram}
use Rattle.crsm_spec.specs.Lists.{Among}
use Rattle.crsm_spec.specs.Log.{Log}
use Rattle.crsm_spec.specs.Replica.{Replica}
use Rattle.crsm_spec.specs.Draft.{Reply}
use Rattle.crsm_spec.specs.Step.{founding_boot}
use Rattle.crsm_spec.specs.World.{Site, World}
use Rattle.crsm_fact_log.specs.Logs.{same}
use Rattle.crsm_law_steps.specs.Laws.{LogsGoOn}
use Rattle.crsm_law_steps.specs.Happenings.{WasSent}
use Rattle.crsm_law_cluster.specs.Clusters.{Outgoing, Process, Host, Cluster, empty_host, host_at, with_host}
use Rattle.crsm_law_cluster.proofs.Lists.{got_set, got_other, set_length}
use Rattle.crsm_law_cluster.proofs.Pending.{Pending, Later, pending_later}
use Rattle.crsm_law_cluster.proofs.Came.{ShowsSent}
use Rattle.crsm_law_cluster.specs.Told.{IsTold}
use Rattle.crsm_law_cluster.proofs.Witnesses.{IsWitnessed, told_later}

-- what waits to go out was sent or told in the world
pub record Out (n : ℕ) (w : World) (k : ℕ) (ps : List Outgoing) : Type 0 where
  pub sent : (j : ℕ) (d : Datagram) → Among ps (Outgoing.ToReplica j d) → WasSent w k j d
  pub told : (a : Reply) → Among ps (Outgoing.ToClient a) → IsTold n w a

pub none_out : (n : ℕ) (w : World) (k : ℕ) (ps : List Outgoing) → ps ≡ [] → Out n w k ps
none_out n w k ps e = record {
  sent = λ j d a. absurd (subst (λ qs. Among qs (Outgoing.ToReplica j d)) e a);
  told = λ b a. absurd (subst (λ qs. Among qs (Outgoing.ToClient b)) e a);
}

pub data Shown (n : ℕ) (w : World) (k : ℕ) : Host → Option Site → Type 0 where
  absent : Shown n w k (record { log = []; process = None }) None
  unstarted : k < n → Shown n w k (record { log = []; process = None }) (Some (Site.Up (founding_boot k n).replica))
  of_down : (log : Log) → Shown n w k (record { log = log; process = None }) (Some (Site.Down log))
  of_up : (r : Replica) (x : Process) → Pending w k r x.pending x.replica → Out n w k x.outbox → Shown n w k (record { log = r.log; process = Some x }) (Some (Site.Up r))

pub record Shows (n : ℕ) (c : Cluster) (w : World) : Type 0 where
  pub reached : IsWitnessed n w
  pub size : c.n ≡ n
  pub few : length w.sites ≤ 15
  pub wide : length c.hosts ≤ 15
  pub all : (k : ℕ) → Shown n w k (host_at c k) (slice_get w.sites k)
  pub sent : ShowsSent c w

pub shown_later : (n : ℕ) (w u : World) (k : ℕ) (p : Host) (s : Option Site) → Later w u → LogsGoOn w u → Shown n w k p s → Shown n u k p s
shown_later n w u k _ _ l on absent = absent
shown_later n w u k _ _ l on (unstarted lt) = unstarted lt
shown_later n w u k _ _ l on (of_down log) = of_down log
shown_later n w u k _ _ l on (of_up r x p o) = of_up r x (pending_later w u k r x.replica x.pending l p) (record { sent = λ j d a. l k j d (o.sent j d a); told = λ b a. told_later n w u b on (o.told b a) })

-- ---- hosts of a cluster

pub host_is : (c : Cluster) (k : ℕ) (p : Host) (q : Host) → slice_get c.hosts k ≡ Some q → host_at (with_host c k p) k ≡ p
unfolding host_at with_host
host_is c k p q e = ap (λ o. option_map_or (λ z. z) o empty_host) (got_set c.hosts k q p e)

pub host_other : (c : Cluster) (k j : ℕ) (p : Host) → (j ≡ k → ⊥) → host_at (with_host c k p) j ≡ host_at c j
unfolding host_at with_host
host_other c k j p ne = ap (λ o. option_map_or (λ z. z) o empty_host) (got_other c.hosts k j p ne)

-- the world of a cluster of which one place is changed, where it shows that place and what it showed before elsewhere
pub record Moved (n : ℕ) (w : World) (k : ℕ) (p : Host) : Type 0 where
  pub world : World
  pub reached : IsWitnessed n world
  pub few : length world.sites ≤ 15
  pub later : Later w world
  pub goes_on : LogsGoOn w world
  pub others : (j : ℕ) → (j ≡ k → ⊥) → slice_get world.sites j ≡ slice_get w.sites j
  pub there : Shown n world k p (slice_get world.sites k)

pub moved : (n : ℕ) (c : Cluster) (w : World) (k : ℕ) (p q : Host) → slice_get c.hosts k ≡ Some q → Shows n c w → (m : Moved n w k p) → Shows n (with_host c k p) m.world
unfolding with_host
moved n c w k p q e h m = record {
  reached = m.reached;
  size = h.size;
  few = m.few;
  wide = (let l = set_length c.hosts k p in let t = h.wide in omega (arith, l, t));
  all = λ j. elim (cases_eq j k) [
    | inl is ↦ subst (λ i. Shown n m.world i (host_at (with_host c k p) i) (slice_get m.world.sites i)) (sym is) (subst (λ z. Shown n m.world k z (slice_get m.world.sites k)) (sym (host_is c k p q e)) m.there)
    | inr ne ↦ subst (λ z. Shown n m.world j z (slice_get m.world.sites j)) (sym (host_other c k j p ne)) (subst (Shown n m.world j (host_at c j)) (sym (m.others j ne)) (shown_later n w m.world j (host_at c j) (slice_get w.sites j) m.later m.goes_on (h.all j)))
  ];
  sent = λ j d a. let s = h.sent j d a in (s.0, m.later s.0 j d s.1);
}

pub stay : (n : ℕ) (w : World) (k : ℕ) (p : Host) → IsWitnessed n w → length w.sites ≤ 15 → Shown n w k p (slice_get w.sites k) → Moved n w k p
stay n w k p g few h = record { world = w; reached = g; few = few; later = λ from to d s. s; goes_on = λ j. same; others = λ j ne. refl; there = h }
