-- The world of a calm cluster.
use Rattle.std.proofs.Common.{◌≡◌, ℕ, zero, suc, ◌≤◌, ◌<◌, List, [], ◌∷◌, length, refl, sym, ◌∙◌, ap, subst, inl, inr, true, arith}
use Rattle.std.specs.Prelude.{◌⊎◌, Option, Some, None, slice_get, slice_set, Contains}
use Rattle.std.specs.Option.{option_map_or}
use Rattle.std.proofs.lemmas.Bool.{cases_eq, cases_lt, false≢true}
use Rattle.std.proofs.lemmas.List.{append-nil}
use Rattle.std.proofs.lemmas.Option.{none-some, same_Some}
use Rattle.crsm_spec.specs.Types.{Entry, Decision, Rec, Datagram}
use Rattle.crsm_spec.specs.Lists.{Among}
use Rattle.crsm_spec.specs.Log.{Log, executed}
use Rattle.crsm_spec.specs.Replica.{Replica, fresh, unacked}
use Rattle.crsm_spec.specs.Draft.{begun, keep}
use Rattle.crsm_spec.specs.Step.{founding_boot, boot_again}
use Rattle.crsm_spec.specs.World.{Site, Packet, World, log_of, log_at}
use Rattle.crsm_spec.specs.Moments.{use_up}
use Rattle.crsm_spec.specs.Calm.{IsOpen}
use Rattle.crsm_fact_log.proofs.Lists.{all_at, all_from}
use Rattle.crsm_law_steps.specs.Happenings.{IsReached, WasSent}
use Rattle.crsm_law_epoch.proofs.Worlds.{log_there}
use Rattle.crsm_law_agreement.proofs.Choice.{contains_among}
use Rattle.crsm_law_bounds.specs.Bounds.{IsSpelt, HasShortLogs as AreShort}
use Rattle.crsm_law_bounds.proofs.Worlds.{short_logs_are_spelt}
use Rattle.crsm_law_runs.proofs.DurableLists.{among_contains, among_place}
use Rattle.crsm_law_rounds.specs.Rounds.{GoesCalmly}
use Rattle.crsm_law_rounds.specs.Rounds.GoesCalmly.{stay, marks}
use Rattle.crsm_law_rounds.specs.Members.{IsMemberUp, AllUp}
use Rattle.crsm_law_rounds.proofs.Going.{up_one, mark_sites, calm_reached}
use Rattle.crsm_law_rounds.proofs.Executed.{decided_on}
use Rattle.crsm_law_rounds.proofs.Spreading.{CalmStart}
use Rattle.crsm_law_rounds.proofs.Starting.{runs_member}
use Rattle.crsm_law_rounds.proofs.Parts.{sent_calm, NoParts, LowDecisions}
use Rattle.crsm_law_cluster.specs.Clusters.{Outgoing, Process, Host, Cluster, host_at, log_in}
use Rattle.crsm_law_cluster.specs.Showing.{IsLogOf}
use Rattle.crsm_law_cluster.specs.HistoryLaws.{HasShortLogs}
use Rattle.crsm_law_cluster.specs.OneList.{world_of}
use Rattle.crsm_law_cluster.proofs.Lists.{got_set, got_other, set_length, below}
use Rattle.crsm_law_cluster.proofs.Pending.{Pending, keep_all}
use Rattle.crsm_law_cluster.proofs.Pending.Pending.{nothing}
use Rattle.crsm_law_cluster.proofs.Shown.{Out, Shown, Shows, shown_later}
use Rattle.crsm_law_cluster.proofs.Shown.Shown.{absent, unstarted, of_down, of_up}
use Rattle.crsm_law_cluster.proofs.Showing.{shown_by}
use Rattle.crsm_law_cluster.proofs.Agree.{shown_short}
use Rattle.crsm_law_cluster.proofs.Views.{log_is}
use Rattle.crsm_law_cluster.proofs.Witnesses.{reached_by, told_later}
use Rattle.crsm_law_calm.specs.Calm.{HasKept, IsCalmNode, IsCalmCluster}
use Rattle.crsm_law_calm.proofs.Halves.{AtRest}

-- ---- all that is kept is in the world

-- the site of a process
record Running (n : ℕ) (w : World) (k : ℕ) (p : Host) (x : Process) : Type 0 where
  replica : Replica
  up : slice_get w.sites k ≡ Some (Site.Up replica)
  pending : Pending w k replica x.pending x.replica
  out : Out n w k x.outbox

running : (n : ℕ) (w : World) (k : ℕ) (p : Host) (s : Option Site) → Shown n w k p s → slice_get w.sites k ≡ s → (x : Process) → p.process ≡ Some x → Running n w k p x
running n w k _ _ absent e x is = absurd (none-some x is)
running n w k _ _ (unstarted f) e x is = absurd (none-some x is)
running n w k _ _ (of_down log) e x is = absurd (none-some x is)
running n w k _ _ (of_up r y p o) e x is =
    let one = same_Some y x is in
    record { replica = r; up = e; pending = subst (λ (z : Process). Pending w k r z.pending z.replica) one p; out = subst (λ (z : Process). Out n w k z.outbox) one o }

host_is : (p : Host) (log : Log) (x : Process) → p.log ≡ log → p.process ≡ Some x → p ≡ record { log = log; process = Some x }
host_is p log x a b = ap (λ l. record { log = l; process = p.process }) a ∙ ap (λ q. record { log = log; process = q }) b

-- a world in which these members are what their processes are
record Kept (n : ℕ) (c : Cluster) (ks : List ℕ) : Type 0 where
  world : World
  shows : Shows n c world
  up : (k : ℕ) (x : Process) → Among ks k → HasKept c k x → slice_get world.sites k ≡ Some (Site.Up x.replica)

keep_members : (n : ℕ) (c : Cluster) (w : World) → Shows n c w → (ks : List ℕ) → ((k : ℕ) → Among ks k → (x : Process) × HasKept c k x) → Kept n c ks
unfolding log_in
keep_members n c w s [] h = record { world = w; shows = s; up = λ k x a. absurd a }
keep_members n c w s (k ∷ ks) h =
    let t = keep_members n c w s ks (λ j a. h j (inr a)) in
    let u = t.world in
    let y = h k (inl refl) in
    let x = y.0 in
    let r = running n u k (host_at c k) (slice_get u.sites k) (t.shows.all k) refl x y.1.runs in
    let m = keep_all n u k r.replica x.replica x.pending t.shows.reached r.up r.pending in
    let still : Pending m.world k x.replica x.pending x.replica = subst (λ z. Pending m.world k x.replica z x.replica) (sym y.1.pending) nothing in
    let out : Out n m.world k x.outbox = record { sent = λ j d a. m.later k j d (r.out.sent j d a); told = λ b a. told_later n u m.world b m.goes_on (r.out.told b a) } in
    let here : Shown n m.world k (host_at c k) (Some (Site.Up x.replica)) =
    subst (λ p. Shown n m.world k p (Some (Site.Up x.replica))) (sym (host_is (host_at c k) x.replica.log x y.1.log y.1.runs)) (of_up x.replica x still out) in
    record {
      world = m.world;
      shows = record {
        reached = m.reached;
        size = t.shows.size;
        few = (let l = m.size in let f = t.shows.few in omega (arith, l, f));
        wide = t.shows.wide;
        all = λ j. elim (cases_eq j k) [
          | inl is ↦ subst (λ i. Shown n m.world i (host_at c i) (slice_get m.world.sites i)) (sym is) (subst (Shown n m.world k (host_at c k)) (sym m.up) here)
          | inr ne ↦ subst (Shown n m.world j (host_at c j)) (sym (m.others j ne)) (shown_later n u m.world j (host_at c j) (slice_get u.sites j) m.later m.goes_on (t.shows.all j))
        ];
        sent = λ j d a. let z = t.shows.sent j d a in (z.0, m.later z.0 j d z.1);
      };
      up = λ j z a keeps. elim (cases_eq j k) [
        | inl is ↦ (let one : z ≡ x = same_Some z x (sym keeps.runs ∙ subst (λ i. (host_at c i).process ≡ Some x) (sym is) y.1.runs) in
            subst (λ i. slice_get m.world.sites i ≡ Some (Site.Up z.replica)) (sym is) (subst (λ (p : Process). slice_get m.world.sites k ≡ Some (Site.Up p.replica)) (sym one) m.up))
        | inr ne ↦ m.others j ne ∙ t.up j z (later j ne a) keeps
      ];
    }
  where
    later : (j : ℕ) → (j ≡ k → ⊥) → Among (k ∷ ks) j → Among ks j
    later j ne (inl e) = absurd (ne (sym e))
    later j ne (inr a) = a

-- ---- all datagrams so far are marked

all_marked : ℕ → World → World
all_marked zero w = w
all_marked (suc i) w = use_up i (all_marked i w)

marked_goes : (i : ℕ) (w : World) → GoesCalmly (λ k. ⊥) w [] (all_marked i w)
unfolding all_marked
marked_goes zero w = stay
marked_goes (suc i) w = marks i (marked_goes i w)

marked_sites : (i : ℕ) (w : World) → (all_marked i w).sites ≡ w.sites
unfolding all_marked
marked_sites zero w = refl
marked_sites (suc i) w = mark_sites i (all_marked i w) ∙ marked_sites i w

use_length : (i : ℕ) (w : World) → length (use_up i w).packets ≡ length w.packets
unfolding use_up
use_length i w = go (slice_get w.packets i)
  where
    go : (o : Option Packet) → length (option_map_or (λ m. slice_set w.packets i (record m { used = true })) o w.packets) ≡ length w.packets
    go None = refl
    go (Some m) = set_length w.packets i (record m { used = true })

marked_length : (i : ℕ) (w : World) → length (all_marked i w).packets ≡ length w.packets
unfolding all_marked
marked_length zero w = refl
marked_length (suc i) w = use_length i (all_marked i w) ∙ marked_length i w

use_other : (i j : ℕ) (w : World) → (j ≡ i → ⊥) → slice_get (use_up i w).packets j ≡ slice_get w.packets j
unfolding use_up
use_other i j w ne = go (slice_get w.packets i)
  where
    go : (o : Option Packet) → slice_get (option_map_or (λ m. slice_set w.packets i (record m { used = true })) o w.packets) j ≡ slice_get w.packets j
    go None = refl
    go (Some m) = got_other w.packets i j (record m { used = true }) ne

use_here : (i : ℕ) (w : World) (m : Packet) → slice_get (use_up i w).packets i ≡ Some m → m.used ≡ true
unfolding use_up
use_here i w m at = go (slice_get w.packets i) refl at
  where
    go : (o : Option Packet) → slice_get w.packets i ≡ o → slice_get (option_map_or (λ z. slice_set w.packets i (record z { used = true })) o w.packets) i ≡ Some m → m.used ≡ true
    go None e q = absurd (none-some m (sym e ∙ q))
    go (Some z) e q = ap (λ (y : Packet). y.used) (sym (same_Some (record z { used = true }) m (sym (got_set w.packets i z (record z { used = true }) e) ∙ q)))

used_below : (i j : ℕ) (w : World) (m : Packet) → j < i → slice_get (all_marked i w).packets j ≡ Some m → m.used ≡ true
unfolding all_marked use_up
used_below zero j w m lt at = absurd (omega (arith, lt))
used_below (suc i) j w m lt at = elim (cases_eq j i) [
  | inl is ↦ use_here i (all_marked i w) m (subst (λ z. slice_get (use_up i (all_marked i w)).packets z ≡ Some m) is at)
  | inr ne ↦ used_below i j w m (omega (arith, lt, ne)) (sym (use_other i j (all_marked i w) ne) ∙ at)
]

-- ---- decisions

founding_decides : (k n : ℕ) (d : Decision) → Among (founding_boot k n).replica.log (Rec.Decide d) → ⊥
unfolding founding_boot boot_again keep begun fresh
founding_decides k n d (inl q) = cc
founding_decides k n d (inr (inl q)) = cc
founding_decides k n d (inr (inr q)) = q

-- ---- the world

module _ (n : ℕ) (c : Cluster) (most : n ≤ 15) (e : ℕ) (ms : List ℕ) (w : World) (shows : Shows n c w) (calm : IsCalmCluster e ms c) (short : HasShortLogs c) where
  pub node : (k : ℕ) → Among ms k → IsCalmNode e ms c k
  node k in_k = all_at (IsCalmNode e ms c) ms k calm.nodes in_k

  begins : Kept n c ms
  begins = keep_members n c w shows ms (λ k in_k. let o = node k in_k in (o.still.process, o.still.kept))

  abbrev u : World
  u = begins.world

  pub first_world : World
  first_world = all_marked (length u.packets) u

  abbrev v : World
  v = first_world

  sites : v.sites ≡ u.sites
  unfolding first_world
  sites = marked_sites (length u.packets) u

  pub first_reached : IsReached n v
  unfolding first_world
  first_reached = calm_reached (λ k. ⊥) u n (reached_by n u begins.shows.reached) (marked_goes (length u.packets) u)

  logs_same : (k : ℕ) → log_at v k ≡ log_at u k
  unfolding log_at
  logs_same k = ap (λ ss. option_map_or log_of (slice_get ss k) []) sites

  pub first_logs : (k : ℕ) → IsLogOf n c v k
  first_logs k = elim ((shown_by n c u begins.shows).logs k) [
    | inl q ↦ inl (q ∙ sym (logs_same k))
    | inr t ↦ inr (t.0, t.1, logs_same k ∙ t.2)
  ]

  pub first_short : AreShort v
  first_short k = let s = shown_short n c u (shown_by n c u begins.shows) short k in let l = ap (λ (z : Log). length z) (logs_same k) in omega (arith, s, l)

  pub first_spelt : IsSpelt n v
  first_spelt = short_logs_are_spelt n v most first_reached first_short

  pub first_sent : (k : ℕ) (d : Datagram) → Among c.sent (k, d) → (j : ℕ) × WasSent v j k d
  unfolding first_world
  first_sent k d a = let s = begins.shows.sent k d a in (s.0, sent_calm (λ k. ⊥) u v [] (marked_goes (length u.packets) u) s.0 k d s.1)

  -- the replica of a member
  pub first_up : (k : ℕ) (in_k : Among ms k) → slice_get v.sites k ≡ Some (Site.Up (node k in_k).still.process.replica)
  first_up k in_k = let o = node k in_k in ap (λ ss. slice_get ss k) sites ∙ begins.up k o.still.process in_k o.still.kept

  pub first_member : (k : ℕ) (in_k : Among ms k) → IsMemberUp e ms v k (node k in_k).still.process.replica
  first_member k in_k = let o = node k in_k in record { up = first_up k in_k; knows = o.calm.known; runs = o.calm.active; counts = o.calm.counts }

  pub all_first : AllUp n e ms v
  all_first = record { reached = first_reached; few = first_spelt.few; member = λ k in_k. ((node k in_k).still.process.replica, first_member k in_k) }

  -- a member's log is its log file's
  pub first_log : (k : ℕ) → Among ms k → log_at v k ≡ log_in c k
  first_log k in_k = let o = node k in_k in log_there v k o.still.process.replica (first_up k in_k) ∙ sym o.still.kept.log

  node_of_member : (k : ℕ) (r : Replica) → IsMemberUp e ms v k r → (o : IsCalmNode e ms c k) × (o.still.process.replica ≡ r)
  node_of_member k r m = let in_k = runs_member n e ms v all_first k r m in (node k in_k, up_one (node k in_k).still.process.replica r (same_Some _ _ (sym (first_up k in_k) ∙ m.up)))

  open_there : (f : Entry) → IsOpen e ms v f → IsOpen e ms (world_of c) f
  open_there f o = record {
    epoch = o.epoch;
    by = o.by;
    member = o.member;
    logged = subst (λ l. Contains l (Rec.Prepare f)) (first_log o.by (among_contains ms o.by o.member) ∙ sym (log_is c o.by)) o.logged;
    unfinished = λ all. o.unfinished (all_from (λ k. Contains (executed (log_at v k)) f) ms (λ k in_k.
        subst (λ l. Contains (executed l) f) (log_is c k ∙ sym (first_log k in_k)) (all_at (λ k. Contains (executed (log_at (world_of c) k)) f) ms k all in_k)));
  }

  pub first_start : CalmStart e ms v
  first_start = record {
    links = λ k j r m a. let o = node_of_member k r m in subst (λ (z : Replica). length (unacked z j) ≤ 16) o.1 (o.0.calm.links j (contains_among ms j a));
    owed = λ k r m a. let o = node_of_member k r m in subst (λ (z : Replica). length z.owed ≤ 16) o.1 o.0.calm.owed;
    entries = calm.entries;
    all_open = λ f o. among_contains calm.entries f (calm.all_open f (open_there f o));
    few_open = calm.few_open;
  }

  -- no control message is fresh, and no later epoch is known
  pub first_parts : NoParts v
  unfolding first_world
  first_parts m a fresh p =
      let at = among_place v.packets m a in
      let lt = below v.packets at.0 m at.1 in
      let l = marked_length (length u.packets) u in
      absurd (false≢true (sym fresh ∙ used_below (length u.packets) at.0 u m (omega (arith, lt, l)) at.1))

  pub first_low : LowDecisions e v
  first_low k r up d is = go (cases_lt e d.epoch)
    where
      there : Among (log_at v k) (Rec.Decide d)
      there = subst (λ l. Among l (Rec.Decide d)) (sym (log_there v k r up)) (decided_on r.log (Some d) is d refl)

      go : (e < d.epoch) ⊎ (d.epoch ≤ e) → d.epoch ≤ e
      go (inr le) = le
      go (inl lt) = elim (first_logs k) [
        | inl q ↦ absurd (calm.latest k (Rec.Decide d) (contains_among (log_in c k) (Rec.Decide d) (subst (λ l. Among l (Rec.Decide d)) (sym q) there)) (omega (arith, lt)))
        | inr t ↦ absurd (founding_decides k n d (subst (λ l. Among l (Rec.Decide d)) t.2 there))
      ]

  pub at_rest : AtRest n ms c.sent c v
  unfolding log_in
  at_rest = record {
    short = first_short;
    nodes = λ k in_k. let o = node k in_k in record {
      replica = o.still.process.replica;
      process = o.still.process;
      host = host_is (host_at c k) o.still.process.replica.log o.still.process o.still.kept.log o.still.kept.runs;
      up = first_up k in_k;
      now = refl;
      pending = o.still.kept.pending;
      out = λ j d a. absurd (subst (λ z. Among z (Outgoing.ToReplica j d)) o.still.sent a);
    };
    others = λ k out. first_logs k;
    news = [];
    sent_is = sym (append-nil c.sent);
    fresh = λ k d a. absurd a;
  }
