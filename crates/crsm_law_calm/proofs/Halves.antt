-- One half of a round: events of members, and the world in which the turns that they keep are steps.
use Rattle.std.proofs.Common.{◌≡◌, ℕ, ◌≤◌, List, [], ◌∷◌, ◌++◌, length, map, refl, sym, ◌∙◌, ap, subst, inl, inr, false, cond, arith, append_assoc}
use Rattle.std.specs.Prelude.{Some, None, slice_get, drop, option_to_list}
use Rattle.std.specs.Option.{option_map_or}
use Rattle.std.specs.List.{AllByRecursion}
use Rattle.std.proofs.lemmas.Bool.{cases_eq, eq-eqb}
use Rattle.std.proofs.lemmas.List.{append-nil}
use Rattle.std.proofs.lemmas.Option.{same_Some}
use Rattle.crsm_spec.specs.Types.{Datagram}
use Rattle.crsm_spec.specs.Lists.{Among, first_of}
use Rattle.crsm_spec.specs.Log.{Log}
use Rattle.crsm_spec.specs.Replica.{Replica}
use Rattle.crsm_spec.specs.Draft.{Draft}
use Rattle.crsm_spec.specs.Node.{Turn, turn, outputs_from}
use Rattle.crsm_spec.specs.World.{Site, World, log_of, log_at, packet_of, whole_step}
use Rattle.crsm_fact_log.specs.Logs.{Extends, same, more}
use Rattle.crsm_fact_log.proofs.Lists.{among_left, among_either}
use Rattle.crsm_law_epoch.specs.Numbers.{Distinct}
use Rattle.crsm_law_epoch.proofs.Worlds.{log_there}
use Rattle.crsm_law_bounds.specs.Bounds.{IsSpelt, HasShortLogs as AreShort, most_records}
use Rattle.crsm_law_bounds.proofs.Worlds.{short_logs_are_spelt}
use Rattle.crsm_law_runs.proofs.DurableLists.{among_contains}
use Rattle.crsm_law_rounds.specs.Rounds.{GoesCalmly}
use Rattle.crsm_law_rounds.specs.Rounds.GoesCalmly.{stay}
use Rattle.crsm_law_rounds.specs.Members.{AllUp}
use Rattle.crsm_law_rounds.proofs.Going.{site_after, other_site, packets_after, calm_reached}
use Rattle.crsm_law_rounds.proofs.Round.{up_later}
use Rattle.crsm_law_cluster.specs.Clusters.{Event, Outgoing, outgoing_of, Process, Host, Cluster, host_at, log_in, next_out, sent_of, while_up, kept, with_process, with_turn, posted, with_host, after}
use Rattle.crsm_law_cluster.specs.Histories.{clusters_from, last_from}
use Rattle.crsm_law_cluster.specs.Showing.{IsLogOf}
use Rattle.crsm_law_cluster.specs.HistoryLaws.{HasShortLogs}
use Rattle.crsm_law_cluster.proofs.Pending.{made_packet}
use Rattle.crsm_spec_process.specs.Turns.{replica_after}
use Rattle.crsm_law_lives.specs.Events.{node_of}
use Rattle.crsm_law_lives.specs.Sending.{handed_by, out_at, outs_from}
use Rattle.crsm_law_lives.proofs.Processes.{turns_then}
use Rattle.crsm_law_lives.proofs.Agree.{turns_grow}
use Rattle.crsm_law_lives.proofs.Hosts.{own_event, after_own, after_other}
use Rattle.crsm_law_calm.specs.Calm.{HasKept}
use Rattle.crsm_law_calm.specs.Rounds.{turn_at, turns_of, IsOfMember}
use Rattle.crsm_law_calm.proofs.Events.{first_in, all_left, all_right, out_other, first_rest, turn_other, turn_own, handed_then, handed_one, host_there}

-- ---- words

-- the datagram was sent and is not marked
abbrev pub IsFresh : World → ℕ → ℕ → Datagram → Type 0
IsFresh w from to d = Among w.packets (record { from = from; to = to; datagram = d; used = false })

fresh_on : (w : World) (k : ℕ) (x : Draft) (from to : ℕ) (d : Datagram) → IsFresh w from to d → IsFresh (whole_step w k x).after from to d
fresh_on w k x from to d f = subst (λ l. Among l (record { from = from; to = to; datagram = d; used = false })) (sym (packets_after w k x)) (among_left w.packets (map (packet_of k) x.sends) _ f)

made_fresh : (w : World) (k : ℕ) (x : Draft) (j : ℕ) (d : Datagram) → Among (outgoing_of x) (Outgoing.ToReplica j d) → IsFresh (whole_step w k x).after k j d
made_fresh w k x j d a = subst (λ l. Among l (record { from = k; to = j; datagram = d; used = false })) (sym (packets_after w k x)) (made_packet k j d x w.packets a)

pub longer : (a b : Log) → Extends a b → length a ≤ length b
longer a b same = omega arith
longer a b (more {new = c} rec x) = let t = longer a c x in omega (arith, t)

log_same : (w u : World) (j : ℕ) → slice_get u.sites j ≡ slice_get w.sites j → log_at u j ≡ log_at w j
unfolding log_at
log_same w u j e = ap (λ o. option_map_or log_of o []) e

short_after : (w : World) (k : ℕ) (r : Replica) (x : Draft) → slice_get w.sites k ≡ Some (Site.Up r) → AreShort w → length x.replica.log ≤ most_records → AreShort (whole_step w k x).after
short_after w k r x up s le j = elim (cases_eq j k) [
  | inl is ↦ (let l = ap (λ (z : Log). length z) (log_there (whole_step w k x).after k x.replica (site_after w k (Site.Up r) x up)) in
      subst (λ i. length (log_at (whole_step w k x).after i) ≤ most_records) (sym is) (omega (arith, l, le)))
  | inr ne ↦ subst (λ (z : Log). length z ≤ most_records) (sym (log_same w (whole_step w k x).after j (other_site w k j x ne))) (s j)
]

log_of_same : (n : ℕ) (c d : Cluster) (w u : World) (j : ℕ) → log_in d j ≡ log_in c j → log_at u j ≡ log_at w j → IsLogOf n c w j → IsLogOf n d u j
log_of_same n c d w u j a b h = elim h [ inl e ↦ inl (a ∙ e ∙ sym b) | inr t ↦ inr (t.0, a ∙ t.1, b ∙ t.2) ]

-- node k between halves: its world's replica is its process's
pub record Rest (w : World) (k : ℕ) (p : Host) : Type 0 where
  pub replica : Replica
  pub process : Process
  pub host : p ≡ record { log = replica.log; process = Some process }
  pub up : slice_get w.sites k ≡ Some (Site.Up replica)
  pub now : process.replica ≡ replica
  pub pending : process.pending ≡ []
  pub out : (j : ℕ) (d : Datagram) → Among process.outbox (Outgoing.ToReplica j d) → IsFresh w k j d

-- all members between halves, and what was sent since the calm cluster
pub record AtRest (n : ℕ) (ms : List ℕ) (base : List (ℕ × Datagram)) (c : Cluster) (w : World) : Type 0 where
  pub short : AreShort w
  pub nodes : (k : ℕ) → Among ms k → Rest w k (host_at c k)
  pub others : (k : ℕ) → (Among ms k → ⊥) → IsLogOf n c w k
  pub news : List (ℕ × Datagram)
  pub sent_is : c.sent ≡ base ++ news
  pub fresh : (k : ℕ) (d : Datagram) → Among news (k, d) → (j : ℕ) × IsFresh w j k d

-- In world v all members are up. Ok says which turns are taken; M holds of worlds, Q of a member's replica, the turns
-- that it is still to take, and all that it has handed out since the calm cluster.
module _ (n e : ℕ) (ms : List ℕ) (most : n ≤ 15) (distinct : Distinct ms) (small : (k : ℕ) → Among ms k → k ≤ 14) (base : List (ℕ × Datagram)) (v : World) (h : AllUp n e ms v)
    (Ok : ℕ → Turn × ℕ → Type 0) (M : List ℕ → World → Type 0) (Q : ℕ → Replica → List (Turn × ℕ) → List Outgoing → Type 0) where
  abbrev C : ℕ → Type 0
  C k = Among ms k

  -- what holds behind a turn of member k
  pub record Turned (w : World) (k : ℕ) (x : Draft) (rest : List (Turn × ℕ)) (made : List Outgoing) : Type 0 where
    pub ticks : List ℕ
    pub goes : GoesCalmly (λ k. Among ms k) v ticks (whole_step w k x).after
    pub holds : M ticks (whole_step w k x).after
    pub now : Q k x.replica rest (made ++ outgoing_of x)

  abbrev pub Turns : Type 0
  Turns =
      (w : World) (ts : List ℕ) → GoesCalmly (λ k. Among ms k) v ts w → AllUp n e ms w → IsSpelt n w → M ts w → (k : ℕ) → Among ms k → (r : Replica) → slice_get w.sites k ≡ Some (Site.Up r) →
      (t : Turn × ℕ) → Ok k t → (rest : List (Turn × ℕ)) (made : List Outgoing) → Q k r (t ∷ rest) made → AreShort (whole_step w k (turn r t)).after → Turned w k (turn r t) rest made

  module _ (turns : Turns) where
    -- ---- the turns of a group

    record Moved (w : World) (k : ℕ) (r : Replica) (ts rest : List (Turn × ℕ)) (made : List Outgoing) : Type 0 where
      world : World
      ticks : List ℕ
      goes : GoesCalmly C v ticks world
      holds : M ticks world
      short : AreShort world
      up : slice_get world.sites k ≡ Some (Site.Up (replica_after r ts))
      others : (j : ℕ) → (j ≡ k → ⊥) → slice_get world.sites j ≡ slice_get w.sites j
      fresh : (from to : ℕ) (d : Datagram) → IsFresh w from to d → IsFresh world from to d
      out : (j : ℕ) (d : Datagram) → Among (handed_by r ts) (Outgoing.ToReplica j d) → IsFresh world k j d
      now : Q k (replica_after r ts) rest (made ++ handed_by r ts)

    spelt_at : (w : World) (ts : List ℕ) → GoesCalmly C v ts w → AreShort w → IsSpelt n w
    spelt_at w ts g s = short_logs_are_spelt n w most (calm_reached C v n h.reached g) s

    up_at : (w : World) (ts : List ℕ) → GoesCalmly C v ts w → AreShort w → AllUp n e ms w
    up_at w ts g s = up_later n e ms distinct small v w h g (spelt_at w ts g s).few

    keep_turns : (ts : List (Turn × ℕ)) (w : World) (is : List ℕ) → GoesCalmly C v is w → M is w → AreShort w → (k : ℕ) → Among ms k → (r : Replica) → slice_get w.sites k ≡ Some (Site.Up r) →
        AllByRecursion (Ok k) ts → (rest : List (Turn × ℕ)) (made : List Outgoing) → Q k r (ts ++ rest) made → length (replica_after r ts).log ≤ most_records → Moved w k r ts rest made
    unfolding replica_after handed_by outputs_from
    keep_turns [] w is g m s k in_k r up ok rest made q le = record {
      world = w;
      ticks = is;
      goes = g;
      holds = m;
      short = s;
      up = up;
      others = λ j ne. refl;
      fresh = λ from to d f. f;
      out = λ j d a. absurd a;
      now = subst (Q k r rest) (sym (append-nil made)) q;
    }
    keep_turns (t ∷ ts) w is g m s k in_k r up ok rest made q le =
        let x = turn r t in
        let grown = longer x.replica.log (replica_after x.replica ts).log (turns_grow x.replica ts) in
        let s1 = short_after w k r x up s (omega (arith, grown, le)) in
        let o = turns w is g (up_at w is g s) (spelt_at w is g s) m k in_k r up t ok.0 (ts ++ rest) made q s1 in
        let f = keep_turns ts (whole_step w k x).after o.ticks o.goes o.holds s1 k in_k x.replica (site_after w k (Site.Up r) x up) ok.1 rest (made ++ outgoing_of x) o.now le in
        record {
          world = f.world;
          ticks = f.ticks;
          goes = f.goes;
          holds = f.holds;
          short = f.short;
          up = f.up;
          others = λ j ne. f.others j ne ∙ other_site w k j x ne;
          fresh = λ from to d a. f.fresh from to d (fresh_on w k x from to d a);
          out = λ j d a. elim (among_either (outgoing_of x) (handed_by x.replica ts) (Outgoing.ToReplica j d) a) [ inl b ↦ f.fresh k j d (made_fresh w k x j d b) | inr b ↦ f.out j d b ];
          now = subst (Q k (replica_after x.replica ts) rest) (append_assoc made (outgoing_of x) (handed_by x.replica ts)) f.now;
        }

    -- ---- nodes

    -- Node k, whose turns in `waits` are not kept yet and which takes `rest` yet; nothing waits at who is not in ks.
    record Node (w : World) (k : ℕ) (p : Host) (rest : List (Turn × ℕ)) (gone : List Outgoing) (ks : List ℕ) : Type 0 where
      replica : Replica
      process : Process
      host : p ≡ record { log = replica.log; process = Some process }
      up : slice_get w.sites k ≡ Some (Site.Up replica)
      waits : List (Turn × ℕ)
      now : process.replica ≡ replica_after replica waits
      pending : process.pending ≡ handed_by replica waits
      ok : AllByRecursion (Ok k) (waits ++ rest)
      out : (j : ℕ) (d : Datagram) → Among process.outbox (Outgoing.ToReplica j d) → IsFresh w k j d
      holds : Q k replica (waits ++ rest) (gone ++ process.outbox)
      settled : (Among ks k → ⊥) → waits ≡ []

    node_on : (w u : World) (j : ℕ) (p q : Host) (rest rest2 : List (Turn × ℕ)) (gone gone2 : List Outgoing) (ks ls : List ℕ) → slice_get u.sites j ≡ slice_get w.sites j →
        ((from to : ℕ) (d : Datagram) → IsFresh w from to d → IsFresh u from to d) → q ≡ p → rest2 ≡ rest → gone2 ≡ gone → ((Among ls j → ⊥) → Among ks j → ⊥) →
        Node w j p rest gone ks → Node u j q rest2 gone2 ls
    node_on w u j p q rest rest2 gone gone2 ks ls site fresh same_host same_rest same_gone sub o = record {
      replica = o.replica;
      process = o.process;
      host = same_host ∙ o.host;
      up = site ∙ o.up;
      waits = o.waits;
      now = o.now;
      pending = o.pending;
      ok = subst (λ z. AllByRecursion (Ok j) (o.waits ++ z)) (sym same_rest) o.ok;
      out = λ i d a. fresh j i d (o.out i d a);
      holds = subst (λ z. Q j o.replica (o.waits ++ z) (gone2 ++ o.process.outbox)) (sym same_rest) (subst (λ z. Q j o.replica (o.waits ++ rest) (z ++ o.process.outbox)) (sym same_gone) o.holds);
      settled = λ f. o.settled (sub f);
    }

    -- all nodes in the middle of a half, with these events to come
    record Middle (c : Cluster) (w : World) (es : List Event) (gone : ℕ → List Outgoing) (ks : List ℕ) : Type 0 where
      ticks : List ℕ
      goes : GoesCalmly C v ticks w
      holds : M ticks w
      short : AreShort w
      nodes : (k : ℕ) → Among ms k → Node w k (host_at c k) (turns_of k es) (gone k) ks
      others : (k : ℕ) → (Among ms k → ⊥) → IsLogOf n c w k
      news : List (ℕ × Datagram)
      sent_is : c.sent ≡ base ++ news
      fresh : (k : ℕ) (d : Datagram) → Among news (k, d) → (j : ℕ) × IsFresh w j k d

    -- ---- one event

    same_log : (c d : Cluster) (j : ℕ) → host_at d j ≡ host_at c j → log_in d j ≡ log_in c j
    unfolding log_in
    same_log c d j e = ap (λ (p : Host). p.log) e

    module _ (c : Cluster) (w : World) (ev : Event) (es : List Event) (gone : ℕ → List Outgoing) (mid : Middle c w (ev ∷ es) gone ms) (k : ℕ) (in_k : Among ms k) (own : node_of ev ≡ k) where
      abbrev Next : World → Type 0
      Next u = Node u k (host_at (after c ev) k) (turns_of k es) (gone k ++ out_at k c ev) ms

      abbrev mine : Node w k (host_at c k) (turns_of k (ev ∷ es)) (gone k) ms
      mine = mid.nodes k in_k

      there : (q : Host) × (slice_get c.hosts k ≡ Some q)
      there = host_there c k mine.process (ap (λ (p : Host). p.process) mine.host)

      host_now : host_at (after c ev) k ≡ own_event k c.n ev (record { log = mine.replica.log; process = Some mine.process })
      host_now = after_own c k there.0 there.1 ev own ∙ ap (own_event k c.n ev) mine.host

      not_own : (j : ℕ) → (j ≡ k → ⊥) → node_of ev ≡ j → ⊥
      not_own j ne e = ne (sym e ∙ own)

      -- the others are as they were
      other_node : (u : World) → ((j : ℕ) → (j ≡ k → ⊥) → slice_get u.sites j ≡ slice_get w.sites j) → ((from to : ℕ) (d : Datagram) → IsFresh w from to d → IsFresh u from to d) → Next u →
          (j : ℕ) → Among ms j → Node u j (host_at (after c ev) j) (turns_of j es) (gone j ++ out_at j c ev) ms
      unfolding turns_of
      other_node u sites fresh new j in_j = elim (cases_eq j k) [
        | inl is ↦ subst (λ i. Node u i (host_at (after c ev) i) (turns_of i es) (gone i ++ out_at i c ev) ms) (sym is) new
        | inr ne ↦ node_on w u j (host_at c j) (host_at (after c ev) j) (turns_of j (ev ∷ es)) (turns_of j es) (gone j) (gone j ++ out_at j c ev) ms ms (sites j ne) fresh (after_other c j ev (not_own j ne))
            (sym (ap (λ z. z ++ turns_of j es) (turn_other j ev (not_own j ne)))) (ap (λ z. gone j ++ z) (out_other c j ev (not_own j ne)) ∙ append-nil (gone j)) (λ f. f) (mid.nodes j in_j)
      ]

      log_on : (u : World) → ((j : ℕ) → (j ≡ k → ⊥) → slice_get u.sites j ≡ slice_get w.sites j) → (j : ℕ) → (Among ms j → ⊥) → IsLogOf n (after c ev) u j
      log_on u sites j out =
          let ne : (j ≡ k → ⊥) = λ is. out (subst (Among ms) (sym is) in_k) in
          log_of_same n c (after c ev) w u j (same_log c (after c ev) j (after_other c j ev (not_own j ne))) (log_same w u j (sites j ne)) (mid.others j out)

      -- the world stays
      still : (news : List (ℕ × Datagram)) → (after c ev).sent ≡ base ++ news → ((i : ℕ) (d : Datagram) → Among news (i, d) → (j : ℕ) × IsFresh w j i d) → Next w →
          Middle (after c ev) w es (λ j. gone j ++ out_at j c ev) ms
      still news sent fresh new = record {
        ticks = mid.ticks;
        goes = mid.goes;
        holds = mid.holds;
        short = mid.short;
        nodes = other_node w (λ j ne. refl) (λ from to d f. f) new;
        others = log_on w (λ j ne. refl);
        news = news;
        sent_is = sent;
        fresh = fresh;
      }

    taken : (c : Cluster) (w : World) (k : ℕ) (t : Turn) (reading : ℕ) (es : List Event) (gone : ℕ → List Outgoing) → Among ms k → Middle c w (Event.Takes k t reading ∷ es) gone ms →
        Middle (after c (Event.Takes k t reading)) w es (λ j. gone j ++ out_at j c (Event.Takes k t reading)) ms
    unfolding node_of after own_event while_up with_process with_turn turns_of out_at replica_after with_host
    taken c w k t reading es gone in_k mid =
        let ev = Event.Takes k t reading in
        let o = mid.nodes k in_k in
        let x = o.process in
        let y = turn x.replica (t, reading) in
        let next : Process = record x { replica = y.replica; pending = x.pending ++ outgoing_of y } in
        let list : o.waits ++ turns_of k (ev ∷ es) ≡ (o.waits ++ (t, reading) ∷ []) ++ turns_of k es =
        ap (λ z. o.waits ++ (z ++ turns_of k es)) (turn_own k k t reading refl) ∙ sym (append_assoc o.waits ((t, reading) ∷ []) (turns_of k es)) in
        still c w ev es gone mid k in_k refl mid.news mid.sent_is mid.fresh (record {
          replica = o.replica;
          process = next;
          host = host_now c w ev es gone mid k in_k refl;
          up = o.up;
          waits = o.waits ++ (t, reading) ∷ [];
          now = ap (λ r. (turn r (t, reading)).replica) o.now ∙ sym (turns_then o.replica o.waits ((t, reading) ∷ []));
          pending = ap (λ z. z ++ outgoing_of y) o.pending ∙ ap (λ r. handed_by o.replica o.waits ++ outgoing_of (turn r (t, reading))) o.now
              ∙ ap (λ z. handed_by o.replica o.waits ++ z) (sym (handed_one (replica_after o.replica o.waits) (t, reading))) ∙ sym (handed_then o.replica o.waits ((t, reading) ∷ []));
          ok = subst (AllByRecursion (Ok k)) list o.ok;
          out = o.out;
          holds = subst (λ z. Q k o.replica ((o.waits ++ (t, reading) ∷ []) ++ turns_of k es) (z ++ x.outbox)) (sym (append-nil (gone k))) (subst (λ z. Q k o.replica z (gone k ++ x.outbox)) list o.holds);
          settled = λ f. absurd (f in_k);
        })

    sends_fresh : (w : World) (k : ℕ) (os : List Outgoing) → ((j : ℕ) (d : Datagram) → Among os (Outgoing.ToReplica j d) → IsFresh w k j d) → (j : ℕ) (d : Datagram) → Among (sent_of (first_of os)) (j, d) → IsFresh w k j d
    unfolding sent_of first_of
    sends_fresh w k [] h j d a = absurd a
    sends_fresh w k (Outgoing.ToClient y ∷ os) h j d a = absurd a
    sends_fresh w k (Outgoing.ToReplica i y ∷ os) h j d (inl q) = h j d (inl (ap (λ (z : ℕ × Datagram). Outgoing.ToReplica z.0 z.1) q))
    sends_fresh w k (Outgoing.ToReplica i y ∷ os) h j d (inr a) = absurd a

    among_dropped : (os : List Outgoing) (y : Outgoing) → Among (drop 1 os) y → Among os y
    among_dropped [] y a = a
    among_dropped (o ∷ os) y a = inr a

    sends : (c : Cluster) (w : World) (k : ℕ) (es : List Event) (gone : ℕ → List Outgoing) → Among ms k → Middle c w (Event.Sends k ∷ es) gone ms →
        Middle (after c (Event.Sends k)) w es (λ j. gone j ++ out_at j c (Event.Sends k)) ms
    unfolding node_of after own_event while_up with_process posted turns_of turn_at out_at next_out
    sends c w k es gone in_k mid =
        let ev = Event.Sends k in
        let o = mid.nodes k in_k in
        let x = o.process in
        let next_is : next_out c k ≡ first_of x.outbox = ap (λ (p : Host). option_map_or (λ (z : Process). first_of z.outbox) p.process None) o.host in
        let out_is : out_at k c ev ≡ option_to_list (first_of x.outbox) = ap (λ b. cond b (option_to_list (next_out c k)) []) (eq-eqb k k refl) ∙ ap option_to_list next_is in
        let made : (gone k ++ out_at k c ev) ++ drop 1 x.outbox ≡ gone k ++ x.outbox =
        ap (λ z. (gone k ++ z) ++ drop 1 x.outbox) out_is ∙ append_assoc (gone k) (option_to_list (first_of x.outbox)) (drop 1 x.outbox) ∙ ap (λ z. gone k ++ z) (first_rest x.outbox) in
        still c w ev es gone mid k in_k refl (mid.news ++ sent_of (next_out c k)) (ap (λ z. z ++ sent_of (next_out c k)) mid.sent_is ∙ append_assoc base mid.news (sent_of (next_out c k)))
        (λ i d a. elim (among_either mid.news (sent_of (next_out c k)) (i, d) a) [
          | inl b ↦ mid.fresh i d b
          | inr b ↦ (k, sends_fresh w k x.outbox o.out i d (subst (λ z. Among (sent_of z) (i, d)) next_is b))
        ])
        (record {
          replica = o.replica;
          process = record x { outbox = drop 1 x.outbox };
          host = host_now c w ev es gone mid k in_k refl;
          up = o.up;
          waits = o.waits;
          now = o.now;
          pending = o.pending;
          ok = o.ok;
          out = λ j d a. o.out j d (among_dropped x.outbox (Outgoing.ToReplica j d) a);
          holds = subst (Q k o.replica (o.waits ++ turns_of k es)) (sym made) o.holds;
          settled = λ f. absurd (f in_k);
        })

    -- the turns that wait at k are made in the world
    kept_turns : (c : Cluster) (w : World) (es : List Event) (gone : ℕ → List Outgoing) (ks : List ℕ) (mid : Middle c w es gone ks) (k : ℕ) (in_k : Among ms k) → let o = mid.nodes k in_k in
        length o.process.replica.log ≤ most_records → Moved w k o.replica o.waits (turns_of k es) (gone k ++ o.process.outbox)
    kept_turns c w es gone ks mid k in_k le =
        let o = mid.nodes k in_k in
        keep_turns o.waits w mid.ticks mid.goes mid.holds mid.short k in_k o.replica o.up (all_left (Ok k) o.waits (turns_of k es) o.ok) (turns_of k es) (gone k ++ o.process.outbox) o.holds
        (subst (λ r. length r.log ≤ most_records) o.now le)

    same_sent : (c : Cluster) (k : ℕ) → (after c (Event.Keeps k)).sent ≡ c.sent
    unfolding after with_host
    same_sent c k = refl

    keeps : (c : Cluster) (w : World) (k : ℕ) (es : List Event) (gone : ℕ → List Outgoing) → Among ms k → HasShortLogs (after c (Event.Keeps k)) → Middle c w (Event.Keeps k ∷ es) gone ms →
        (u : World) × Middle (after c (Event.Keeps k)) u es (λ j. gone j ++ out_at j c (Event.Keeps k)) ms
    unfolding node_of own_event while_up kept turns_of turn_at out_at log_in replica_after handed_by outputs_from
    keeps c w k es gone in_k short mid =
        let ev = Event.Keeps k in
        let o = mid.nodes k in_k in
        let x = o.process in
        let host = host_now c w ev es gone mid k in_k refl in
        let le : length x.replica.log ≤ most_records = subst (λ (l : Log). length l ≤ most_records) (ap (λ (p : Host). p.log) host) (short k) in
        let m = kept_turns c w (ev ∷ es) gone ms mid k in_k le in (
          m.world,
          record {
            ticks = m.ticks;
            goes = m.goes;
            holds = m.holds;
            short = m.short;
            nodes = other_node c w ev es gone mid k in_k refl m.world m.others m.fresh (record {
              replica = x.replica;
              process = record x { pending = []; outbox = x.outbox ++ x.pending };
              host = host;
              up = subst (λ r. slice_get m.world.sites k ≡ Some (Site.Up r)) (sym o.now) m.up;
              waits = [];
              now = refl;
              pending = refl;
              ok = all_right (Ok k) o.waits (turns_of k es) o.ok;
              out = λ j d a. elim (among_either x.outbox x.pending (Outgoing.ToReplica j d) a) [ inl b ↦ m.fresh k j d (o.out j d b) | inr b ↦ m.out j d (subst (λ z. Among z (Outgoing.ToReplica j d)) o.pending b) ];
              holds = subst (λ z. Q k x.replica (turns_of k es) (z ++ (x.outbox ++ x.pending))) (sym (append-nil (gone k)))
                  (subst (Q k x.replica (turns_of k es)) (append_assoc (gone k) x.outbox x.pending) (subst (λ z. Q k x.replica (turns_of k es) ((gone k ++ x.outbox) ++ z)) (sym o.pending) (subst (λ r. Q k r (turns_of k es) ((gone k ++ x.outbox) ++ handed_by o.replica o.waits)) (sym o.now) m.now)));
              settled = λ f. refl;
            });
            others = log_on c w ev es gone mid k in_k refl m.world m.others;
            news = mid.news;
            sent_is = same_sent c k ∙ mid.sent_is;
            fresh = λ i d a. let f = mid.fresh i d a in (f.0, m.fresh f.0 i d f.1);
          },
        )

    -- ---- all events

    regone : (c : Cluster) (w : World) (es : List Event) (gone gone2 : ℕ → List Outgoing) (ks : List ℕ) → ((k : ℕ) → gone2 k ≡ gone k) → Middle c w es gone ks → Middle c w es gone2 ks
    regone c w es gone gone2 ks is mid = record {
      ticks = mid.ticks;
      goes = mid.goes;
      holds = mid.holds;
      short = mid.short;
      nodes = λ k in_k. node_on w w k (host_at c k) (host_at c k) (turns_of k es) (turns_of k es) (gone k) (gone2 k) ks ks refl (λ from to d f. f) refl refl (is k) (λ f. f) (mid.nodes k in_k);
      others = mid.others;
      news = mid.news;
      sent_is = mid.sent_is;
      fresh = mid.fresh;
    }

    one_event : (c : Cluster) (w : World) (ev : Event) (es : List Event) (gone : ℕ → List Outgoing) → IsOfMember ms ev → HasShortLogs (after c ev) → Middle c w (ev ∷ es) gone ms →
        (u : World) × Middle (after c ev) u es (λ j. gone j ++ out_at j c ev) ms
    one_event c w (Event.Takes k t reading) es gone own short mid = (w, taken c w k t reading es gone (among_contains ms k own) mid)
    one_event c w (Event.Keeps k) es gone own short mid = keeps c w k es gone (among_contains ms k own) short mid
    one_event c w (Event.Sends k) es gone own short mid = (w, sends c w k es gone (among_contains ms k own) mid)
    one_event c w (Event.Boots k) es gone own short mid = absurd own
    one_event c w (Event.Fails k) es gone own short mid = absurd own
    one_event c w (Event.Stops k) es gone own short mid = absurd own

    all_events : (es : List Event) (c : Cluster) (w : World) (gone : ℕ → List Outgoing) → AllByRecursion (IsOfMember ms) es → ((d : Cluster) → Among (clusters_from c es) d → HasShortLogs d) → Middle c w es gone ms →
        (u : World) × Middle (last_from c es) u [] (λ k. gone k ++ outs_from k c es) ms
    unfolding last_from outs_from clusters_from
    all_events [] c w gone own short mid = (w, regone c w [] gone (λ k. gone k ++ []) ms (λ k. append-nil (gone k)) mid)
    all_events (ev ∷ es) c w gone own short mid =
        let o = one_event c w ev es gone own.0 (short (after c ev) (inr (first_in (after c ev) es))) mid in
        let t = all_events es (after c ev) o.0 (λ j. gone j ++ out_at j c ev) own.1 (λ d a. short d (inr a)) o.1 in (
          t.0,
          regone (last_from (after c ev) es) t.0 [] (λ k. (gone k ++ out_at k c ev) ++ outs_from k (after c ev) es) (λ k. gone k ++ (out_at k c ev ++ outs_from k (after c ev) es)) ms
              (λ k. sym (append_assoc (gone k) (out_at k c ev) (outs_from k (after c ev) es))) t.1,
        )

    -- ---- what waits is kept

    -- A node of which all is kept: what waits can be made in the world, and the node is as it was.
    settle_one : (c : Cluster) (w : World) (gone : ℕ → List Outgoing) (k : ℕ) (ks : List ℕ) → Among ms k → (x : Process) → HasKept c k x → HasShortLogs c → Middle c w [] gone (k ∷ ks) → (u : World) × Middle c u [] gone ks
    unfolding log_in turns_of replica_after handed_by outputs_from
    settle_one c w gone k ks in_k y held short mid =
        let o = mid.nodes k in_k in
        let x = o.process in
        let one : y ≡ x = same_process y x (sym held.runs ∙ ap (λ (p : Host). p.process) o.host) in
        let pending : x.pending ≡ [] = subst (λ (z : Process). z.pending ≡ []) one held.pending in
        let log_is : (host_at c k).log ≡ x.replica.log = subst (λ (z : Process). (host_at c k).log ≡ z.replica.log) one held.log in
        let le : length x.replica.log ≤ most_records = subst (λ (l : Log). length l ≤ most_records) log_is (short k) in
        let m = kept_turns c w [] gone (k ∷ ks) mid k in_k le in
        let none : handed_by o.replica o.waits ≡ [] = sym o.pending ∙ pending in
        let mine : Node m.world k (host_at c k) [] (gone k) ks = record {
          replica = x.replica;
          process = x;
          host = o.host ∙ ap (λ l. record { log = l; process = Some x }) (sym (ap (λ (p : Host). p.log) o.host) ∙ log_is);
          up = subst (λ r. slice_get m.world.sites k ≡ Some (Site.Up r)) (sym o.now) m.up;
          waits = [];
          now = refl;
          pending = pending;
          ok = tt;
          out = λ j d a. m.fresh k j d (o.out j d a);
          holds = subst (Q k x.replica []) (append-nil (gone k ++ x.outbox)) (subst (λ z. Q k x.replica [] ((gone k ++ x.outbox) ++ z)) none (subst (λ r. Q k r [] ((gone k ++ x.outbox) ++ handed_by o.replica o.waits)) (sym o.now) m.now));
          settled = λ f. refl;
        } in (
          m.world,
          record {
            ticks = m.ticks;
            goes = m.goes;
            holds = m.holds;
            short = m.short;
            nodes = λ j in_j. elim (cases_eq j k) [
              | inl is ↦ subst (λ i. Node m.world i (host_at c i) [] (gone i) ks) (sym is) mine
              | inr ne ↦ node_on w m.world j (host_at c j) (host_at c j) [] [] (gone j) (gone j) (k ∷ ks) ks (m.others j ne) m.fresh refl refl refl (λ f a. elim a [ inl e ↦ ne (sym e) | inr b ↦ f b ]) (mid.nodes j in_j)
            ];
            others = λ j out. log_of_same n c c w m.world j refl (log_same w m.world j (m.others j (λ is. out (subst (Among ms) (sym is) in_k)))) (mid.others j out);
            news = mid.news;
            sent_is = mid.sent_is;
            fresh = λ i d a. let f = mid.fresh i d a in (f.0, m.fresh f.0 i d f.1);
          },
        )
      where
        same_process : (a b : Process) → Some a ≡ Some b → a ≡ b
        same_process a b e = same_Some a b e

    settle : (ks : List ℕ) (c : Cluster) (w : World) (gone : ℕ → List Outgoing) → ((k : ℕ) → Among ks k → Among ms k) → ((k : ℕ) → Among ms k → (x : Process) × HasKept c k x) → HasShortLogs c → Middle c w [] gone ks →
        (u : World) × Middle c u [] gone []
    settle [] c w gone sub held short mid = (w, mid)
    settle (k ∷ ks) c w gone sub held short mid =
        let x = held k (sub k (inl refl)) in
        let o = settle_one c w gone k ks (sub k (inl refl)) x.0 x.1 short mid in
        settle ks c o.0 gone (λ j a. sub j (inr a)) held short o.1

    -- ---- the half

    -- from rest to rest
    pub record Done (c : Cluster) (es : List Event) (gone : ℕ → List Outgoing) : Type 0 where
      pub world : World
      pub ticks : List ℕ
      pub goes : GoesCalmly (λ k. Among ms k) v ticks world
      pub holds : M ticks world
      pub rest : AtRest n ms base (last_from c es) world
      pub now : (k : ℕ) (in_k : Among ms k) → Q k (rest.nodes k in_k).replica [] ((gone k ++ outs_from k c es) ++ (rest.nodes k in_k).process.outbox)

    rested : (c : Cluster) (es : List Event) (gone : ℕ → List Outgoing) (u : World) → Middle (last_from c es) u [] (λ k. gone k ++ outs_from k c es) [] → Done c es gone
    unfolding replica_after handed_by outputs_from turns_of
    rested c es gone u mid = record {
      world = u;
      ticks = mid.ticks;
      goes = mid.goes;
      holds = mid.holds;
      rest = record {
        short = mid.short;
        nodes = λ k in_k. let o = mid.nodes k in_k in let none = o.settled (λ a. a) in record {
          replica = o.replica;
          process = o.process;
          host = o.host;
          up = o.up;
          now = o.now ∙ ap (replica_after o.replica) none;
          pending = o.pending ∙ ap (handed_by o.replica) none;
          out = o.out;
        };
        others = mid.others;
        news = mid.news;
        sent_is = mid.sent_is;
        fresh = mid.fresh;
      };
      now = λ k in_k. let o = mid.nodes k in_k in subst (λ z. Q k o.replica (z ++ []) ((gone k ++ outs_from k c es) ++ o.process.outbox)) (o.settled (λ a. a)) o.holds;
    }

    pub half_done : (c : Cluster) (es : List Event) (gone : ℕ → List Outgoing) (rest : AtRest n ms base c v) → M [] v → ((k : ℕ) (in_k : Among ms k) → Q k (rest.nodes k in_k).replica (turns_of k es) (gone k ++ (rest.nodes k in_k).process.outbox)) →
        AllByRecursion (IsOfMember ms) es → ((k : ℕ) → Among ms k → AllByRecursion (Ok k) (turns_of k es)) → ((d : Cluster) → Among (clusters_from c es) d → HasShortLogs d) →
        ((k : ℕ) → Among ms k → (x : Process) × HasKept (last_from c es) k x) → HasShortLogs (last_from c es) → Done c es gone
    unfolding replica_after handed_by outputs_from
    half_done c es gone rest m q own ok short held short_end =
        let begins : Middle c v es gone ms = record {
          ticks = [];
          goes = stay;
          holds = m;
          short = rest.short;
          nodes = λ k in_k. let o = rest.nodes k in_k in record {
            replica = o.replica;
            process = o.process;
            host = o.host;
            up = o.up;
            waits = [];
            now = o.now;
            pending = o.pending;
            ok = ok k in_k;
            out = o.out;
            holds = q k in_k;
            settled = λ f. refl;
          };
          others = rest.others;
          news = rest.news;
          sent_is = rest.sent_is;
          fresh = rest.fresh;
        } in
        let a = all_events es c v gone own short begins in
        let b = settle ms (last_from c es) a.0 (λ k. gone k ++ outs_from k c es) (λ k i. i) held short_end a.1 in
        rested c es gone b.0 b.1
