-- Properties of each host of a history: whose entries it logs, and which clients wait for which of them.
use Rattle.std.proofs.Common.{◌≡◌, ℕ, zero, suc, ◌+◌, ◌≤◌, List, [], ◌∷◌, ◌++◌, map, refl, sym, ◌∙◌, ap, subst, inl, inr, Bool, true, false, arith}
use Rattle.std.specs.Prelude.{◌⊎◌, Some, None, slice_get, drop, nat_lt}
use Rattle.std.specs.Option.{option_map_or}
use Rattle.crsm_spec.specs.Choice.{when◌then◌otherwise◌}
use Rattle.crsm_spec.specs.Types.{Stamp, Command, Entry, Rec, Datagram}
use Rattle.crsm_spec.specs.Lists.{Among, numbers_below}
use Rattle.crsm_spec.specs.Log.{Log}
use Rattle.crsm_spec.specs.Replica.{Waiting, fresh}
use Rattle.crsm_spec.specs.Draft.{Draft, Reply, begun, keep}
use Rattle.crsm_spec.specs.Step.{boot, first_boot, founding_boot, boot_again}
use Rattle.crsm_spec.specs.Node.{Turn, turn}
use Rattle.crsm_fact_log.specs.Logs.{Extends, same, more, Logged}
use Rattle.crsm_fact_log.proofs.Logged.{extends_trans}
use Rattle.crsm_fact_log.proofs.Lists.{among_either}
use Rattle.crsm_law_agreement.proofs.Coordinators.{extends_among}
use Rattle.crsm_law_cluster.specs.Clusters.{Event, Outgoing, outgoing_of, Process, Host, Cluster, empty_host, host_at, with_host, started, with_turn, kept, while_up, with_process, posted, after, unborn}
use Rattle.crsm_law_cluster.specs.Going.{IsAt}
use Rattle.crsm_law_cluster.specs.Requests.{WasTaken, WasSubmitted}
use Rattle.crsm_law_cluster.proofs.Logging.{HasKey, key_later, Logs}
use Rattle.crsm_law_cluster.proofs.Replying.{Told, told_then, told_by, told_later, count, count_none, count_one, count_then}
use Rattle.crsm_law_cluster.proofs.Replying.Told.{nothing, refuses, answers}
use Rattle.crsm_law_cluster.proofs.Balance.{Balanced, begun_balanced}
use Rattle.crsm_law_cluster.proofs.Turns.{Asks, turn_logs, turn_balanced}
use Rattle.crsm_law_cluster.proofs.Along.{IsThere, always, from_then, changed}

-- ---- replies among what goes out

pub replies_in : List Outgoing → List Reply
replies_in [] = []
replies_in (Outgoing.ToReplica j d ∷ os) = replies_in os
replies_in (Outgoing.ToClient a ∷ os) = a ∷ replies_in os

replies_then : (os ps : List Outgoing) → replies_in (os ++ ps) ≡ replies_in os ++ replies_in ps
unfolding replies_in
replies_then [] ps = refl
replies_then (Outgoing.ToReplica j d ∷ os) ps = replies_then os ps
replies_then (Outgoing.ToClient a ∷ os) ps = ap (λ l. a ∷ l) (replies_then os ps)

no_replies : replies_in [] ≡ []
unfolding replies_in
no_replies = refl

pub replies_sent : (j : ℕ) (d : Datagram) (os : List Outgoing) → replies_in (Outgoing.ToReplica j d ∷ os) ≡ replies_in os
unfolding replies_in
replies_sent j d os = refl

pub replies_told : (a : Reply) (os : List Outgoing) → replies_in (Outgoing.ToClient a ∷ os) ≡ a ∷ replies_in os
unfolding replies_in
replies_told a os = refl

replies_of : (x : Draft) → replies_in (outgoing_of x) ≡ x.replies
unfolding outgoing_of
replies_of x = replies_then (map (λ s. Outgoing.ToReplica s.0 s.1) x.sends) (map Outgoing.ToClient x.replies) ∙ ap (λ l. l ++ replies_in (map Outgoing.ToClient x.replies)) (none x.sends) ∙ all x.replies
  where
    none : (ss : List (ℕ × Datagram)) → replies_in (map (λ s. Outgoing.ToReplica s.0 s.1) ss) ≡ []
    none [] = no_replies
    none (s ∷ ss) = replies_sent s.0 s.1 (map (λ s. Outgoing.ToReplica s.0 s.1) ss) ∙ none ss

    all : (us : List Reply) → replies_in (map Outgoing.ToClient us) ≡ us
    all [] = no_replies
    all (a ∷ us) = replies_told a (map Outgoing.ToClient us) ∙ ap (λ l. a ∷ l) (all us)

-- ---- boots

-- a boot logs no entry, and nobody waits
record IsBoot (k : ℕ) (log : Log) (x : Draft) : Type 0 where
  me : x.replica.me ≡ k
  grows : Extends log x.replica.log
  own : (e : Entry) → Logged x.replica.log e → Logged log e
  replies : x.replies ≡ []
  waiting : x.replica.waiting ≡ []

boots_so : (k n : ℕ) (log : Log) → IsBoot k log (boot k n log)
unfolding boot first_boot founding_boot boot_again keep begun fresh when◌then◌otherwise◌
boots_so k n (rec ∷ log) = record { me = refl; grows = more (Rec.Boot k n) same; own = λ e l. elim l [ inl q ↦ absurd (cc) | inr b ↦ b ]; replies = refl; waiting = refl }
boots_so k n [] = go (nat_lt k n)
  where
    go : (b : Bool) → IsBoot k [] (when b then founding_boot k n otherwise boot_again k n [])
    go true = record {
      me = refl;
      grows = more (Rec.Enter 0) (more (Rec.Boot k n) same);
      own = λ e l. elim l [ inl q ↦ absurd (cc) | inr b ↦ elim b [ inl q ↦ absurd (cc) | inr c ↦ c ] ];
      replies = refl;
      waiting = refl;
    }
    go false = record { me = refl; grows = more (Rec.Boot k n) same; own = λ e l. elim l [ inl q ↦ absurd (cc) | inr b ↦ b ]; replies = refl; waiting = refl }

-- ---- hosts

module _ (n : ℕ) (h : List Event) (epoch : ℕ) (stamp : Stamp) (most : ℕ) where
  -- each logged entry of its own was submitted before
  abbrev pub Filed : ℕ → ℕ → Log → Type 0
  Filed i k log = (e : Entry) → Logged log e → e.stamp.origin ≡ k → (a : ℕ) × WasSubmitted n h i a e

  -- the client's request submitted the entry, which is logged
  abbrev pub Client : ℕ → ℕ → Log → Waiting → Type 0
  Client i k log f = ((f.entry.stamp.origin ≡ k) × WasSubmitted n h i f.address f.entry) × Logged log f.entry

  -- A process: what waits in it, and how many replies and clients are on the entry of the key, which is logged where
  -- there are as many as there may be.
  pub record Busy (i k : ℕ) (log : Log) (x : Process) : Type 0 where
    pub me : x.replica.me ≡ k
    pub grows : Extends log x.replica.log
    pub filed : Filed i k x.replica.log
    pub spent : most ≤ 0 → HasKey log epoch stamp
    pub out : List Waiting
    pub out_told : Told (WasTaken n h i k) log (replies_in x.outbox) out
    pub out_from : (f : Waiting) → Among out f → Client i k log f
    pub made : List Waiting
    pub made_told : Told (WasTaken n h i k) x.replica.log (replies_in x.pending) made
    pub made_from : (f : Waiting) → Among made f → Client i k x.replica.log f
    pub waits : (f : Waiting) → Among x.replica.waiting f → Client i k x.replica.log f
    pub few : count epoch stamp out + (count epoch stamp made + count epoch stamp x.replica.waiting) ≤ most
    pub full : most ≤ count epoch stamp out + (count epoch stamp made + count epoch stamp x.replica.waiting) → HasKey x.replica.log epoch stamp

  pub data Good (i k : ℕ) : Host → Type 0 where
    idle : (log : Log) → Filed i k log → (most ≤ 0 → HasKey log epoch stamp) → Good i k (record { log = log; process = None })
    busy : (log : Log) (x : Process) → Busy i k log x → Good i k (record { log = log; process = Some x })

  -- ---- later

  pub filed_later : (i k : ℕ) (log : Log) → Filed i k log → Filed (suc i) k log
  filed_later i k log f e l o = let t = f e l o in (t.0, (t.1.0, (let lt = t.1.1 in omega (arith, lt)), t.1.2))

  pub client_later : (i k : ℕ) (a b : Log) → Extends a b → (f : Waiting) → Client i k a f → Client (suc i) k b f
  client_later i k a b x f c = ((c.0.0, (c.0.1.0, (let lt = c.0.1.1 in omega (arith, lt)), c.0.1.2)), extends_among x (Rec.Prepare f.entry) c.1)

  pub taken_later : (i k a : ℕ) (c : Command) → WasTaken n h i k a c → WasTaken n h (suc i) k a c
  taken_later i k a c t = (t.0, (let lt = t.1 in omega (arith, lt)), t.2)

  busy_later : (i k : ℕ) (log : Log) (x : Process) → Busy i k log x → Busy (suc i) k log x
  busy_later i k log x b = record {
    me = b.me;
    grows = b.grows;
    filed = filed_later i k x.replica.log b.filed;
    spent = b.spent;
    out = b.out;
    out_told = told_by (taken_later i k) b.out_told;
    out_from = λ f a. client_later i k log log same f (b.out_from f a);
    made = b.made;
    made_told = told_by (taken_later i k) b.made_told;
    made_from = λ f a. client_later i k x.replica.log x.replica.log same f (b.made_from f a);
    waits = λ f a. client_later i k x.replica.log x.replica.log same f (b.waits f a);
    few = b.few;
    full = b.full;
  }

  later : (i k : ℕ) (p : Host) → Good i k p → Good (suc i) k p
  later i k _ (idle log f s) = idle log (filed_later i k log f) s
  later i k _ (busy log x b) = busy log x (busy_later i k log x b)

  -- ---- events

  boots : (i k m : ℕ) (p : Host) → Good i k p → Good (suc i) k (started k m p.log p.process)
  unfolding started
  boots i k m _ (busy log x b) = busy log x (busy_later i k log x b)
  boots i k m _ (idle log f s) =
      let d = boot k m log in
      let t = boots_so k m log in
      let none = count_none epoch stamp in
      let waiting : count epoch stamp d.replica.waiting ≡ 0 = ap (count epoch stamp) t.waiting ∙ none in
      busy d.replica.log (record { replica = d.replica; pending = []; outbox = outgoing_of d }) (record {
        me = t.me;
        grows = same;
        filed = filed_later i k d.replica.log (λ e l o. f e (t.own e l) o);
        spent = λ le. key_later t.grows epoch stamp (s le);
        out = [];
        out_told = subst (λ us. Told (WasTaken n h (suc i) k) d.replica.log us []) (sym (replies_of d ∙ t.replies)) nothing;
        out_from = λ g a. absurd a;
        made = [];
        made_told = subst (λ us. Told (WasTaken n h (suc i) k) d.replica.log us []) (sym no_replies) nothing;
        made_from = λ g a. absurd a;
        waits = λ g a. absurd (subst (λ l. Among l g) t.waiting a);
        few = omega (arith, none, waiting);
        full = λ le. key_later t.grows epoch stamp (s (omega (arith, le, none, waiting)));
      })

  stops : (i k : ℕ) (p : Host) → Good i k p → Good (suc i) k (record p { process = None })
  stops i k _ (idle log f s) = idle log (filed_later i k log f) s
  stops i k _ (busy log x b) = idle log (filed_later i k log (λ e l o. b.filed e (extends_among b.grows (Rec.Prepare e) l) o)) b.spent

  -- what is kept is no more pending
  kept_busy : (i k : ℕ) (log : Log) (x : Process) → Busy i k log x → Busy (suc i) k x.replica.log (record x { pending = []; outbox = x.outbox ++ x.pending })
  kept_busy i k log x b =
      let many = count_then epoch stamp b.out b.made in
      let none = count_none epoch stamp in
      record {
        me = b.me;
        grows = same;
        filed = filed_later i k x.replica.log b.filed;
        spent = λ le. key_later b.grows epoch stamp (b.spent le);
        out = b.out ++ b.made;
        out_told = subst (λ us. Told (WasTaken n h (suc i) k) x.replica.log us (b.out ++ b.made)) (sym (replies_then x.outbox x.pending))
            (told_by (taken_later i k) (told_then (told_later b.grows b.out_told) b.made_told));
        out_from = λ f a. elim (among_either b.out b.made f a) [
          | inl o ↦ client_later i k log x.replica.log b.grows f (b.out_from f o)
          | inr o ↦ client_later i k x.replica.log x.replica.log same f (b.made_from f o)
        ];
        made = [];
        made_told = subst (λ us. Told (WasTaken n h (suc i) k) x.replica.log us []) (sym no_replies) nothing;
        made_from = λ f a. absurd a;
        waits = λ f a. client_later i k x.replica.log x.replica.log same f (b.waits f a);
        few = (let t = b.few in omega (arith, t, many, none));
        full = λ le. b.full (omega (arith, le, many, none));
      }

  keeps : (i k : ℕ) (p : Host) → Good i k p → Good (suc i) k (while_up p (kept p))
  unfolding while_up kept
  keeps i k _ (idle log f s) = idle log (filed_later i k log f) s
  keeps i k _ (busy log x b) = busy x.replica.log _ (kept_busy i k log x b)

  -- the first of what waits to go out is gone
  record IsLess (R : ℕ → Command → Type 0) (log : Log) (os : List Outgoing) (fs : List Waiting) : Type 0 where
    on : List Waiting
    told : Told R log (replies_in (drop 1 os)) on
    from : (f : Waiting) → Among on f → Among fs f
    fewer : count epoch stamp on ≤ count epoch stamp fs

  less : (R : ℕ → Command → Type 0) (log : Log) (os : List Outgoing) (fs : List Waiting) → Told R log (replies_in os) fs → IsLess R log os fs
  less R log [] fs t = record { on = fs; told = t; from = λ f a. a; fewer = omega arith }
  less R log (Outgoing.ToReplica j d ∷ os) fs t = record { on = fs; told = subst (λ us. Told R log us fs) (replies_sent j d os) t; from = λ f a. a; fewer = omega arith }
  less R log (Outgoing.ToClient a ∷ os) fs t = head fs (subst (λ us. Told R log us fs) (replies_told a os) t)
    where
      head : (fs : List Waiting) → Told R log (a ∷ replies_in os) fs → IsLess R log (Outgoing.ToClient a ∷ os) fs
      head fs (refuses _ r p) = record { on = fs; told = p; from = λ f a. a; fewer = omega arith }
      head (f ∷ gs) (answers _ _ o p) = record { on = gs; told = p; from = λ g a. inr a; fewer = (let one = count_one epoch stamp f gs in omega (arith, one)) }

  posts : (i k : ℕ) (p : Host) → Good i k p → Good (suc i) k (while_up p (λ x. with_process p (posted x)))
  unfolding while_up with_process posted
  posts i k _ (idle log f s) = idle log (filed_later i k log f) s
  posts i k _ (busy log x b) =
      let c = busy_later i k log x b in
      let l = less (WasTaken n h (suc i) k) log x.outbox c.out c.out_told in
      busy log _ (record {
        me = c.me;
        grows = c.grows;
        filed = c.filed;
        spent = c.spent;
        out = l.on;
        out_told = l.told;
        out_from = λ f a. c.out_from f (l.from f a);
        made = c.made;
        made_told = c.made_told;
        made_from = c.made_from;
        waits = c.waits;
        few = (let t = c.few in let u = l.fewer in omega (arith, t, u));
        full = λ le. c.full (let u = l.fewer in omega (arith, le, u));
      })

  -- ---- a turn

  module _ (i k : ℕ) (c : Cluster) (t : Turn) (reading : ℕ) (at : IsAt n h i c (Event.Takes k t reading)) (log : Log) (x : Process) (is : host_at c k ≡ record { log = log; process = Some x }) (b : Busy i k log x) where
    abbrev y : Draft
    y = turn x.replica (t, reading)

    taken_now : (a : ℕ) (cmd : Command) → Asks t a cmd → WasTaken n h (suc i) k a cmd
    taken_now a cmd q = (
      i,
      omega arith,
      record {
        cluster = c;
        bytes = q.bytes;
        reading = reading;
        at = record { cluster = at.cluster; event = subst (λ z. slice_get h i ≡ Some (Event.Takes k z reading)) q.is at.event };
        asks = q.asks;
      },
    )

    submitted_now : (a : ℕ) (e : Entry) → e.stamp.origin ≡ k → Asks t a e.command → Among y.batch (Rec.Prepare e) → WasSubmitted n h (suc i) a e
    submitted_now a e o q l = (
      i,
      omega arith,
      record {
        taken = record {
          cluster = c;
          bytes = q.bytes;
          reading = reading;
          at = record { cluster = at.cluster; event = subst (λ z. slice_get h i ≡ Some (Event.Takes z (Turn.In a q.bytes) reading)) (sym o) (subst (λ z. slice_get h i ≡ Some (Event.Takes k z reading)) q.is at.event) };
          asks = q.asks;
        };
        process = x;
        runs = subst (λ z. (host_at c z).process ≡ Some x) (sym o) (ap (λ (p : Host). p.process) is);
        logs = subst (λ z. Among (turn x.replica (z, reading)).batch (Rec.Prepare e)) q.is l;
      },
    )

    logs : Logs x.replica (Asks t) y
    logs = turn_logs x.replica t reading

    abbrev before : ℕ
    before = count epoch stamp b.out + count epoch stamp b.made

    balanced : Balanced x.replica (Asks t) epoch stamp before most y []
    balanced = turn_balanced x.replica t reading epoch stamp before most
        (begun_balanced x.replica (Asks t) epoch stamp before most (λ f a. (b.waits f a).1) (let few = b.few in omega (arith, few)) (λ le. b.full (omega (arith, le))))

    client_now : (f : Waiting) → (Among x.replica.waiting f ⊎ (Asks t f.address f.entry.command × Among y.batch (Rec.Prepare f.entry) × (f.entry.stamp.origin ≡ x.replica.me))) × Logged y.replica.log f.entry → Client (suc i) k y.replica.log f
    client_now f (inl a, l) = let c = client_later i k x.replica.log x.replica.log same f (b.waits f a) in (c.0, l)
    client_now f (inr a, l) = ((a.2 ∙ b.me, submitted_now f.address f.entry (a.2 ∙ b.me) a.0 a.1), l)

    own_now : Filed (suc i) k y.replica.log
    own_now e l o = elim (logs.own e l (o ∙ sym b.me)) [
      | inl q ↦ filed_later i k x.replica.log b.filed e q o
      | inr q ↦ (q.0, submitted_now q.0 e o q.1.0 q.1.1)
    ]

    pending_is : replies_in (x.pending ++ outgoing_of y) ≡ replies_in x.pending ++ y.replies
    pending_is = replies_then x.pending (outgoing_of y) ∙ ap (λ us. replies_in x.pending ++ us) (replies_of y)

    taken_busy : Busy (suc i) k log (record x { replica = y.replica; pending = x.pending ++ outgoing_of y })
    taken_busy =
        let many = count_then epoch stamp b.made balanced.on in
        let none = count_none epoch stamp in
        record {
          me = logs.me ∙ b.me;
          grows = extends_trans b.grows logs.grows;
          filed = own_now;
          spent = b.spent;
          out = b.out;
          out_told = told_by (taken_later i k) b.out_told;
          out_from = λ f a. client_later i k log log same f (b.out_from f a);
          made = b.made ++ balanced.on;
          made_told = subst (λ us. Told (WasTaken n h (suc i) k) y.replica.log us (b.made ++ balanced.on)) (sym pending_is)
              (told_then (told_by (taken_later i k) (told_later logs.grows b.made_told)) (told_by taken_now balanced.told));
          made_from = λ f a. elim (among_either b.made balanced.on f a) [
            | inl o ↦ client_later i k x.replica.log y.replica.log logs.grows f (b.made_from f o)
            | inr o ↦ client_now f (balanced.answered f o)
          ];
          waits = λ f a. client_now f (balanced.waits f a);
          few = (let few = balanced.few in omega (arith, few, many, none));
          full = λ le. balanced.full (omega (arith, le, many, none));
        }

  takes : (i k : ℕ) (c : Cluster) (t : Turn) (reading : ℕ) → IsAt n h i c (Event.Takes k t reading) → (p : Host) → host_at c k ≡ p → Good i k p → Good (suc i) k (while_up p (λ x. with_process p (with_turn t reading x)))
  unfolding while_up with_process with_turn
  takes i k c t reading at _ is (idle log f s) = idle log (filed_later i k log f) s
  takes i k c t reading at _ is (busy log x b) = busy log _ (taken_busy i k c t reading at log x is b)

  -- ---- every event

  one_host : (i : ℕ) (c : Cluster) (j k : ℕ) (p : Host) → (Good i j (host_at c j) → Good (suc i) j p) → Good i k (host_at c k) → Good (suc i) k (host_at (with_host c j p) k)
  one_host i c j k p new old = elim (changed c j k p) [
    | inl e ↦ subst (Good (suc i) k) (sym e) (later i k (host_at c k) old)
    | inr t ↦ subst (Good (suc i) k) (sym t.1) (subst (λ z. Good (suc i) z p) t.0 (new (subst (λ z. Good i z (host_at c z)) (sym t.0) old)))
  ]

  same_host : (i : ℕ) (c : Cluster) (ss : List (ℕ × Datagram)) (k : ℕ) → Good i k (host_at c k) → Good i k (host_at (record c { sent = ss }) k)
  unfolding host_at
  same_host i c ss k g = g

  event_good : (k : ℕ) (i : ℕ) (c : Cluster) (e : Event) → IsAt n h i c e → IsThere n h (suc i) (after c e) → Good i k (host_at c k) → Good (suc i) k (host_at (after c e) k)
  unfolding after
  event_good k i c (Event.Boots j) at next g = one_host i c j k _ (boots i j c.n (host_at c j)) g
  event_good k i c (Event.Takes j t reading) at next g = one_host i c j k _ (takes i j c t reading at (host_at c j) refl) g
  event_good k i c (Event.Keeps j) at next g = one_host i c j k _ (keeps i j (host_at c j)) g
  event_good k i c (Event.Sends j) at next g = same_host (suc i) _ _ k (one_host i c j k _ (posts i j (host_at c j)) g)
  event_good k i c (Event.Fails j) at next g = one_host i c j k _ (posts i j (host_at c j)) g
  event_good k i c (Event.Stops j) at next g = one_host i c j k _ (stops i j (host_at c j)) g

  unborn_host : (ks : List ℕ) (k : ℕ) → option_map_or (λ (p : Host). p) (slice_get (map (λ i. empty_host) ks) k) empty_host ≡ empty_host
  unborn_host [] k = refl
  unborn_host (i ∷ ks) zero = refl
  unborn_host (i ∷ ks) (suc k) = unborn_host ks k

  unborn_good : 1 ≤ most → (k : ℕ) → Good 0 k (host_at (unborn n) k)
  unfolding unborn host_at empty_host
  unborn_good some k = subst (Good 0 k) (sym (unborn_host (numbers_below 15) k)) nobody
    where
      nobody : Good 0 k empty_host
      nobody = idle [] (λ e l o. absurd l) (λ le. absurd (omega (arith, le, some)))

  pub always_good : 1 ≤ most → (k i : ℕ) (c : Cluster) → IsThere n h i c → Good i k (host_at c k)
  always_good some k i c at = always n h (λ i c. Good i k (host_at c k)) (event_good k) (unborn_good some k) i c at

  pub good_then : (k i : ℕ) (c : Cluster) → IsThere n h i c → Good i k (host_at c k) → (j : ℕ) (d : Cluster) → i ≤ j → IsThere n h j d → Good j k (host_at d k)
  good_then k i c at g j d le there = from_then n h (λ i c. Good i k (host_at c k)) (event_good k) i c at g j d le there
