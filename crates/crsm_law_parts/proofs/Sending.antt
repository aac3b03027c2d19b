-- A history in which each send that failed succeeds: it is lawful too, and has the same log files.
use Rattle.std.proofs.Common.{◌≡◌, ℕ, zero, suc, ◌≤◌, List, [], ◌∷◌, ◌++◌, length, map, refl, sym, ◌∙◌, ap, subst, inl, inr}
use Rattle.std.specs.Prelude.{Some, slice_get, ◌^◌}
use Rattle.std.proofs.lemmas.Option.{none-some, same_Some}
use Rattle.crsm_spec.specs.Types.{Datagram}
use Rattle.crsm_spec.specs.Lists.{Among}
use Rattle.crsm_spec.specs.Draft.{Reply}
use Rattle.crsm_spec.specs.Node.{Turn}
use Rattle.crsm_fact_log.proofs.Lists.{among_left, among_right, among_either}
use Rattle.crsm_law_cluster.specs.Clusters.{Event, Outgoing, Cluster, host_at, log_in, with_host, after, unborn, next_out, sent_of}
use Rattle.crsm_law_cluster.specs.Histories.{clusters_from, clusters, last_from, last_cluster}
use Rattle.crsm_law_cluster.specs.Lawful.{IsGenuine, MayHappen, IsLawfulFrom}
use Rattle.crsm_law_cluster.specs.Going.{IsAt, IsReplied}
use Rattle.crsm_law_cluster.specs.ClusterLaws.{IsHistory}
use Rattle.crsm_law_parts.specs.Handed.{IsSendAt, IsHanded}

abbrev Sent : Type 0
Sent = List (ℕ × Datagram)

abbrev as_sent : Event → Event
as_sent (Event.Fails k) = Event.Sends k
as_sent (Event.Boots k) = Event.Boots k
as_sent (Event.Takes k t reading) = Event.Takes k t reading
as_sent (Event.Keeps k) = Event.Keeps k
as_sent (Event.Sends k) = Event.Sends k
as_sent (Event.Stops k) = Event.Stops k

abbrev pub all_sent : List Event → List Event
all_sent h = map as_sent h

abbrev with_sent : Cluster → Sent → Cluster
with_sent c ss = record c { sent = ss }

abbrev more_sent : Sent → Cluster → Event → Sent
more_sent ss c (Event.Sends k) = ss ++ sent_of (next_out c k)
more_sent ss c (Event.Fails k) = ss ++ sent_of (next_out c k)
more_sent ss c (Event.Boots k) = ss
more_sent ss c (Event.Takes k t reading) = ss
more_sent ss c (Event.Keeps k) = ss
more_sent ss c (Event.Stops k) = ss

after_sent : (c : Cluster) (ss : Sent) (e : Event) → after (with_sent c ss) (as_sent e) ≡ with_sent (after c e) (more_sent ss c e)
unfolding after with_host host_at next_out
after_sent c ss (Event.Boots k) = refl
after_sent c ss (Event.Takes k t reading) = refl
after_sent c ss (Event.Keeps k) = refl
after_sent c ss (Event.Sends k) = refl
after_sent c ss (Event.Fails k) = refl
after_sent c ss (Event.Stops k) = refl

-- ---- more was sent

abbrev IsMore : Cluster → Sent → Type 0
IsMore c ss = (s : ℕ × Datagram) → Among c.sent s → Among ss s

after_more : (c : Cluster) (ss : Sent) (e : Event) → IsMore c ss → IsMore (after c e) (more_sent ss c e)
unfolding after with_host
after_more c ss (Event.Boots k) h s a = h s a
after_more c ss (Event.Takes k t reading) h s a = h s a
after_more c ss (Event.Keeps k) h s a = h s a
after_more c ss (Event.Sends k) h s a = elim (among_either c.sent (sent_of (next_out c k)) s a) [ inl b ↦ among_left ss (sent_of (next_out c k)) s (h s b) | inr b ↦ among_right ss (sent_of (next_out c k)) s b ]
after_more c ss (Event.Fails k) h s a = among_left ss (sent_of (next_out c k)) s (h s a)
after_more c ss (Event.Stops k) h s a = h s a

genuine_more : (c : Cluster) (ss : Sent) (k : ℕ) (d : Datagram) → IsMore c ss → IsGenuine c k d → IsGenuine (with_sent c ss) k d
genuine_more c ss k (Datagram.Frame from to epoch seq payload) h g = λ is ne. h _ (g is ne)
genuine_more c ss k (Datagram.Ack from to epoch next) h g = λ is ne. h _ (g is ne)
genuine_more c ss k (Datagram.Part from to boot number index count bytes) h g = λ is ne. h _ (g is ne)
genuine_more c ss k (Datagram.Request command) h g = tt
genuine_more c ss k (Datagram.Reply client number told) h g = tt
genuine_more c ss k (Datagram.Operate members) h g = tt

may_more : (c : Cluster) (ss : Sent) (e : Event) → IsMore c ss → MayHappen c e → MayHappen (with_sent c ss) (as_sent e)
may_more c ss (Event.Boots k) h m = tt
may_more c ss (Event.Takes k (Turn.In address bytes) reading) h m = (m.0, (m.1.0, λ d is. genuine_more c ss k d h (m.1.1 d is)))
may_more c ss (Event.Takes k Turn.Tick reading) h m = m
may_more c ss (Event.Takes k (Turn.Suspect ms) reading) h m = m
may_more c ss (Event.Keeps k) h m = tt
may_more c ss (Event.Sends k) h m = tt
may_more c ss (Event.Fails k) h m = tt
may_more c ss (Event.Stops k) h m = tt

lawful_more : (c : Cluster) (ss : Sent) (h : List Event) → IsMore c ss → IsLawfulFrom c h → IsLawfulFrom (with_sent c ss) (all_sent h)
lawful_more c ss [] more l = tt
lawful_more c ss (e ∷ es) more l = (
  may_more c ss e more l.0,
  subst (λ d. IsLawfulFrom d (all_sent es)) (sym (after_sent c ss e)) (lawful_more (after c e) (more_sent ss c e) es (after_more c ss e more) l.1),
)

-- ---- what stays

last_like : (c : Cluster) (ss : Sent) (h : List Event) (k : ℕ) → log_in (last_from (with_sent c ss) (all_sent h)) k ≡ log_in (last_from c h) k
unfolding last_from log_in host_at
last_like c ss [] k = refl
last_like c ss (e ∷ es) k = ap (λ d. log_in (last_from d (all_sent es)) k) (after_sent c ss e) ∙ last_like (after c e) (more_sent ss c e) es k

at_like : (c : Cluster) (ss : Sent) (h : List Event) (i : ℕ) (b : Cluster) → slice_get (clusters_from c h) i ≡ Some b → (more : Sent) × (slice_get (clusters_from (with_sent c ss) (all_sent h)) i ≡ Some (with_sent b more))
unfolding clusters_from
at_like c ss [] zero b at = (ss, ap (λ (d : Cluster). Some (with_sent d ss)) (same_Some c b at))
at_like c ss [] (suc i) b at = absurd (none-some b at)
at_like c ss (e ∷ es) zero b at = (ss, ap (λ (d : Cluster). Some (with_sent d ss)) (same_Some c b at))
at_like c ss (e ∷ es) (suc i) b at =
    let t = at_like (after c e) (more_sent ss c e) es i b at in
    (t.0, ap (λ d. slice_get (clusters_from d (all_sent es)) i) (after_sent c ss e) ∙ t.1)

event_like : (h : List Event) (i : ℕ) (e : Event) → slice_get h i ≡ Some e → slice_get (all_sent h) i ≡ Some (as_sent e)
event_like [] i e at = absurd (none-some e at)
event_like (f ∷ h) zero e at = ap (λ g. Some (as_sent g)) (same_Some f e at)
event_like (f ∷ h) (suc i) e at = event_like h i e at

sends_like : (k : ℕ) (e : Event) → IsSendAt k e → as_sent e ≡ Event.Sends k
sends_like k e (inl is) = ap as_sent is
sends_like k e (inr is) = ap as_sent is

out_like : (c : Cluster) (ss : Sent) (k : ℕ) → next_out (with_sent c ss) k ≡ next_out c k
unfolding next_out host_at
out_like c ss k = refl

unborn_like : (n : ℕ) → with_sent (unborn n) [] ≡ unborn n
unfolding unborn
unborn_like n = refl

none_more : (n : ℕ) → IsMore (unborn n) []
unfolding unborn
none_more n s a = a

module _ (n : ℕ) (h : List Event) where
  -- the same event, of a cluster in which more was sent
  at_sent : (k : ℕ) (o : Outgoing) (t : IsHanded n h k o) → (c : Cluster) × IsAt n (all_sent h) t.0 c (Event.Sends k) × (next_out c k ≡ Some o)
  unfolding clusters
  at_sent k o t =
      let a = at_like (unborn n) [] h t.0 t.1 t.3.cluster in (
        with_sent t.1 a.0,
        record {
          cluster = subst (λ c. slice_get (clusters_from c (all_sent h)) t.0 ≡ Some (with_sent t.1 a.0)) (unborn_like n) a.1;
          event = event_like h t.0 t.2 t.3.event ∙ ap (λ (e : Event). Some e) (sends_like k t.2 t.4);
        },
        out_like t.1 a.0 k ∙ t.5,
      )

  pub history_like : IsHistory n h → IsHistory n (all_sent h)
  unfolding last_cluster
  history_like q = record {
    most = q.most;
    lawful = subst (λ c. IsLawfulFrom c (all_sent h)) (unborn_like n) (lawful_more (unborn n) [] h (none_more n) q.lawful);
    short = λ k. subst (λ l. length l ≤ 2 ^ 50) (sym (ap (λ c. log_in (last_from c (all_sent h)) k) (sym (unborn_like n)) ∙ last_like (unborn n) [] h k)) (q.short k);
  }

  pub replied : (k : ℕ) (a : Reply) → IsHanded n h k (Outgoing.ToClient a) → (i : ℕ) × IsReplied n (all_sent h) i k a
  replied k a t = let s = at_sent k (Outgoing.ToClient a) t in (t.0, (s.0, s.1, s.2))

-- ---- what was sent is there in the end

on_after : (c : Cluster) (e : Event) (s : ℕ × Datagram) → Among c.sent s → Among (after c e).sent s
unfolding after with_host
on_after c (Event.Boots k) s a = a
on_after c (Event.Takes k t reading) s a = a
on_after c (Event.Keeps k) s a = a
on_after c (Event.Sends k) s a = among_left c.sent (sent_of (next_out c k)) s a
on_after c (Event.Fails k) s a = a
on_after c (Event.Stops k) s a = a

on_to_last : (c : Cluster) (h : List Event) (s : ℕ × Datagram) → Among c.sent s → Among (last_from c h).sent s
unfolding last_from
on_to_last c [] s a = a
on_to_last c (e ∷ es) s a = on_to_last (after c e) es s (on_after c e s a)

sent_now : (c : Cluster) (k to : ℕ) (d : Datagram) → next_out c k ≡ Some (Outgoing.ToReplica to d) → Among (after c (Event.Sends k)).sent (to, d)
unfolding after with_host sent_of
sent_now c k to d e = among_right c.sent (sent_of (next_out c k)) (to, d) (subst (λ o. Among (sent_of o) (to, d)) (sym e) (inl refl))

sent_then : (c : Cluster) (h : List Event) (i : ℕ) (b : Cluster) (k to : ℕ) (d : Datagram) → slice_get (clusters_from c h) i ≡ Some b → slice_get h i ≡ Some (Event.Sends k) → next_out b k ≡ Some (Outgoing.ToReplica to d) →
    Among (last_from c h).sent (to, d)
unfolding clusters_from last_from
sent_then c [] i b k to d at is out = absurd (none-some _ is)
sent_then c (e ∷ es) zero b k to d at is out =
    on_to_last (after c e) es (to, d) (subst (λ f. Among (after c f).sent (to, d)) (sym (same_Some e (Event.Sends k) is)) (sent_now c k to d (ap (λ z. next_out z k) (same_Some c b at) ∙ out)))
sent_then c (e ∷ es) (suc i) b k to d at is out = sent_then (after c e) es i b k to d at is out

pub sent_in_the_end : (n : ℕ) (h : List Event) (k to : ℕ) (d : Datagram) → IsHanded n h k (Outgoing.ToReplica to d) → Among (last_cluster n (all_sent h)).sent (to, d)
unfolding last_cluster clusters
sent_in_the_end n h k to d t =
    let s = at_sent n h k (Outgoing.ToReplica to d) t in
    sent_then (unborn n) (all_sent h) t.0 s.0 k to d s.1.cluster s.1.event s.2
