-- A history that comes to a calm cluster, and two rounds behind it, by computation.
use Rattle.std.proofs.Common.{◌≡◌, ℕ, zero, suc, ◌+◌, ◌-◌, ◌<◌, ◌≤◌, List, [], ◌∷◌, ◌++◌, length, refl, sym, ◌∙◌, ap, subst, inl, inr, true, cond, arith, append_assoc}
use Rattle.std.specs.Prelude.{◌≢◌, ◌⊎◌, ◌^◌, Option, Some, None, slice_get, option_to_list, Contains}
use Rattle.std.specs.Option.{option_map_or}
use Rattle.std.specs.List.{AllByRecursion}
use Rattle.std.proofs.lemmas.Bool.{cases_eq, eq-eqb, ne_eqb}
use Rattle.std.proofs.lemmas.List.{append-nil}
use Rattle.crsm_base.specs.Messages.{datagram_bytes}
use Rattle.crsm_base.specs.MessageReading.{datagram_of}
use Rattle.crsm_spec.specs.Clock.{u64_max}
use Rattle.crsm_spec.specs.Types.{Entry, Rec, InEpoch, Datagram}
use Rattle.crsm_spec.specs.Lists.{Among}
use Rattle.crsm_spec.specs.Replica.{fresh, unacked}
use Rattle.crsm_spec.specs.Node.{Turn}
use Rattle.crsm_spec.specs.Calm.{IsPart, IsLaterDecide, IsOpen}
use Rattle.crsm_fact_log.proofs.Lists.{all_at, among_left, among_right, among_either}
use Rattle.crsm_law_runs.proofs.DurableLists.{among_contains}
use Rattle.crsm_law_active.specs.Telling.{IsOfLink}
use Rattle.crsm_law_examples.proofs.Opened.{the_model}
use Rattle.crsm_law_cases.proofs.Checks.{all_bytes, all_short, short_cluster, asks, comes}
use Rattle.crsm_law_cases.proofs.Happening.{put_a, asked, small_bytes, read_back}
use Rattle.crsm_law_cluster.specs.Clusters.{Event, Outgoing, Process, Host, Cluster, empty_host, unborn, outgoing_of, started, with_turn, kept, while_up, with_process, posted, host_at, log_in, with_host, next_out, sent_of, after}
use Rattle.crsm_law_cluster.specs.Histories.{last_from, last_cluster}
use Rattle.crsm_law_cluster.specs.Lawful.{IsLawfulFrom}
use Rattle.crsm_law_cluster.specs.HistoryLaws.{HasShortLogs}
use Rattle.crsm_law_cluster.specs.ClusterLaws.{IsHistory}
use Rattle.crsm_law_cluster.specs.OneList.{world_of}
use Rattle.crsm_law_cluster.proofs.Views.{log_is}
use Rattle.crsm_law_lives.specs.Events.{node_of}
use Rattle.crsm_law_lives.specs.Sending.{out_at, outs_from}
use Rattle.crsm_law_calm.specs.Calm.{HasKept, HasSent, IsCalmNode, IsCalmCluster, AreCalmReadings}
use Rattle.crsm_law_calm.specs.Rounds.{turn_at, turns_of, IsOfMember, IsCalmTurn, IsRound, datagram_in, received_in, to_replica, StandsIn}
use Rattle.crsm_law_calm.specs.Cases.{both, RoundsHappen}
use Rattle.crsm_law_calm.proofs.Events.{last_then, turn_own, turn_other, all_then}
use Rattle.crsm_law_calm.proofs.Carrying.{replica_then}

-- ---- events

abbrev before : List Event
before = Event.Boots 0 ∷ Event.Boots 1 ∷ Event.Takes 0 (Turn.In 77 asked) 5 ∷ Event.Keeps 0 ∷ Event.Sends 0 ∷ []

abbrev sends : ℕ → ℕ → List Event
sends k zero = []
sends k (suc m) = Event.Sends k ∷ sends k m

abbrev ticks : (ℕ → ℕ) → List Event
ticks at = Event.Takes 0 Turn.Tick (at 0) ∷ Event.Keeps 0 ∷ Event.Takes 1 Turn.Tick (at 1) ∷ Event.Keeps 1 ∷ (sends 0 8 ++ sends 1 8)

abbrev takes : ℕ → ℕ → List Datagram → List Event
takes k reading [] = []
takes k reading (d ∷ ds) = Event.Takes k (Turn.In 70 (datagram_bytes d)) reading ∷ takes k reading ds

-- what the two have sent each other in these events
unfoldable to_1 : Cluster → List Event → List Datagram
to_1 c es = to_replica 1 (outs_from 0 c es)

unfoldable to_0 : Cluster → List Event → List Datagram
to_0 c es = to_replica 0 (outs_from 1 c es)

abbrev all_takes : List Datagram → List Datagram → ℕ → List Event
all_takes ds xs reading = takes 1 reading ds ++ Event.Keeps 1 ∷ (takes 0 reading xs ++ Event.Keeps 0 ∷ [])

-- ---- what was sent

sent_on : (c : Cluster) (e : Event) (x : ℕ × Datagram) → Among c.sent x → Among (after c e).sent x
unfolding after with_host
sent_on c (Event.Boots k) x a = a
sent_on c (Event.Takes k t reading) x a = a
sent_on c (Event.Keeps k) x a = a
sent_on c (Event.Sends k) x a = among_left c.sent (sent_of (next_out c k)) x a
sent_on c (Event.Fails k) x a = a
sent_on c (Event.Stops k) x a = a

stays_sent : (es : List Event) (c : Cluster) (x : ℕ × Datagram) → Among c.sent x → Among (last_from c es).sent x
unfolding last_from
stays_sent [] c x a = a
stays_sent (e ∷ es) c x a = stays_sent es (after c e) x (sent_on c e x a)

one_sent : (j : ℕ) (o : Option Outgoing) (d : Datagram) → Among (to_replica j (option_to_list o)) d → Among (sent_of o) (j, d)
unfolding to_replica sent_of
one_sent j None d a = absurd a
one_sent j (Some (Outgoing.ToClient r)) d a = absurd a
one_sent j (Some (Outgoing.ToReplica i x)) d a = elim (cases_eq i j) [
  | inl e ↦ (let b = subst (λ l. Among l d) (ap (λ z. cond z (x ∷ []) []) (eq-eqb i j e)) a in first_one e b)
  | inr ne ↦ absurd (subst (λ l. Among l d) (ap (λ z. cond z (x ∷ []) []) (ne_eqb i j ne)) a)
]
  where
    first_one : i ≡ j → Among (x ∷ []) d → Among {A = ℕ × Datagram} ((i, x) ∷ []) (j, d)
    first_one e (inl q) = inl (ap (λ z. (z, x)) e ∙ ap (λ z. (j, z)) q)
    first_one e (inr q) = absurd q

out_sent : (j k : ℕ) (c : Cluster) (e : Event) (d : Datagram) → Among (to_replica j (out_at k c e)) d → Among (after c e).sent (j, d)
unfolding out_at after to_replica
out_sent j k c (Event.Sends i) d a = elim (cases_eq i k) [
  | inl e ↦ among_right c.sent (sent_of (next_out c i)) (j, d) (one_sent j (next_out c i) d (subst (λ z. Among (to_replica j (option_to_list (next_out c z))) d) (sym e) (subst (λ l. Among (to_replica j l) d) (ap (λ z. cond z (option_to_list (next_out c k)) []) (eq-eqb i k e)) a)))
  | inr ne ↦ absurd (subst (λ l. Among (to_replica j l) d) (ap (λ z. cond z (option_to_list (next_out c k)) []) (ne_eqb i k ne)) a)
]
out_sent j k c (Event.Boots i) d a = absurd a
out_sent j k c (Event.Takes i t reading) d a = absurd a
out_sent j k c (Event.Keeps i) d a = absurd a
out_sent j k c (Event.Fails i) d a = absurd a
out_sent j k c (Event.Stops i) d a = absurd a

-- what went out to j in these events was sent by their end
outs_sent : (j k : ℕ) (es : List Event) (c : Cluster) (d : Datagram) → Among (to_replica j (outs_from k c es)) d → Among (last_from c es).sent (j, d)
unfolding outs_from last_from to_replica
outs_sent j k [] c d a = absurd a
outs_sent j k (e ∷ es) c d a = elim (among_either (to_replica j (out_at k c e)) (to_replica j (outs_from k (after c e) es)) d (subst (λ l. Among l d) (replica_then j (out_at k c e) (outs_from k (after c e) es)) a)) [
  | inl b ↦ stays_sent es (after c e) (j, d) (out_sent j k c e d b)
  | inr b ↦ outs_sent j k es (after c e) d b
]

-- ---- datagrams that are taken

-- they are frames and acknowledgements, and their bytes are read back
abbrev AreRead : List Datagram → Type 0
AreRead ds = AllByRecursion (λ d. (all_bytes (datagram_bytes d) ≡ true) × (datagram_of (datagram_bytes d) ≡ Some d) × IsOfLink d) ds

abbrev WereSent : Cluster → ℕ → List Datagram → Type 0
WereSent c k ds = (d : Datagram) → Among ds d → Among c.sent (k, d)

lawful_then : (xs ys : List Event) (c : Cluster) → IsLawfulFrom c xs → IsLawfulFrom (last_from c xs) ys → IsLawfulFrom c (xs ++ ys)
unfolding last_from
lawful_then [] ys c l m = m
lawful_then (x ∷ xs) ys c l m = (l.0, lawful_then xs ys (after c x) l.1 m)

lawful_sends : (k m : ℕ) (c : Cluster) → IsLawfulFrom c (sends k m)
lawful_sends k zero c = tt
lawful_sends k (suc m) c = (tt, lawful_sends k m (after c (Event.Sends k)))

lawful_ticks : (at : ℕ → ℕ) (c : Cluster) → at 0 < 2 ^ 64 → at 1 < 2 ^ 64 → IsLawfulFrom c (ticks at)
lawful_ticks at c a b =
    let e = after (after (after (after c (Event.Takes 0 Turn.Tick (at 0))) (Event.Keeps 0)) (Event.Takes 1 Turn.Tick (at 1))) (Event.Keeps 1) in
    ((a, tt), (tt, ((b, tt), (tt, lawful_then (sends 0 8) (sends 1 8) e (lawful_sends 0 8 e) (lawful_sends 1 8 (last_from e (sends 0 8)))))))

lawful_takes : (k reading : ℕ) (ds : List Datagram) (c : Cluster) → reading < 2 ^ 64 → AreRead ds → WereSent c k ds → IsLawfulFrom c (takes k reading ds)
lawful_takes k reading [] c lt h s = tt
lawful_takes k reading (d ∷ ds) c lt h s =
    let ev = Event.Takes k (Turn.In 70 (datagram_bytes d)) reading in
    (comes c k 70 reading (datagram_bytes d) d lt h.0.0 h.0.1 (s d (inl refl)), lawful_takes k reading ds (after c ev) lt h.1 (λ x a. sent_on c ev (k, x) (s x (inr a))))

turns_then : (k : ℕ) (xs ys : List Event) → turns_of k (xs ++ ys) ≡ turns_of k xs ++ turns_of k ys
unfolding turns_of
turns_then k [] ys = refl
turns_then k (x ∷ xs) ys = ap (λ z. turn_at k x ++ z) (turns_then k xs ys) ∙ sym (append_assoc (turn_at k x) (turns_of k xs) (turns_of k ys))

abbrev as_turns : ℕ → List Datagram → List (Turn × ℕ)
as_turns reading [] = []
as_turns reading (d ∷ ds) = (Turn.In 70 (datagram_bytes d), reading) ∷ as_turns reading ds

own_turns : (k reading : ℕ) (ds : List Datagram) → turns_of k (takes k reading ds) ≡ as_turns reading ds
unfolding turns_of
own_turns k reading [] = refl
own_turns k reading (d ∷ ds) = ap (λ z. z ++ turns_of k (takes k reading ds)) (turn_own k k (Turn.In 70 (datagram_bytes d)) reading refl) ∙ ap (λ z. (Turn.In 70 (datagram_bytes d), reading) ∷ z) (own_turns k reading ds)

other_turns : (j k reading : ℕ) (ds : List Datagram) → (j ≡ k → ⊥) → turns_of k (takes j reading ds) ≡ []
unfolding turns_of node_of
other_turns j k reading [] ne = refl
other_turns j k reading (d ∷ ds) ne = ap (λ z. z ++ turns_of k (takes j reading ds)) (turn_other k (Event.Takes j (Turn.In 70 (datagram_bytes d)) reading) ne) ∙ other_turns j k reading ds ne

keep_turn : (j k : ℕ) (es : List Event) → turns_of k (Event.Keeps j ∷ es) ≡ turns_of k es
unfolding turns_of turn_at
keep_turn j k es = refl

no_turns : (k : ℕ) → turns_of k [] ≡ []
unfolding turns_of
no_turns k = refl

turns_1 : (ds xs : List Datagram) (reading : ℕ) → turns_of 1 (all_takes ds xs reading) ≡ as_turns reading ds
turns_1 ds xs reading =
    turns_then 1 (takes 1 reading ds) (Event.Keeps 1 ∷ (takes 0 reading xs ++ Event.Keeps 0 ∷ []))
    ∙ ap (λ z. z ++ turns_of 1 (Event.Keeps 1 ∷ (takes 0 reading xs ++ Event.Keeps 0 ∷ []))) (own_turns 1 reading ds)
    ∙ ap (λ z. as_turns reading ds ++ z) (keep_turn 1 1 (takes 0 reading xs ++ Event.Keeps 0 ∷ []) ∙ turns_then 1 (takes 0 reading xs) (Event.Keeps 0 ∷ [])
    ∙ ap (λ z. z ++ turns_of 1 (Event.Keeps 0 ∷ [])) (other_turns 0 1 reading xs (λ e. absurd (cc))) ∙ keep_turn 0 1 [] ∙ no_turns 1) ∙ append-nil (as_turns reading ds)

turns_0 : (ds xs : List Datagram) (reading : ℕ) → turns_of 0 (all_takes ds xs reading) ≡ as_turns reading xs
turns_0 ds xs reading =
    turns_then 0 (takes 1 reading ds) (Event.Keeps 1 ∷ (takes 0 reading xs ++ Event.Keeps 0 ∷ []))
    ∙ ap (λ z. z ++ turns_of 0 (Event.Keeps 1 ∷ (takes 0 reading xs ++ Event.Keeps 0 ∷ []))) (other_turns 1 0 reading ds (λ e. absurd (cc)))
    ∙ keep_turn 1 0 (takes 0 reading xs ++ Event.Keeps 0 ∷ []) ∙ turns_then 0 (takes 0 reading xs) (Event.Keeps 0 ∷ [])
    ∙ ap (λ z. z ++ turns_of 0 (Event.Keeps 0 ∷ [])) (own_turns 0 reading xs) ∙ ap (λ z. as_turns reading xs ++ z) (keep_turn 0 0 [] ∙ no_turns 0) ∙ append-nil (as_turns reading xs)

link_no_part : (d : Datagram) → IsOfLink d → IsPart d → ⊥
link_no_part (Datagram.Frame from to e seq p) h q = q
link_no_part (Datagram.Ack from to e next) h q = q
link_no_part (Datagram.Part from to boot number index count bytes) h q = h
link_no_part (Datagram.Request c) h q = h
link_no_part (Datagram.Reply client number told) h q = h
link_no_part (Datagram.Operate ms) h q = h

calm_turns : (calm c : Cluster) (k reading : ℕ) (ds : List Datagram) → AreRead ds → WereSent c k ds → AllByRecursion (IsCalmTurn calm c k) (as_turns reading ds)
calm_turns calm c k reading [] h s = tt
calm_turns calm c k reading (d ∷ ds) h s = ((d, h.0.1, s d (inl refl), λ p. absurd (link_no_part d h.0.2 p)), calm_turns calm c k reading ds h.1 (λ x a. s x (inr a)))

received : (reading : ℕ) (ds : List Datagram) → AreRead ds → received_in (as_turns reading ds) ≡ ds
unfolding received_in datagram_in
received reading [] h = refl
received reading (d ∷ ds) h = ap (λ o. option_to_list o ++ received_in (as_turns reading ds)) h.0.1 ∙ ap (λ z. d ∷ z) (received reading ds h.1)

stands : (ds : List Datagram) → StandsIn ds ds
stands [] = refl
stands (d ∷ ds) = inr (ds, refl, stands ds)

-- ---- both nodes

both_is : (k : ℕ) → Contains both k → (k ≡ 0) ⊎ (k ≡ 1)
both_is k c = go (among_contains both k c)
  where
    go : Among both k → (k ≡ 0) ⊎ (k ≡ 1)
    go (inl e) = inl (sym e)
    go (inr (inl e)) = inr (sym e)
    go (inr (inr a)) = absurd a

of_both : (P : ℕ → Type 0) → P 0 → P 1 → (k : ℕ) → Contains both k → P k
of_both P a b k c = elim (both_is k c) [ inl e ↦ subst P (sym e) a | inr e ↦ subst P (sym e) b ]

in_0 : Contains both 0
in_0 = (0, omega arith, refl)

in_1 : Contains both 1
in_1 = (1, omega arith, refl)

own_sends : (k m : ℕ) → Contains both k → AllByRecursion (IsOfMember both) (sends k m)
own_sends k zero c = tt
own_sends k (suc m) c = (c, own_sends k m c)

own_takes : (k reading : ℕ) (ds : List Datagram) → Contains both k → AllByRecursion (IsOfMember both) (takes k reading ds)
own_takes k reading [] c = tt
own_takes k reading (d ∷ ds) c = (c, own_takes k reading ds c)

own_round : (at : ℕ → ℕ) (ds xs : List Datagram) (reading : ℕ) → AllByRecursion (IsOfMember both) (ticks at ++ all_takes ds xs reading)
own_round at ds xs reading =
    all_then (IsOfMember both) (ticks at) (all_takes ds xs reading)
    (in_0, (in_0, (in_1, (in_1, all_then (IsOfMember both) (sends 0 8) (sends 1 8) (own_sends 0 8 in_0) (own_sends 1 8 in_1)))))
    (all_then (IsOfMember both) (takes 1 reading ds) (Event.Keeps 1 ∷ (takes 0 reading xs ++ Event.Keeps 0 ∷ [])) (own_takes 1 reading ds in_1)
    (in_1, all_then (IsOfMember both) (takes 0 reading xs) (Event.Keeps 0 ∷ []) (own_takes 0 reading xs in_0) (in_0, tt)))

tick_turns : (at : ℕ → ℕ) (k : ℕ) → Contains both k → turns_of k (ticks at) ≡ (Turn.Tick, at k) ∷ []
unfolding turns_of turn_at
tick_turns at k c = of_both (λ i. turns_of i (ticks at) ≡ (Turn.Tick, at i) ∷ []) refl refl k c

-- a round from cluster c, where what is sent can be read and all is kept
module _ (calm c : Cluster) (at : ℕ → ℕ) (reading : ℕ) (ds xs : List Datagram) (is_1 : to_1 c (ticks at) ≡ ds) (is_0 : to_0 c (ticks at) ≡ xs) (read_1 : AreRead ds) (read_0 : AreRead xs)
    (sent : (k : ℕ) → Contains both k → HasSent (last_from c (ticks at)) k) (keeps : (k : ℕ) → Contains both k → (x : Process) × HasKept (last_from c (ticks at ++ all_takes ds xs reading)) k x) where
  abbrev d : Cluster
  d = last_from c (ticks at)

  sent_1 : WereSent d 1 ds
  unfolding to_1
  sent_1 x a = outs_sent 1 0 (ticks at) c x (subst (λ l. Among l x) (sym is_1) a)

  sent_0 : WereSent d 0 xs
  unfolding to_0
  sent_0 x a = outs_sent 0 1 (ticks at) c x (subst (λ l. Among l x) (sym is_0) a)

  abbrev Comes : ℕ → ℕ → Type 0
  Comes k j = StandsIn (to_replica j (outs_from k c (ticks at))) (received_in (turns_of j (all_takes ds xs reading)))

  come_1 : Comes 0 1
  unfolding to_1
  come_1 = subst (λ l. StandsIn l (received_in (turns_of 1 (all_takes ds xs reading)))) (sym is_1) (subst (StandsIn ds) (sym (ap received_in (turns_1 ds xs reading) ∙ received reading ds read_1)) (stands ds))

  come_0 : Comes 1 0
  unfolding to_0
  come_0 = subst (λ l. StandsIn l (received_in (turns_of 0 (all_takes ds xs reading)))) (sym is_0) (subst (StandsIn xs) (sym (ap received_in (turns_0 ds xs reading) ∙ received reading xs read_0)) (stands xs))

  comes_to : (k j : ℕ) → (k ≡ 0) ⊎ (k ≡ 1) → (j ≡ 0) ⊎ (j ≡ 1) → k ≢ j → Comes k j
  comes_to k j (inl a) (inl b) ne = absurd (ne (a ∙ sym b))
  comes_to k j (inl a) (inr b) ne = subst (λ z. Comes z j) (sym a) (subst (λ z. Comes 0 z) (sym b) come_1)
  comes_to k j (inr a) (inl b) ne = subst (λ z. Comes z j) (sym a) (subst (λ z. Comes 1 z) (sym b) come_0)
  comes_to k j (inr a) (inr b) ne = absurd (ne (a ∙ sym b))

  round : IsRound both calm c at (ticks at ++ all_takes ds xs reading)
  unfolding to_1 to_0
  round = record {
    first = ticks at;
    second = all_takes ds xs reading;
    halves = refl;
    own = own_round at ds xs reading;
    ticks = tick_turns at;
    sent = sent;
    takes = of_both (λ k. AllByRecursion (IsCalmTurn calm d k) (turns_of k (all_takes ds xs reading)))
        (subst (AllByRecursion (IsCalmTurn calm d 0)) (sym (turns_0 ds xs reading)) (calm_turns calm d 0 reading xs read_0 sent_0))
        (subst (AllByRecursion (IsCalmTurn calm d 1)) (sym (turns_1 ds xs reading)) (calm_turns calm d 1 reading ds read_1 sent_1));
    come = λ k j in_k in_j ne. comes_to k j (both_is k in_k) (both_is j in_j) ne;
    kept = keeps;
  }

  abbrev a1 : Cluster
  a1 = last_from d (takes 1 reading ds)

  abbrev b1 : Cluster
  b1 = after a1 (Event.Keeps 1)

  lawful_round : at 0 < 2 ^ 64 → at 1 < 2 ^ 64 → reading < 2 ^ 64 → IsLawfulFrom c (ticks at ++ all_takes ds xs reading)
  lawful_round a b lt =
      lawful_then (ticks at) (all_takes ds xs reading) c (lawful_ticks at c a b)
      (lawful_then (takes 1 reading ds) (Event.Keeps 1 ∷ (takes 0 reading xs ++ Event.Keeps 0 ∷ [])) d (lawful_takes 1 reading ds d lt read_1 sent_1)
      (tt, lawful_then (takes 0 reading xs) (Event.Keeps 0 ∷ []) b1 (lawful_takes 0 reading xs b1 lt read_0 (λ x q. sent_on a1 (Event.Keeps 1) (0, x) (stays_sent (takes 1 reading ds) d (0, x) (sent_0 x q)))) (tt, tt)))

-- ---- the history

abbrev at_20 : ℕ → ℕ
at_20 k = 20 + k

abbrev at_60 : ℕ → ℕ
at_60 k = 60 + k

abbrev calm_cluster : Cluster
calm_cluster = last_cluster 2 before

abbrev submitted : Entry
submitted = record { epoch = 0; stamp = record { time = 5; origin = 0 }; command = put_a }

-- what is sent in the first round
abbrev frames_1 : List Datagram
frames_1 = Datagram.Frame 0 1 0 0 (InEpoch.Prepare submitted) ∷ Datagram.Frame 0 1 0 1 (InEpoch.ClockTime 20) ∷ []

abbrev frames_0 : List Datagram
frames_0 = Datagram.Frame 1 0 0 0 (InEpoch.ClockTime 21) ∷ []

-- and in the second
abbrev later_1 : List Datagram
later_1 =
    Datagram.Ack 0 1 0 1
    ∷ Datagram.Frame 0 1 0 0 (InEpoch.Prepare submitted)
    ∷ Datagram.Frame 0 1 0 1 (InEpoch.ClockTime 20)
    ∷ Datagram.Frame 0 1 0 2 (InEpoch.ClockTime 60)
    ∷ []

abbrev later_0 : List Datagram
later_0 =
    Datagram.Ack 1 0 0 1
    ∷ Datagram.Frame 1 0 0 1 (InEpoch.PrepareOk submitted.stamp 30)
    ∷ Datagram.Ack 1 0 0 2
    ∷ Datagram.Frame 1 0 0 0 (InEpoch.ClockTime 21)
    ∷ Datagram.Frame 1 0 0 1 (InEpoch.PrepareOk submitted.stamp 30)
    ∷ Datagram.Frame 1 0 0 2 (InEpoch.ClockTime 61)
    ∷ []

abbrev first : List Event
first = ticks at_20 ++ all_takes frames_1 frames_0 30

abbrev later : Cluster
later = last_from calm_cluster first

abbrev second : List Event
second = ticks at_60 ++ all_takes later_1 later_0 70

-- the process of a node
unfoldable process_in : Cluster → ℕ → Process
process_in c k = option_map_or (λ x. x) (host_at c k).process (record { replica = fresh 0 0 []; pending = []; outbox = [] })

read_1 : AreRead frames_1
unfolding the_model all_bytes
read_1 = ((refl, refl, tt), ((refl, refl, tt), tt))

read_0 : AreRead frames_0
unfolding the_model all_bytes
read_0 = ((refl, refl, tt), tt)

read_later_1 : AreRead later_1
unfolding the_model all_bytes
read_later_1 = ((refl, refl, tt), ((refl, refl, tt), ((refl, refl, tt), ((refl, refl, tt), tt))))

read_later_0 : AreRead later_0
unfolding the_model all_bytes
read_later_0 = ((refl, refl, tt), ((refl, refl, tt), ((refl, refl, tt), ((refl, refl, tt), ((refl, refl, tt), ((refl, refl, tt), tt))))))

is_1 : to_1 calm_cluster (ticks at_20) ≡ frames_1
unfolding the_model asked to_1 to_0 to_replica outs_from out_at empty_host unborn outgoing_of started with_turn kept while_up with_process posted host_at log_in with_host next_out sent_of after last_from last_cluster
is_1 = refl

is_0 : to_0 calm_cluster (ticks at_20) ≡ frames_0
unfolding the_model asked to_1 to_0 to_replica outs_from out_at empty_host unborn outgoing_of started with_turn kept while_up with_process posted host_at log_in with_host next_out sent_of after last_from last_cluster
is_0 = refl

is_later_1 : to_1 later (ticks at_60) ≡ later_1
unfolding the_model asked to_1 to_0 to_replica outs_from out_at empty_host unborn outgoing_of started with_turn kept while_up with_process posted host_at log_in with_host next_out sent_of after last_from last_cluster
is_later_1 = refl

is_later_0 : to_0 later (ticks at_60) ≡ later_0
unfolding the_model asked to_1 to_0 to_replica outs_from out_at empty_host unborn outgoing_of started with_turn kept while_up with_process posted host_at log_in with_host next_out sent_of after last_from last_cluster
is_later_0 = refl

all_sent_0 : HasSent (last_from calm_cluster (ticks at_20)) 0
unfolding the_model asked process_in empty_host unborn outgoing_of started with_turn kept while_up with_process posted host_at log_in with_host next_out sent_of after last_from last_cluster
all_sent_0 = record { process = process_in (last_from calm_cluster (ticks at_20)) 0; kept = record { runs = refl; log = refl; pending = refl }; sent = refl }

all_sent_1 : HasSent (last_from calm_cluster (ticks at_20)) 1
unfolding the_model asked process_in empty_host unborn outgoing_of started with_turn kept while_up with_process posted host_at log_in with_host next_out sent_of after last_from last_cluster
all_sent_1 = record { process = process_in (last_from calm_cluster (ticks at_20)) 1; kept = record { runs = refl; log = refl; pending = refl }; sent = refl }

all_sent : (k : ℕ) → Contains both k → HasSent (last_from calm_cluster (ticks at_20)) k
all_sent = of_both (HasSent (last_from calm_cluster (ticks at_20))) all_sent_0 all_sent_1

all_kept_0 : (x : Process) × HasKept later 0 x
unfolding the_model asked process_in empty_host unborn outgoing_of started with_turn kept while_up with_process posted host_at log_in with_host next_out sent_of after last_from last_cluster
all_kept_0 = (process_in later 0, record { runs = refl; log = refl; pending = refl })

all_kept_1 : (x : Process) × HasKept later 1 x
unfolding the_model asked process_in empty_host unborn outgoing_of started with_turn kept while_up with_process posted host_at log_in with_host next_out sent_of after last_from last_cluster
all_kept_1 = (process_in later 1, record { runs = refl; log = refl; pending = refl })

all_kept : (k : ℕ) → Contains both k → (x : Process) × HasKept later k x
all_kept = of_both (λ k. (x : Process) × HasKept later k x) all_kept_0 all_kept_1

sent_later_0 : HasSent (last_from later (ticks at_60)) 0
unfolding the_model asked process_in empty_host unborn outgoing_of started with_turn kept while_up with_process posted host_at log_in with_host next_out sent_of after last_from last_cluster
sent_later_0 = record { process = process_in (last_from later (ticks at_60)) 0; kept = record { runs = refl; log = refl; pending = refl }; sent = refl }

sent_later_1 : HasSent (last_from later (ticks at_60)) 1
unfolding the_model asked process_in empty_host unborn outgoing_of started with_turn kept while_up with_process posted host_at log_in with_host next_out sent_of after last_from last_cluster
sent_later_1 = record { process = process_in (last_from later (ticks at_60)) 1; kept = record { runs = refl; log = refl; pending = refl }; sent = refl }

sent_later : (k : ℕ) → Contains both k → HasSent (last_from later (ticks at_60)) k
sent_later = of_both (HasSent (last_from later (ticks at_60))) sent_later_0 sent_later_1

abbrev end : Cluster
end = last_from later second

kept_at_end_0 : (x : Process) × HasKept end 0 x
unfolding the_model asked process_in empty_host unborn outgoing_of started with_turn kept while_up with_process posted host_at log_in with_host next_out sent_of after last_from last_cluster
kept_at_end_0 = (process_in end 0, record { runs = refl; log = refl; pending = refl })

kept_at_end_1 : (x : Process) × HasKept end 1 x
unfolding the_model asked process_in empty_host unborn outgoing_of started with_turn kept while_up with_process posted host_at log_in with_host next_out sent_of after last_from last_cluster
kept_at_end_1 = (process_in end 1, record { runs = refl; log = refl; pending = refl })

kept_at_end : (k : ℕ) → Contains both k → (x : Process) × HasKept end k x
kept_at_end = of_both (λ k. (x : Process) × HasKept end k x) kept_at_end_0 kept_at_end_1

short_at_end : all_short end.hosts ≡ true
unfolding the_model asked all_short empty_host unborn outgoing_of started with_turn kept while_up with_process posted host_at log_in with_host next_out sent_of after last_from last_cluster
short_at_end = refl

-- ---- the calm cluster

each_host : (P : Host → Type 0) (ps : List Host) → P (record { log = []; process = None }) → AllByRecursion P ps → (k : ℕ) → P (option_map_or (λ p. p) (slice_get ps k) empty_host)
unfolding empty_host
each_host P [] none h k = none
each_host P (p ∷ ps) none h zero = h.0
each_host P (p ∷ ps) none h (suc k) = each_host P ps none h.1 k

abbrev IsEarly : Rec → Type 0
IsEarly rec = (IsLaterDecide 0 rec → ⊥) × ((f : Entry) → rec ≡ Rec.Prepare f → submitted ≡ f)

early_logs : AllByRecursion (λ (p : Host). AllByRecursion IsEarly p.log) calm_cluster.hosts
unfolding the_model asked empty_host unborn outgoing_of started with_turn kept while_up with_process posted host_at log_in with_host next_out sent_of after last_from last_cluster
early_logs = (
  ((λ d. d, λ f e. cc), ((λ d. d, λ f e. absurd (cc)), ((λ d. d, λ f e. absurd (cc)), tt))),
  (((λ d. d, λ f e. absurd (cc)), ((λ d. d, λ f e. absurd (cc)), tt)), (tt, (tt, (tt, (tt, (tt, (tt, (tt, (tt, (tt, (tt, (tt, (tt, (tt, tt)))))))))))))),
)

early : (k : ℕ) (rec : Rec) → Contains (log_in calm_cluster k) rec → IsEarly rec
unfolding log_in host_at
early k rec c = all_at IsEarly (log_in calm_cluster k) rec (each_host (λ (p : Host). AllByRecursion IsEarly p.log) calm_cluster.hosts tt early_logs k) (among_contains (log_in calm_cluster k) rec c)

node_0 : IsCalmNode 0 both calm_cluster 0
unfolding the_model asked process_in empty_host unborn outgoing_of started with_turn kept while_up with_process posted host_at log_in with_host next_out sent_of after last_from last_cluster
node_0 = record {
  still = record { process = process_in calm_cluster 0; kept = record { runs = refl; log = refl; pending = refl }; sent = refl };
  calm = record { known = refl; active = refl; counts = refl; links = of_both (λ j. length (unacked (process_in calm_cluster 0).replica j) ≤ 16) (omega arith) (omega arith); owed = omega arith };
}

node_1 : IsCalmNode 0 both calm_cluster 1
unfolding the_model asked process_in empty_host unborn outgoing_of started with_turn kept while_up with_process posted host_at log_in with_host next_out sent_of after last_from last_cluster
node_1 = record {
  still = record { process = process_in calm_cluster 1; kept = record { runs = refl; log = refl; pending = refl }; sent = refl };
  calm = record { known = refl; active = refl; counts = refl; links = of_both (λ j. length (unacked (process_in calm_cluster 1).replica j) ≤ 16) (omega arith) (omega arith); owed = omega arith };
}

is_calm : IsCalmCluster 0 both calm_cluster
is_calm = record {
  nodes = (node_0, (node_1, tt));
  latest = λ k rec c. (early k rec c).0;
  entries = submitted ∷ [];
  all_open = λ f o. subst (Contains (submitted ∷ [])) ((early o.by (Rec.Prepare f) (subst (λ l. Contains l (Rec.Prepare f)) (log_is calm_cluster o.by) o.logged)).1 f refl) (0, omega arith, refl);
  few_open = omega arith;
}

is_open : IsOpen 0 both (world_of calm_cluster) submitted
unfolding the_model asked world_of empty_host unborn outgoing_of started with_turn kept while_up with_process posted host_at log_in with_host next_out sent_of after last_from last_cluster
is_open = record {
  epoch = refl;
  by = 0;
  member = in_0;
  logged = (0, omega arith, refl);
  unfinished = λ all. absurd (among_contains [] submitted all.0);
}

-- ---- readings

low_0 : AllByRecursion (λ t. t + 10 ≤ 60) (process_in later 0).replica.issued
unfolding the_model asked process_in empty_host unborn outgoing_of started with_turn kept while_up with_process posted host_at log_in with_host next_out sent_of after last_from last_cluster
low_0 = (omega arith, (omega arith, tt))

low_1 : AllByRecursion (λ t. t + 10 ≤ 60) (process_in later 1).replica.issued
unfolding the_model asked process_in empty_host unborn outgoing_of started with_turn kept while_up with_process posted host_at log_in with_host next_out sent_of after last_from last_cluster
low_1 = (omega arith, (omega arith, tt))

low : (k : ℕ) → Contains both k → AllByRecursion (λ t. t + 10 ≤ 60) (process_in later k).replica.issued
low = of_both (λ k. AllByRecursion (λ t. t + 10 ≤ 60) (process_in later k).replica.issued) low_0 low_1

process_is : (c : Cluster) (k : ℕ) (x : Process) → (host_at c k).process ≡ Some x → process_in c k ≡ x
unfolding process_in
process_is c k x e = ap (λ o. option_map_or (λ y. y) o (record { replica = fresh 0 0 []; pending = []; outbox = [] })) e

readings : AreCalmReadings both later at_60
readings = record {
  above = λ k j time x in_k in_j runs issued.
      let le = all_at (λ t. t + 10 ≤ 60) (process_in later j).replica.issued time (low j in_j) (among_contains (process_in later j).replica.issued time (subst (λ (y : Process). Contains y.replica.issued time) (sym (process_is later j x runs)) issued)) in
      omega (arith, le);
  below = of_both (λ k. at_60 k ≤ u64_max - 100000) (omega arith) (omega arith);
}

-- ---- all of it

first_round : IsRound both calm_cluster calm_cluster at_20 first
first_round = round calm_cluster calm_cluster at_20 30 frames_1 frames_0 is_1 is_0 read_1 read_0 all_sent all_kept

second_round : IsRound both calm_cluster later at_60 second
second_round = round calm_cluster later at_60 70 later_1 later_0 is_later_1 is_later_0 read_later_1 read_later_0 sent_later kept_at_end

lawful_before : IsLawfulFrom (unborn 2) before
lawful_before = (tt, (tt, (asks (after (after (unborn 2) (Event.Boots 0)) (Event.Boots 1)) 0 77 5 asked put_a (omega arith) small_bytes read_back, (tt, (tt, tt)))))

lawful_rounds : IsLawfulFrom calm_cluster (first ++ second)
lawful_rounds = lawful_then first second calm_cluster
    (lawful_round calm_cluster calm_cluster at_20 30 frames_1 frames_0 is_1 is_0 read_1 read_0 all_sent all_kept (omega arith) (omega arith) (omega arith))
    (lawful_round calm_cluster later at_60 70 later_1 later_0 is_later_1 is_later_0 read_later_1 read_later_0 sent_later kept_at_end (omega arith) (omega arith) (omega arith))

end_is : last_cluster 2 (before ++ (first ++ second)) ≡ end
unfolding last_cluster
end_is = last_then (unborn 2) before (first ++ second) ∙ last_then (last_from (unborn 2) before) first second

is_history : IsHistory 2 (before ++ (first ++ second))
unfolding last_cluster
is_history = record {
  most = omega arith;
  lawful = lawful_then before (first ++ second) (unborn 2) lawful_before lawful_rounds;
  short = subst HasShortLogs (sym end_is) (short_cluster end short_at_end);
}

pub rounds_happen : RoundsHappen
unfolding the_model asked process_in empty_host unborn outgoing_of started with_turn kept while_up with_process posted host_at log_in with_host next_out sent_of after last_from last_cluster
rounds_happen = record {
  h = before;
  first = first;
  second = second;
  rounds = record { some = omega arith; history = is_history; calm = is_calm; one = first_round; two = second_round; readings = readings };
  entry = submitted;
  open_entry = is_open;
  process = process_in calm_cluster 0;
  runs = refl;
  client = record { entry = submitted; address = 77 };
  waits = (0, omega arith, refl);
  its = refl;
}
