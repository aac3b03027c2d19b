-- Two rounds from a calm cluster.
use Rattle.std.proofs.Common.{◌≡◌, ℕ, ◌+◌, ◌-◌, ◌<◌, ◌≤◌, List, [], ◌∷◌, ◌++◌, length, drop, take, refl, sym, ◌∙◌, ap, subst, inl, inr, false, arith, append_assoc}
use Rattle.std.specs.Prelude.{◌^◌, IsTrue, Some, slice_get, Contains}
use Rattle.std.specs.Option.{option_map_or}
use Rattle.std.specs.List.{AllByRecursion}
use Rattle.std.proofs.lemmas.Option.{same_Some}
use Rattle.crsm_base.specs.Store.{answer_after}
use Rattle.crsm_spec.specs.Clock.{u64_max}
use Rattle.crsm_spec.specs.Types.{Entry, Rec, Datagram}
use Rattle.crsm_spec.specs.Lists.{Among}
use Rattle.crsm_spec.specs.Log.{Log, executed, active}
use Rattle.crsm_spec.specs.Replica.{Replica, Waiting, unacked, acked_by, frames_to}
use Rattle.crsm_spec.specs.Node.{Turn}
use Rattle.crsm_spec.specs.Step.{Input, step}
use Rattle.crsm_spec.specs.World.{Site, World, log_at, whole_step}
use Rattle.crsm_spec.specs.Safe.{AnswersAt}
use Rattle.crsm_spec.specs.Calm.{IsPart}
use Rattle.crsm_fact_log.specs.Logs.{Logged}
use Rattle.crsm_fact_log.proofs.Lists.{all_from, among_either}
use Rattle.crsm_law_steps.specs.Happenings.{IsReached, WasSent}
use Rattle.crsm_law_steps.proofs.Happen.{got_among}
use Rattle.crsm_law_epoch.specs.Numbers.{Distinct}
use Rattle.crsm_law_epoch.proofs.LogSteps.{IsBetween}
use Rattle.crsm_law_epoch.proofs.LogWorlds.{all_held}
use Rattle.crsm_law_agreement.proofs.Choice.{contains_among}
use Rattle.crsm_law_bounds.specs.Bounds.{IsSpelt}
use Rattle.crsm_law_runs.proofs.DurableLists.{among_contains, among_place}
use Rattle.crsm_law_active.specs.Telling.{IsOfLink}
use Rattle.crsm_law_active.proofs.Telling.{links_tell_little}
use Rattle.crsm_law_active.proofs.Staying.{steps_stay}
use Rattle.crsm_law_rounds.specs.Members.{IsMemberUp, AllUp}
use Rattle.crsm_law_rounds.proofs.Growing.{grows_decision}
use Rattle.crsm_law_rounds.proofs.Going.{up_one}
use Rattle.crsm_law_rounds.proofs.Links.{numbers}
use Rattle.crsm_law_rounds.proofs.Round.{RoundDone, is_other}
use Rattle.crsm_law_rounds.proofs.Spreading.{CalmStart, short_link}
use Rattle.crsm_law_rounds.proofs.Starting.{distinct_members, small_members, were_submitted}
use Rattle.crsm_law_rounds.proofs.Finishing.{executed_there}
use Rattle.crsm_law_rounds.proofs.Waiting.{waits_in_epoch, none_waits, one_entry}
use Rattle.crsm_law_rounds.proofs.Parts.{sent_calm, NoParts, MildPackets, LowDecisions, StaysMild, no_parts_after, mild_after_tick, low_after_tick, low_after, packets_stay_mild, link_calm, between_link, part_is}
use Rattle.crsm_law_cluster.specs.Clusters.{Event, Outgoing, Process, Host, Cluster, host_at, log_in, unborn}
use Rattle.crsm_law_cluster.specs.Histories.{clusters_from, clusters, last_from, last_cluster}
use Rattle.crsm_law_cluster.specs.Lawful.{IsLawfulFrom}
use Rattle.crsm_law_cluster.specs.HistoryLaws.{HasShortLogs}
use Rattle.crsm_law_cluster.specs.ClusterLaws.{IsHistory}
use Rattle.crsm_law_cluster.proofs.Showing.{histories_are_shown, end_is_shown}
use Rattle.crsm_law_cluster.proofs.Shown.{Shows}
use Rattle.crsm_law_cluster.proofs.Agree.{shown_short}
use Rattle.crsm_law_lives.specs.Sending.{outs_from}
use Rattle.crsm_law_calm.specs.Calm.{HasKept, HasSent}
use Rattle.crsm_law_calm.specs.Rounds.{turns_of, IsOfMember, IsCalmTurn, received_in, to_replica, StandsIn}
use Rattle.crsm_law_calm.specs.Laws.{waiting_out, IsAnsweredIn, AllIsAnswered, AreRounds, RoundsAnswer}
use Rattle.crsm_law_calm.proofs.Events.{first_in, last_then, clusters_left, clusters_right, lawful_left, lawful_right, all_left, all_right, outs_then, IsSmall, small_readings}
use Rattle.crsm_law_calm.proofs.Carrying.{Carried, carried_within}
use Rattle.crsm_law_calm.proofs.Halves.{IsFresh, longer, AtRest}
use Rattle.crsm_law_calm.proofs.Serving.{WasAnswered, AreServed}
use Rattle.crsm_law_calm.proofs.Taking.{IsTake}
use Rattle.crsm_law_calm.proofs.Round.{Ticked, Taken, first_half, second_half, waiting_is}
use Rattle.crsm_law_calm.proofs.Beginning.{first_world, first_logs, first_spelt, first_sent, all_first, first_start, first_parts, first_low, at_rest}

-- ---- every cluster of a history has short logs

all_short : (n : ℕ) (h : List Event) → IsHistory n h → (d : Cluster) → Among (clusters n h) d → HasShortLogs d
all_short n h q d a k =
    let s = histories_are_shown n h q.most q.lawful in
    let p = among_place (clusters n h) d a in
    let b = s.between p.0 p.0 d d (omega arith) p.1 p.1 in
    let end = shown_short n (last_cluster n h) s.end s.last q.short k in
    let l = longer (log_at b.next k) (log_at s.end k) (b.goes_on k) in
    elim (b.next_shown.logs k) [
      | inl e ↦ (let z = ap (λ (l : Log). length l) e in omega (arith, end, l, z))
      | inr t ↦ (let z = ap (λ (l : Log). length l) t.1 in omega (arith, z))
    ]

dropped : {A : Type 0} (xs ys : List A) → drop (length xs) (xs ++ ys) ≡ ys
dropped [] ys = refl
dropped (x ∷ xs) ys = dropped xs ys

-- ---- what is taken in a second half

-- the turns of a calm half receive what was sent
module _ (n e : ℕ) (ms : List ℕ) (calm c : Cluster) (w : World) (reached : IsReached n w) (rest : AtRest n ms calm.sent c w) (old : (k : ℕ) (d : Datagram) → Among calm.sent (k, d) → (j : ℕ) × WasSent w j k d) (mild : MildPackets e w)
    (Kind : Datagram → Type 0) (kind : (k : ℕ) (d : Datagram) → IsBetween d → (IsPart d → (j : ℕ) × IsFresh w j k d) → Kind d) (k : ℕ) where
  sent_there : (d : Datagram) → Among c.sent (k, d) → (j : ℕ) × WasSent w j k d
  sent_there d a = elim (among_either calm.sent rest.news (k, d) (subst (λ l. Among l (k, d)) rest.sent_is a)) [
    | inl b ↦ old k d b
    | inr b ↦ (let f = rest.fresh k d b in (f.0, (false, f.1)))
  ]

  fresh_part : (d : Datagram) → (IsPart d → Among (drop (length calm.sent) c.sent) (k, d)) → IsPart d → (j : ℕ) × IsFresh w j k d
  fresh_part d part p = rest.fresh k d (subst (λ l. Among l (k, d)) (ap (drop (length calm.sent)) rest.sent_is ∙ dropped calm.sent rest.news) (part p))

  is_take : (t : Turn × ℕ) → IsSmall t → IsCalmTurn calm c k t → IsTake e Kind w k t
  is_take (Turn.In address bytes, reading) lt h =
      let d = h.0 in
      let s = sent_there d h.2 in
      let between = (all_held n w reached).packets (record { from = s.0; to = k; datagram = d; used = s.1.0 }) s.1.1 in
      let part = fresh_part d h.3 in
      record {
        address = address;
        bytes = bytes;
        reading = reading;
        is = refl;
        lt = lt;
        datagram = d;
        reads = h.1;
        from = s.0;
        sent = s.1;
        between = between;
        told = λ a to boot number index count bytes is.
            let f = part (part_is d a to boot number index count bytes is) in
            mild (record { from = f.0; to = k; datagram = d; used = false }) f.1 refl a to boot number index count bytes is;
        kind = kind k d between part;
      }
  is_take (Turn.Tick, reading) lt h = absurd h
  is_take (Turn.Suspect ms, reading) lt h = absurd h

  are_takes : (ts : List (Turn × ℕ)) → AllByRecursion IsSmall ts → AllByRecursion (IsCalmTurn calm c k) ts → AllByRecursion (IsTake e Kind w k) ts
  are_takes [] small h = tt
  are_takes (t ∷ ts) small h = (is_take t small.0 h.0, are_takes ts small.1 h.1)

-- ---- the two rounds

module _ (n : ℕ) (h first second : List Event) (e : ℕ) (ms : List ℕ) (t u : ℕ → ℕ) (p : AreRounds n h first second e ms t u) where
  abbrev most : n ≤ 15
  most = p.history.most

  abbrev c0 : Cluster
  c0 = last_cluster n h

  abbrev f1 : List Event
  f1 = p.one.first

  abbrev s1 : List Event
  s1 = p.one.second

  abbrev f2 : List Event
  f2 = p.two.first

  abbrev s2 : List Event
  s2 = p.two.second

  abbrev c1 : Cluster
  c1 = last_from c0 f1

  abbrev c2 : Cluster
  c2 = last_from c1 s1

  abbrev c3 : Cluster
  c3 = last_from c2 f2

  abbrev c4 : Cluster
  c4 = last_from c3 s2

  two_is : last_from c0 first ≡ c2
  two_is = ap (last_from c0) p.one.halves ∙ last_then c0 f1 s1

  four_is : last_from (last_from c0 first) second ≡ c4
  four_is = ap (λ c. last_from c second) two_is ∙ ap (last_from c2) p.two.halves ∙ last_then c2 f2 s2

  end_is : last_from c0 (first ++ second) ≡ c4
  end_is = last_then c0 first second ∙ four_is

  lawful_h : IsLawfulFrom (unborn n) h
  lawful_h = lawful_left (unborn n) h (first ++ second) p.history.lawful

  lawful0 : IsLawfulFrom c0 (first ++ second)
  unfolding last_cluster
  lawful0 = lawful_right (unborn n) h (first ++ second) p.history.lawful

  short0 : (d : Cluster) → Among (clusters_from c0 (first ++ second)) d → HasShortLogs d
  unfolding last_cluster clusters
  short0 d a = all_short n (h ++ (first ++ second)) p.history d (clusters_right (unborn n) h (first ++ second) d a)

  -- the parts of both rounds
  lawful1 : IsLawfulFrom c0 (f1 ++ s1)
  lawful1 = subst (IsLawfulFrom c0) p.one.halves (lawful_left c0 first second lawful0)

  lawful2 : IsLawfulFrom c2 (f2 ++ s2)
  lawful2 = subst (IsLawfulFrom c2) p.two.halves (subst (λ c. IsLawfulFrom c second) two_is (lawful_right c0 first second lawful0))

  short1 : (d : Cluster) → Among (clusters_from c0 (f1 ++ s1)) d → HasShortLogs d
  short1 d a = short0 d (clusters_left c0 first second d (subst (λ l. Among (clusters_from c0 l) d) (sym p.one.halves) a))

  short2 : (d : Cluster) → Among (clusters_from c2 (f2 ++ s2)) d → HasShortLogs d
  short2 d a = short0 d (clusters_right c0 first second d (subst (λ c. Among (clusters_from c second) d) (sym two_is) (subst (λ l. Among (clusters_from c2 l) d) (sym p.two.halves) a)))

  own1 : AllByRecursion (IsOfMember ms) (f1 ++ s1)
  own1 = subst (AllByRecursion (IsOfMember ms)) p.one.halves p.one.own

  own2 : AllByRecursion (IsOfMember ms) (f2 ++ s2)
  own2 = subst (AllByRecursion (IsOfMember ms)) p.two.halves p.two.own

  into : (k : ℕ) → Among ms k → Contains ms k
  into k in_k = contains_among ms k in_k

  ticks_small : (k : ℕ) (c : Cluster) (es : List Event) (reading : ℕ) → turns_of k es ≡ (Turn.Tick, reading) ∷ [] → IsLawfulFrom c es → reading < 2 ^ 64
  ticks_small k c es reading is l = (subst (AllByRecursion IsSmall) is (small_readings k c es l)).0

  -- ---- the calm world

  shown : (w : World) × Shows n c0 w
  shown = end_is_shown n h most lawful_h

  short_c0 : HasShortLogs c0
  short_c0 = short1 c0 (first_in c0 (f1 ++ s1))

  abbrev v : World
  v = first_world n c0 most e ms shown.0 shown.1 p.calm short_c0

  up0 : AllUp n e ms v
  up0 = all_first n c0 most e ms shown.0 shown.1 p.calm short_c0

  spelt0 : IsSpelt n v
  spelt0 = first_spelt n c0 most e ms shown.0 shown.1 p.calm short_c0

  rest0 : AtRest n ms c0.sent c0 v
  rest0 = at_rest n c0 most e ms shown.0 shown.1 p.calm short_c0

  start : CalmStart e ms v
  start = first_start n c0 most e ms shown.0 shown.1 p.calm short_c0

  distinct : Distinct ms
  distinct = distinct_members n e ms v up0 spelt0

  small : (k : ℕ) → Among ms k → k ≤ 14
  small = small_members n e ms v up0 spelt0

  -- the clients that wait
  abbrev asked : ℕ → List Waiting
  asked k = option_map_or (λ (x : Process). x.replica.waiting) (host_at c0 k).process []

  asked_is : (k : ℕ) (in_k : Among ms k) → asked k ≡ (rest0.nodes k in_k).replica.waiting
  asked_is k in_k = let o = rest0.nodes k in_k in ap (λ (q : Host). option_map_or (λ (x : Process). x.replica.waiting) q.process []) o.host ∙ ap (λ (r : Replica). r.waiting) o.now

  member0 : (k : ℕ) (in_k : Among ms k) → IsMemberUp e ms v k (rest0.nodes k in_k).replica
  member0 k in_k = let o = up0.member k in_k in subst (IsMemberUp e ms v k) (up_one o.0 (rest0.nodes k in_k).replica (same_Some _ _ (sym o.1.up ∙ (rest0.nodes k in_k).up))) o.1

  epochs : (k : ℕ) → Among ms k → (w : Waiting) → Among (asked k) w → w.entry.epoch ≡ e
  epochs k in_k w a = waits_in_epoch n e ms v up0 spelt0 k (rest0.nodes k in_k).replica w in_k (member0 k in_k) (subst (λ l. Among l w) (asked_is k in_k) a)

  abbrev none : ℕ → List Outgoing
  none k = []

  served0 : (k : ℕ) (in_k : Among ms k) → AreServed (asked k) k (rest0.nodes k in_k).replica (none k ++ (rest0.nodes k in_k).process.outbox)
  served0 k in_k w a = inl (subst (λ l. Among l w) (asked_is k in_k) a)

  -- ---- the first round

  abbrev Calm1 : World → Type 0
  Calm1 w = NoParts w × LowDecisions e w

  few0 : (k j : ℕ) (r : Replica) → Among ms k → Among ms j → (k ≡ j → ⊥) → IsMemberUp e ms v k r → length (unacked r j) ≤ 64
  few0 k j r in_k in_j ne m = let le = start.links k j r m in_j in omega (arith, le)

  keeps1 : (w : World) (k i : ℕ) (r : Replica) → i < 2 ^ 64 → slice_get w.sites k ≡ Some (Site.Up r) → IsTrue (active r.log) → Calm1 w → Calm1 (whole_step w k (step r Input.Ticked i)).after
  keeps1 w k i r lt up a m = (no_parts_after i w k r a m.0, low_after_tick i e w k r up a m.1)

  d1 : Ticked n e ms c0.sent v c0 none asked f1 t Calm1
  d1 = first_half n e ms most distinct small c0.sent v up0 c0 none rest0 asked epochs served0 f1 (all_left (IsOfMember ms) f1 s1 own1) (λ d a. short1 d (clusters_left c0 f1 s1 d a)) t
      (λ k in_k. ticks_small k c0 f1 (t k) (p.one.ticks k (into k in_k)) (lawful_left c0 f1 s1 lawful1)) (λ k in_k. p.one.ticks k (into k in_k)) (λ k in_k. p.one.sent k (into k in_k)) few0 Calm1 keeps1
      (first_parts n c0 most e ms shown.0 shown.1 p.calm short_c0, first_low n c0 most e ms shown.0 shown.1 p.calm short_c0)

  abbrev w1 : World
  w1 = d1.world

  -- all that was sent before the calm cluster was sent in its world
  old0 : (k : ℕ) (d : Datagram) → Among c0.sent (k, d) → (j : ℕ) × WasSent v j k d
  old0 = first_sent n c0 most e ms shown.0 shown.1 p.calm short_c0

  old1 : (k : ℕ) (d : Datagram) → Among c0.sent (k, d) → (j : ℕ) × WasSent w1 j k d
  old1 k d a = let s = old0 k d a in (s.0, sent_calm (λ k. Among ms k) v w1 d1.ticks d1.goes s.0 k d s.1)

  mild1 : MildPackets e w1
  mild1 m a fresh from to boot number index count bytes is = absurd (d1.holds.0 m a fresh (part_is m.datagram from to boot number index count bytes is))

  only_links : (k : ℕ) (d : Datagram) → IsBetween d → (IsPart d → (j : ℕ) × IsFresh w1 j k d) → IsOfLink d
  only_links k d between part = between_link d between (λ is. let f = part is in d1.holds.0 (record { from = f.0; to = k; datagram = d; used = false }) f.1 refl is)

  abbrev gone1 : ℕ → List Outgoing
  gone1 k = none k ++ outs_from k c0 f1

  stays_mild : (w : World) (k i : ℕ) (r : Replica) (from : ℕ) (d : Datagram) → IsReached n w → i < 2 ^ 64 → slice_get w.sites k ≡ Some (Site.Up r) → WasSent w from k d → IsOfLink d →
      IsSpelt n (whole_step w k (step r (Input.Came from d) i)).after → StaysMild e w → StaysMild e (whole_step w k (step r (Input.Came from d) i)).after
  stays_mild w k i r from d q lt up sent link spelt m =
      let s = steps_stay r (Input.Came from d) i (link_calm r from d link) in
      record {
        packets = packets_stay_mild n e i w q k r up lt from d sent spelt m.low (links_tell_little.on_link r (Input.Came from d) i link) m.packets;
        low = low_after e w k r (step r (Input.Came from d) i) up (grows_decision r.me s.log) m.low;
      }

  kept2 : (k : ℕ) → Among ms k → (x : Process) × HasKept c2 k x
  kept2 k in_k = let o = p.one.kept k (into k in_k) in (o.0, subst (λ c. HasKept c k o.0) two_is o.1)

  d2 : Taken n e ms c0.sent w1 c1 gone1 asked s1 (StaysMild e)
  d2 = second_half n e ms most distinct small c0.sent w1 d1.up c1 gone1 d1.rest asked epochs d1.served s1 (all_right (IsOfMember ms) f1 s1 own1) (λ d a. short1 d (clusters_right c0 f1 s1 d a)) IsOfLink
      (λ k in_k. are_takes n e ms c0 c1 w1 d1.up.reached d1.rest old1 mild1 IsOfLink only_links k (turns_of k s1) (small_readings k c1 s1 (lawful_right c0 f1 s1 lawful1)) (p.one.takes k (into k in_k))) kept2
      (λ k j r in_k in_j ne m. carried_within k j e (length (frames_to r j)) (to_replica j (outs_from k c0 f1)) (received_in (turns_of j s1)) (acked_by r j) (p.one.come k j (into k in_k) (into j in_j) ne) (d1.carry k j r in_k in_j ne m))
      (StaysMild e) stays_mild (record { packets = mild1; low = d1.holds.1 })

  abbrev w2 : World
  w2 = d2.world

  r1 : RoundDone n e t ms v w1 w2
  r1 = record { up1 = d1.up; up2 = d2.up; goes2 = d2.goes; ticked = d1.ticked; come = d2.come }

  -- ---- the second round

  abbrev gone2 : ℕ → List Outgoing
  gone2 k = gone1 k ++ outs_from k c1 s1

  few2 : (k j : ℕ) (r : Replica) → Among ms k → Among ms j → (k ≡ j → ⊥) → IsMemberUp e ms w2 k r → length (unacked r j) ≤ 64
  few2 k j r in_k in_j ne m =
      let me = (numbers n e ms w2 d2.up k r m).0 in
      let le = short_link n e t ms distinct small v w1 w2 up0 spelt0 start r1 k in_k r m j (is_other n e ms distinct small w2 k j r m me in_j ne) in
      omega (arith, le)

  ticks2 : (k : ℕ) → Among ms k → turns_of k f2 ≡ (Turn.Tick, u k) ∷ []
  ticks2 k in_k = p.two.ticks k (into k in_k)

  sent3 : (k : ℕ) → Among ms k → HasSent c3 k
  sent3 k in_k = subst (λ c. HasSent (last_from c f2) k) two_is (p.two.sent k (into k in_k))

  d3 : Ticked n e ms c0.sent w2 c2 gone2 asked f2 u (MildPackets e)
  d3 = first_half n e ms most distinct small c0.sent w2 d2.up c2 gone2 d2.rest asked epochs d2.served f2 (all_left (IsOfMember ms) f2 s2 own2) (λ d a. short2 d (clusters_left c2 f2 s2 d a)) u
      (λ k in_k. ticks_small k c2 f2 (u k) (ticks2 k in_k) (lawful_left c2 f2 s2 lawful2)) ticks2 sent3 few2 (MildPackets e) (λ w k i r lt up a m. mild_after_tick i e lt w k r up a m) d2.holds.packets

  abbrev w3 : World
  w3 = d3.world

  old3 : (k : ℕ) (d : Datagram) → Among c0.sent (k, d) → (j : ℕ) × WasSent w3 j k d
  old3 k d a = let s = old1 k d a in (s.0, sent_calm (λ k. Among ms k) w2 w3 d3.ticks d3.goes s.0 k d (sent_calm (λ k. Among ms k) w1 w2 [] d2.goes s.0 k d s.1))

  abbrev gone3 : ℕ → List Outgoing
  gone3 k = gone2 k ++ outs_from k c2 f2

  abbrev Any : Datagram → Type 0
  Any d = Unit {0}

  abbrev Every : World → Type 0
  Every w = Unit {0}

  takes3 : (k : ℕ) → Among ms k → AllByRecursion (IsCalmTurn c0 c3 k) (turns_of k s2)
  takes3 k in_k = subst (λ c. AllByRecursion (IsCalmTurn c0 (last_from c f2) k) (turns_of k s2)) two_is (p.two.takes k (into k in_k))

  kept4 : (k : ℕ) → Among ms k → (x : Process) × HasKept c4 k x
  kept4 k in_k = let o = p.two.kept k (into k in_k) in (o.0, subst (λ c. HasKept c k o.0) four_is o.1)

  come4 : (k j : ℕ) (r : Replica) → Among ms k → Among ms j → (k ≡ j → ⊥) → IsMemberUp e ms w3 k r → Carried k j e (length (frames_to r j)) (received_in (turns_of j s2)) (acked_by r j)
  come4 k j r in_k in_j ne m =
      carried_within k j e (length (frames_to r j)) (to_replica j (outs_from k c2 f2)) (received_in (turns_of j s2)) (acked_by r j)
      (subst (λ c. StandsIn (to_replica j (outs_from k c f2)) (received_in (turns_of j s2))) two_is (p.two.come k j (into k in_k) (into j in_j) ne)) (d3.carry k j r in_k in_j ne m)

  d4 : Taken n e ms c0.sent w3 c3 gone3 asked s2 Every
  d4 = second_half n e ms most distinct small c0.sent w3 d3.up c3 gone3 d3.rest asked epochs d3.served s2 (all_right (IsOfMember ms) f2 s2 own2) (λ d a. short2 d (clusters_right c2 f2 s2 d a)) Any
      (λ k in_k. are_takes n e ms c0 c3 w3 d3.up.reached d3.rest old3 d3.holds Any (λ k d between part. tt) k (turns_of k s2) (small_readings k c3 s2 (lawful_right c2 f2 s2 lawful2)) (takes3 k in_k)) kept4 come4
      Every (λ w k i r from d q lt up sent any spelt m. tt) tt

  abbrev w4 : World
  w4 = d4.world

  r2 : RoundDone n e u ms w2 w3 w4
  r2 = record { up1 = d3.up; up2 = d4.up; goes2 = d4.goes; ticked = d3.ticked; come = d4.come }

  -- ---- the readings

  above : (k j time : ℕ) (r : Replica) → Among ms k → Among ms j → IsMemberUp e ms w2 j r → Among r.issued time → time + 10 ≤ u k
  above k j time r in_k in_j m a =
      let o = d2.rest.nodes j in_j in
      let one : r ≡ o.process.replica = up_one r o.replica (same_Some _ _ (sym m.up ∙ o.up)) ∙ sym o.now in
      p.readings.above k j time o.process (into k in_k) (into j in_j) (subst (λ c. (host_at c j).process ≡ Some o.process) (sym two_is) (ap (λ (q : Host). q.process) o.host))
      (contains_among o.process.replica.issued time (subst (λ (z : Replica). Among z.issued time) one a))

  below : (k : ℕ) → Among ms k → u k ≤ u64_max - 100000
  below k in_k = p.readings.below k (into k in_k)

  -- ---- what was submitted

  abbrev node4 : (k : ℕ) → Among ms k → Replica
  node4 k in_k = (d4.rest.nodes k in_k).replica

  member4 : (k : ℕ) (in_k : Among ms k) → IsMemberUp e ms w4 k (node4 k in_k)
  member4 k in_k = let o = d4.up.member k in_k in subst (IsMemberUp e ms w4 k) (up_one o.0 (node4 k in_k) (same_Some _ _ (sym o.1.up ∙ (d4.rest.nodes k in_k).up))) o.1

  log4 : (k : ℕ) (in_k : Among ms k) → log_in (last_from c0 (first ++ second)) k ≡ (node4 k in_k).log
  unfolding log_in
  log4 k in_k = ap (λ c. (host_at c k).log) end_is ∙ ap (λ (q : Host). q.log) (d4.rest.nodes k in_k).host

  logged0 : (f : Entry) → Contains (log_in c0 f.stamp.origin) (Rec.Prepare f) → Logged (log_at v f.stamp.origin) f
  logged0 f c =
      let a = among_contains (log_in c0 f.stamp.origin) (Rec.Prepare f) c in
      elim (first_logs n c0 most e ms shown.0 shown.1 p.calm short_c0 f.stamp.origin) [
        | inl q ↦ subst (λ l. Logged l f) q a
        | inr t ↦ absurd (subst (λ l. Among l (Rec.Prepare f)) t.1 a)
      ]

  all_executed : (f : Entry) → f.epoch ≡ e → Contains (log_in c0 f.stamp.origin) (Rec.Prepare f) → AllByRecursion (λ k. Contains (executed (log_in (last_from c0 (first ++ second)) k)) f) ms
  all_executed f ep c = all_from (λ k. Contains (executed (log_in (last_from c0 (first ++ second)) k)) f) ms (λ k in_k.
      let s = were_submitted n e ms v up0 spelt0 f ep (logged0 f c) k in_k in
      let x = executed_there n e t u ms p.some distinct small v w1 w2 w3 w4 up0 spelt0 d4.spelt start r1 r2 above below f s k (node4 k in_k) in_k (member4 k in_k) in
      contains_among (executed (log_in (last_from c0 (first ++ second)) k)) f (subst (λ l. Among (executed l) f) (sym (log4 k in_k)) x))

  -- ---- who waited

  outs_are : (k : ℕ) → gone3 k ++ outs_from k c3 s2 ≡ outs_from k c0 (first ++ second)
  outs_are k =
      let one : outs_from k c0 first ≡ outs_from k c0 f1 ++ outs_from k c1 s1 = ap (outs_from k c0) p.one.halves ∙ outs_then k c0 f1 s1 in
      let two : outs_from k (last_from c0 first) second ≡ outs_from k c2 f2 ++ outs_from k c3 s2 = ap (λ c. outs_from k c second) two_is ∙ ap (outs_from k c2) p.two.halves ∙ outs_then k c2 f2 s2 in
      append_assoc (outs_from k c0 f1 ++ outs_from k c1 s1) (outs_from k c2 f2) (outs_from k c3 s2)
      ∙ sym (outs_then k c0 first second ∙ ap (λ z. z ++ outs_from k (last_from c0 first) second) one ∙ ap (λ z. (outs_from k c0 f1 ++ outs_from k c1 s1) ++ z) two)

  module _ (k : ℕ) (in_k : Among ms k) (w : Waiting) (a : Among (asked k) w) where
    waits0 : Among (rest0.nodes k in_k).replica.waiting w
    waits0 = subst (λ l. Among l w) (asked_is k in_k) a

    abbrev es : List Entry
    es = executed (node4 k in_k).log

    made : (gone3 k ++ outs_from k c3 s2) ++ (d4.rest.nodes k in_k).process.outbox ≡ outs_from k c0 (first ++ second) ++ waiting_out (last_from c0 (first ++ second)) k
    made = (let o = d4.rest.nodes k in_k in
        ap (λ z. z ++ o.process.outbox) (outs_are k) ∙ ap (λ z. outs_from k c0 (first ++ second) ++ z) (sym (waiting_is (last_from c0 (first ++ second)) k (host_at c4 k) o.process (ap (λ c. host_at c k) end_is) (ap (λ (q : Host). q.process) o.host))))

    answered : WasAnswered k w es ((gone3 k ++ outs_from k c3 s2) ++ (d4.rest.nodes k in_k).process.outbox) → IsAnsweredIn k c0 (first ++ second) w
    answered was =
        let is = one_entry n e ms v up0 spelt0 k (rest0.nodes k in_k).replica w in_k (member0 k in_k) waits0 t u p.some distinct small w1 w2 w3 w4 d4.spelt start r1 r2 above below (node4 k in_k) (member4 k in_k)
        was.found.1 (got_among es was.found.0 was.found.1 was.at) was.epoch was.stamp in
        let a = answer_after (take was.found.0 es) was.found.1 in
        record {
          place = was.found.0;
          answer = a;
          answers = subst (λ l. AnswersAt (executed l) was.found.0 w.entry a) (sym (log4 k in_k)) (was.at ∙ ap Some is, ap (answer_after (take was.found.0 es)) is);
          reply = was.reply;
          line = was.line;
          goes = contains_among _ (Outgoing.ToClient was.reply) (subst (λ l. Among l (Outgoing.ToClient was.reply)) made was.goes);
        }

    is_answered : IsAnsweredIn k c0 (first ++ second) w
    is_answered = elim (d4.served k in_k w a) [
      | inl still ↦ absurd (none_waits n e ms v up0 spelt0 k (rest0.nodes k in_k).replica w in_k (member0 k in_k) waits0 t u p.some distinct small w1 w2 w3 w4 d4.spelt start r1 r2 above below (node4 k in_k) (member4 k in_k) still)
      | inr was ↦ answered was
    ]

  pub all_answered : AllIsAnswered e ms c0 (first ++ second)
  all_answered = record {
    executed = all_executed;
    answered = λ k x w in_k runs waits.
        is_answered k (among_contains ms k in_k) w (subst (λ l. Among l w) (sym (ap (λ o. option_map_or (λ (y : Process). y.replica.waiting) o []) runs)) (among_contains x.replica.waiting w waits));
  }

pub rounds_answer : RoundsAnswer
rounds_answer n h first second e ms t u p = all_answered n h first second e ms t u p
