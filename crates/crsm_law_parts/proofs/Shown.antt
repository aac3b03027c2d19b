-- What nodes hand to their ports was sent in the world that shows the history's end.
use Rattle.std.proofs.Common.{◌≡◌, ℕ, zero, suc, ◌≤◌, List, [], ◌∷◌, refl, sym, subst, cond, arith}
use Rattle.std.specs.Prelude.{Some, slice_get, take}
use Rattle.std.specs.List.{AllByRecursion}
use Rattle.std.proofs.lemmas.Option.{none-some, same_Some}
use Rattle.std.proofs.lemmas.List.Sums.{sum_by-cons}
use Rattle.crsm_base.specs.Records.{FitsRec}
use Rattle.crsm_base.specs.Spelling.{FitsEntry}
use Rattle.crsm_base.specs.Messages.{FitsControl}
use Rattle.crsm_spec.specs.Types.{Datagram, Entry, InEpoch, Outcome, Rec}
use Rattle.crsm_spec.specs.Lists.{Among}
use Rattle.crsm_spec.specs.Clock.{u64_max}
use Rattle.crsm_spec.specs.Log.{Log, boots, executed, is_boot}
use Rattle.crsm_spec.specs.Draft.{Reply}
use Rattle.crsm_spec.specs.World.{World, log_at}
use Rattle.crsm_fact_log.specs.Logs.{Extends, same, more, Logged, AreSpelt}
use Rattle.crsm_fact_log.proofs.Lists.{all_at, all-take}
use Rattle.crsm_fact_log.proofs.LogsFit.{executed_fits}
use Rattle.crsm_law_steps.specs.Happenings.{WasSent}
use Rattle.crsm_law_epoch.specs.Worlds.{sent_in}
use Rattle.crsm_law_epoch.proofs.Words.{among_map}
use Rattle.crsm_law_epoch.proofs.Worlds.{seat_log_at}
use Rattle.crsm_law_epoch.proofs.LogSteps.{IsBetween}
use Rattle.crsm_law_epoch.proofs.LogWorlds.{all_held, epochs_hold_always}
use Rattle.crsm_law_messages.specs.SentMessages.{SentMessage}
use Rattle.crsm_law_messages.proofs.SendingControls.{IsFor, piece}
use Rattle.crsm_law_messages.proofs.Truth.{past_extends}
use Rattle.crsm_law_messages.proofs.Worlds.{Known, all_known}
use Rattle.crsm_law_bounds.specs.Bounds.{IsSpelt}
use Rattle.crsm_law_bounds.proofs.Worlds.{short_logs_are_spelt}
use Rattle.crsm_law_runs.specs.Last.{IsLast}
use Rattle.crsm_law_cluster.specs.Clusters.{Event, Outgoing}
use Rattle.crsm_law_cluster.specs.OneList.{one_list}
use Rattle.crsm_law_cluster.specs.ClusterLaws.{IsHistory}
use Rattle.crsm_law_replies.specs.Laws.{RepliesTellTheFirst}
use Rattle.crsm_law_cluster.proofs.Last.{shown, last}
use Rattle.crsm_law_parts.specs.Handed.{IsHanded}
use Rattle.crsm_law_parts.proofs.Sending.{all_sent, history_like, replied, sent_in_the_end}
use Rattle.crsm_law_parts.proofs.Values.{IsShort, answer_short}
use Rattle.crsm_law_parts.proofs.Sizes.{FitsIn, IsShortOutcome}

boots_more : (rec : Rec) (log : Log) → boots log ≤ boots (rec ∷ log)
unfolding boots
boots_more rec log = let s = sum_by-cons (λ r. cond (is_boot r) 1 0) rec log in omega (arith, s)

boots_before : (a b : Log) → Extends a b → boots a ≤ boots b
boots_before a b same = omega arith
boots_before a b (more {new = c} rec p) = let x = boots_before a c p in let y = boots_more rec c in omega (arith, x, y)

spelt_before : (a b : Log) → Extends a b → AreSpelt b → AreSpelt a
spelt_before a b same h = h
spelt_before a b (more {new = c} rec p) h = spelt_before a c p h.1

all_got : (P : Entry → Type 0) (es : List Entry) → ((i : ℕ) (e : Entry) → slice_get es i ≡ Some e → P e) → AllByRecursion P es
all_got P [] h = tt
all_got P (e ∷ es) h = (h 0 e refl, all_got P es (λ i f at. h (suc i) f at))

got : (P : Entry → Type 0) (es : List Entry) (i : ℕ) (e : Entry) → AllByRecursion P es → slice_get es i ≡ Some e → P e
got P [] i e h at = absurd (none-some e at)
got P (f ∷ es) zero e h at = subst P (same_Some f e at) h.0
got P (f ∷ es) (suc i) e h at = got P es i e h.1 at

module _ (n : ℕ) (h : List Event) (q : IsHistory n h) where
  abbrev pub full : IsHistory n (all_sent h)
  full = history_like n h q

  abbrev pub end : World
  end = (shown n (all_sent h) full).end

  pub is_last : IsLast n end (one_list n (all_sent h))
  is_last = last n (all_sent h) full

  spelt : IsSpelt n end
  spelt = short_logs_are_spelt n end q.most is_last.reached is_last.short

  was_sent : (k to : ℕ) (d : Datagram) → IsHanded n h k (Outgoing.ToReplica to d) → (j : ℕ) × WasSent end j to d
  was_sent k to d t = (shown n (all_sent h) full).last.sent to d (sent_in_the_end n h k to d t)

  -- ---- datagrams between replicas

  pub between : (k to : ℕ) (d : Datagram) → IsHanded n h k (Outgoing.ToReplica to d) → IsBetween d
  between k to d t = let s = was_sent k to d t in (all_held n end is_last.reached).packets (record { from = s.0; to = to; datagram = d; used = s.1.0 }) s.1.1

  among_sent : (k to : ℕ) (d : Datagram) → IsHanded n h k (Outgoing.ToReplica to d) → Among (sent_in end) d
  unfolding sent_in
  among_sent k to d t = let s = was_sent k to d t in among_map (λ m. m.datagram) end.packets (record { from = s.0; to = to; datagram = d; used = s.1.0 }) s.1.1

  pub payload_fits : (k to from j epoch seq : ℕ) (p : InEpoch) → IsHanded n h k (Outgoing.ToReplica to (Datagram.Frame from j epoch seq p)) → FitsIn p
  payload_fits k to from j epoch seq (InEpoch.Prepare e) t =
      let logged = ((epochs_hold_always n end is_last.reached spelt.few).says from j epoch seq e (among_sent k to _ t)).0 in
      all_at FitsRec (log_at end from) (Rec.Prepare e) (spelt.records from) (subst (λ l. Logged l e) (seat_log_at end from) logged)
  payload_fits k to from j epoch seq (InEpoch.PrepareOk s at) t = tt
  payload_fits k to from j epoch seq (InEpoch.ClockTime at) t = tt

  -- ---- parts

  pub known : Known n end is_last.reached
  known = all_known n end is_last.reached

  pub part_for : (k to a j b i y c : ℕ) (bytes : List ℕ) → IsHanded n h k (Outgoing.ToReplica to (Datagram.Part a j b i y c bytes)) → IsFor known.sent j (piece a b i y c bytes)
  part_for k to a j b i y c bytes t = let s = was_sent k to _ t in known.packets s.0 to (Datagram.Part a j b i y c bytes) s.1 a j b i y c bytes refl

  pub message_fits : (s : SentMessage) → Among known.sent s → FitsControl s.message
  message_fits s a = spelt.messages s (known.was s a)

  pub boot_small : (s : SentMessage) → Among known.sent s → s.boot ≤ u64_max
  boot_small s a =
      let t = known.was s a in
      let b = t.sent.boot in
      let le = boots_before t.past.draft.replica.log (log_at end s.from) (past_extends n end s.from t.past) in
      let few = spelt.few s.from in
      omega (arith, b, le, few)

  -- ---- replies

  entry_fits : (p : ℕ) (e : Entry) → slice_get (one_list n (all_sent h)) p ≡ Some e → FitsEntry e
  entry_fits p e at =
      let t = is_last.held p e at in
      got FitsEntry (executed t.1) p e (executed_fits t.1 (spelt_before t.1 (log_at end t.0) t.2 (spelt.records t.0))) t.3

  pub outcome_short : RepliesTellTheFirst → (k : ℕ) (a : Reply) → IsHanded n h k (Outgoing.ToClient a) → IsShortOutcome a.says
  outcome_short tell k a t = go a.says refl
    where
      go : (o : Outcome) → a.says ≡ o → IsShortOutcome o
      go (Outcome.Refused why) e = tt
      go (Outcome.Answered v) e =
          let s = replied n h k a t in
          let r = (tell n (all_sent h) full s.0 k a v s.1 e).here in
          let fits = all_got FitsEntry (one_list n (all_sent h)) entry_fits in
          let place = (tell n (all_sent h) full s.0 k a v s.1 e).place in
          subst IsShort (sym r.at.1) (answer_short (take place (one_list n (all_sent h))) r.entry (all-take FitsEntry (one_list n (all_sent h)) place fits) (entry_fits place r.entry r.at.0))
