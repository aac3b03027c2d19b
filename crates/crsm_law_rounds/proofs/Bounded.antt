-- Two calm rounds, in every possible run.
use Rattle.std.proofs.Common.{◌≡◌, ℕ, ◌+◌, ◌-◌, ◌<◌, ◌≤◌, List, [], ◌∷◌, ◌++◌, length, refl, sym, ◌∙◌, ap, subst, inl, inr, Bool, true, false, cond, arith, map, take, append_assoc}
use Rattle.std.specs.Prelude.{◌≢◌, ◌⊎◌, ◌^◌, IsTrue, Some, None, slice_get, not, Contains}
use Rattle.std.specs.List.{AllByRecursion}
use Rattle.std.proofs.lemmas.List.{append-nil}
use Rattle.std.proofs.lemmas.Bool.{and_parts, cases_lt, false≢true}
use Rattle.std.proofs.lemmas.Option.{none-some, same_Some}
use Rattle.crsm_base.specs.Store.{answer_after}
use Rattle.crsm_spec.specs.Clock.{u64_max}
use Rattle.crsm_spec.specs.Types.{Entry, Rec, Line, InEpoch}
use Rattle.crsm_spec.specs.Lists.{Among}
use Rattle.crsm_spec.specs.Log.{known, executed}
use Rattle.crsm_spec.specs.Replica.{Replica, Waiting, unacked, frames_to}
use Rattle.crsm_spec.specs.Step.{Input}
use Rattle.crsm_spec.specs.World.{Site, Packet, World, begin, log_at, is_full}
use Rattle.crsm_spec.specs.Acts.{Single, Act, Bad, FitsAct}
use Rattle.crsm_spec.specs.Moments.{deliverable, moments_of, act}
use Rattle.crsm_spec.specs.Possible.{first_bad, causes_of, possible}
use Rattle.crsm_spec.specs.Run.{ArePossible, after_acts, last_world}
use Rattle.crsm_spec.specs.Safe.{AnswersAt}
use Rattle.crsm_spec.specs.Calm.{IsCalm, IsCalmAt, IsCalmReading, calm_round, AllIsDone, IsAnsweredAt, RoundsAreBounded, IsUpAs}
use Rattle.crsm_fact_log.specs.Logs.{same, Logged}
use Rattle.crsm_fact_log.proofs.Logged.{extends_trans}
use Rattle.crsm_fact_log.proofs.Lists.{all_at, all_from}
use Rattle.crsm_law_steps.specs.Laws.{LogsGoOn}
use Rattle.crsm_law_steps.specs.Happenings.{IsReached, WasSent}
use Rattle.crsm_law_steps.proofs.Happen.{act_happens, got_among}
use Rattle.crsm_law_steps.proofs.Moments.{end_of_moments}
use Rattle.crsm_law_epoch.specs.Numbers.{Distinct}
use Rattle.crsm_law_epoch.specs.LogWorlds.{HasFewBoots}
use Rattle.crsm_law_epoch.proofs.LogWorlds.{all_held}
use Rattle.crsm_law_epoch.proofs.Worlds.{log_there}
use Rattle.crsm_law_agreement.proofs.Choice.{contains_among}
use Rattle.crsm_law_bounds.specs.Bounds.{IsSpelt}
use Rattle.crsm_law_runs.proofs.DurableLists.{among_contains}
use Rattle.crsm_law_runs.proofs.Last.{is_before, last_of_run}
use Rattle.crsm_law_runs.proofs.Runs.{last_on}
use Rattle.crsm_law_active.specs.Staying.{IsCalmInput}
use Rattle.crsm_law_active.specs.Telling.{IsOfLink}
use Rattle.crsm_law_active.proofs.Worlds.{few_before}
use Rattle.crsm_law_rounds.specs.Rounds.{GoesCalmly}
use Rattle.crsm_law_rounds.specs.Rounds.GoesCalmly.{stay}
use Rattle.crsm_law_rounds.specs.Members.{IsMemberUp, AllUp}
use Rattle.crsm_law_rounds.specs.Passes.{ticks_of, AllTaken, FramesAreTaken, LinksStayShort, IsAcknowledged, EntriesAreSpread}
use Rattle.crsm_law_rounds.proofs.Going.{up_one, calm_at}
use Rattle.crsm_law_rounds.proofs.Ticks.{ticks, ticks_are, acts_then, AllActive, have_ticked, can_go, passing_at, deliverable_is}
use Rattle.crsm_law_rounds.proofs.Settling.{settled, settle_is, settle_logs}
use Rattle.crsm_law_rounds.proofs.Links.{numbers}
use Rattle.crsm_law_rounds.proofs.Round.{RoundDone, round_done, up_later, other_is, is_other}
use Rattle.crsm_law_rounds.proofs.Starting.{runs_member, distinct_members, small_members, were_submitted}
use Rattle.crsm_law_rounds.proofs.Waiting.{waits_in_epoch, none_waits, one_entry}
use Rattle.crsm_law_rounds.proofs.Executed.{decided_on}
use Rattle.crsm_law_rounds.proofs.Spreading.{CalmStart, IsSubmitted, short_link, spreads}
use Rattle.crsm_law_rounds.proofs.Finishing.{executed_there, paid}
use Rattle.crsm_law_rounds.proofs.Parts.{told_calm, between_calm, MildPackets, LowDecisions, NoParts, no_parts_after, mild_after_tick, low_after_tick, ticks_keep, fresh_link, link_calm, StaysMild, settle_mild, part_is}
use Rattle.crsm_law_rounds.proofs.Answered.{WaitsOrTold, WasTold, lines_told, lines_then, lines_cons, lines_nil, ticks_serve, settle_serves, settle_lines, settle_lines_are}

-- ---- acts that are possible

not_full : (w : World) (a : Act) → possible w a ≡ None → is_full w ≡ false
unfolding possible first_bad
not_full w a p = go (is_full w) p
  where
    go : (b : Bool) → cond b (Some (Bad.Full w.bytes)) (first_bad (causes_of w a)) ≡ None → b ≡ false
    go true e = absurd (none-some (Bad.Full w.bytes) (sym e))
    go false e = refl

possible_then : (w : World) (xs ys : List Act) → ArePossible w xs → ArePossible (after_acts w xs) ys → ArePossible w (xs ++ ys)
unfolding after_acts
possible_then w [] ys p q = q
possible_then w (x ∷ xs) ys p q = (p.0, p.1, possible_then (act w x).after xs ys p.2 q)

possible_later : (w : World) (xs ys : List Act) → ArePossible w (xs ++ ys) → ArePossible w xs × ArePossible (after_acts w xs) ys
unfolding after_acts
possible_later w [] ys p = (tt, p)
possible_later w (x ∷ xs) ys p = let t = possible_later (act w x).after xs ys p.2 in ((p.0, p.1, t.0), t.1)

act_logs : (w : World) (a : Act) → FitsAct a → possible w a ≡ None → LogsGoOn w (act w a).after
unfolding act
act_logs w a f p = end_of_moments w (moments_of w a) (act_happens w a f p)

acts_logs : (w : World) (acts : List Act) → ArePossible w acts → LogsGoOn w (after_acts w acts)
unfolding after_acts
acts_logs w [] p = λ k. same
acts_logs w (a ∷ acts) p = λ k. extends_trans (act_logs w a p.0 p.1 k) (acts_logs (act w a).after acts p.2 k)

abbrev tick_acts : ℕ → List ℕ → List Act
tick_acts t ks = map (λ k. Act.One (Single.Tick k t)) ks

round_is : (ks : List ℕ) (t : ℕ) → calm_round ks t ≡ tick_acts t ks ++ Act.Settle t ∷ []
unfolding calm_round
round_is ks t = refl

one_act : (w : World) (a : Act) → after_acts w (a ∷ []) ≡ (act w a).after
unfolding after_acts
one_act w a = refl

-- the world after a round
round_end : (w : World) (ks : List ℕ) (t : ℕ) → after_acts w (calm_round ks t) ≡ settled t (deliverable (ticks t ks w)) (ticks t ks w)
round_end w ks t =
    ap (after_acts w) (round_is ks t) ∙ acts_then w (tick_acts t ks) (Act.Settle t ∷ []) ∙ ap (λ z. after_acts z (Act.Settle t ∷ [])) (ticks_are t ks w)
    ∙ one_act (ticks t ks w) (Act.Settle t) ∙ settle_is t (ticks t ks w)

-- the lines of a round
round_lines : (w : World) (ks : List ℕ) (t : ℕ) → lines_told w (calm_round ks t) ≡ lines_told w (tick_acts t ks) ++ settle_lines t (deliverable (ticks t ks w)) (ticks t ks w)
round_lines w ks t =
    ap (lines_told w) (round_is ks t) ∙ lines_then w (tick_acts t ks) (Act.Settle t ∷ [])
    ∙ ap (λ z. lines_told w (tick_acts t ks) ++ lines_told z (Act.Settle t ∷ [])) (ticks_are t ks w)
    ∙ ap (λ l. lines_told w (tick_acts t ks) ++ l) (lines_cons (ticks t ks w) (Act.Settle t) []
    ∙ ap (λ l. (act (ticks t ks w) (Act.Settle t)).lines ++ l) (lines_nil (act (ticks t ks w) (Act.Settle t)).after) ∙ append-nil _ ∙ settle_lines_are t (ticks t ks w))

-- what a possible round asks: its reading is a number of 64 bits, and the world is not full
round_asks : (w : World) (ks : List ℕ) (t : ℕ) → ArePossible w (calm_round ks t) → (t < 2 ^ 64) × (is_full w ≡ false)
round_asks w ks t p =
    let q = subst (ArePossible w) (round_is ks t) p in
    let s = (possible_later w (tick_acts t ks) (Act.Settle t ∷ []) q).1 in
    (s.0, free w ks q)
  where
    free : (w : World) (ks : List ℕ) → ArePossible w (tick_acts t ks ++ Act.Settle t ∷ []) → is_full w ≡ false
    free w [] q = not_full w (Act.Settle t) q.1
    free w (k ∷ ks) q = not_full w (Act.One (Single.Tick k t)) q.1

-- the numbers that a settle delivers are those of fresh datagrams
delivered : (w : World) (i : ℕ) → Among (deliverable w) i → (m : Packet) × (slice_get w.packets i ≡ Some m) × (m.used ≡ false)
unfolding can_go
delivered w i a =
    let p = passing_at (can_go w) 0 w.packets i (subst (λ l. Among l i) (deliverable_is w) a) in
    (p.1, subst (λ z. slice_get w.packets z ≡ Some p.1) (let z = p.2 in omega (arith, z)) p.3, unused p.1.used (and_parts (not p.1.used) _ p.4).0)
  where
    unused : (b : Bool) → IsTrue (not b) → b ≡ false
    unused true h = absurd (false≢true h)
    unused false h = refl

-- ---- from a calm world of a run

module _ (n : ℕ) (one : 1 ≤ n) (most : n ≤ 15) (acts : List Act) (run : ArePossible (begin n) acts) (e : ℕ) (ms : List ℕ) (t u : ℕ) (calm : IsCalm e ms (last_world n acts))
    (read1 : IsCalmReading ms (last_world n acts) t) (read2 : IsCalmReading ms (after_acts (last_world n acts) (calm_round ms t)) u)
    (rounds : ArePossible (last_world n acts) (calm_round ms t ++ calm_round ms u)) (free : is_full (after_acts (last_world n acts) (calm_round ms t ++ calm_round ms u)) ≡ false) where
  abbrev v : World
  v = last_world n acts

  abbrev v1 : World
  v1 = ticks t ms v

  abbrev v2 : World
  v2 = settled t (deliverable v1) v1

  abbrev v3 : World
  v3 = ticks u ms v2

  abbrev at_t : ℕ → ℕ
  at_t k = t

  abbrev at_u : ℕ → ℕ
  at_u k = u

  abbrev v4 : World
  v4 = settled u (deliverable v3) v3

  end2 : after_acts v (calm_round ms t) ≡ v2
  end2 = round_end v ms t

  end4 : after_acts v (calm_round ms t ++ calm_round ms u) ≡ v4
  end4 = acts_then v (calm_round ms t) (calm_round ms u) ∙ ap (λ w. after_acts w (calm_round ms u)) end2 ∙ round_end v2 ms u

  first_round : ArePossible v (calm_round ms t)
  first_round = (possible_later v (calm_round ms t) (calm_round ms u) rounds).0

  second_round : ArePossible v2 (calm_round ms u)
  second_round = subst (λ w. ArePossible w (calm_round ms u)) end2 (possible_later v (calm_round ms t) (calm_round ms u) rounds).1

  lt_t : t < 2 ^ 64
  lt_t = (round_asks v ms t first_round).0

  lt_u : u < 2 ^ 64
  lt_u = (round_asks v2 ms u second_round).0

  free2 : is_full v2 ≡ false
  free2 = (round_asks v2 ms u second_round).1

  free4 : is_full v4 ≡ false
  free4 = ap is_full (sym end4) ∙ free

  -- ---- all of it is a run

  abbrev long : List Act
  long = acts ++ (calm_round ms t ++ calm_round ms u)

  long_run : ArePossible (begin n) long
  unfolding last_world
  long_run = possible_then (begin n) acts (calm_round ms t ++ calm_round ms u) run rounds

  last_is : last_world n long ≡ v4
  unfolding last_world
  last_is = acts_then (begin n) acts (calm_round ms t ++ calm_round ms u) ∙ end4

  on2 : LogsGoOn v2 v4
  on2 = subst (LogsGoOn v2) (round_end v2 ms u) (acts_logs v2 (calm_round ms u) second_round)

  -- each world that is reached and goes on to the end has a spelling
  spelt_at : (w : World) → IsReached n w → LogsGoOn w v4 → IsSpelt n w
  spelt_at w q on = (is_before n (last_world n long) w _ (last_of_run n long most long_run) q (subst (LogsGoOn w) (sym last_is) on)).spelt

  reached4 : IsReached n v4
  reached4 = subst (IsReached n) last_is (last_on n long most long_run).reached

  spelt4 : IsSpelt n v4
  spelt4 = subst (IsSpelt n) last_is (last_on n long most long_run).spelt

  reached : IsReached n v
  reached = (last_on n acts most run).reached

  spelt : IsSpelt n v
  spelt = (last_on n acts most run).spelt

  few4 : HasFewBoots v4
  few4 = spelt4.few

  -- ---- the calm world

  member_at : (k : ℕ) → Among ms k → IsCalmAt e ms v k
  member_at k m = all_at (IsCalmAt e ms v) ms k calm.up m

  h : AllUp n e ms v
  h = record {
    reached = reached;
    few = spelt.few;
    member = λ k m. let c = member_at k m in (c.replica, record { up = c.up; knows = c.calm.known; runs = c.calm.active; counts = c.calm.counts });
  }

  calm_of : (k : ℕ) (r : Replica) → IsMemberUp e ms v k r → (c : IsCalmAt e ms v k) × (c.replica ≡ r)
  calm_of k r m =
      let c = member_at k (runs_member n e ms v h k r m) in
      (c, up_one c.replica r (same_Some _ _ (sym c.up ∙ m.up)))

  distinct : Distinct ms
  distinct = distinct_members n e ms v h spelt

  small : (k : ℕ) → Among ms k → k ≤ 14
  small = small_members n e ms v h spelt

  submitted : (f : Entry) → f.epoch ≡ e → Logged (log_at v f.stamp.origin) f → (k : ℕ) → Among ms k → IsSubmitted e ms v f
  submitted = were_submitted n e ms v h spelt

  start : CalmStart e ms v
  start = record {
    links = λ k j r m a. let c = calm_of k r m in subst (λ (z : Replica). length (unacked z j) ≤ 16) c.1 (c.0.calm.links j (contains_among ms j a));
    owed = λ k r m a. let c = calm_of k r m in subst (λ (z : Replica). length z.owed ≤ 16) c.1 c.0.calm.owed;
    entries = calm.entries;
    all_open = λ f o. among_contains calm.entries f (calm.all_open f o);
    few_open = calm.few_open;
  }

  -- ---- the first round

  no_parts : NoParts v
  no_parts m a fresh p = calm.quiet m (contains_among v.packets m a) fresh p

  active_at : (w : World) → AllUp n e ms w → AllActive ms w
  active_at w up k m = (let o = up.member k m in (o.0, o.1.up, o.1.runs))

  no_parts1 : NoParts v1
  no_parts1 = ticks_keep NoParts t ms v distinct (λ w k r up a p. no_parts_after t w k r a p) (active_at v h) no_parts

  reached1 : IsReached n v1
  reached1 = (up_later n e ms distinct small v v1 h (have_ticked t (λ k. Among ms k) v ms [] v lt_t distinct stay (active_at v h)).goes (few_before v1 v4 on1 few4)).reached
    where
      on1 : LogsGoOn v1 v4
      on1 = λ k. extends_trans (settle_logs t lt_t (deliverable v1) v1 k) (on2 k)

  links1 : (i : ℕ) → Among (deliverable v1) i → (m : Packet) × (slice_get v1.packets i ≡ Some m) × IsOfLink m.datagram
  links1 i a = (let d = delivered v1 i a in (d.0, d.1, fresh_link n v1 reached1 no_parts1 d.0 (got_among v1.packets i d.0 d.1) d.2))

  calm1 : (w : World) → GoesCalmly (λ k. Among ms k) v1 [] w → LogsGoOn w v4 → (i : ℕ) (m : Packet) → Among (deliverable v1) i → slice_get v1.packets i ≡ Some m → Among ms m.to → (r : Replica) →
      slice_get w.sites m.to ≡ Some (Site.Up r) → IsCalmInput r (Input.Came m.from m.datagram)
  calm1 w g on i m a at member r up =
      let d = links1 i a in
      link_calm r m.from m.datagram (subst (λ (z : Packet). IsOfLink z.datagram) (same_Some d.0 m (sym d.1 ∙ at)) d.2)

  d1 : RoundDone n e at_t ms v v1 v2
  d1 = round_done n e t ms lt_t distinct small v v4 h few4 on2 free2
      (λ k j r m o. let nums = numbers n e ms v h k r m in let x = other_is n e ms distinct small v k j r m nums.0 o in let le = start.links k j r m x.0 in omega (arith, le)) calm1

  -- ---- what was told in it

  low : LowDecisions e v
  low k r up d is = go (cases_lt e d.epoch)
    where
      go : (e < d.epoch) ⊎ (d.epoch ≤ e) → d.epoch ≤ e
      go (inr le) = le
      go (inl lt) = absurd (calm.latest k (Rec.Decide d) (contains_among (log_at v k) (Rec.Decide d) (subst (λ l. Among l (Rec.Decide d)) (sym (log_there v k r up)) (decided_on r.log (Some d) is d refl))) (omega (arith, lt)))

  mild_start : MildPackets e v
  mild_start m a fresh from to boot number index count bytes is = absurd (no_parts m a fresh (part_is m.datagram from to boot number index count bytes is))

  mild1 : StaysMild e v1
  mild1 = record {
    packets = ticks_keep (MildPackets e) t ms v distinct (λ w k r up a p. mild_after_tick t e lt_t w k r up a p) (active_at v h) mild_start;
    low = ticks_keep (LowDecisions e) t ms v distinct (λ w k r up a p. low_after_tick t e w k r up a p) (active_at v h) low;
  }

  mild2 : StaysMild e v2
  mild2 = settle_mild n e t lt_t v1 v4 spelt_at reached1 (deliverable v1) links1 (deliverable v1) v1 (λ i m. m) stay on2 free2 mild1

  mild3 : MildPackets e v3
  mild3 = ticks_keep (MildPackets e) u ms v2 distinct (λ w k r up a p. mild_after_tick u e lt_u w k r up a p) (active_at v2 d1.up2) mild2.packets

  -- ---- the second round

  up3 : AllUp n e ms v3
  up3 = up_later n e ms distinct small v2 v3 d1.up2 (have_ticked u (λ k. Among ms k) v2 ms [] v2 lt_u distinct stay (active_at v2 d1.up2)).goes
      (few_before v3 v4 (settle_logs u lt_u (deliverable v3) v3) few4)

  calm2 : (w : World) → GoesCalmly (λ k. Among ms k) v3 [] w → LogsGoOn w v4 → (i : ℕ) (m : Packet) → Among (deliverable v3) i → slice_get v3.packets i ≡ Some m → Among ms m.to → (r : Replica) →
      slice_get w.sites m.to ≡ Some (Site.Up r) → IsCalmInput r (Input.Came m.from m.datagram)
  calm2 w g on i m a at member r up =
      between_calm n e w up_w.reached m.to r up knows m.from m.datagram now ((all_held n v3 up3.reached).packets m (got_among v3.packets i m at))
      (λ from to boot number index count bytes is. let told = mild3 m (got_among v3.packets i m at) fresh from to boot number index count bytes is in (told.0, told_calm e (λ k. Among ms k) v3 w [] g from to boot number count told.1))
    where
      up_w : AllUp n e ms w
      up_w = up_later n e ms distinct small v3 w up3 g (few_before w v4 on few4)

      fresh : m.used ≡ false
      fresh = (let d = delivered v3 i a in ap (λ (z : Packet). z.used) (same_Some m d.0 (sym at ∙ d.1)) ∙ d.2)

      knows : known r.log ≡ e
      knows = (let o = up_w.member m.to member in ap (λ (z : Replica). known z.log) (up_one r o.0 (same_Some _ _ (sym up ∙ o.1.up))) ∙ o.1.knows)

      now : WasSent w m.from m.to m.datagram
      now = (let x = calm_at (λ k. Among ms k) v3 g i m at in (x.0, got_among w.packets i _ x.1))

  d2 : RoundDone n e at_u ms v2 v3 v4
  d2 = round_done n e u ms lt_u distinct small v2 v4 d1.up2 few4 (λ k. same) free4
      (λ k j r m o. let le = short_link n e at_t ms distinct small v v1 v2 h spelt start d1 k (runs_member n e ms v2 d1.up2 k r m) r m j o in omega (arith, le)) calm2

  below : (k : ℕ) → Among ms k → u ≤ u64_max - 100000
  below k in_k = read2.below

  above : (k j time : ℕ) (r : Replica) → Among ms k → Among ms j → IsMemberUp e ms v2 j r → Among r.issued time → time + 10 ≤ u
  above i k time r in_i in_k m a =
      let read : IsCalmReading ms v2 u = subst (λ w. IsCalmReading ms w u) end2 read2 in
      read.above k time r (contains_among ms k in_k) m.up (contains_among r.issued time a)

  at_end : (k : ℕ) (r : Replica) → IsMemberUp e ms v4 k r → log_at (after_acts v (calm_round ms t ++ calm_round ms u)) k ≡ r.log
  at_end k r m = ap (λ w. log_at w k) end4 ∙ log_there v4 k r m.up

  all_executed_there : (f : Entry) → f.epoch ≡ e → Contains (log_at v f.stamp.origin) (Rec.Prepare f) →
      AllByRecursion (λ k. Contains (executed (log_at (after_acts v (calm_round ms t ++ calm_round ms u)) k)) f) ms
  all_executed_there f ep c =
      all_from (λ k. Contains (executed (log_at (after_acts v (calm_round ms t ++ calm_round ms u)) k)) f) ms (λ k in_k.
      let s = submitted f ep (among_contains (log_at v f.stamp.origin) (Rec.Prepare f) c) k in_k in
      let q = d2.up2.member k in_k in
      let there = executed_there n e at_t at_u ms one distinct small v v1 v2 v3 v4 h spelt spelt4 start d1 d2 above below f s k q.0 in_k q.1 in
      subst (λ l. Contains (executed l) f) (sym (at_end k q.0 q.1)) (contains_among (executed q.0.log) f there))

  -- ---- who waited

  abbrev rounds_acts : List Act
  rounds_acts = calm_round ms t ++ calm_round ms u

  places : (i : ℕ) (w : World) → Among (deliverable w) i → (m : Packet) × (slice_get w.packets i ≡ Some m)
  places i w a = (let d = delivered w i a in (d.0, d.1))

  all_lines : lines_told v rounds_acts ≡ (lines_told v (tick_acts t ms) ++ settle_lines t (deliverable v1) v1) ++ (lines_told v2 (tick_acts u ms) ++ settle_lines u (deliverable v3) v3)
  all_lines =
      lines_then v (calm_round ms t) (calm_round ms u)
      ∙ ap (λ l. l ++ lines_told (after_acts v (calm_round ms t)) (calm_round ms u)) (round_lines v ms t)
      ∙ ap (λ w. (lines_told v (tick_acts t ms) ++ settle_lines t (deliverable v1) v1) ++ lines_told w (calm_round ms u)) end2
      ∙ ap (λ l. (lines_told v (tick_acts t ms) ++ settle_lines t (deliverable v1) v1) ++ l) (round_lines v2 ms u)

  module _ (k : ℕ) (r : Replica) (c : Waiting) (in_k : Among ms k) (up : slice_get v.sites k ≡ Some (Site.Up r)) (waits : Among r.waiting c) where
    mine : IsMemberUp e ms v k r
    mine = (let o = h.member k in_k in subst (IsMemberUp e ms v k) (up_one o.0 r (same_Some _ _ (sym o.1.up ∙ up))) o.1)

    epoch : c.entry.epoch ≡ e
    epoch = waits_in_epoch n e ms v h spelt k r c in_k mine waits

    begins : WaitsOrTold k e c v []
    begins = record { replica = r; up = up; me = (numbers n e ms v h k r mine).0; knows = mine.knows; runs = mine.runs; served = inl waits }

    first_done : WaitsOrTold k e c v2 (([] ++ lines_told v (tick_acts t ms)) ++ settle_lines t (deliverable v1) v1)
    first_done = settle_serves t (λ j. Among ms j) v1 v4 lt_t (deliverable v1) (λ i a. places i v1 a) calm1 k e c epoch in_k (deliverable v1) v1 (λ i m. m) stay on2 free2 _
        (ticks_serve t k e c ms v [] epoch distinct (active_at v h) begins)

    abbrev so_far : List Line
    so_far = ([] ++ lines_told v (tick_acts t ms)) ++ settle_lines t (deliverable v1) v1

    second_done : WaitsOrTold k e c v4 ((so_far ++ lines_told v2 (tick_acts u ms)) ++ settle_lines u (deliverable v3) v3)
    second_done = settle_serves u (λ j. Among ms j) v3 v4 lt_u (deliverable v3) (λ i a. places i v3 a) calm2 k e c epoch in_k (deliverable v3) v3 (λ i m. m) stay (λ j. same) free4 _
        (ticks_serve u k e c ms v2 so_far epoch distinct (active_at v2 d1.up2) first_done)

    told_all : WaitsOrTold k e c v4 (lines_told v rounds_acts)
    told_all = subst (WaitsOrTold k e c v4) (append_assoc so_far (lines_told v2 (tick_acts u ms)) (settle_lines u (deliverable v3) v3) ∙ sym all_lines) second_done

    now_k : IsMemberUp e ms v4 k told_all.replica
    now_k = (let o = d2.up2.member k in_k in subst (IsMemberUp e ms v4 k) (up_one o.0 told_all.replica (same_Some _ _ (sym o.1.up ∙ told_all.up))) o.1)

    is_answered : IsAnsweredAt k v rounds_acts c
    unfolding lines_told
    is_answered = elim told_all.served [
      | inl still ↦ absurd (none_waits n e ms v h spelt k r c in_k mine waits at_t at_u one distinct small v1 v2 v3 v4 spelt4 start d1 d2 above below told_all.replica now_k still)
      | inr was ↦ answered_by was
    ]
      where
        answered_by : WasTold k c (executed told_all.replica.log) (lines_told v rounds_acts) → IsAnsweredAt k v rounds_acts c
        answered_by was =
            let es = executed told_all.replica.log in
            let is = one_entry n e ms v h spelt k r c in_k mine waits at_t at_u one distinct small v1 v2 v3 v4 spelt4 start d1 d2 above below told_all.replica now_k was.found.1 (got_among es was.found.0 was.found.1 was.at) was.epoch was.stamp in
            let log_is = at_end k told_all.replica now_k in
            record {
              place = was.found.0;
              answer = answer_after (take was.found.0 es) was.found.1;
              answers = subst (λ l. AnswersAt (executed l) was.found.0 c.entry (answer_after (take was.found.0 es) was.found.1)) (sym log_is)
                  (was.at ∙ ap Some is, ap (answer_after (take was.found.0 es)) is);
              line = contains_among (lines_told v rounds_acts) _ was.line;
            }

  -- ---- the passes

  ticks1 : after_acts v (ticks_of ms t) ≡ v1
  unfolding ticks_of
  ticks1 = ticks_are t ms v

  ticks3 : after_acts v (calm_round ms t ++ ticks_of ms u) ≡ v3
  unfolding ticks_of
  ticks3 = acts_then v (calm_round ms t) (tick_acts u ms) ∙ ap (λ w. after_acts w (tick_acts u ms)) end2 ∙ ticks_are u ms v2

  member_up : (w : World) → AllUp n e ms w → (k : ℕ) (r : Replica) → Among ms k → slice_get w.sites k ≡ Some (Site.Up r) → IsMemberUp e ms w k r
  member_up w all_up k r in_k up = let o = all_up.member k in_k in subst (IsMemberUp e ms w k) (up_one o.0 r (same_Some _ _ (sym o.1.up ∙ up))) o.1

  taken_by : (time : ℕ → ℕ) (x y z : World) → RoundDone n e time ms x y z → AllTaken ms y z
  taken_by time x y z d k j r q in_k in_j ne up_k up_j =
      let a = among_contains ms k in_k in
      let b = among_contains ms j in_j in
      d.come k j r q a b ne (member_up y d.up1 k r a up_k) (member_up z d.up2 j q b up_j)

  pub frames_taken : AllTaken ms (after_acts v (ticks_of ms t)) (after_acts v (calm_round ms t)) × AllTaken ms (after_acts v (calm_round ms t ++ ticks_of ms u)) (after_acts v rounds_acts)
  frames_taken = (
    subst (λ w. AllTaken ms w (after_acts v (calm_round ms t))) (sym ticks1) (subst (AllTaken ms v1) (sym end2) (taken_by at_t v v1 v2 d1)),
    subst (λ w. AllTaken ms w (after_acts v rounds_acts)) (sym ticks3) (subst (AllTaken ms v3) (sym end4) (taken_by at_u v2 v3 v4 d2)),
  )

  pub links_short : (k j : ℕ) (r : Replica) → Contains ms k → Contains ms j → k ≢ j → IsUpAs (after_acts v (calm_round ms t)) k r → length (unacked r j) ≤ 49
  links_short k j r in_k in_j ne up =
      let a = among_contains ms k in_k in
      let m = member_up v2 d1.up2 k r a (subst (λ w. slice_get w.sites k ≡ Some (Site.Up r)) end2 up) in
      let nums = numbers n e ms v2 d1.up2 k r m in
      short_link n e at_t ms distinct small v v1 v2 h spelt start d1 k a r m j (is_other n e ms distinct small v2 k j r m nums.0 (among_contains ms j in_j) ne)

  pub entries_spread : (f : Entry) → f.epoch ≡ e → Contains (log_at v f.stamp.origin) (Rec.Prepare f) → (k : ℕ) → Contains ms k →
      Contains (log_at (after_acts v (calm_round ms t)) k) (Rec.Prepare f)
      × ((r : Replica) → f.stamp.origin ≢ k → IsUpAs (after_acts v (calm_round ms t ++ ticks_of ms u)) k r → IsAcknowledged ms k r f)
  entries_spread f ep c k contains_k =
      let in_k = among_contains ms k contains_k in
      let s = submitted f ep (among_contains (log_at v f.stamp.origin) (Rec.Prepare f) c) k in_k in
      let q = d1.up2.member k in_k in
      let log_is : log_at (after_acts v (calm_round ms t)) k ≡ q.0.log = ap (λ w. log_at w k) end2 ∙ log_there v2 k q.0 q.1.up in
      (subst (λ l. Contains l (Rec.Prepare f)) (sym log_is) (contains_among q.0.log (Rec.Prepare f) (spreads n e at_t ms v v1 v2 h d1 f s k q.0 in_k q.1)), pushed f s k in_k)
    where
      pushed : (f : Entry) → IsSubmitted e ms v f → (k : ℕ) → Among ms k → (r : Replica) → f.stamp.origin ≢ k → IsUpAs (after_acts v (calm_round ms t ++ ticks_of ms u)) k r → IsAcknowledged ms k r f
      pushed f s k in_k r other up j in_j ne =
          let m = member_up v3 d2.up1 k r in_k (subst (λ w. slice_get w.sites k ≡ Some (Site.Up r)) ticks3 up) in
          let nums = numbers n e ms v3 d2.up1 k r m in
          let p = paid n e at_t at_u ms one distinct small v v1 v2 v3 v4 h spelt spelt4 start d1 d2 above below f s k r in_k m other j
          (is_other n e ms distinct small v3 k j r m nums.0 (among_contains ms j in_j) ne) in
          (p.0, contains_among (frames_to r j) (InEpoch.PrepareOk f.stamp p.0) p.1)

  pub all_is_done : AllIsDone e ms v rounds_acts
  all_is_done = record {
    executed = all_executed_there;
    answered = λ k r c in_k up waits. is_answered k r c (among_contains ms k in_k) up (among_contains r.waiting c waits);
  }

pub rounds_are_bounded : RoundsAreBounded
rounds_are_bounded n one most acts run e ms t u calm read1 read2 rounds free = all_is_done n one most acts run e ms t u calm read1 read2 rounds free

-- ---- the laws of the passes

pub frames_are_taken : FramesAreTaken
frames_are_taken n acts e ms t u p = frames_taken n p.some p.most acts p.run e ms t u p.calm p.first p.second p.possible p.room

pub links_stay_short : LinksStayShort
links_stay_short n acts e ms t u p = links_short n p.some p.most acts p.run e ms t u p.calm p.first p.second p.possible p.room

pub entries_are_spread : EntriesAreSpread
entries_are_spread n acts e ms t u p = entries_spread n p.some p.most acts p.run e ms t u p.calm p.first p.second p.possible p.room
