-- The ballots in every world reached.
use Rattle.std.proofs.Common.{◌≡◌, ℕ, ◌<◌, List, [], ◌∷◌, length, refl, sym, ◌∙◌, ap, subst, inl, inr, Bool, true, false, arith}
use Rattle.std.specs.Prelude.{◌⊎◌, ◌^◌, Option, Some, None, slice_get, slice_set, nat_lt}
use Rattle.std.specs.Option.{option_map_or}
use Rattle.std.proofs.lemmas.Bool.{cases_eq}
use Rattle.crsm_spec.specs.Choice.{when◌then◌otherwise◌}
use Rattle.crsm_spec.specs.Types.{Ballot, Decision, Rec, Control}
use Rattle.crsm_spec.specs.Lists.{Among}
use Rattle.crsm_spec.specs.Log.{Log, known}
use Rattle.crsm_spec.specs.Replica.{Replica, Coordinator, fresh}
use Rattle.crsm_spec.specs.Draft.{begun, keep}
use Rattle.crsm_spec.specs.Step.{Input, step, boot, boot_again, founding_boot, first_boot}
use Rattle.crsm_spec.specs.World.{Site, World, Moment, begin, log_of, log_at, with_site, whole_step, cut_step, lost_step, down, after_step, then_down}
use Rattle.crsm_spec.specs.Moments.{silent, begun_at, with_room, start_at}
use Rattle.crsm_fact_log.specs.Logs.{AllFit, Extends, same}
use Rattle.crsm_law_steps.specs.Laws.{LogsGoOn}
use Rattle.crsm_law_steps.specs.Happenings.{Marks, CanCome, Ends, Happens, IsReached}
use Rattle.crsm_law_steps.specs.Happenings.Ends.{IsWhole, IsCut, IsLost}
use Rattle.crsm_law_steps.specs.Happenings.Happens.{Nothing, Steps, Junk, Stops, Joins, Starts}
use Rattle.crsm_law_steps.specs.Happenings.IsReached.{first, next}
use Rattle.crsm_fact_step.proofs.Fitted.{step_changes}
use Rattle.crsm_law_steps.proofs.Moments.{moment_goes_on}
use Rattle.crsm_law_epoch.specs.Seats.{Seat, seat_up, seat_down}
use Rattle.crsm_law_epoch.proofs.Words.{set_other, set_same}
use Rattle.crsm_law_epoch.proofs.Worlds.{seat_log_at, log_there, begin_seats, room_seats, room_there, set_nowhere}
use Rattle.crsm_law_epoch.specs.LogWorlds.{HasFewBoots}
use Rattle.crsm_law_epoch.proofs.LogWorlds.{logs_fit, up_numbers}
use Rattle.crsm_law_epoch.proofs.LogBoots.{boots_grow}
use Rattle.crsm_law_messages.specs.SentMessages.{SentMessage}
use Rattle.crsm_law_messages.specs.Counted.{AllSpelt}
use Rattle.crsm_law_messages.proofs.History.{SendsIn, SendsAt}
use Rattle.crsm_law_messages.proofs.Worlds.{was_on, set_up, up_same, not_up, marked_sites, room_up, founded_is}
use Rattle.crsm_law_messages.proofs.Coordinators.{boot_coordinator}
use Rattle.crsm_law_agreement.specs.Ballots.{Offer, IsOffered, AreSound, IsChosen}
use Rattle.crsm_law_agreement.specs.DecisionLaws.{BallotsHold, DecisionsAreCollected}
use Rattle.crsm_law_agreement.proofs.Choice.{decided_are_complete, complete_are_collected}
use Rattle.crsm_law_agreement.proofs.Coordinators.{CoordinatorHolds, extends_among, sounds_on, chosen_on, offered_more, coordinator_on}
use Rattle.crsm_law_agreement.proofs.DecidedSteps.{Held, Mid, along}

-- ---- logs at one site

pub log_other : (w u : World) (k j : ℕ) (t : Site) → u.sites ≡ slice_set w.sites k t → (j ≡ k → ⊥) → log_at u j ≡ log_at w j
unfolding log_at
log_other w u k j t e ne = ap (λ o. option_map_or log_of o []) (ap (λ ss. slice_get ss j) e ∙ set_other w.sites k j t ne)

pub at_set : (w u : World) (k : ℕ) (s t : Site) → slice_get w.sites k ≡ Some s → u.sites ≡ slice_set w.sites k t → log_at u k ≡ log_of t
unfolding log_at
at_set w u k s t e is = ap (λ ss. option_map_or log_of (slice_get ss k) []) is ∙ ap (λ o. option_map_or log_of o []) (set_same w.sites k s t e)

pub same_logs : (w v : World) → v.sites ≡ w.sites → (j : ℕ) → log_at v j ≡ log_at w j
unfolding log_at
same_logs w v e j = ap (λ ss. option_map_or log_of (slice_get ss j) []) e

pub up_is : (r : Replica) → log_of (Site.Up r) ≡ r.log
unfolding log_of
up_is r = refl

pub down_is : (log : Log) → log_of (Site.Down log) ≡ log
unfolding log_of
down_is log = refl

-- a site that goes down, or comes to be what it was, keeps all logs
pub kept_logs : (w u : World) (k : ℕ) (t : Site) → u.sites ≡ slice_set w.sites k t → log_of t ≡ log_at w k → (j : ℕ) → log_at u j ≡ log_at w j
kept_logs w u k t e is j = elim (cases_eq j k) [
  | inl at ↦ subst (λ i. log_at u i ≡ log_at w i) (sym at) (go (slice_get w.sites k) refl)
  | inr ne ↦ log_other w u k j t e ne
]
  where
    go : (o : Option Site) → slice_get w.sites k ≡ o → log_at u k ≡ log_at w k
    go (Some s) q = at_set w u k s t q e ∙ is
    go None q = same_logs w u (e ∙ set_nowhere w.sites k t q) k

-- ---- what holds of the next world

module _ (n : ℕ) (w : World) (past : IsReached n w) (g : Held n w past) (m : Moment) (h : Happens w m) (k : ℕ) (grows : LogsGoOn w m.after) (others : (j : ℕ) → (j ≡ k → ⊥) → log_at m.after j ≡ log_at w j) where
  -- a record of a log that is not k's, or one of k's
  either_log : (P : ℕ → Type 0) → ((j : ℕ) → (j ≡ k → ⊥) → P j) → P k → (j : ℕ) → P j
  either_log P other here j = elim (cases_eq j k) [ inl e ↦ subst P (sym e) here | inr ne ↦ other j ne ]

  held_after : (offers : List Offer) → ((o : Offer) → Among g.offers o → Among offers o) → ((o : Offer) → Among offers o → Among g.offers o ⊎ (o.ballot.by ≡ k)) → AreSound n (log_at m.after) offers →
      ((o : Offer) → Among offers o → o.ballot.by ≡ k → Among (log_at m.after k) (Rec.Promise o.instance o.ballot)) →
      ((j : ℕ) (r : Replica) → slice_get m.after.sites j ≡ Some (Site.Up r) → CoordinatorHolds n (log_at m.after) offers j (known r.log) r.log r.coordinator) →
      ((i : ℕ) (b : Ballot) (d : Decision) → Among (log_at m.after k) (Rec.Accept i b d) → IsOffered offers i b d) →
      ((d : Decision) → Among (log_at m.after k) (Rec.Decide d) → IsChosen n (log_at m.after) d) →
      ((s : SentMessage) (i : ℕ) (b : Ballot) (d : Decision) → SendsAt h s → s.message ≡ Control.P2a i b d → IsOffered offers i b d) → Held n m.after (next past h)
  held_after offers before own sound asked coordinators accepted decided told = record {
    offers = offers;
    sound = sound;
    asked = λ o a. elim (own o a) [
      | inl old ↦ extends_among (grows o.ballot.by) (Rec.Promise o.instance o.ballot) (g.asked o old)
      | inr at ↦ subst (λ j. Among (log_at m.after j) (Rec.Promise o.instance o.ballot)) (sym at) (asked o a at)
    ];
    coordinators = coordinators;
    accepted = either_log (λ j. (i : ℕ) (b : Ballot) (d : Decision) → Among (log_at m.after j) (Rec.Accept i b d) → IsOffered offers i b d)
        (λ j ne i b d a. offered_more g.offers offers before i b d (g.accepted j i b d (subst (λ l. Among l (Rec.Accept i b d)) (others j ne) a))) accepted;
    decided = either_log (λ j. (d : Decision) → Among (log_at m.after j) (Rec.Decide d) → IsChosen n (log_at m.after) d)
        (λ j ne d a. chosen_on n (log_at w) (log_at m.after) grows d (g.decided j d (subst (λ l. Among l (Rec.Decide d)) (others j ne) a))) decided;
    told = λ s i b d t e. elim t [ inl new ↦ told s i b d new e | inr old ↦ offered_more g.offers offers before i b d (g.told s i b d old e) ];
  }

  -- nothing is offered, and k's log has nothing new of decisions
  held_quietly : ((i : ℕ) (b : Ballot) (d : Decision) → Among (log_at m.after k) (Rec.Accept i b d) → Among (log_at w k) (Rec.Accept i b d)) →
      ((d : Decision) → Among (log_at m.after k) (Rec.Decide d) → Among (log_at w k) (Rec.Decide d)) →
      ((j : ℕ) (r : Replica) → slice_get m.after.sites j ≡ Some (Site.Up r) → (slice_get w.sites j ≡ Some (Site.Up r)) ⊎ (r.coordinator ≡ Coordinator.Idle)) →
      ((s : SentMessage) → SendsAt h s → ⊥) → Held n m.after (next past h)
  held_quietly accept decide ups sends_control = held_after g.offers (λ o a. a) (λ o a. inl a) (sounds_on n (log_at w) (log_at m.after) grows g.offers g.sound)
      (λ o a at. extends_among (grows k) (Rec.Promise o.instance o.ballot) (subst (λ j. Among (log_at w j) (Rec.Promise o.instance o.ballot)) at (g.asked o a)))
      (λ j r e. elim (ups j r e) [
        | inl was ↦ coordinator_on g.offers g.offers (λ o a. a) n (log_at w) (log_at m.after) grows j (λ o a by. a) (known r.log) r.log r.coordinator (g.coordinators j r was)
        | inr q ↦ subst (CoordinatorHolds n (log_at m.after) g.offers j (known r.log) r.log) (sym q) tt
      ])
      (λ i b d a. g.accepted k i b d (accept i b d a))
      (λ d a. chosen_on n (log_at w) (log_at m.after) grows d (g.decided k d (decide d a)))
      (λ s i b d t e. absurd (sends_control s t))

-- all logs are as before
held_still : (n : ℕ) (w : World) (past : IsReached n w) (g : Held n w past) (m : Moment) (h : Happens w m) → ((j : ℕ) → log_at m.after j ≡ log_at w j) →
    ((j : ℕ) (r : Replica) → slice_get m.after.sites j ≡ Some (Site.Up r) → slice_get w.sites j ≡ Some (Site.Up r)) → ((s : SentMessage) → SendsAt h s → ⊥) → Held n m.after (next past h)
held_still n w past g m h logs ups sends_control =
    held_quietly n w past g m h 0 (λ j. subst (Extends (log_at w j)) (sym (logs j)) same) (λ j ne. logs j)
    (λ i b d a. subst (λ l. Among l (Rec.Accept i b d)) (logs 0) a) (λ d a. subst (λ l. Among l (Rec.Decide d)) (logs 0) a) (λ j r e. inl (ups j r e)) sends_control

-- ---- a step

module _ (n : ℕ) (w v : World) (past : IsReached n w) (g : Held n w past) (marks : Marks w v) (k : ℕ) (r : Replica) (up : slice_get v.sites k ≡ Some (Site.Up r)) (input : Input) (reading : ℕ)
    (can : CanCome w k input) (spelt : AllSpelt n w) where
  up_before : slice_get w.sites k ≡ Some (Site.Up r)
  up_before = subst (λ ss. slice_get ss k ≡ Some (Site.Up r)) (marked_sites marks) up

  log_before : log_at w k ≡ r.log
  log_before = log_there w k r up_before

  module _ (m : Moment) (h : Happens w (begun_at w m)) (grows : (j : ℕ) → Extends (log_at w j) (log_at m.after j)) (fit : (j : ℕ) → AllFit j n (log_at m.after j)) where
    begun_mid : Mid n w v past marks k r up input reading can spelt g (log_at m.after) grows fit (begun r) (λ s. ⊥)
    unfolding begun
    begun_mid = record {
      me = (up_numbers n w past k r up_before).0;
      size = (up_numbers n w past k r up_before).1;
      offers = g.offers;
      before = λ o a. a;
      own = λ o a. inl a;
      sound = sounds_on n (log_at w) (log_at m.after) grows g.offers g.sound;
      asked = λ o a at. subst (λ l. Among l (Rec.Promise o.instance o.ballot)) log_before (subst (λ j. Among (log_at w j) (Rec.Promise o.instance o.ballot)) at (g.asked o a));
      coordinator = coordinator_on g.offers g.offers (λ o a. a) n (log_at w) (log_at m.after) grows k (λ o a by. a) (known r.log) r.log r.coordinator (g.coordinators k r up_before);
      accepted = λ i b d a. g.accepted k i b d (subst (λ l. Among l (Rec.Accept i b d)) (sym log_before) a);
      decided = λ d a. chosen_on n (log_at w) (log_at m.after) grows d (g.decided k d (subst (λ l. Among l (Rec.Decide d)) (sym log_before) a));
      told = λ s i b d t e. absurd t;
    }

    -- a step whose records are kept
    kept_step : (t : Site) → m.after.sites ≡ slice_set v.sites k t → log_of t ≡ (step r input reading).replica.log → ((q : Replica) → t ≡ Site.Up q → (step r input reading).replica ≡ q) →
        ((s : SentMessage) → SendsAt h s → SendsIn (step_changes r input reading) s) → Held n (begun_at w m).after (next past h)
    unfolding begun_at begun
    kept_step t sites is ups sends_control =
        let x = step r input reading in
        let kept : log_at m.after k ≡ x.replica.log = at_set v m.after k (Site.Up r) t up sites ∙ is in
        let d = along n w v past marks k r up input reading can spelt g (log_at m.after) grows fit (step_changes r input reading) (subst (Extends x.replica.log) (sym kept) same) begun_mid in
        held_after n w past g (begun_at w m) h k grows (λ j ne. log_other v m.after k j t sites ne ∙ same_logs w v (marked_sites marks) j) d.offers d.before d.own d.sound
        (λ o a at. subst (λ l. Among l (Rec.Promise o.instance o.ballot)) (sym kept) (d.asked o a at))
        (λ j q e. elim (set_up v.sites k t j q (subst (λ ss. slice_get ss j ≡ Some (Site.Up q)) sites e)) [
          | inl z ↦ coordinator_on g.offers d.offers d.before n (log_at w) (log_at m.after) grows j
              (λ o a by. elim (d.own o a) [ inl old ↦ old | inr at ↦ absurd (z.0 (sym by ∙ at)) ]) (known q.log) q.log q.coordinator
              (g.coordinators j q (subst (λ ss. slice_get ss j ≡ Some (Site.Up q)) (marked_sites marks) z.1))
          | inr z ↦ subst (λ i. CoordinatorHolds n (log_at m.after) d.offers i (known q.log) q.log q.coordinator) (sym z.0)
              (subst (λ (y : Replica). CoordinatorHolds n (log_at m.after) d.offers k (known y.log) y.log y.coordinator) (ups q z.1) d.coordinator)
        ])
        (λ i b c a. d.accepted i b c (subst (λ l. Among l (Rec.Accept i b c)) kept a))
        (λ c a. d.decided c (subst (λ l. Among l (Rec.Decide c)) kept a))
        (λ s i b c q e. d.told s i b c (sends_control s q) e)

-- a site that is down is not up
down_up : (ss : List Site) (k : ℕ) (log : Log) (j : ℕ) (q : Replica) → slice_get (slice_set ss k (Site.Down log)) j ≡ Some (Site.Up q) → slice_get ss j ≡ Some (Site.Up q)
down_up ss k log j q e = elim (set_up ss k (Site.Down log) j q e) [ inl z ↦ z.1 | inr z ↦ absurd (not_up log q z.1) ]

-- the end of a step
step_held : (n : ℕ) (w v : World) (past : IsReached n w) → Held n w past → (marks : Marks w v) (k : ℕ) (r : Replica) (up : slice_get v.sites k ≡ Some (Site.Up r)) (input : Input) (reading : ℕ) (lt : reading < 2 ^ 64)
    (can : CanCome w k input) → AllSpelt n w → (m : Moment) (ends : Ends v k (step r input reading) m) → HasFewBoots m.after →
    Held n (begun_at w m).after (next past (Steps v marks k r up input reading lt can m ends))
unfolding whole_step cut_step lost_step then_down after_step down with_site begun_at
step_held n w v past g marks k r up input reading lt can spelt m IsWhole few =
    let x = step r input reading in
    let h : Happens w (begun_at w (whole_step v k x)) = Steps v marks k r up input reading lt can (whole_step v k x) IsWhole in
    kept_step n w v past g marks k r up input reading can spelt (whole_step v k x) h (moment_goes_on w (begun_at w (whole_step v k x)) h) (logs_fit n (whole_step v k x).after (next past h) few)
    (Site.Up x.replica) refl (up_is x.replica) (λ q e. up_same x.replica q e) (λ s t. t.1)
step_held n w v past g marks k r up input reading lt can spelt m (IsCut count) few =
    let x = step r input reading in
    let h : Happens w (begun_at w (cut_step count v k x)) = Steps v marks k r up input reading lt can (cut_step count v k x) (IsCut count) in
    kept_step n w v past g marks k r up input reading can spelt (cut_step count v k x) h (moment_goes_on w (begun_at w (cut_step count v k x)) h) (logs_fit n (cut_step count v k x).after (next past h) few)
    (Site.Down x.replica.log) refl (down_is x.replica.log) (λ q e. absurd (not_up x.replica.log q e)) (λ s t. t.1)
step_held n w v past g marks k r up input reading lt can spelt m IsLost few =
    let x = step r input reading in
    held_still n w past g (begun_at w (lost_step v k x)) (Steps v marks k r up input reading lt can (lost_step v k x) IsLost)
    (λ j. kept_logs v (lost_step v k x).after k (Site.Down (log_at v k)) refl (down_is (log_at v k)) j ∙ same_logs w v (marked_sites marks) j)
    (λ j q e. subst (λ ss. slice_get ss j ≡ Some (Site.Up q)) (marked_sites marks) (down_up v.sites k (log_at v k) j q e))
    (λ s t. t.0)

-- ---- other moments

-- bytes that are no datagram
junk_held : (n : ℕ) (w : World) (past : IsReached n w) → Held n w past → (k : ℕ) (r : Replica) (up : slice_get w.sites k ≡ Some (Site.Up r)) (m : Moment) (ends : Ends w k (begun r) m) →
    Held n (begun_at w m).after (next past (Junk k r up m ends))
unfolding whole_step cut_step lost_step then_down after_step down with_site begun_at begun
junk_held n w past g k r up m IsWhole = held_still n w past g (begun_at w (whole_step w k (begun r))) (Junk k r up (whole_step w k (begun r)) IsWhole)
    (λ j. kept_logs w (whole_step w k (begun r)).after k (Site.Up r) refl (up_is r ∙ sym (log_there w k r up)) j)
    (λ j q e. elim (set_up w.sites k (Site.Up r) j q e) [
      | inl z ↦ z.1
      | inr z ↦ subst (λ i. slice_get w.sites i ≡ Some (Site.Up q)) (sym z.0) (up ∙ ap (λ y. Some (Site.Up y)) (up_same r q z.1))
    ])
    (λ s t. t)
junk_held n w past g k r up m (IsCut count) = held_still n w past g (begun_at w (cut_step count w k (begun r))) (Junk k r up (cut_step count w k (begun r)) (IsCut count))
    (λ j. kept_logs w (cut_step count w k (begun r)).after k (Site.Down r.log) refl (down_is r.log ∙ sym (log_there w k r up)) j)
    (λ j q e. down_up w.sites k r.log j q e)
    (λ s t. t)
junk_held n w past g k r up m IsLost = held_still n w past g (begun_at w (lost_step w k (begun r))) (Junk k r up (lost_step w k (begun r)) IsLost)
    (λ j. kept_logs w (lost_step w k (begun r)).after k (Site.Down (log_at w k)) refl (down_is (log_at w k)) j)
    (λ j q e. down_up w.sites k (log_at w k) j q e)
    (λ s t. t)

stop_held : (n : ℕ) (w : World) (past : IsReached n w) → Held n w past → (k : ℕ) → Held n (down w k).after (next past (Stops k))
unfolding down with_site
stop_held n w past g k = held_still n w past g (down w k) (Stops k) (λ j. kept_logs w (down w k).after k (Site.Down (log_at w k)) refl (down_is (log_at w k)) j)
    (λ j q e. down_up w.sites k (log_at w k) j q e) (λ s t. t)

boot_accept : (k n : ℕ) (log : Log) (i : ℕ) (b : Ballot) (d : Decision) → Among (boot k n log).replica.log (Rec.Accept i b d) → Among log (Rec.Accept i b d)
unfolding boot first_boot founding_boot boot_again keep begun fresh when◌then◌otherwise◌
boot_accept k n (rec ∷ log) i b d a = boot_rest (rec ∷ log) a
  where
    boot_rest : (l : Log) → Among (Rec.Boot k n ∷ l) (Rec.Accept i b d) → Among l (Rec.Accept i b d)
    boot_rest l (inl e) = absurd (cc)
    boot_rest l (inr h) = h
boot_accept k n [] i b d a = go (nat_lt k n) a
  where
    go : (c : Bool) → Among (when c then founding_boot k n otherwise boot_again k n []).replica.log (Rec.Accept i b d) → Among [] (Rec.Accept i b d)
    go true (inl e) = absurd (cc)
    go true (inr (inl e)) = absurd (cc)
    go true (inr (inr h)) = h
    go false (inl e) = absurd (cc)
    go false (inr h) = h

boot_decide : (k n : ℕ) (log : Log) (d : Decision) → Among (boot k n log).replica.log (Rec.Decide d) → Among log (Rec.Decide d)
unfolding boot first_boot founding_boot boot_again keep begun fresh when◌then◌otherwise◌
boot_decide k n (rec ∷ log) d a = boot_rest (rec ∷ log) a
  where
    boot_rest : (l : Log) → Among (Rec.Boot k n ∷ l) (Rec.Decide d) → Among l (Rec.Decide d)
    boot_rest l (inl e) = absurd (cc)
    boot_rest l (inr h) = h
boot_decide k n [] d a = go (nat_lt k n) a
  where
    go : (c : Bool) → Among (when c then founding_boot k n otherwise boot_again k n []).replica.log (Rec.Decide d) → Among [] (Rec.Decide d)
    go true (inl e) = absurd (cc)
    go true (inr (inl e)) = absurd (cc)
    go true (inr (inr h)) = h
    go false (inl e) = absurd (cc)
    go false (inr h) = h

start_held : (n : ℕ) (w : World) (past : IsReached n w) → Held n w past → (k : ℕ) (h : Happens w (start_at w k)) → (k < length w.sites) ⊎ ((k ≡ length w.sites) × (k < 15)) → ((s : SentMessage) → SendsAt h s → ⊥) →
    Held n (start_at w k).after (next past h)
unfolding start_at begun_at whole_step after_step
start_held n w past g k h f sends_control =
    let v = with_room w k in
    let t = room_there w k f in
    let x = boot k v.n (log_at v k) in
    let m = start_at w k in
    let room_log = λ (j : ℕ). (sym (seat_log_at v j) ∙ ap (λ (s : Seat). s.log) (sym (room_seats w k j)) ∙ seat_log_at w j) in
    let is : log_at m.after k ≡ x.replica.log = at_set v m.after k t.0 (Site.Up x.replica) t.1 refl ∙ up_is x.replica in
    held_quietly n w past g m h k (moment_goes_on w m h) (λ j ne. log_other v m.after k j (Site.Up x.replica) refl ne ∙ room_log j)
    (λ i b d a. subst (λ l. Among l (Rec.Accept i b d)) (room_log k) (boot_accept k v.n (log_at v k) i b d (subst (λ l. Among l (Rec.Accept i b d)) is a)))
    (λ d a. subst (λ l. Among l (Rec.Decide d)) (room_log k) (boot_decide k v.n (log_at v k) d (subst (λ l. Among l (Rec.Decide d)) is a)))
    (λ j q e. elim (set_up v.sites k (Site.Up x.replica) j q e) [
      | inl z ↦ inl (room_up w k j q z.1)
      | inr z ↦ inr (ap (λ (y : Replica). y.coordinator) (sym (up_same x.replica q z.1)) ∙ boot_coordinator k v.n (log_at v k))
    ])
    sends_control

moment_held : (n : ℕ) (w : World) (m : Moment) (past : IsReached n w) (h : Happens w m) → HasFewBoots m.after → AllSpelt n w → Held n w past → Held n m.after (next past h)
unfolding silent begun_at
moment_held n w m past (Nothing v p) few spelt g = held_still n w past g (silent w v) (Nothing v p) (λ j. same_logs w v (marked_sites p) j) (λ j q e. subst (λ ss. slice_get ss j ≡ Some (Site.Up q)) (marked_sites p) e) (λ s t. t)
moment_held n w m past (Steps v p k r e input reading lt c z ends) few spelt g = step_held n w v past g p k r e input reading lt c spelt z ends few
moment_held n w m past (Junk k r e z ends) few spelt g = junk_held n w past g k r e z ends
moment_held n w m past (Stops k) few spelt g = stop_held n w past g k
moment_held n w m past (Joins f) few spelt g =
    let v = with_room w (length w.sites) in
    held_still n w past g (silent w v) (Joins f) (λ j. sym (seat_log_at v j) ∙ ap (λ (s : Seat). s.log) (sym (room_seats w (length w.sites) j)) ∙ seat_log_at w j) (λ j q e. room_up w (length w.sites) j q e) (λ s t. t)
moment_held n w m past (Starts k d f) few spelt g = start_held n w past g k (Starts k d f) f (λ s t. t)

-- ---- every world

founding_accept : (k n : ℕ) (i : ℕ) (b : Ballot) (d : Decision) → Among (founding_boot k n).replica.log (Rec.Accept i b d) → ⊥
unfolding founding_boot boot_again keep begun fresh
founding_accept k n i b d (inl e) = absurd (cc)
founding_accept k n i b d (inr (inl e)) = absurd (cc)
founding_accept k n i b d (inr (inr h)) = h

founding_decide : (k n : ℕ) (d : Decision) → Among (founding_boot k n).replica.log (Rec.Decide d) → ⊥
unfolding founding_boot boot_again keep begun fresh
founding_decide k n d (inl e) = absurd (cc)
founding_decide k n d (inr (inl e)) = absurd (cc)
founding_decide k n d (inr (inr h)) = h

-- a log of the first world has nothing that founding logs have not
first_logs : (n : ℕ) (rec : Rec) → ((k : ℕ) → Among (founding_boot k n).replica.log rec → ⊥) → (k : ℕ) → Among (log_at (begin n) k) rec → ⊥
unfolding seat_up seat_down
first_logs n rec none k a = begin_seats n (λ j s. Among s.log rec → ⊥) (λ j h. none j h) (λ j h. h) k (subst (λ l. Among l rec) (sym (seat_log_at (begin n) k)) a)

founding_coordinator : (k n : ℕ) → (founding_boot k n).replica.coordinator ≡ Coordinator.Idle
unfolding founding_boot boot_again keep begun fresh
founding_coordinator k n = refl

first_held : (n : ℕ) → Held n (begin n) first
first_held n = record {
  offers = [];
  sound = tt;
  asked = λ o a. absurd a;
  coordinators = λ k r e. subst (CoordinatorHolds n (log_at (begin n)) [] k (known r.log) r.log) (sym (founding_coordinator k n) ∙ ap (λ (y : Replica). y.coordinator) (founded_is n k r e)) tt;
  accepted = λ k i b d a. absurd (first_logs n (Rec.Accept i b d) (λ j h. founding_accept j n i b d h) k a);
  decided = λ k d a. absurd (first_logs n (Rec.Decide d) (λ j h. founding_decide j n d h) k a);
  told = λ s i b d t e. absurd t;
}

pub few_before : (w u : World) → LogsGoOn w u → HasFewBoots u → HasFewBoots w
few_before w u grows few k = let t = boots_grow (log_at w k) (log_at u k) (grows k) in let f = few k in omega (arith, t, f)

pub spelt_before : (n : ℕ) (w : World) (m : Moment) → Happens w m → AllSpelt n m.after → AllSpelt n w
spelt_before n w m h spelt s told = spelt s (was_on n w m h s told)

all_held : (n : ℕ) (w : World) (q : IsReached n w) → HasFewBoots w → AllSpelt n w → Held n w q
all_held n w first few spelt = first_held n
all_held n w (next {w = u} {m = m} q h) few spelt =
    moment_held n u m q h few (spelt_before n u m h spelt) (all_held n u q (few_before u m.after (moment_goes_on u m h) few) (spelt_before n u m h spelt))

pub ballots_hold : BallotsHold
ballots_hold n w q few spelt = let g = all_held n w q few spelt in record { offers = g.offers; sound = g.sound; accepted = g.accepted; decided = g.decided }

pub decisions_are_collected : DecisionsAreCollected
decisions_are_collected n e begins counted w q few spelt facts specs k d a at =
    complete_are_collected n e begins counted (log_at w) facts specs d.epoch d at ((decided_are_complete n (log_at w) (ballots_hold n w q few spelt)).1 k d a)
