-- In every world reached executed entries are at their places.
use Rattle.std.proofs.Common.{◌≡◌, ℕ, ◌<◌, List, [], ◌∷◌, length, refl, sym, ◌∙◌, ap, subst, inl, inr, Bool, true, false}
use Rattle.std.specs.Prelude.{◌⊎◌, Some, slice_get, slice_set, nat_lt}
use Rattle.std.proofs.lemmas.Bool.{cases_eq}
use Rattle.std.proofs.lemmas.Option.{none-some}
use Rattle.crsm_spec.specs.Choice.{when◌then◌otherwise◌}
use Rattle.crsm_spec.specs.Types.{Stamp, Entry, Rec}
use Rattle.crsm_spec.specs.Log.{Log, executed}
use Rattle.crsm_spec.specs.Replica.{Replica, fresh}
use Rattle.crsm_spec.specs.Draft.{begun, keep}
use Rattle.crsm_spec.specs.Step.{Input, step, boot, boot_again, founding_boot, first_boot}
use Rattle.crsm_spec.specs.World.{Site, World, Moment, begin, log_at, with_site, whole_step, cut_step, lost_step, down, after_step, then_down}
use Rattle.crsm_spec.specs.Moments.{silent, begun_at, with_room, start_at}
use Rattle.crsm_fact_log.specs.Logs.{Extends, same, more, Logged}
use Rattle.crsm_law_steps.specs.Happenings.{Marks, CanCome, Ends, Happens, IsReached}
use Rattle.crsm_law_steps.specs.Happenings.Ends.{IsWhole, IsCut, IsLost}
use Rattle.crsm_law_steps.specs.Happenings.Happens.{Nothing, Steps, Junk, Stops, Joins, Starts}
use Rattle.crsm_law_steps.specs.Happenings.IsReached.{first, next}
use Rattle.crsm_fact_step.proofs.Fitted.{step_changes}
use Rattle.crsm_law_steps.proofs.Moments.{moment_goes_on}
use Rattle.crsm_law_epoch.specs.Seats.{Seat, seat_up, seat_down}
use Rattle.crsm_law_epoch.specs.Worlds.{seats}
use Rattle.crsm_law_epoch.proofs.Worlds.{marked_sites, seat_log_at, log_there, begin_seats, room_seats, room_there}
use Rattle.crsm_law_epoch.specs.LogWorlds.{HasFewBoots}
use Rattle.crsm_law_epoch.proofs.LogWorlds.{logs_fit, epochs_hold_always}
use Rattle.crsm_law_messages.specs.Counted.{AllSpelt}
use Rattle.crsm_law_agreement.proofs.Coordinators.{extends_among}
use Rattle.crsm_law_agreement.proofs.DecidedWorlds.{log_other, at_set, same_logs, up_is, down_is, kept_logs, few_before, spelt_before}
use Rattle.crsm_law_agreement.specs.Openings.{IsOpening}
use Rattle.crsm_law_agreement.proofs.Placed.{EndsPlaced, ends_on, opening_back, idle_placed}
use Rattle.crsm_law_agreement.proofs.Steps.{AllPlaced, along}

-- of one epoch and stamp a log has one entry
pub one_entry : (n : ℕ) (w : World) → IsReached n w → HasFewBoots w → (j k : ℕ) (y z : Entry) → Logged (log_at w j) y → Logged (log_at w k) z → y.epoch ≡ z.epoch → y.stamp ≡ z.stamp → y ≡ z
one_entry n w r few j k y z a b e st =
    let facts = epochs_hold_always n w r few in
    let at_seat = λ (i : ℕ) (f : Entry) (h : Logged (log_at w i) f). subst (λ l. Logged l f) (sym (seat_log_at w i)) h in
    facts.one y.stamp.origin y z (facts.own j y (at_seat j y a)) (subst (λ (s : Stamp). Logged (seats w s.origin).log z) (sym st) (facts.own k z (at_seat k z b))) refl e st

-- ---- moments

-- what holds of an opening now held of it before
opens_before : (e : ℕ) (opening : List Entry) (w u : World) → ((j : ℕ) → Extends (log_at w j) (log_at u j)) → IsOpening e opening (log_at u) → IsOpening e opening (log_at w)
opens_before e opening w u grows o = opening_back e opening (log_at w) (log_at u) grows (λ j rec a. extends_among (grows j) rec a) o

-- logs that stay
kept_placed : (w u : World) → ((j : ℕ) → Extends (log_at w j) (log_at u j)) → AllPlaced w → (e : ℕ) (opening : List Entry) → IsOpening e opening (log_at u) → (j : ℕ) → log_at u j ≡ log_at w j → EndsPlaced e opening (log_at u) (log_at u j)
kept_placed w u grows h e opening o j is =
    subst (EndsPlaced e opening (log_at u)) (sym is) (ends_on e opening (log_at w) (log_at u) grows (log_at w j) (h e opening (opens_before e opening w u grows o) j))

-- a world in which each log is one of before, or k's
each_placed : (w u : World) (k : ℕ) → ((j : ℕ) → Extends (log_at w j) (log_at u j)) → ((j : ℕ) → (j ≡ k → ⊥) → log_at u j ≡ log_at w j) → AllPlaced w →
    ((e : ℕ) (opening : List Entry) → IsOpening e opening (log_at u) → EndsPlaced e opening (log_at u) (log_at u k)) → AllPlaced u
each_placed w u k grows others h here e opening o j = elim (cases_eq j k) [
  | inl is ↦ subst (λ i. EndsPlaced e opening (log_at u) (log_at u i)) (sym is) (here e opening o)
  | inr ne ↦ kept_placed w u grows h e opening o j (others j ne)
]

-- a world with the logs of before
still_placed : (w u : World) → ((j : ℕ) → log_at u j ≡ log_at w j) → AllPlaced w → AllPlaced u
still_placed w u logs h e opening o j = kept_placed w u (λ i. subst (Extends (log_at w i)) (sym (logs i)) same) h e opening o j (logs j)

begun_placed : (e : ℕ) (opening : List Entry) (r : Replica) (logs : ℕ → Log) → EndsPlaced e opening logs r.log → EndsPlaced e opening logs (begun r).replica.log
unfolding begun
begun_placed e opening r logs h = h

module _ (n : ℕ) (w v : World) (reached : IsReached n w) (marks : Marks w v) (k : ℕ) (r : Replica) (up : slice_get v.sites k ≡ Some (Site.Up r)) (input : Input) (reading : ℕ) (can : CanCome w k input) (spelt : AllSpelt n w) (h : AllPlaced w) where
  log_before : log_at w k ≡ r.log
  log_before = log_there w k r (subst (λ ss. slice_get ss k ≡ Some (Site.Up r)) (marked_sites marks) up)

  -- a step whose records are kept
  kept_step : (u : World) → IsReached n u → HasFewBoots u → ((j : ℕ) → Extends (log_at w j) (log_at u j)) → (t : Site) → u.sites ≡ slice_set v.sites k t → log_at u k ≡ (step r input reading).replica.log → AllPlaced u
  kept_step u after few grows t sites kept =
      each_placed w u k grows (λ j ne. log_other v u k j t sites ne ∙ same_logs w v (marked_sites marks) j) h (λ e opening o. subst (EndsPlaced e opening (log_at u)) (sym kept)
      (along n w v reached marks k r up input reading can spelt (log_at u) grows h (logs_fit n u after few k) (λ y z. one_entry n u after few k k y z) e opening o (step_changes r input reading)
      (subst (Extends (step r input reading).replica.log) (sym kept) same)
      (begun_placed e opening r (log_at u) (subst (EndsPlaced e opening (log_at u)) log_before
      (ends_on e opening (log_at w) (log_at u) grows (log_at w k) (h e opening (opens_before e opening w u grows o) k))))))

  step_placed : (m : Moment) → Ends v k (step r input reading) m → IsReached n m.after → HasFewBoots m.after → ((j : ℕ) → Extends (log_at w j) (log_at m.after j)) → AllPlaced m.after
  unfolding whole_step cut_step lost_step then_down after_step down with_site
  step_placed m IsWhole after few grows =
      let x = step r input reading in
      let u = (whole_step v k x).after in kept_step u after few grows (Site.Up x.replica) refl (at_set v u k (Site.Up r) (Site.Up x.replica) up refl ∙ up_is x.replica)
  step_placed m (IsCut count) after few grows =
      let x = step r input reading in
      let u = (cut_step count v k x).after in kept_step u after few grows (Site.Down x.replica.log) refl (at_set v u k (Site.Up r) (Site.Down x.replica.log) up refl ∙ down_is x.replica.log)
  step_placed m IsLost after few grows =
      let x = step r input reading in
      still_placed w (lost_step v k x).after (λ j. kept_logs v (lost_step v k x).after k (Site.Down (log_at v k)) refl (down_is (log_at v k)) j ∙ same_logs w v (marked_sites marks) j) h

junk_placed : (w : World) (k : ℕ) (r : Replica) → slice_get w.sites k ≡ Some (Site.Up r) → (m : Moment) → Ends w k (begun r) m → AllPlaced w → AllPlaced m.after
unfolding whole_step cut_step lost_step then_down after_step down with_site begun
junk_placed w k r up m IsWhole h = still_placed w (whole_step w k (begun r)).after (λ j. kept_logs w (whole_step w k (begun r)).after k (Site.Up r) refl (up_is r ∙ sym (log_there w k r up)) j) h
junk_placed w k r up m (IsCut count) h = still_placed w (cut_step count w k (begun r)).after (λ j. kept_logs w (cut_step count w k (begun r)).after k (Site.Down r.log) refl (down_is r.log ∙ sym (log_there w k r up)) j) h
junk_placed w k r up m IsLost h = still_placed w (lost_step w k (begun r)).after (λ j. kept_logs w (lost_step w k (begun r)).after k (Site.Down (log_at w k)) refl (down_is (log_at w k)) j) h

stop_placed : (w : World) (k : ℕ) → AllPlaced w → AllPlaced (down w k).after
unfolding down with_site
stop_placed w k h = still_placed w (down w k).after (λ j. kept_logs w (down w k).after k (Site.Down (log_at w k)) refl (down_is (log_at w k)) j) h

boot_placed : (e : ℕ) (opening : List Entry) (logs : ℕ → Log) (k n : ℕ) (log : Log) → EndsPlaced e opening logs log → EndsPlaced e opening logs (boot k n log).replica.log
unfolding boot first_boot founding_boot boot_again keep begun fresh when◌then◌otherwise◌
boot_placed e opening logs k n (rec ∷ log) h = idle_placed e opening logs (Rec.Boot k n) (rec ∷ log) tt h
boot_placed e opening logs k n [] h = go (nat_lt k n)
  where
    again : EndsPlaced e opening logs (Rec.Boot k n ∷ [])
    again = idle_placed e opening logs (Rec.Boot k n) [] tt h

    go : (c : Bool) → EndsPlaced e opening logs (when c then founding_boot k n otherwise boot_again k n []).replica.log
    go true = idle_placed e opening logs (Rec.Enter 0) (Rec.Boot k n ∷ []) tt again
    go false = again

start_placed : (w : World) (k : ℕ) → (k < length w.sites) ⊎ ((k ≡ length w.sites) × (k < 15)) → ((j : ℕ) → Extends (log_at w j) (log_at (start_at w k).after j)) → AllPlaced w → AllPlaced (start_at w k).after
unfolding start_at begun_at whole_step after_step
start_placed w k f grows h =
    let v = with_room w k in
    let t = room_there w k f in
    let u = (start_at w k).after in
    let x = boot k v.n (log_at v k) in
    let room_log = λ (j : ℕ). (sym (seat_log_at v j) ∙ ap (λ (s : Seat). s.log) (sym (room_seats w k j)) ∙ seat_log_at w j) in
    each_placed w u k grows (λ j ne. log_other v u k j (Site.Up x.replica) refl ne ∙ room_log j) h (λ e opening o.
    subst (EndsPlaced e opening (log_at u)) (sym (at_set v u k t.0 (Site.Up x.replica) t.1 refl ∙ up_is x.replica))
    (boot_placed e opening (log_at u) k v.n (log_at v k) (subst (EndsPlaced e opening (log_at u)) (sym (room_log k))
    (ends_on e opening (log_at w) (log_at u) grows (log_at w k) (h e opening (opens_before e opening w u grows o) k)))))

moment_placed : (n : ℕ) (w : World) (m : Moment) → IsReached n w → (h : Happens w m) → HasFewBoots m.after → AllSpelt n w → AllPlaced w → AllPlaced m.after
unfolding silent begun_at
moment_placed n w m reached (Nothing v p) few spelt a = still_placed w v (same_logs w v (marked_sites p)) a
moment_placed n w m reached (Steps v p k r e input reading lt c z ends) few spelt a =
    step_placed n w v reached p k r e input reading c spelt a z ends (next reached (Steps v p k r e input reading lt c z ends)) few (moment_goes_on w m (Steps v p k r e input reading lt c z ends))
moment_placed n w m reached (Junk k r e z ends) few spelt a = junk_placed w k r e z ends a
moment_placed n w m reached (Stops k) few spelt a = stop_placed w k a
moment_placed n w m reached (Joins f) few spelt a =
    let v = with_room w (length w.sites) in
    still_placed w v (λ j. sym (seat_log_at v j) ∙ ap (λ (s : Seat). s.log) (sym (room_seats w (length w.sites) j)) ∙ seat_log_at w j) a
moment_placed n w m reached (Starts k d f) few spelt a = start_placed w k f (moment_goes_on w m (Starts k d f)) a

-- ---- every world

none_there : (k n : ℕ) (log : Log) → Extends log (founding_boot k n).replica.log → (p : ℕ) (x : Entry) → slice_get (executed log) p ≡ Some x → ⊥
unfolding founding_boot boot_again keep begun fresh executed
none_there k n log same p x q = none-some x q
none_there k n log (more rec same) p x q = none-some x q
none_there k n log (more rec (more rec' same)) p x q = none-some x q

none_at_all : (log : Log) → Extends log [] → (p : ℕ) (x : Entry) → slice_get (executed log) p ≡ Some x → ⊥
unfolding executed
none_at_all log same p x q = none-some x q

none_executed : (n k : ℕ) (log : Log) → Extends log (seats (begin n) k).log → (p : ℕ) (x : Entry) → slice_get (executed log) p ≡ Some x → ⊥
unfolding seat_up seat_down
none_executed n k = begin_seats n (λ j s. (log : Log) → Extends log s.log → (p : ℕ) (x : Entry) → slice_get (executed log) p ≡ Some x → ⊥) (λ j log e p x q. none_there j n log e p x q) (λ j log e p x q. none_at_all log e p x q) k

first_placed : (n : ℕ) → AllPlaced (begin n)
first_placed n e opening o j log ext kn p x q = absurd (none_executed n j log (subst (Extends log) (sym (seat_log_at (begin n) j)) ext) p x q)

pub all_placed : (n : ℕ) (w : World) → IsReached n w → HasFewBoots w → AllSpelt n w → AllPlaced w
all_placed n w first few spelt = first_placed n
all_placed n w (next {w = u} {m = m} r h) few spelt = moment_placed n u m r h few (spelt_before n u m h spelt) (all_placed n u r (few_before u m.after (moment_goes_on u m h) few) (spelt_before n u m h spelt))
