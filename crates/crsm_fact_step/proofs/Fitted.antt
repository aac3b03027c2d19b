-- A whole step, and each of its changes, leaves a draft whose records may be written.
use Rattle.std.proofs.Common.{◌≡◌, ℕ, List, [], ◌∷◌, refl, sym, ◌∙◌, Bool, true, false}
use Rattle.std.specs.Prelude.{IsTrue, Option, Some, None, ◌&&◌}
use Rattle.std.specs.Option.{option_map_or}
use Rattle.std.proofs.lemmas.Bool.{and_parts}
use Rattle.crsm_spec.specs.Choice.{when◌then◌otherwise◌}
use Rattle.crsm_spec.specs.Types.{Stamp, Entry, Rec, InEpoch, Control}
use Rattle.crsm_spec.specs.Lists.{first_of}
use Rattle.crsm_spec.specs.Log.{unexecuted, active, executed}
use Rattle.crsm_base.specs.Order.{stamp_eq}
use Rattle.crsm_spec.specs.Fits.{fits}
use Rattle.crsm_spec.specs.Replica.{Replica, Waiting, spec_of, members_of}
use Rattle.crsm_spec.specs.Ready.{is_ready, is_replicated, is_stable, is_next, all_received}
use Rattle.crsm_spec.specs.Draft.{Draft, begun, keep, noting, send, reply, count_vote, issued_at, push_to_members, push_to, send_control, would}
use Rattle.crsm_spec.specs.Clients.{refuse, submit, await, commit_run, commits, replies, answer_each, answer_found, reply_ok, reply_dropped, find_executed}
use Rattle.crsm_spec.specs.Frames.{take_frame, receive, owe, ack, pay, owing, pay_run, owed_oks, send_time, idle, again_frame}
use Rattle.crsm_spec.specs.Coordinate.{forget_epoch}
use Rattle.crsm_spec.specs.Step.{Input, if_fitting, on_input, idle_at, step}
use Rattle.crsm_fact_step.specs.Changes.{Change, Changes, stay, and_then}
use Rattle.crsm_fact_step.specs.Changes.Change.{Submits, Refuses, Commits, Replies, Takes, Acks, IsAcked, Pays, Owes, SendsTime, SendsAgain, SendsControl, Gathers, Suspends, Collects, TakesPage, Completes, Refrains, GivesUp, Asks, CountsAnswer, Proposes, IsPreempted, AcceptsOwn, CountsVote, Promises, Accepts, Chooses, Learns, AdoptsTail, AdoptsPage, Enters}
use Rattle.crsm_fact_step.proofs.Going.{Goes, here, on, both}
use Rattle.crsm_fact_step.proofs.Walk.{same_when, same_option, of_input, of_owed_oks, of_idle_at, of_commits, commit_active}

-- ---- what keeps no record

send_fitting : (c : Control) (k : ℕ) (x : Draft) → (send_control c x k).fitting ≡ x.fitting
unfolding send_control
send_fitting c k x = same_when (λ y. y.fitting) _ _ _ x refl refl

found_fitting : (w : Waiting) (p : Option (ℕ × Entry)) (x : Draft) → (answer_found w p x).fitting ≡ x.fitting
unfolding answer_found reply_ok reply_dropped reply
found_fitting w (Some p) x = refl
found_fitting w None x = same_when (λ y. y.fitting) _ _ _ x refl refl

each_fitting : (ws : List Waiting) (x : Draft) → (answer_each ws x).fitting ≡ x.fitting
unfolding answer_each
each_fitting [] x = refl
each_fitting (w ∷ ws) x = each_fitting ws _ ∙ found_fitting w (find_executed (executed x.replica.log) w.entry) x

replies_fitting : (x : Draft) → (replies x).fitting ≡ x.fitting
unfolding replies
replies_fitting x = each_fitting x.replica.waiting _

pay_fitting : (s : Stamp) (t : ℕ) (x : Draft) → (pay s t x).fitting ≡ x.fitting
unfolding pay push_to_members push_to issued_at
pay_fitting s t x = refl

pay_run_fitting : (t : ℕ) (ss : List Stamp) (x : Draft) → (pay_run t ss x).fitting ≡ x.fitting
unfolding pay_run owing
pay_run_fitting t [] x = refl
pay_run_fitting t (s ∷ ss) x =
    same_option (λ y. y.fitting) _ _ x (would x t) (λ u. same_when (λ y. y.fitting) _ _ _ x (pay_run_fitting t ss (pay s u x) ∙ pay_fitting s u x) refl) refl

owed_fitting : (t : ℕ) (x : Draft) → (owed_oks t x).fitting ≡ x.fitting
unfolding owed_oks
owed_fitting t x = same_when (λ y. y.fitting) _ _ _ x (pay_run_fitting t x.replica.owed x) refl

time_fitting : (u : Option ℕ) (x : Draft) → (send_time u x).fitting ≡ x.fitting
unfolding send_time push_to_members push_to issued_at
time_fitting None x = refl
time_fitting (Some u) x = refl

idle_fitting : (i : Input) (t : ℕ) (x : Draft) → (idle_at i t x).fitting ≡ x.fitting
unfolding idle_at idle
idle_fitting (Input.Came a d) t x = refl
idle_fitting Input.Ticked t x = same_when (λ y. y.fitting) _ _ _ x (time_fitting (would x t) x) refl
idle_fitting (Input.Suspected ms) t x = refl

-- ---- commits fit

commit_fits : (e : Entry) (x : Draft) → IsTrue (active x.replica.log) → IsTrue (is_ready x.replica e.stamp) → IsTrue x.fitting → IsTrue (keep (Rec.Commit e.stamp) x).fitting
unfolding keep fits is_ready is_next
commit_fits e x a h f =
    let n = (and_parts (is_replicated (spec_of x.replica) x.replica.votes e.stamp && is_stable (members_of x.replica) (all_received x.replica) e.stamp) _ h).1 in
    join x.fitting (active x.replica.log) (option_map_or (λ f. stamp_eq f.stamp e.stamp) (first_of (unexecuted x.replica.log)) false) f a n
  where
    join : (p q s : Bool) → p ≡ true → q ≡ true → s ≡ true → (p && (q && s)) ≡ true
    join true true s h i j = j
    join true false s h i j = i
    join false q s h i j = h

run_when : (c : Bool) (y x : Draft) → (IsTrue c → IsTrue y.fitting) → IsTrue x.fitting → IsTrue (when c then y otherwise x).fitting
unfolding when◌then◌otherwise◌
run_when true y x h f = h refl
run_when false y x h f = f

run_fits : (es : List Entry) (x : Draft) → IsTrue (active x.replica.log) → IsTrue x.fitting → IsTrue (commit_run es x).fitting
unfolding commit_run
run_fits [] x a f = f
run_fits (e ∷ es) x a f =
    run_when (is_ready x.replica e.stamp) _ x (λ h. run_fits es (keep (Rec.Commit e.stamp) x) (commit_active e.stamp x a) (commit_fits e x a h f)) f

commits_fit : (x : Draft) → IsTrue x.fitting → IsTrue (commits x).fitting
unfolding commits
commits_fit x f = run_when (active x.replica.log) _ x (λ a. run_fits (unexecuted x.replica.log) x a f) f

-- ---- a change that leaves a fitting draft began with one

module _ (r : Replica) (input : Input) (reading : ℕ) where
  fitted_before : (x y : Draft) → Change r input reading x y → IsTrue y.fitting → IsTrue x.fitting
  unfolding submit refuse await push_to_members push_to count_vote issued_at keep noting reply send take_frame receive owe ack owing again_frame forget_epoch
  fitted_before x y (Submits a c t i h w) f = (and_parts x.fitting _ f).0
  fitted_before x y (Refuses a c why i h) f = f
  fitted_before x y (Commits e a h w) f = (and_parts x.fitting _ f).0
  fitted_before x y Replies f = sym (replies_fitting x) ∙ f
  fitted_before x y (Takes a k e seq (InEpoch.Prepare g) i o h p n d) f = (and_parts x.fitting _ f).0
  fitted_before x y (Takes a k e seq (InEpoch.PrepareOk s at) i o h p n d) f = f
  fitted_before x y (Takes a k e seq (InEpoch.ClockTime at) i o h p n d) f = f
  fitted_before x y (Acks k p) f = f
  fitted_before x y (IsAcked k next p h) f = f
  fitted_before x y (Pays s t a m w lt) f = sym (pay_fitting s t x) ∙ f
  fitted_before x y (Owes ss a h) f = f
  fitted_before x y (SendsTime t a i w) f = f
  fitted_before x y (SendsAgain k g a m h) f = f
  fitted_before x y (SendsControl k c h) f = sym (send_fitting c k x) ∙ f
  fitted_before x y (Gathers a p i o) f = f
  fitted_before x y (Suspends h) f = (and_parts x.fitting _ f).0
  fitted_before x y (Collects ms asked h s) f = f
  fitted_before x y (TakesPage ms pages e after p n h m i w) f = f
  fitted_before x y (Completes ms pages n h w) f = f
  fitted_before x y (Refrains d) f = f
  fitted_before x y (GivesUp own seen n) f = f
  fitted_before x y (Asks own seen b n by lt) f = (and_parts x.fitting _ f).0
  fitted_before x y (CountsAnswer b own answers a n i h) f = f
  fitted_before x y (Proposes b own answers n h) f = f
  fitted_before x y (IsPreempted b own value acceptors top answers n h) f = f
  fitted_before x y (AcceptsOwn b own value acceptors n h i j) f = (and_parts x.fitting _ f).0
  fitted_before x y (CountsVote b own value acceptors k n v) f = f
  fitted_before x y (Promises k b h lt) f = (and_parts x.fitting _ f).0
  fitted_before x y (Accepts k b d h i j l) f = (and_parts x.fitting _ f).0
  fitted_before x y (Chooses b own d acceptors n h) f = (and_parts x.fitting _ f).0
  fitted_before x y (Learns k d h lt) f = (and_parts x.fitting _ f).0
  fitted_before x y (AdoptsTail d h i j) f = (and_parts x.fitting _ f).0
  fitted_before x y (AdoptsPage k e from es h i j) f = (and_parts x.fitting _ f).0
  fitted_before x y (Enters h) f = (and_parts x.fitting _ f).0

  fitted : {x y : Draft} → Goes r input reading x y → IsTrue y.fitting → Changes r input reading x y
  fitted here f = stay
  fitted (on {y = y} {z = z} p c) f = and_then (fitted p (fitted_before y z c f)) c f

  one_after : {x y z : Draft} → Changes r input reading x y → Changes r input reading y z → Changes r input reading x z
  one_after p stay = p
  one_after p (and_then q c f) = and_then (one_after p q) c f

  -- ---- the step

  begin_or : (x y : Draft) → IsTrue x.fitting → Goes r input reading x y → Changes r input reading x (if_fitting x y) × IsTrue (if_fitting x y).fitting
  unfolding if_fitting when◌then◌otherwise◌
  begin_or x y f g = go y.fitting refl
    where
      go : (c : Bool) → y.fitting ≡ c → Changes r input reading x (when c then y otherwise x) × IsTrue (when c then y otherwise x).fitting
      go true h = (fitted g h, h)
      go false h = (stay, f)

  pub step_changes : Changes r input reading (begun r) (step r input reading)
  unfolding step begun
  step_changes =
      let t = begin_or (begun r) (on_input input reading (begun r)) refl (of_input r input reading input (begun r) refl refl) in
      let y = if_fitting (begun r) (on_input input reading (begun r)) in
      let g = both (of_owed_oks r input reading y) (both (of_idle_at r input reading input _) (of_commits r input reading _)) in
      let f = commits_fit _ (idle_fitting input reading _ ∙ owed_fitting reading y ∙ t.1) in
      and_then (one_after t.0 (fitted g f)) Replies (replies_fitting _ ∙ f)
