-- The coordinator of each draft is true of its replica's past.
use Rattle.std.proofs.Common.{length, ◌≡◌, ℕ, ◌+◌, List, [], ◌∷◌, ◌++◌, refl, sym, ◌∙◌, ap, subst, inl, inr, map}
use Rattle.std.specs.Prelude.{◌⊎◌, ◌<◌, ◌^◌, IsTrue, Option, Some, None, slice_get}
use Rattle.crsm_spec.specs.Types.{Ballot, Entry, Decision, InEpoch, Control}
use Rattle.crsm_base.specs.Order.{ballot_lt}
use Rattle.crsm_spec.specs.Log.{Log, known, decision, executed, promised}
use Rattle.crsm_spec.specs.Quorum.{has_majority}
use Rattle.crsm_spec.specs.Paxos.{Answer, value_of}
use Rattle.crsm_spec.specs.Frames.{take_frame, receive, owe, ack, pay, owing, again_frame}
use Rattle.crsm_spec.specs.Replica.{Replica, Coordinator, Waiting, fresh, spec_of}
use Rattle.crsm_spec.specs.Draft.{Draft, begun, keep, noting, send, reply, count_vote, issued_at, push_to_members, push_to, send_control}
use Rattle.crsm_spec.specs.Clients.{refuse, submit, await, replies, answer_each, answer_found, reply_ok, reply_dropped, find_executed}
use Rattle.crsm_spec.specs.Coordinate.{forget_epoch, instance}
use Rattle.crsm_spec.specs.Step.{Input, step, boot, boot_again, founding_boot, first_boot}
use Rattle.crsm_spec.specs.World.{Site, World, Moment, begin, log_at, with_site, whole_step, cut_step, lost_step, down, after_step, then_down}
use Rattle.crsm_spec.specs.Moments.{silent, begun_at, with_room, start_at}
use Rattle.crsm_fact_step.specs.Messages.{IsSent}
use Rattle.crsm_fact_step.specs.Changes.{Change, Changes, stay, and_then, IsAnswer, IsVote}
use Rattle.crsm_law_steps.specs.Happenings.{Marks, CanCome, Ends, Happens, IsReached}
use Rattle.crsm_law_steps.specs.Happenings.Marks.{none}
use Rattle.crsm_law_steps.specs.Happenings.Ends.{IsWhole, IsCut, IsLost}
use Rattle.crsm_law_steps.specs.Happenings.Happens.{Nothing, Steps, Junk, Stops, Joins, Starts}
use Rattle.crsm_law_steps.specs.Happenings.IsReached.{first, next}
use Rattle.crsm_fact_step.proofs.Fitted.{step_changes}
use Rattle.crsm_fact_step.proofs.Logs.{send_still, replies_still}
use Rattle.crsm_fact_step.proofs.Walk.{same_when}
use Rattle.crsm_law_messages.specs.SentMessages.{GoesOn, here, Past}
use Rattle.crsm_law_messages.specs.Proposals.{Did, Asks, Counts, Proposes, CountsVote, HasAsked, HasProposed, CoordinatorIsTrue, CoordinatorsAreTrue, AskedWasAsked, ProposedWasProposed}
use Rattle.crsm_law_messages.proofs.Truth.{carried}
use Rattle.crsm_law_messages.proofs.SendingControls.{then_on}
use Rattle.crsm_law_messages.proofs.Worlds.{past_on, set_up, up_same, not_up, marked_sites, room_up, kept_whole, founded_is, all_known}
use Rattle.crsm_fact_log.proofs.Lists.{among_either}

-- ---- what stays true

did_on : (n : ℕ) (w : World) (m : Moment) → Happens w m → (k : ℕ) (G : Replica → Input → Draft → Type 0) → Did n w k G → Did n m.after k G
did_on n w m h k G d = record { past = past_on n w m h k d.past; held = d.held }

asked_on : (n : ℕ) (w : World) (m : Moment) → Happens w m → (k i : ℕ) (b : Ballot) (own : Decision) (answers : List (Answer Decision)) → HasAsked n w k i b own answers → HasAsked n m.after k i b own answers
asked_on n w m h k i b own answers g = record { asked = did_on n w m h k _ g.asked; counted = λ a q. did_on n w m h k _ (g.counted a q) }

coordinator_on : (n : ℕ) (w : World) (m : Moment) → Happens w m → (k i : ℕ) (coordinator : Coordinator) → CoordinatorIsTrue n w k i coordinator → CoordinatorIsTrue n m.after k i coordinator
coordinator_on n w m h k i Coordinator.Idle g = g
coordinator_on n w m h k i (Coordinator.Collecting ms pages) g = g
coordinator_on n w m h k i (Coordinator.Preparing b own answers) g = asked_on n w m h k i b own answers g
coordinator_on n w m h k i (Coordinator.Proposing b own value acceptors) g = (
  record { answers = g.0.answers; asked = asked_on n w m h k i b own g.0.answers g.0.asked; proposed = did_on n w m h k _ g.0.proposed; is = g.0.is },
  λ j a. did_on n w m h k _ (g.1 j a),
)
coordinator_on n w m h k i (Coordinator.Preempted own seen) g = g

pub coordinator_carried : (n k i : ℕ) (coordinator : Coordinator) (v w : World) → GoesOn v w → CoordinatorIsTrue n v k i coordinator → CoordinatorIsTrue n w k i coordinator
coordinator_carried n k i coordinator v w g = carried (λ u. CoordinatorIsTrue n u k i coordinator) (λ u m h. coordinator_on n u m h k i coordinator) v w g

-- ---- what leaves the coordinator

pub send_coordinator : (c : Control) (k : ℕ) (x : Draft) → (send_control c x k).replica.coordinator ≡ x.replica.coordinator
unfolding send_control
send_coordinator c k x = same_when (λ y. y.replica.coordinator) _ x _ x refl refl

found_coordinator : (w : Waiting) (p : Option (ℕ × Entry)) (x : Draft) → (answer_found w p x).replica.coordinator ≡ x.replica.coordinator
unfolding answer_found reply_ok reply_dropped reply
found_coordinator w (Some p) x = refl
found_coordinator w None x = same_when (λ y. y.replica.coordinator) _ _ _ x refl refl

each_coordinator : (ws : List Waiting) (x : Draft) → (answer_each ws x).replica.coordinator ≡ x.replica.coordinator
unfolding answer_each
each_coordinator [] x = refl
each_coordinator (w ∷ ws) x =
    let y = answer_found w (find_executed (executed x.replica.log) w.entry) x in each_coordinator ws y ∙ found_coordinator w (find_executed (executed x.replica.log) w.entry) x

pub replies_coordinator : (x : Draft) → (replies x).replica.coordinator ≡ x.replica.coordinator
unfolding replies
replies_coordinator x = each_coordinator x.replica.waiting (record x { replica = record x.replica { waiting = [] } })

-- ---- the drafts of one step

module _ (n : ℕ) (w v : World) (reached : IsReached n w) (p : Marks w v) (k : ℕ) (r : Replica) (e : slice_get v.sites k ≡ Some (Site.Up r))
    (input : Input) (reading : ℕ) (lt : reading < 2 ^ 64) (c : CanCome w k input) (m : Moment) (h : Happens w (begun_at w m)) (ends : Ends v k (step r input reading) m)
    (kept : log_at m.after k ≡ (step r input reading).replica.log) where
  past_here : (x : Draft) → Changes r input reading (begun r) x → Changes r input reading x (step r input reading) → Past n m.after k
  past_here x before after = record {
    world = w;
    reached = reached;
    marked = v;
    marks = p;
    replica = r;
    up = e;
    input = input;
    reading = reading;
    small = lt;
    can_come = c;
    draft = x;
    before = before;
    after = after;
    moment = m;
    happens = h;
    ends = ends;
    kept = kept;
    since = here;
  }

  abbrev N : Draft → Type 0
  N x = CoordinatorIsTrue n m.after k (instance x) x.replica.coordinator

  same_coordinator : (x y : Draft) → y.replica.coordinator ≡ x.replica.coordinator → y.replica.log ≡ x.replica.log → N x → N y
  unfolding instance
  same_coordinator x y coordinator log g = subst (λ l. CoordinatorIsTrue n m.after k (known l + 1) y.replica.coordinator) (sym log) (subst (CoordinatorIsTrue n m.after k (known x.replica.log + 1)) (sym coordinator) g)

  did_here : (x : Draft) → Changes r input reading (begun r) x → Changes r input reading x (step r input reading) → (G : Replica → Input → Draft → Type 0) → G r input x → Did n m.after k G
  unfolding past_here
  did_here x before after G g = record { past = past_here x before after; held = g }

  -- the coordinator of x, where it is this one
  coordinator_at : (x : Draft) (coordinator : Coordinator) → x.replica.coordinator ≡ coordinator → N x → CoordinatorIsTrue n m.after k (instance x) coordinator
  coordinator_at x coordinator was g = subst (CoordinatorIsTrue n m.after k (instance x)) was g

  asks_here : (x : Draft) → Changes r input reading (begun r) x → Changes r input reading x (step r input reading) → (b : Ballot) (own : Decision) (seen : Ballot) →
      x.replica.coordinator ≡ Coordinator.Preempted own seen → b.by ≡ x.replica.me → IsTrue (ballot_lt (promised x.replica.log) b) → HasAsked n m.after k (instance x) b own []
  asks_here x before after b own seen was by lt =
      record { asked = did_here x before after (Asks (instance x) b own) (refl, by, lt, seen, was); counted = λ a q. absurd q }

  counts_here : (x : Draft) → Changes r input reading (begun r) x → Changes r input reading x (step r input reading) → (b : Ballot) (own : Decision) (answers : List (Answer Decision)) (a : Answer Decision) →
      x.replica.coordinator ≡ Coordinator.Preparing b own answers → IsAnswer r input x b a → N x → HasAsked n m.after k (instance x) b own (answers ++ a ∷ [])
  counts_here x before after b own answers a was is g =
      let old : HasAsked n m.after k (instance x) b own answers = coordinator_at x (Coordinator.Preparing b own answers) was g in
      let new : Did n m.after k (Counts (instance x) b a) = did_here x before after (Counts (instance x) b a) (refl, is) in
      record {
        asked = old.asked;
        counted = λ q s. elim (among_either answers (a ∷ []) q s) [
          | inl l ↦ old.counted q l
          | inr l ↦ elim l [ inl z ↦ subst (λ t. Did n m.after k (Counts (instance x) b t)) z new | inr z ↦ absurd z ]
        ];
      }

  proposes_here : (x : Draft) → Changes r input reading (begun r) x → Changes r input reading x (step r input reading) → (b : Ballot) (own : Decision) (answers : List (Answer Decision)) →
      x.replica.coordinator ≡ Coordinator.Preparing b own answers → IsTrue (has_majority (spec_of x.replica) (map (λ f. f.replica) answers)) → N x →
      CoordinatorIsTrue n m.after k (instance x) (Coordinator.Proposing b own (value_of own answers) [])
  proposes_here x before after b own answers was many g = (
    record {
      answers = answers;
      asked = coordinator_at x (Coordinator.Preparing b own answers) was g;
      proposed = did_here x before after (Proposes (instance x) b own answers) (refl, was, many);
      is = refl;
    },
    λ j a. absurd a,
  )

  votes_here : (x : Draft) → Changes r input reading (begun r) x → Changes r input reading x (step r input reading) → (b : Ballot) (own value : Decision) (acceptors : List ℕ) (j : ℕ) →
      x.replica.coordinator ≡ Coordinator.Proposing b own value acceptors → IsVote r input x b j → N x → CoordinatorIsTrue n m.after k (instance x) (Coordinator.Proposing b own value (j ∷ acceptors))
  votes_here x before after b own value acceptors j was vote g =
      let old = coordinator_at x (Coordinator.Proposing b own value acceptors) was g in
      let new : Did n m.after k (CountsVote (instance x) b j) = did_here x before after (CountsVote (instance x) b j) (refl, vote) in (
        old.0,
        λ q s. elim s [ inl z ↦ subst (λ t. Did n m.after k (CountsVote (instance x) b t)) z new | inr l ↦ old.1 q l ],
      )

  noted : (x : Draft) → Changes r input reading (begun r) x → Changes r input reading x (step r input reading) → (y : Draft) → Change r input reading x y → N x → N y
  unfolding submit refuse await push_to_members push_to count_vote issued_at keep noting reply send take_frame receive owe ack pay owing again_frame forget_epoch instance known decision
  noted x before after y (Change.Submits a c t i h w) g = g
  noted x before after y (Change.Refuses a c why i h) g = g
  noted x before after y (Change.Commits e a h w) g = g
  noted x before after y Change.Replies g = same_coordinator x y (replies_coordinator x) (replies_still x).log g
  noted x before after y (Change.Takes a k e seq (InEpoch.Prepare f) i o h p n d) g = g
  noted x before after y (Change.Takes a k e seq (InEpoch.PrepareOk s at) i o h p n d) g = g
  noted x before after y (Change.Takes a k e seq (InEpoch.ClockTime at) i o h p n d) g = g
  noted x before after y (Change.Acks k p) g = g
  noted x before after y (Change.IsAcked k up p h) g = g
  noted x before after y (Change.Pays s t a m w lt) g = g
  noted x before after y (Change.Owes ss a h) g = g
  noted x before after y (Change.SendsTime t a i w) g = g
  noted x before after y (Change.SendsAgain k f a m h) g = g
  noted x before after y (Change.SendsControl j c h) g = same_coordinator x y (send_coordinator c j x) (send_still c j x).log g
  noted x before after y (Change.Gathers a p i o) g = g
  noted x before after y (Change.Suspends h) g = g
  noted x before after y (Change.Collects ms asked h s) g = tt
  noted x before after y (Change.TakesPage ms pages e after' p n h m i w) g = tt
  noted x before after y (Change.Completes ms pages n h w) g = tt
  noted x before after y (Change.Refrains d) g = tt
  noted x before after y (Change.GivesUp own seen n) g = tt
  noted x before after y (Change.Asks own seen b was by lt) g = asks_here x before after b own seen was by.0 lt
  noted x before after y (Change.CountsAnswer b own answers a was is new) g = counts_here x before after b own answers a was is g
  noted x before after y (Change.Proposes b own answers was many) g = proposes_here x before after b own answers was many g
  noted x before after y (Change.IsPreempted b own value acceptors top answers n h) g = tt
  noted x before after y (Change.AcceptsOwn b own value acceptors n h i j) g = g
  noted x before after y (Change.CountsVote b own value acceptors j was vote) g = votes_here x before after b own value acceptors j was vote g
  noted x before after y (Change.Promises j b h lt) g = g
  noted x before after y (Change.Accepts j b d h i q l) g = g
  noted x before after y (Change.Chooses b own d acceptors n h) g = tt
  noted x before after y (Change.Learns j d h lt) g = tt
  noted x before after y (Change.AdoptsTail d h i j) g = g
  noted x before after y (Change.AdoptsPage j e from es h i l) g = g
  noted x before after y (Change.Enters h) g = g

  pub coordinators_along : {y : Draft} → Changes r input reading (begun r) y → Changes r input reading y (step r input reading) → N (begun r) → N y
  coordinators_along stay rest g = g
  coordinators_along (and_then {y = y} {z = z} q d f) rest g =
      let after = then_on (and_then stay d f) rest in
      noted y q after z d (coordinators_along q after g)

-- ---- worlds

abbrev Coordinators : ℕ → World → Type 0
Coordinators n w = (k : ℕ) (r : Replica) → slice_get w.sites k ≡ Some (Site.Up r) → CoordinatorIsTrue n w k (instance (begun r)) r.coordinator

-- the replicas that are up are those of before, with their coordinators, but for one
coordinators_by : (n : ℕ) (w : World) (m : Moment) → Happens w m → Coordinators n w → (k : ℕ) →
    ((j : ℕ) (r : Replica) → slice_get m.after.sites j ≡ Some (Site.Up r) → (slice_get w.sites j ≡ Some (Site.Up r)) ⊎ CoordinatorIsTrue n m.after j (instance (begun r)) r.coordinator) → Coordinators n m.after
coordinators_by n w m h g k up j r e = elim (up j r e) [ inl q ↦ coordinator_on n w m h j (instance (begun r)) r.coordinator (g j r q) | inr q ↦ q ]

quiet_true : (n : ℕ) (w : World) (k i : ℕ) (coordinator : Coordinator) → coordinator ≡ Coordinator.Idle → CoordinatorIsTrue n w k i coordinator
quiet_true n w k i coordinator e = subst (CoordinatorIsTrue n w k i) (sym e) tt

pub boot_coordinator : (k n : ℕ) (log : Log) → (boot k n log).replica.coordinator ≡ Coordinator.Idle
unfolding boot first_boot founding_boot boot_again keep begun fresh
boot_coordinator k n (rec ∷ log) = refl
boot_coordinator k n [] = same_when (λ y. y.replica.coordinator) _ (founding_boot k n) (boot_again k n []) (boot_again k n []) refl refl

marked_up : {w v : World} → Marks w v → (j : ℕ) (r : Replica) → slice_get v.sites j ≡ Some (Site.Up r) → slice_get w.sites j ≡ Some (Site.Up r)
marked_up p j r e = subst (λ ss. slice_get ss j ≡ Some (Site.Up r)) (marked_sites p) e

-- the end of a step of k
coordinators_end : (n : ℕ) (w v : World) → Marks w v → Coordinators n w → (k : ℕ) (x : Draft) (m : Moment) → Ends v k x m → Happens w (begun_at w m) →
    (m ≡ whole_step v k x → CoordinatorIsTrue n m.after k (instance x) x.replica.coordinator) → Coordinators n m.after
unfolding whole_step cut_step lost_step then_down after_step down with_site begun_at instance begun
coordinators_end n w v p g k x m IsWhole h new = coordinators_by n w (begun_at w (whole_step v k x)) h g k (λ j r e. elim (set_up v.sites k (Site.Up x.replica) j r e) [
  | inl q ↦ inl (marked_up p j r q.1)
  | inr q ↦ inr (subst (λ y. CoordinatorIsTrue n (whole_step v k x).after j (known y.log + 1) y.coordinator) (up_same x.replica r q.1)
      (subst (λ i. CoordinatorIsTrue n (whole_step v k x).after i (known x.replica.log + 1) x.replica.coordinator) (sym q.0) (new refl)))
])
coordinators_end n w v p g k x m (IsCut count) h new = coordinators_by n w (begun_at w (cut_step count v k x)) h g k (λ j r e. elim (set_up v.sites k (Site.Down x.replica.log) j r e) [
  | inl q ↦ inl (marked_up p j r q.1)
  | inr q ↦ absurd (not_up x.replica.log r q.1)
])
coordinators_end n w v p g k x m IsLost h new = coordinators_by n w (begun_at w (lost_step v k x)) h g k (λ j r e. elim (set_up v.sites k (Site.Down (log_at v k)) j r e) [
  | inl q ↦ inl (marked_up p j r q.1)
  | inr q ↦ absurd (not_up (log_at v k) r q.1)
])

coordinators_started : (n : ℕ) (w : World) (k : ℕ) → Coordinators n w → Happens w (start_at w k) → Coordinators n (start_at w k).after
unfolding start_at begun_at whole_step after_step
coordinators_started n w k g h =
    let v = with_room w k in
    let x = boot k v.n (log_at v k) in
    coordinators_by n w (start_at w k) h g k (λ j r e. elim (set_up v.sites k (Site.Up x.replica) j r e) [
      | inl q ↦ inl (room_up w k j r q.1)
      | inr q ↦ inr (quiet_true n (start_at w k).after j (instance (begun r)) r.coordinator (ap (λ y. y.coordinator) (sym (up_same x.replica r q.1)) ∙ boot_coordinator k v.n (log_at v k)))
    ])

coordinators_down : (n : ℕ) (w : World) (k : ℕ) → Coordinators n w → Happens w (down w k) → Coordinators n (down w k).after
unfolding down with_site
coordinators_down n w k g h = coordinators_by n w (down w k) h g k (λ j r e. elim (set_up w.sites k (Site.Down (log_at w k)) j r e) [
  | inl q ↦ inl q.1
  | inr q ↦ absurd (not_up (log_at w k) r q.1)
])

coordinators_stepped : (n : ℕ) (w v : World) → IsReached n w → Marks w v → Coordinators n w → (k : ℕ) (r : Replica) → slice_get v.sites k ≡ Some (Site.Up r) → (input : Input) (reading : ℕ) → reading < 2 ^ 64 → CanCome w k input →
    (m : Moment) → Ends v k (step r input reading) m → Happens w (begun_at w m) → Coordinators n m.after
unfolding begun_at begun
coordinators_stepped n w v reached p g k r e input reading lt c m ends h = coordinators_end n w v p g k (step r input reading) m ends h (λ q.
    let kept : log_at m.after k ≡ (step r input reading).replica.log = subst (λ z. log_at z.after k ≡ (step r input reading).replica.log) (sym q) (kept_whole n w v p reached (all_known n w reached) k r e (step r input reading)) in
    coordinators_along n w v reached p k r e input reading lt c m h ends kept (step_changes r input reading) stay
    (coordinator_on n w (begun_at w m) h k (instance (begun r)) r.coordinator (g k r (marked_up p k r e))))

coordinators_moment : (n : ℕ) (w : World) (m : Moment) → IsReached n w → Happens w m → Coordinators n w → Coordinators n m.after
unfolding silent begun_at begun
coordinators_moment n w m q (Nothing v p) g = coordinators_by n w (silent w v) (Nothing v p) g 0 (λ j r e. inl (marked_up p j r e))
coordinators_moment n w m q (Steps v p k r e input reading lt c z ends) g = coordinators_stepped n w v q p g k r e input reading lt c z ends (Steps v p k r e input reading lt c z ends)
coordinators_moment n w m q (Junk k r e z ends) g = coordinators_junk
  where
    coordinators_junk : Coordinators n z.after
    coordinators_junk = coordinators_end n w w none g k (begun r) z ends (Junk k r e z ends) (λ s. coordinator_on n w (begun_at w z) (Junk k r e z ends) k (instance (begun r)) r.coordinator (g k r e))
coordinators_moment n w m q (Stops k) g = coordinators_down n w k g (Stops k)
coordinators_moment n w m q (Joins f) g = coordinators_by n w (silent w (with_room w (length w.sites))) (Joins f) g 0 (λ j r e. inl (room_up w (length w.sites) j r e))
coordinators_moment n w m q (Starts k d f) g = coordinators_started n w k g (Starts k d f)

first_coordinator : (n k : ℕ) (r : Replica) → slice_get (begin n).sites k ≡ Some (Site.Up r) → r.coordinator ≡ Coordinator.Idle
unfolding founding_boot boot_again keep begun fresh
first_coordinator n k r e = ap (λ y. y.coordinator) (sym (founded_is n k r e))

pub all_coordinators : (n : ℕ) (w : World) → IsReached n w → Coordinators n w
all_coordinators n w first = λ k r e. quiet_true n (begin n) k (instance (begun r)) r.coordinator (first_coordinator n k r e)
all_coordinators n w (next {w = u} {m = m} q h) = coordinators_moment n u m q h (all_coordinators n u q)

pub coordinators_are_true : CoordinatorsAreTrue
unfolding begun_at begun
coordinators_are_true n w k p =
    let start = all_coordinators n p.world p.reached k p.replica (marked_up p.marks k p.replica p.up) in
    coordinator_carried n k (instance p.draft) p.draft.replica.coordinator p.moment.after w p.since
    (coordinators_along n p.world p.marked p.reached p.marks k p.replica p.up p.input p.reading p.small p.can_come p.moment p.happens p.ends p.kept p.before p.after
    (coordinator_on n p.world (begun_at p.world p.moment) p.happens k (instance (begun p.replica)) p.replica.coordinator start))

pub asked_was_asked : AskedWasAsked
asked_was_asked n w s i b t e =
    let is : IsSent t.past.draft (Control.P1a i b) = subst (IsSent t.past.draft) e t.sent.is in
    let g = subst (CoordinatorIsTrue n w s.from (instance t.past.draft)) is.3 (coordinators_are_true n w s.from t.past) in
    (is.1, is.2, subst (λ z. HasAsked n w s.from z b is.1 is.2) (sym is.0) g)

pub proposed_was_proposed : ProposedWasProposed
proposed_was_proposed n w s i b d t e =
    let is : IsSent t.past.draft (Control.P2a i b d) = subst (IsSent t.past.draft) e t.sent.is in
    let g = subst (CoordinatorIsTrue n w s.from (instance t.past.draft)) is.3 (coordinators_are_true n w s.from t.past) in
    (is.1, subst (λ z. HasProposed n w s.from z b is.1 d) (sym is.0) g.0)
