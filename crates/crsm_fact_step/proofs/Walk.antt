-- Each rule is a sequence of changes.
use Rattle.std.proofs.Common.{◌≡◌, ℕ, ◌+◌, ◌<◌, List, [], ◌∷◌, ◌++◌, length, refl, sym, ◌∙◌, ap, subst, inl, inr, Bool, true, false, cond, map, take}
use Rattle.std.specs.Prelude.{◌⊎◌, filter, ◌≢◌, IsTrue, Option, Some, None, not, nat_lt, nat_le, ◌==◌, ◌&&◌, ◌||◌, fold}
use Rattle.std.specs.Option.{option_map_or}
use Rattle.std.proofs.lemmas.Bool.{and_parts, eqb-true, eq-eqb, false≢true, not-true, ltb-true, ltb-false, leb-true}
use Rattle.crsm_base.specs.Order.{ballot_lt, ballot_eq, stamp_eq}
use Rattle.crsm_base.specs.MessageReading.{control_of}
use Rattle.crsm_spec.specs.Types.{Stamp, Ballot, Entry, Decision, Command, Refusal, Rec, InEpoch, Datagram, Control}
use Rattle.crsm_spec.specs.Choice.{when◌then◌otherwise◌}
use Rattle.crsm_spec.specs.Lists.{Among, first_of, has}
use Rattle.crsm_spec.specs.Log.{known, start, decision, spec, executed, unexecuted, active, live, suspended, promised, accepted, no_ballot}
use Rattle.crsm_spec.specs.Fits.{fits}
use Rattle.crsm_spec.specs.Quorum.{has_majority}
use Rattle.crsm_spec.specs.Paxos.{Answer, value_of}
use Rattle.crsm_spec.specs.Replica.{Replica, Coordinator, LogPage, members_of, spec_of, others, named_spec, other_members, frames_to, next_from, unacked, next_spec}
use Rattle.crsm_spec.specs.Ready.{is_ready, is_replicated, is_stable, is_next, all_received}
use Rattle.crsm_base.specs.Limits.{most_again}
use Rattle.crsm_spec.specs.Clock.{u64_max}
use Rattle.crsm_spec.specs.Parts.{Piece, whole_with}
use Rattle.crsm_spec.specs.Draft.{Draft, keep, noting, send, would, issued_at, push_to_members, push_to, send_control, send_to_each, send_to_all, send_decision, send_retrieve, retrieve}
use Rattle.crsm_spec.specs.Clients.{refusal, submit_at, take_or_refuse, on_request, commit_run, commits}
use Rattle.crsm_spec.specs.Frames.{is_astray, is_odd_frame, on_frame, on_ack, pay, pay_run, owed_oks, is_idle, idle, send_time, again_frame, again_to, send_again}
use Rattle.crsm_spec.specs.Collect.{own_page, whole_ones, collected, is_within, is_whole, cursor, suspend_ok}
use Rattle.crsm_spec.specs.Coordinate.{forget_epoch, adopt_tail, enter, advance, learn, on_chosen, instance, count_acceptor, has_accepted, accept_own, send_proposal, propose, count_answer, send_ask, ask, greater_ballot, begin_proposing, on_complete, on_whole, suspend_once, may_reconfigure, collect, on_suspect}
use Rattle.crsm_spec.specs.Controls.{on_suspend, is_page_of, take_page, on_suspend_ok, if_next, send_promise, on_p1a, on_p1b, on_p1no, on_p2a, on_p2b, retrieve_base, on_decide, page_from, on_retrieve, new_entries, may_adopt, on_page, if_spec, on_control}
use Rattle.crsm_spec.specs.Step.{Input, if_fitting, on_whole_message, on_part, ask_page, missing, send_collect, renew, ask_all, on_tick, on_datagram, on_input, idle_at}
use Rattle.crsm_fact_step.specs.Messages.{ReceivesControl, IsAsked, IsSent, Answers}
use Rattle.crsm_fact_step.specs.Changes.{Change, IsPaid, IsPeer, IsAnswer, IsVote, IsNextRound, AsksFor}
use Rattle.crsm_fact_step.specs.Changes.Change.{Submits, Refuses, Commits, Takes, Acks, IsAcked, Pays, Owes, SendsTime, SendsAgain, SendsControl, Gathers, Suspends, Collects, TakesPage, Completes, Refrains, GivesUp, Asks, CountsAnswer, Proposes, IsPreempted, AcceptsOwn, CountsVote, Promises, Accepts, Chooses, Learns, AdoptsTail, AdoptsPage, Enters}
use Rattle.crsm_fact_log.proofs.Tests.{or_parts, not_not, same_number, next_number, same_ballot, same_stamp, ballot_is, above_top, not_astray}
use Rattle.crsm_fact_log.proofs.Lists.{among_take}
use Rattle.crsm_fact_step.proofs.Going.{Goes, here, both, once, either, of_option, each}

-- ---- what sending leaves

-- the log, the coordinator and the numbers of two drafts are the same
record Alike (x y : Draft) : Type 0 where
  pub log : x.replica.log ≡ y.replica.log
  pub coordinator : x.replica.coordinator ≡ y.replica.coordinator

alike_when : (x a b : Draft) (c : Bool) → Alike x a → Alike x b → Alike x (when c then a otherwise b)
unfolding when◌then◌otherwise◌
alike_when x a b true p q = p
alike_when x a b false p q = q

alike_send : (c : Control) (k : ℕ) (x : Draft) → Alike x (send_control c x k)
unfolding send_control
alike_send c k x = alike_when x _ _ _ (record { log = refl; coordinator = refl }) (record { log = refl; coordinator = refl })

alike_then : {x y z : Draft} → Alike x y → Alike y z → Alike x z
alike_then p q = record { log = p.log ∙ q.log; coordinator = p.coordinator ∙ q.coordinator }

sent_alike : (c : Control) {x y : Draft} → Alike x y → IsSent x c → IsSent y c
unfolding instance has_accepted
sent_alike (Control.Suspend e after) a h = (h.0 ∙ ap known a.log, subst (λ o. IsAsked o after) a.coordinator h.1)
sent_alike (Control.SuspendOk e done last after whole es) a h = (subst (λ l. IsTrue (suspended l)) a.log h.0, h.1 ∙ ap (λ l. suspend_ok l after) a.log)
sent_alike (Control.P1a i b) a h = (h.0 ∙ ap (λ l. known l + 1) a.log, h.1, h.2, sym a.coordinator ∙ h.3)
sent_alike (Control.P1b i b v) a h = (h.0 ∙ ap (λ l. known l + 1) a.log, ap promised (sym a.log) ∙ h.1, h.2 ∙ ap accepted a.log)
sent_alike (Control.P1no i b top) a h = (h.0 ∙ ap (λ l. known l + 1) a.log, h.1 ∙ ap promised a.log)
sent_alike (Control.P2a i b d) a h = (h.0 ∙ ap (λ l. known l + 1) a.log, h.1, h.2, sym a.coordinator ∙ h.3)
sent_alike (Control.P2b i b) a h = (h.0 ∙ ap (λ l. known l + 1) a.log, subst (λ l. IsTrue (option_map_or (λ v. ballot_eq v.0 b) (accepted l) false)) a.log h.1)
sent_alike (Control.Decide d) a h = ap decision (sym a.log) ∙ h
sent_alike (Control.Retrieve e from) a h = (h.0 ∙ ap known a.log, h.1 ∙ ap (λ l. length (executed l)) a.log)
sent_alike (Control.Page e from es) a h = (subst (λ l. from < length (executed l)) a.log h.0, h.1 ∙ ap (λ l. page_from l from) a.log)

-- ---- what single changes leave

again_same : (k : ℕ) (x : Draft) (f : ℕ × InEpoch) → (again_frame k x f).replica ≡ x.replica
unfolding again_frame send
again_same k x f = refl

again_each : (k : ℕ) (fs : List (ℕ × InEpoch)) (x : Draft) → (fold (again_frame k) x fs).replica ≡ x.replica
again_each k [] x = refl
again_each k (f ∷ fs) x = again_each k fs (again_frame k x f) ∙ again_same k x f

again_all : (k : ℕ) (x : Draft) → (again_to x k).replica ≡ x.replica
unfolding again_to
again_all k x = again_each k (take most_again (unacked x.replica k)) x

pay_active : (s : Stamp) (t : ℕ) (x : Draft) → IsTrue (active x.replica.log) → IsTrue (active (pay s t x).replica.log)
unfolding pay push_to_members push_to issued_at
pay_active s t x a = a

pay_owed : (s : Stamp) (t : ℕ) (x : Draft) (u : Stamp) → Among x.replica.owed u → Among (pay s t x).replica.owed u
unfolding pay push_to_members push_to issued_at
pay_owed s t x u h = h

pay_back : (s : Stamp) (t : ℕ) (x : Draft) (u : Stamp) → Among (pay s t x).replica.owed u → Among x.replica.owed u
unfolding pay push_to_members push_to issued_at
pay_back s t x u m = m

-- ---- what was pushed

pushed_old : (j : ℕ) (a b : List (ℕ × InEpoch)) (p : InEpoch) → Among (map (λ f. f.1) (filter (λ f. f.0 == j) a)) p → Among (map (λ f. f.1) (filter (λ f. f.0 == j) (a ++ b))) p
pushed_old j [] b p m = absurd m
pushed_old j (f ∷ a) b p m = go (f.0 == j) m (pushed_old j a b p)
  where
    go : (c : Bool) → Among (map (λ (g : ℕ × InEpoch). g.1) (cond c (f ∷ filter (λ f. f.0 == j) a) (filter (λ f. f.0 == j) a))) p →
        (Among (map (λ (g : ℕ × InEpoch). g.1) (filter (λ f. f.0 == j) a)) p → Among (map (λ (g : ℕ × InEpoch). g.1) (filter (λ f. f.0 == j) (a ++ b))) p) →
        Among (map (λ (g : ℕ × InEpoch). g.1) (cond c (f ∷ filter (λ f. f.0 == j) (a ++ b)) (filter (λ f. f.0 == j) (a ++ b)))) p
    go true (inl e) k = inl e
    go true (inr h) k = inr (k h)
    go false h k = k h

pushed_new : (j : ℕ) (p : InEpoch) (ks : List ℕ) (a : List (ℕ × InEpoch)) → Among ks j → Among (map (λ f. f.1) (filter (λ f. f.0 == j) (a ++ map (λ k. (k, p)) ks))) p
pushed_new j p ks (f ∷ a) m = go (f.0 == j) (pushed_new j p ks a m)
  where
    go : (c : Bool) → Among (map (λ (g : ℕ × InEpoch). g.1) (filter (λ f. f.0 == j) (a ++ map (λ k. (k, p)) ks))) p →
        Among (map (λ (g : ℕ × InEpoch). g.1) (cond c (f ∷ filter (λ f. f.0 == j) (a ++ map (λ k. (k, p)) ks)) (filter (λ f. f.0 == j) (a ++ map (λ k. (k, p)) ks)))) p
    go true h = inr h
    go false h = h
pushed_new j p [] [] m = absurd m
pushed_new j p (k ∷ ks) [] (inl e) = subst (λ (c : Bool). Among (map (λ (g : ℕ × InEpoch). g.1) (cond c ((k, p) ∷ filter (λ f. f.0 == j) (map (λ k. (k, p)) ks)) (filter (λ f. f.0 == j) (map (λ k. (k, p)) ks)))) p) (sym (eq-eqb k j e)) (inl refl)
pushed_new j p (k ∷ ks) [] (inr m) = go (k == j) (pushed_new j p ks [] m)
  where
    go : (c : Bool) → Among (map (λ (g : ℕ × InEpoch). g.1) (filter (λ f. f.0 == j) (map (λ k. (k, p)) ks))) p →
        Among (map (λ (g : ℕ × InEpoch). g.1) (cond c ((k, p) ∷ filter (λ f. f.0 == j) (map (λ k. (k, p)) ks)) (filter (λ f. f.0 == j) (map (λ k. (k, p)) ks)))) p
    go true h = inr h
    go false h = h

-- what is left to pay once this one is paid
pay_left : (s : Stamp) (ss : List Stamp) (t : ℕ) (x : Draft) → s.time < t → (u : Stamp) → Among (s ∷ ss) u ⊎ IsPaid x u → Among ss u ⊎ IsPaid (pay s t x) u
unfolding pay push_to_members push_to issued_at frames_to other_members members_of
pay_left s ss t x lt u (inl (inl e)) =
    inr (λ j m. (
      t,
      subst (λ v. Among (map (λ f. f.1) (filter (λ f. f.0 == j) (x.replica.pushed ++ map (λ k. (k, InEpoch.PrepareOk s t)) (other_members x.replica)))) (InEpoch.PrepareOk v t)) e
          (pushed_new j (InEpoch.PrepareOk s t) (other_members x.replica) x.replica.pushed m),
      subst (λ v. v.time < t) e lt,
    ))
pay_left s ss t x lt u (inl (inr m)) = inl m
pay_left s ss t x lt u (inr p) = inr (λ j m. let q = p j m in (q.0, pushed_old j x.replica.pushed (map (λ k. (k, InEpoch.PrepareOk s t)) (other_members x.replica)) (InEpoch.PrepareOk u q.0) q.1, q.2))

pub commit_active : (s : Stamp) (x : Draft) → IsTrue (active x.replica.log) → IsTrue (active (keep (Rec.Commit s) x).replica.log)
unfolding active live suspended keep
commit_active s x h = h

first_with : (s : Stamp) (o : Option Entry) → IsTrue (option_map_or (λ e. stamp_eq e.stamp s) o false) → (f : Entry) × (o ≡ Some f) × (f.stamp ≡ s)
first_with s None h = absurd (false≢true h)
first_with s (Some f) h = (f, refl, same_stamp f.stamp s h)

ready_first : (x : Replica) (s : Stamp) → IsTrue (is_ready x s) → (f : Entry) × (first_of (unexecuted x.log) ≡ Some f) × (f.stamp ≡ s)
unfolding is_ready is_next
ready_first x s h = first_with s (first_of (unexecuted x.log)) (and_parts (is_replicated (spec_of x) x.votes s && is_stable (members_of x) (all_received x) s) (is_next (unexecuted x.log) s) h).1

keep_coordinator : (rec : Rec) (x : Draft) {coordinator : Coordinator} → x.replica.coordinator ≡ coordinator → (keep rec x).replica.coordinator ≡ coordinator
unfolding keep
keep_coordinator rec x n = n

keep_me : (rec : Rec) (x : Draft) → x.replica.me ≡ (keep rec x).replica.me
unfolding keep
keep_me rec x = refl

accepts_it : (b : Ballot) (d : Decision) (x : Draft) → IsTrue (has_accepted b (keep (Rec.Accept (instance x) b d) x))
unfolding has_accepted keep accepted
accepts_it b d x = ballot_is b

noting_coordinator : (coordinator : Coordinator) (x : Draft) → (noting coordinator x).replica.coordinator ≡ coordinator
unfolding noting
noting_coordinator coordinator x = refl

noting_known : (coordinator : Coordinator) (x : Draft) → known x.replica.log ≡ known (noting coordinator x).replica.log
unfolding noting
noting_known coordinator x = refl

noted_already : (coordinator : Coordinator) (x : Draft) → x.replica.coordinator ≡ coordinator → x ≡ noting coordinator x
unfolding noting
noted_already coordinator x e = ap (λ m. record x { replica = record x.replica { coordinator = m } }) e

alike_each : (c : Control) (ks : List ℕ) (x : Draft) → Alike x (fold (send_control c) x ks)
alike_each c [] x = record { log = refl; coordinator = refl }
alike_each c (k ∷ ks) x = alike_then (alike_send c k x) (alike_each c ks (send_control c x k))

alike_all : (c : Control) (x : Draft) → Alike x (send_to_all c x)
unfolding send_to_all send_to_each
alike_all c x = alike_each c (others x.replica) x

-- the decision of the known epoch stays while it is entered
pub same_when : {A : Type 0} (f : Draft → A) (c : Bool) (a b x : Draft) → f a ≡ f x → f b ≡ f x → f (when c then a otherwise b) ≡ f x
unfolding when◌then◌otherwise◌
same_when f true a b x p q = p
same_when f false a b x p q = q

pub same_option : {A : Type 0} (f : Draft → A) {B : Type 0} (g : B → Draft) (y x : Draft) (o : Option B) → ((b : B) → f (g b) ≡ f x) → f y ≡ f x → f (option_map_or g o y) ≡ f x
same_option f g y x None h q = q
same_option f g y x (Some b) h q = h b

adopt_decision : (x : Draft) → decision (adopt_tail x).replica.log ≡ decision x.replica.log
unfolding adopt_tail keep decision
adopt_decision x = same_option (λ y. decision y.replica.log) _ x x (decision x.replica.log) (λ d. same_when (λ y. decision y.replica.log) _ _ x x refl refl) refl

enter_decision : (x : Draft) → decision (enter x).replica.log ≡ decision x.replica.log
unfolding enter keep forget_epoch decision
enter_decision x = same_when (λ y. decision y.replica.log) _ _ x x refl refl

decided : (d : Decision) (x : Draft) → decision (forget_epoch (noting Coordinator.Idle (keep (Rec.Decide d) x))).replica.log ≡ Some d
unfolding forget_epoch noting keep decision
decided d x = refl

learnt : (d : Decision) (x : Draft) → decision (learn d x).replica.log ≡ Some d
unfolding learn advance
learnt d x = enter_decision _ ∙ adopt_decision _ ∙ decided d x

once_suspended : (x : Draft) → IsTrue (suspended (suspend_once x).replica.log)
unfolding suspend_once suspended when◌then◌otherwise◌ keep
once_suspended x = go (suspended x.replica.log) refl
  where
    go : (c : Bool) → suspended x.replica.log ≡ c → IsTrue (suspended (when c then x otherwise keep (Rec.Suspend (known x.replica.log)) x).replica.log)
    go true h = h
    go false h = refl

once_known : (x : Draft) → known (suspend_once x).replica.log ≡ known x.replica.log
unfolding suspend_once keep known decision
once_known x = same_when (λ y. known y.replica.log) (suspended x.replica.log) x (keep (Rec.Suspend (known x.replica.log)) x) x refl refl

not_equal : {a b : ℕ} → (a == b) ≡ false → a ≢ b
not_equal {a} {b} h e = false≢true (sym h ∙ eq-eqb a b e)

once_may : (ms : List ℕ) (x : Draft) → IsTrue (may_reconfigure x.replica ms) → IsTrue (may_reconfigure (suspend_once x).replica ms)
unfolding suspend_once may_reconfigure spec_of next_spec keep spec known start decision
once_may ms x h = same_when (λ y. may_reconfigure y.replica ms) (suspended x.replica.log) x (keep (Rec.Suspend (known x.replica.log)) x) x refl refl ∙ h

keeps_known_promise : (i : ℕ) (b : Ballot) (x : Draft) → instance x ≡ instance (keep (Rec.Promise i b) x)
unfolding instance keep known decision
keeps_known_promise i b x = refl

promises_it : (i : ℕ) (b : Ballot) (x : Draft) → promised (keep (Rec.Promise i b) x).replica.log ≡ b
unfolding keep promised
promises_it i b x = refl

keeps_known_accept : (i : ℕ) (b : Ballot) (d : Decision) (x : Draft) → instance x ≡ instance (keep (Rec.Accept i b d) x)
unfolding instance keep known decision
keeps_known_accept i b d x = refl

accepted_it : (i : ℕ) (b : Ballot) (d : Decision) (x : Draft) → IsTrue (has_accepted b (keep (Rec.Accept i b d) x))
unfolding has_accepted keep accepted
accepted_it i b d x = ballot_is b

-- ---- the walk

module _ (r : Replica) (input : Input) (reading : ℕ) where
  abbrev G : Draft → Draft → Type 0
  G x y = Goes r input reading x y

  sends_control : (c : Control) (k : ℕ) (x : Draft) → IsSent x c → Answers r input c → G x (send_control c x k)
  sends_control c k x h a = once (SendsControl k c (h, a))

  sends_each : (ks : List ℕ) (c : Control) (x : Draft) → IsSent x c → Answers r input c → G x (send_to_each ks c x)
  unfolding send_to_each
  sends_each ks c x h a =
      each (λ y. IsSent y c) (send_control c) ks (λ y k m p. sends_control c k y p a) (λ y k p. sent_alike c (alike_send c k y) p) x h

  sends_all : (c : Control) (x : Draft) → IsSent x c → Answers r input c → G x (send_to_all c x)
  unfolding send_to_all
  sends_all c x h a = sends_each _ c x h a

  sends_decision : (k : ℕ) (x : Draft) → G x (send_decision k x)
  unfolding send_decision
  sends_decision k x = of_option _ _ (decision x.replica.log) (λ d e. sends_control (Control.Decide d) k x e tt) (λ e. here)

  sends_retrieve : (k : ℕ) (x : Draft) → G x (send_retrieve k x)
  unfolding send_retrieve retrieve
  sends_retrieve k x = sends_control _ k x (refl, refl) tt

  -- ---- clients

  of_submit_at : (a : ℕ) (c : Command) (t : Option ℕ) (x : Draft) → input ≡ Input.Came a (Datagram.Request c) → refusal x.replica ≡ None → would x reading ≡ t →
      G x (submit_at a c t x)
  unfolding submit_at
  of_submit_at a c None x i h w = here
  of_submit_at a c (Some t) x i h w = once (Submits a c t i h w)

  of_take_or_refuse : (a : ℕ) (c : Command) (why : Option Refusal) (x : Draft) → input ≡ Input.Came a (Datagram.Request c) → refusal x.replica ≡ why →
      G x (take_or_refuse a c reading why x)
  unfolding take_or_refuse
  of_take_or_refuse a c (Some why) x i h = once (Refuses a c why i h)
  of_take_or_refuse a c None x i h = of_submit_at a c (would x reading) x i h refl

  of_request : (a : ℕ) (c : Command) (x : Draft) → input ≡ Input.Came a (Datagram.Request c) → G x (on_request a c reading x)
  unfolding on_request
  of_request a c x i = of_take_or_refuse a c (refusal x.replica) x i refl

  -- ---- links

  of_frame : (a k e seq : ℕ) (p : InEpoch) (x : Draft) → input ≡ Input.Came a (Datagram.Frame k r.me e seq p) → k ≢ r.me → G x (on_frame k e seq p x)
  unfolding on_frame
  of_frame a k e seq p x i other =
      either (nat_lt e (known x.replica.log)) (λ h. sends_decision k x) (λ older.
      either (nat_lt (known x.replica.log) e) (λ h. sends_retrieve k x) (λ newer.
      either (not (active x.replica.log) || not (has (members_of x.replica) k)) (λ h. here) (λ talks.
      let t = or_parts (not (active x.replica.log)) (not (has (members_of x.replica) k)) talks in
      let peer : IsPeer x.replica k = (not_not (active x.replica.log) t.0, not_not (has (members_of x.replica) k) t.1) in
      either (not (seq == next_from x.replica k)) (λ h. once (Acks k peer)) (λ next.
      either (is_odd_frame x.replica k p) (λ h. here) (λ odd.
      once (Takes a k e seq p i other (same_number e (known x.replica.log) older newer) peer (eqb-true seq (next_from x.replica k) (not_not (seq == next_from x.replica k) next)) odd))))))

  of_ack : (a k e next : ℕ) (x : Draft) → input ≡ Input.Came a (Datagram.Ack k r.me e next) → G x (on_ack k e next x)
  unfolding on_ack
  of_ack a k e next x i =
      let known_here = e == known x.replica.log in
      let here_active = active x.replica.log in
      let member = has (members_of x.replica) k in
      either (((known_here && here_active) && member) && nat_le next (length (frames_to x.replica k))) (λ h.
      let p = and_parts ((known_here && here_active) && member) (nat_le next (length (frames_to x.replica k))) h in
      let q = and_parts (known_here && here_active) member p.0 in
      let s = and_parts known_here here_active q.0 in
      let of_known = subst (λ f. input ≡ Input.Came a (Datagram.Ack k r.me f next)) (eqb-true e (known x.replica.log) s.0) i in
      once (IsAcked k next (s.1, q.1) (leb-true next (length (frames_to x.replica k)) p.1, (a, of_known)))) (λ h. here)

  of_again_to : (k : ℕ) (x : Draft) → IsTrue (active x.replica.log) → Among (other_members x.replica) k → G x (again_to x k)
  unfolding again_to
  of_again_to k x a m =
      each (λ y. y.replica ≡ x.replica) (again_frame k) (take most_again (unacked x.replica k))
      (λ y f h e. once (SendsAgain k f (subst (λ w. IsTrue (active w.log)) (sym e) a) (subst (λ w. Among (other_members w) k) (sym e) m)
      (subst (λ w. Among (unacked w k) f) (sym e) (among_take most_again (unacked x.replica k) f h)))) (λ y f e. again_same k y f ∙ e) x refl

  of_send_again : (x : Draft) → IsTrue (active x.replica.log) → G x (send_again x)
  unfolding send_again
  of_send_again x a =
      each (λ y. y.replica ≡ x.replica) again_to (other_members x.replica)
      (λ y k m e. of_again_to k y (subst (λ w. IsTrue (active w.log)) (sym e) a) (subst (λ w. Among (other_members w) k) (sym e) m)) (λ y k e. again_all k y ∙ e) x refl

  of_pay_run : (ss : List Stamp) (x : Draft) → IsTrue (active x.replica.log) → ((s : Stamp) → Among ss s → Among x.replica.owed s) →
      ((s : Stamp) → Among x.replica.owed s → Among ss s ⊎ IsPaid x s) → G x (pay_run reading ss x)
  unfolding pay_run
  of_pay_run [] x a h q = once (Owes [] a (h, q))
  of_pay_run (s ∷ ss) x a h q =
      of_option _ _ (would x reading) (λ t e. either (nat_lt s.time t) (λ lt. both (once (Pays s t a (h s (inl refl)) e (ltb-true s.time t lt)))
      (of_pay_run ss (pay s t x) (pay_active s t x a) (λ u m. pay_owed s t x u (h u (inr m))) (λ u m. pay_left s ss t x (ltb-true s.time t lt) u (q u (pay_back s t x u m)))))
      (λ lt. once (Owes (s ∷ ss) a (h, q)))) (λ e. once (Owes (s ∷ ss) a (h, q)))

  pub of_owed_oks : (x : Draft) → G x (owed_oks reading x)
  unfolding owed_oks
  of_owed_oks x = either (active x.replica.log) (λ a. of_pay_run x.replica.owed x a (λ s m. m) (λ s m. inl m)) (λ a. here)

  of_send_time : (t : Option ℕ) (x : Draft) → IsTrue (active x.replica.log) → IsTrue (is_idle x.replica reading) → would x reading ≡ t → G x (send_time t x)
  unfolding send_time
  of_send_time None x a i w = here
  of_send_time (Some t) x a i w = once (SendsTime t a i w)

  of_idle : (x : Draft) → G x (idle reading x)
  unfolding idle
  of_idle x = either (active x.replica.log && is_idle x.replica reading) (λ h. let p = and_parts (active x.replica.log) (is_idle x.replica reading) h in of_send_time (would x reading) x p.0 p.1 refl) (λ h. here)

  of_commit_run : (es : List Entry) (x : Draft) → IsTrue (active x.replica.log) → G x (commit_run es x)
  unfolding commit_run
  of_commit_run [] x a = here
  of_commit_run (e ∷ es) x a =
      either (is_ready x.replica e.stamp) (λ h.
      let f = ready_first x.replica e.stamp h in
      both (once (subst (λ s. Change r input reading x (keep (Rec.Commit s) x)) f.2 (Commits f.0 a f.1 (subst (λ s. IsTrue (is_ready x.replica s)) (sym f.2) h))))
      (of_commit_run es (keep (Rec.Commit e.stamp) x) (commit_active e.stamp x a))) (λ h. here)

  pub of_commits : (x : Draft) → G x (commits x)
  unfolding commits
  of_commits x = either (active x.replica.log) (λ a. of_commit_run (unexecuted x.replica.log) x a) (λ a. here)

  -- ---- entering, learning

  of_adopt_tail : (x : Draft) → G x (adopt_tail x)
  unfolding adopt_tail
  of_adopt_tail x =
      let done = length (executed x.replica.log) in
      of_option _ _ (decision x.replica.log) (λ d e. either (nat_le d.base_len done && nat_lt done (start x.replica.log)) (λ h.
      let p = and_parts (nat_le d.base_len done) (nat_lt done (start x.replica.log)) h in
      once (AdoptsTail d e (leb-true d.base_len done p.0) (ltb-true done (start x.replica.log) p.1))) (λ h. here)) (λ e. here)

  of_enter : (x : Draft) → G x (enter x)
  unfolding enter
  of_enter x = either (fits x.replica.me x.replica.n x.replica.log (Rec.Enter (known x.replica.log))) (λ h. once (Enters h)) (λ h. here)

  of_advance : (x : Draft) → G x (advance x)
  unfolding advance
  of_advance x = both (of_adopt_tail x) (of_enter (adopt_tail x))

  of_learn : (d : Decision) (x : Draft) → Change r input reading x (forget_epoch (noting Coordinator.Idle (keep (Rec.Decide d) x))) → G x (learn d x)
  unfolding learn
  of_learn d x c = both (once c) (of_advance _)

  of_chosen : (d : Decision) (x : Draft) → Change r input reading x (forget_epoch (noting Coordinator.Idle (keep (Rec.Decide d) x))) → G x (on_chosen d x)
  unfolding on_chosen
  of_chosen d x c = both (of_learn d x c) (sends_each _ (Control.Decide d) (learn d x) (learnt d x) tt)

  -- ---- proposing

  of_count_acceptor : (b : Ballot) (own value : Decision) (acceptors : List ℕ) (k : ℕ) (x : Draft) → x.replica.coordinator ≡ Coordinator.Proposing b own value acceptors → IsVote r input x b k →
      G x (count_acceptor b own value acceptors k x)
  unfolding count_acceptor noting spec_of
  of_count_acceptor b own value acceptors k x n v =
      both (once (CountsVote b own value acceptors k n v)) (either (has_majority (spec_of x.replica) (k ∷ acceptors)) (λ h. of_chosen value _ (Chooses b own value (k ∷ acceptors) refl h)) (λ h. here))

  of_accept_own : (b : Ballot) (own value : Decision) (acceptors : List ℕ) (x : Draft) → x.replica.coordinator ≡ Coordinator.Proposing b own value acceptors → G x (accept_own b own value acceptors x)
  unfolding accept_own
  of_accept_own b own value acceptors x n =
      either (ballot_lt b (promised x.replica.log)) (λ h. once (IsPreempted b own value acceptors (promised x.replica.log) [] (inr n) (h, inl refl))) (λ below.
      either (nat_le value.base_len (length (executed x.replica.log)) && not (has_accepted b x)) (λ h.
      let p = and_parts (nat_le value.base_len (length (executed x.replica.log))) (not (has_accepted b x)) h in
      both (once (AcceptsOwn b own value acceptors n below (leb-true value.base_len (length (executed x.replica.log)) p.0) (not-true (has_accepted b x) p.1)))
      (of_count_acceptor b own value acceptors x.replica.me (keep (Rec.Accept (instance x) b value) x) (keep_coordinator _ x n) (inl (keep_me _ x, accepts_it b value x)))) (λ h. here))

  of_send_proposal : (coordinator : Coordinator) (x : Draft) → x.replica.coordinator ≡ coordinator → G x (send_proposal coordinator x)
  unfolding send_proposal
  of_send_proposal Coordinator.Idle x n = here
  of_send_proposal (Coordinator.Collecting ms pages) x n = here
  of_send_proposal (Coordinator.Preparing b own answers) x n = here
  of_send_proposal (Coordinator.Proposing b own value acceptors) x n = sends_each _ (Control.P2a (instance x) b value) x (refl, own, acceptors, n) tt
  of_send_proposal (Coordinator.Preempted own seen) x n = here

  of_propose : (b : Ballot) (own : Decision) (answers : List (Answer Decision)) (x : Draft) → x.replica.coordinator ≡ Coordinator.Preparing b own answers →
      IsTrue (has_majority (spec_of x.replica) (map (λ f. f.replica) answers)) → G x (propose b own answers x)
  unfolding propose noting
  of_propose b own answers x n h = both (once (Proposes b own answers n h)) (both (of_accept_own b own (value_of own answers) [] _ refl) (of_send_proposal _ _ refl))

  of_count_answer : (b : Ballot) (own : Decision) (answers : List (Answer Decision)) (a : Answer Decision) (x : Draft) → x.replica.coordinator ≡ Coordinator.Preparing b own answers →
      IsAnswer r input x b a → has (map (λ f. f.replica) answers) a.replica ≡ false → G x (count_answer b own answers a x)
  unfolding count_answer noting spec_of
  of_count_answer b own answers a x n i new =
      both (once (CountsAnswer b own answers a n i new)) (either (has_majority (spec_of x.replica) (map (λ f. f.replica) (answers ++ a ∷ []))) (λ h. of_propose b own (answers ++ a ∷ []) _ refl h) (λ h. here))

  of_send_ask : (coordinator : Coordinator) (x : Draft) → x.replica.coordinator ≡ coordinator → G x (send_ask coordinator x)
  unfolding send_ask
  of_send_ask Coordinator.Idle x n = here
  of_send_ask (Coordinator.Collecting ms pages) x n = here
  of_send_ask (Coordinator.Preparing b own answers) x n = sends_each _ (Control.P1a (instance x) b) x (refl, own, answers, n) tt
  of_send_ask (Coordinator.Proposing b own value acceptors) x n = here
  of_send_ask (Coordinator.Preempted own seen) x n = here

  of_ask : (b : Ballot) (own : Decision) (seen : Ballot) (x : Draft) → x.replica.coordinator ≡ Coordinator.Preempted own seen → (b.by ≡ x.replica.me) × IsNextRound (promised x.replica.log) seen b → IsTrue (ballot_lt (promised x.replica.log) b) → G x (ask b own x)
  unfolding ask noting keep promised accepted has
  of_ask b own seen x n by lt = both (once (Asks own seen b n by lt)) (both (of_count_answer b own [] _ _ refl (inl (refl, refl, refl)) refl) (of_send_ask _ _ refl))

  of_begin : (own : Decision) (seen : Ballot) (x : Draft) → x.replica.coordinator ≡ Coordinator.Preempted own seen → G x (begin_proposing own seen x)
  unfolding begin_proposing
  of_begin own seen x n = either ((greater_ballot (promised x.replica.log) seen).round == u64_max) (λ h. once (GivesUp own seen n))
      (λ h. of_ask (record { round = (greater_ballot (promised x.replica.log) seen).round + 1; by = x.replica.me }) own seen x n (refl, (not_equal h, refl))
      (above_top (promised x.replica.log) seen x.replica.me))

  -- ---- collecting

  of_complete : (ms : List ℕ) (pages : List LogPage) (x : Draft) → x.replica.coordinator ≡ Coordinator.Collecting ms pages → IsTrue (has_majority (spec_of x.replica) (whole_ones (spec_of x.replica) pages)) →
      G x (on_complete (collected (spec_of x.replica) (named_spec x.replica ms) x.replica.log ms pages) x)
  unfolding on_complete
  of_complete ms pages x n h =
      let d = collected (spec_of x.replica) (named_spec x.replica ms) x.replica.log ms pages in
      either (is_within d.tail) (λ w. both (once (Completes ms pages n h w)) (of_begin d no_ballot _ (noting_coordinator _ x))) (λ w. once (Refrains d))

  of_whole : (ms : List ℕ) (pages : List LogPage) (x : Draft) → G x (noting (Coordinator.Collecting ms pages) x) → G x (on_whole ms pages x)
  unfolding on_whole noting spec_of named_spec next_spec
  of_whole ms pages x g = both g (either (has_majority (spec_of x.replica) (whole_ones (spec_of x.replica) pages)) (λ h. of_complete ms pages (noting (Coordinator.Collecting ms pages) x) refl h) (λ h. here))

  of_suspend_once : (x : Draft) → G x (suspend_once x)
  unfolding suspend_once
  of_suspend_once x = either (suspended x.replica.log) (λ h. here) (λ h. once (Suspends h))

  of_collect : (ms : List ℕ) (x : Draft) → AsksFor input ms → IsTrue (may_reconfigure x.replica ms) → IsTrue (suspended x.replica.log) → G x (collect ms x)
  unfolding collect
  of_collect ms x asked may h =
      let pages = own_page x.replica.me x.replica.log ∷ [] in
      let y = noting (Coordinator.Collecting ms pages) x in
      let z = send_to_all (Control.Suspend (known x.replica.log) None) y in
      both (once (Collects ms asked may h)) (both (sends_all (Control.Suspend (known x.replica.log) None) y (noting_known _ x, inl refl) tt)
      (of_whole ms pages z (subst (G z) (noted_already (Coordinator.Collecting ms pages) z (sym (alike_all _ y).coordinator ∙ noting_coordinator _ x)) here)))

  of_suspect : (ms : List ℕ) (x : Draft) → AsksFor input ms → G x (on_suspect ms x)
  unfolding on_suspect
  of_suspect ms x asked = either (may_reconfigure x.replica ms) (λ h. both (of_suspend_once x) (of_collect ms (suspend_once x) asked (once_may ms x h) (once_suspended x))) (λ h. here)

  -- ---- control messages

  if_next' : (k i : ℕ) (x y : Draft) → (i ≡ instance x → G x y) → G x (if_next k i x y)
  unfolding if_next instance
  if_next' k i x y f =
      either (nat_le i (known x.replica.log)) (λ h. sends_decision k x) (λ a.
      either (nat_lt (known x.replica.log + 1) i) (λ h. sends_retrieve k x) (λ b. f (next_number i (known x.replica.log) a b)))

  if_spec' : (k : ℕ) (x y : Draft) → (IsTrue (has (spec_of x.replica) k) → G x y) → G x (if_spec k x y)
  unfolding if_spec
  if_spec' k x y f = either (has (spec_of x.replica) k) f (λ h. here)

  of_on_suspend : (k e : ℕ) (after : Option Stamp) (x : Draft) → ReceivesControl r input k (Control.Suspend e after) → G x (on_suspend k e after x)
  unfolding on_suspend suspend_ok
  of_on_suspend k e after x received =
      either (nat_lt e (known x.replica.log)) (λ h. sends_decision k x) (λ a.
      either (nat_lt (known x.replica.log) e) (λ h. sends_retrieve k x) (λ b.
      both (of_suspend_once x) (sends_control (suspend_ok (suspend_once x).replica.log after) k (suspend_once x) (once_suspended x, refl)
      (k, subst (λ i. ReceivesControl r input k (Control.Suspend i after)) (same_number e (known x.replica.log) a b ∙ sym (once_known x)) received))))

  of_take_page : (ms : List ℕ) (pages : List LogPage) (p : LogPage) (x : Draft) → Change r input reading x (noting (Coordinator.Collecting ms (pages ++ p ∷ [])) x) → G x (take_page ms pages p x)
  unfolding take_page
  of_take_page ms pages p x c =
      either p.whole (λ h. of_whole ms (pages ++ p ∷ []) x (once c)) (λ h. both (once c) (sends_control _ p.from _ (noting_known _ x, inr (ms, pages ++ p ∷ [], p.from, noting_coordinator _ x, refl)) tt))

  of_on_suspend_ok : (e : ℕ) (after : Option Stamp) (p : LogPage) (coordinator : Coordinator) (x : Draft) → x.replica.coordinator ≡ coordinator →
      ReceivesControl r input p.from (Control.SuspendOk e p.executed p.last after p.whole p.entries) → IsTrue (has (spec_of x.replica) p.from) → G x (on_suspend_ok e after p coordinator x)
  unfolding on_suspend_ok
  of_on_suspend_ok e after p Coordinator.Idle x n h m = here
  of_on_suspend_ok e after p (Coordinator.Preparing b own answers) x n h m = here
  of_on_suspend_ok e after p (Coordinator.Proposing b own value acceptors) x n h m = here
  of_on_suspend_ok e after p (Coordinator.Preempted own seen) x n h m = here
  of_on_suspend_ok e after p (Coordinator.Collecting ms pages) x n h m =
      let page = is_page_of (known x.replica.log) e (cursor pages p.from) after p in
      either (page && not (is_whole pages p.from)) (λ t.
      let q = and_parts page (not (is_whole pages p.from)) t in
      of_take_page ms pages p x (TakesPage ms pages e after p n h m q.0 (not-true (is_whole pages p.from) q.1))) (λ t. here)

  of_send_promise : (k i : ℕ) (b : Ballot) (x : Draft) → i ≡ instance x → promised x.replica.log ≡ b → ReceivesControl r input k (Control.P1a i b) → G x (send_promise k i b x)
  unfolding send_promise
  of_send_promise k i b x i' p h = sends_control (Control.P1b i b (accepted x.replica.log)) k x (i', p, refl) (k, h)

  of_p1a : (k i : ℕ) (b : Ballot) (x : Draft) → ReceivesControl r input k (Control.P1a i b) → G x (on_p1a k i b x)
  unfolding on_p1a
  of_p1a k i b x h = if_next' k i x _ (λ next.
      either (ballot_lt (promised x.replica.log) b) (λ lt.
      both (once (subst (λ j. Change r input reading x (keep (Rec.Promise j b) x)) (sym next) (Promises k b (subst (λ j. ReceivesControl r input k (Control.P1a j b)) next h) lt)))
      (of_send_promise k i b (keep (Rec.Promise i b) x) (next ∙ keeps_known_promise i b x) (promises_it i b x) h)) (λ ge.
      either (ballot_eq (promised x.replica.log) b) (λ eq. of_send_promise k i b x next (same_ballot (promised x.replica.log) b eq) h) (λ gt.
      sends_control (Control.P1no i b (promised x.replica.log)) k x (next, refl) (k, inl h))))

  of_p1b : (i : ℕ) (b : Ballot) (a : Answer Decision) (coordinator : Coordinator) (x : Draft) → x.replica.coordinator ≡ coordinator → ReceivesControl r input a.replica (Control.P1b i b a.accepted) →
      IsTrue (has (spec_of x.replica) a.replica) → G x (on_p1b i b a coordinator x)
  unfolding on_p1b instance
  of_p1b i b a Coordinator.Idle x n h m = here
  of_p1b i b a (Coordinator.Collecting ms pages) x n h m = here
  of_p1b i b a (Coordinator.Proposing c own value acceptors) x n h m = here
  of_p1b i b a (Coordinator.Preempted own seen) x n h m = here
  of_p1b i b a (Coordinator.Preparing c own answers) x n h m =
      let new = not (has (map (λ f. f.replica) answers) a.replica) in
      either ((i == known x.replica.log + 1 && ballot_eq b c) && new) (λ t.
      let p = and_parts (i == known x.replica.log + 1 && ballot_eq b c) new t in
      let q = and_parts (i == known x.replica.log + 1) (ballot_eq b c) p.0 in
      let received : ReceivesControl r input a.replica (Control.P1b (known x.replica.log + 1) c a.accepted) =
      subst (λ j. ReceivesControl r input a.replica (Control.P1b j c a.accepted)) (eqb-true i (known x.replica.log + 1) q.0)
      (subst (λ d. ReceivesControl r input a.replica (Control.P1b i d a.accepted)) (same_ballot b c q.1) h) in
      of_count_answer c own answers a x n (inr (m, received)) (not-true (has (map (λ f. f.replica) answers) a.replica) p.1)) (λ t. here)

  -- a refusal of ours
  refused : (k i : ℕ) (b c top : Ballot) (x : Draft) → ReceivesControl r input k (Control.P1no i b top) → IsTrue (i == known x.replica.log + 1) → b ≡ c →
      ReceivesControl r input k (Control.P1no (instance x) c top)
  unfolding instance
  refused k i b c top x h q same =
      subst (λ j. ReceivesControl r input k (Control.P1no j c top)) (eqb-true i (known x.replica.log + 1) q) (subst (λ d. ReceivesControl r input k (Control.P1no i d top)) same h)

  of_p1no : (k i : ℕ) (b top : Ballot) (coordinator : Coordinator) (x : Draft) → x.replica.coordinator ≡ coordinator → ReceivesControl r input k (Control.P1no i b top) → G x (on_p1no i b top coordinator x)
  unfolding on_p1no
  of_p1no k i b top Coordinator.Idle x n h = here
  of_p1no k i b top (Coordinator.Collecting ms pages) x n h = here
  of_p1no k i b top (Coordinator.Preempted own seen) x n h = here
  of_p1no k i b top (Coordinator.Preparing c own answers) x n h =
      let ours = i == known x.replica.log + 1 && ballot_eq b c in
      either (ours && ballot_lt b top) (λ t.
      let p = and_parts ours (ballot_lt b top) t in
      let q = and_parts (i == known x.replica.log + 1) (ballot_eq b c) p.0 in
      once (IsPreempted c own own [] top answers (inl n)
      (subst (λ d. IsTrue (ballot_lt d top)) (same_ballot b c q.1) p.1, inr (k, refused k i b c top x h q.0 (same_ballot b c q.1))))) (λ t. here)
  of_p1no k i b top (Coordinator.Proposing c own value acceptors) x n h =
      let ours = i == known x.replica.log + 1 && ballot_eq b c in
      either (ours && ballot_lt b top) (λ t.
      let p = and_parts ours (ballot_lt b top) t in
      let q = and_parts (i == known x.replica.log + 1) (ballot_eq b c) p.0 in
      once (IsPreempted c own value acceptors top [] (inr n)
      (subst (λ d. IsTrue (ballot_lt d top)) (same_ballot b c q.1) p.1, inr (k, refused k i b c top x h q.0 (same_ballot b c q.1))))) (λ t. here)

  of_p2a : (k i : ℕ) (b : Ballot) (d : Decision) (x : Draft) → ReceivesControl r input k (Control.P2a i b d) → G x (on_p2a k i b d x)
  unfolding on_p2a
  of_p2a k i b d x h = if_next' k i x _ (λ next.
      either (ballot_lt b (promised x.replica.log)) (λ lt. sends_control (Control.P1no i b (promised x.replica.log)) k x (next, refl) (k, inr (d, h))) (λ ge.
      either (has_accepted b x) (λ old. sends_control (Control.P2b i b) k x (next, old) (k, d, h)) (λ new.
      either (nat_lt (length (executed x.replica.log)) d.base_len) (λ lt. sends_retrieve k x) (λ base.
      both (once (subst (λ j. Change r input reading x (keep (Rec.Accept j b d) x)) (sym next)
      (Accepts k b d (subst (λ j. ReceivesControl r input k (Control.P2a j b d)) next h) ge new (ltb-false (length (executed x.replica.log)) d.base_len base))))
      (sends_control (Control.P2b i b) k (keep (Rec.Accept i b d) x) (next ∙ keeps_known_accept i b d x, accepted_it i b d x) (k, d, h))))))

  of_p2b : (k i : ℕ) (b : Ballot) (coordinator : Coordinator) (x : Draft) → x.replica.coordinator ≡ coordinator → ReceivesControl r input k (Control.P2b i b) → IsTrue (has (spec_of x.replica) k) → G x (on_p2b k i b coordinator x)
  unfolding on_p2b instance
  of_p2b k i b Coordinator.Idle x n h m = here
  of_p2b k i b (Coordinator.Collecting ms pages) x n h m = here
  of_p2b k i b (Coordinator.Preparing c own answers) x n h m = here
  of_p2b k i b (Coordinator.Preempted own seen) x n h m = here
  of_p2b k i b (Coordinator.Proposing c own value acceptors) x n h m =
      let ours = i == known x.replica.log + 1 && ballot_eq b c in
      either (ours && not (has acceptors k)) (λ t.
      let p = and_parts ours (not (has acceptors k)) t in
      let q = and_parts (i == known x.replica.log + 1) (ballot_eq b c) p.0 in
      let received : ReceivesControl r input k (Control.P2b (known x.replica.log + 1) c) =
      subst (λ j. ReceivesControl r input k (Control.P2b j c)) (eqb-true i (known x.replica.log + 1) q.0) (subst (λ d. ReceivesControl r input k (Control.P2b i d)) (same_ballot b c q.1) h) in
      of_count_acceptor c own value acceptors k x n (inr (m, received))) (λ t. here)

  of_retrieve_base : (k : ℕ) (x : Draft) → G x (retrieve_base k x)
  unfolding retrieve_base
  of_retrieve_base k x = either _ (λ h. sends_retrieve k x) (λ h. here)

  of_decide : (k : ℕ) (d : Decision) (x : Draft) → ReceivesControl r input k (Control.Decide d) → G x (on_decide k d x)
  unfolding on_decide
  of_decide k d x h = either (nat_lt (known x.replica.log) d.epoch) (λ lt. both (of_learn d x (Learns k d h (ltb-true (known x.replica.log) d.epoch lt))) (of_retrieve_base k (learn d x))) (λ ge. here)

  of_retrieve : (k e from : ℕ) (x : Draft) → G x (on_retrieve k e from x)
  unfolding on_retrieve page_from
  of_retrieve k e from x =
      let log = x.replica.log in
      either (nat_lt e (known log)) (λ h. sends_decision k x) (λ a.
      let g = either (nat_lt from (length (executed log))) (λ lt. sends_control (page_from log from) k x (ltb-true from (length (executed log)) lt, refl) tt) (λ b. here) in
      both g (either (nat_lt (known log) e) (λ lt. sends_retrieve k _) (λ b. here)))

  of_page : (k e from : ℕ) (es : List Entry) (x : Draft) → ReceivesControl r input k (Control.Page e from es) → G x (on_page k e from es x)
  unfolding on_page
  of_page k e from es x h =
      let new = new_entries x.replica.log from es in
      either (may_adopt x.replica.log e from && nat_lt 0 (length new)) (λ t.
      let p = and_parts (may_adopt x.replica.log e from) (nat_lt 0 (length new)) t in
      both (once (AdoptsPage k e from es h p.0 (ltb-true 0 (length new) p.1))) (both (of_advance _) (sends_retrieve k _))) (λ t. here)

  of_control : (k : ℕ) (c : Control) (x : Draft) → ReceivesControl r input k c → G x (on_control k c x)
  unfolding on_control
  of_control k (Control.Suspend e after) x h = of_on_suspend k e after x h
  of_control k (Control.SuspendOk e done last after whole es) x h = if_spec' k x _ (λ m. of_on_suspend_ok e after (record { from = k; executed = done; last = last; whole = whole; entries = es }) x.replica.coordinator x refl h m)
  of_control k (Control.P1a i b) x h = of_p1a k i b x h
  of_control k (Control.P1b i b v) x h = if_spec' k x _ (λ m. of_p1b i b (record { replica = k; accepted = v }) x.replica.coordinator x refl h m)
  of_control k (Control.P1no i b top) x h = if_spec' k x _ (λ m. of_p1no k i b top x.replica.coordinator x refl h)
  of_control k (Control.P2a i b d) x h = of_p2a k i b d x h
  of_control k (Control.P2b i b) x h = if_spec' k x _ (λ m. of_p2b k i b x.replica.coordinator x refl h m)
  of_control k (Control.Decide d) x h = of_decide k d x h
  of_control k (Control.Retrieve e from) x h = of_retrieve k e from x
  of_control k (Control.Page e from es) x h = of_page k e from es x h

  -- ---- parts, ticks

  if_fitting' : (x y : Draft) → G x y → G x (if_fitting x y)
  unfolding if_fitting
  if_fitting' x y g = either y.fitting (λ h. g) (λ h. here)

  of_whole_message : (k : ℕ) (c : Option Control) (x : Draft) → ((d : Control) → c ≡ Some d → ReceivesControl r input k d) → G x (on_whole_message k c x)
  unfolding on_whole_message
  of_whole_message k None x h = here
  of_whole_message k (Some c) x h = of_control k c x (h c refl)

  of_part : (a : ℕ) (p : Piece) (x : Draft) → input ≡ Input.Came a (Datagram.Part p.from r.me p.boot p.number p.index p.count p.bytes) → p.from ≢ r.me → x.replica.parts ≡ r.parts → G x (on_part p x)
  unfolding on_part
  of_part a p x came other parts =
      both (once (Gathers a p came other)) (of_option _ _ (whole_with p x.replica.parts) (λ bytes e.
      if_fitting' _ _ (of_whole_message p.from (control_of bytes) _ (λ c is. record {
        address = a;
        piece = p;
        message = bytes;
        from = refl;
        came = came;
        whole = subst (λ ps. whole_with p ps ≡ Some bytes) parts e;
        is = is;
      }))) (λ e. here))

  of_send_collect : (ms : List ℕ) (pages : List LogPage) (x : Draft) → x.replica.coordinator ≡ Coordinator.Collecting ms pages → G x (send_collect pages x)
  unfolding send_collect ask_page
  of_send_collect ms pages x n =
      each (λ y. y.replica.coordinator ≡ Coordinator.Collecting ms pages) (ask_page pages) (missing x.replica pages)
      (λ y k m u. sends_control (Control.Suspend (known y.replica.log) (cursor pages k)) k y (refl, inr (ms, pages, k, u, refl)) tt)
      (λ y k u. sym (alike_send (Control.Suspend (known y.replica.log) (cursor pages k)) k y).coordinator ∙ u) x n

  of_renew : (coordinator : Coordinator) (x : Draft) → x.replica.coordinator ≡ coordinator → G x (renew coordinator x)
  unfolding renew
  of_renew Coordinator.Idle x n = here
  of_renew (Coordinator.Collecting ms pages) x n = of_send_collect ms pages x n
  of_renew (Coordinator.Preparing b own answers) x n = of_send_ask _ x n
  of_renew (Coordinator.Proposing b own value acceptors) x n = both (of_accept_own b own value acceptors x n) (of_send_proposal _ _ refl)
  of_renew (Coordinator.Preempted own seen) x n = of_begin own seen x n

  of_ask_all : (x : Draft) → G x (ask_all x)
  unfolding ask_all retrieve
  of_ask_all x = either (active x.replica.log) (λ h. here) (λ h. sends_all (retrieve x) x (refl, refl) tt)

  of_tick : (x : Draft) → G x (on_tick x)
  unfolding on_tick
  of_tick x = either (active x.replica.log) (λ a. of_send_again x a) (λ a. both (of_renew x.replica.coordinator x refl) (of_ask_all _))

  -- ---- the rule of each input

  of_datagram : (a : ℕ) (d : Datagram) (x : Draft) → x.replica ≡ r → input ≡ Input.Came a d → G x (on_datagram a d reading x)
  unfolding on_datagram
  of_datagram a (Datagram.Frame from to e seq p) x same i =
      either (is_astray x.replica from to) (λ h. here) (λ h.
      let t = not_astray r from to (subst (λ w. is_astray w from to ≡ false) same h) in
      of_frame a from e seq p x (subst (λ k. input ≡ Input.Came a (Datagram.Frame from k e seq p)) t.1 i) t.0)
  of_datagram a (Datagram.Ack from to e next) x same i =
      either (is_astray x.replica from to) (λ h. here) (λ h.
      let t = not_astray r from to (subst (λ w. is_astray w from to ≡ false) same h) in
      of_ack a from e next x (subst (λ k. input ≡ Input.Came a (Datagram.Ack from k e next)) t.1 i))
  of_datagram a (Datagram.Part from to boot number index count bytes) x same i =
      either (is_astray x.replica from to) (λ h. here) (λ h.
      let t = not_astray r from to (subst (λ w. is_astray w from to ≡ false) same h) in
      of_part a _ x (subst (λ k. input ≡ Input.Came a (Datagram.Part from k boot number index count bytes)) t.1 i) t.0 (ap (λ w. w.parts) same))
  of_datagram a (Datagram.Request c) x same i = of_request a c x i
  of_datagram a (Datagram.Reply client number sent) x same i = here
  of_datagram a (Datagram.Operate ms) x same i = of_suspect ms x (inr (a, i))

  pub of_input : (i : Input) (x : Draft) → x.replica ≡ r → input ≡ i → G x (on_input i reading x)
  unfolding on_input
  of_input (Input.Came a d) x same e = of_datagram a d x same e
  of_input Input.Ticked x same e = of_tick x
  of_input (Input.Suspected ms) x same e = of_suspect ms x (inl e)

  pub of_idle_at : (i : Input) (x : Draft) → G x (idle_at i reading x)
  unfolding idle_at
  of_idle_at (Input.Came a d) x = here
  of_idle_at Input.Ticked x = of_idle x
  of_idle_at (Input.Suspected ms) x = here
