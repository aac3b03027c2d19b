-- A step leaves well-formed decisions in its records and its coordinator, and sends only datagrams between replicas.
use Rattle.std.proofs.Common.{◌≡◌, ℕ, ◌+◌, List, [], ◌∷◌, ◌++◌, length, refl, sym, ◌∙◌, subst, inl, inr, Bool, true, false, cond, map}
use Rattle.std.specs.Prelude.{◌⊎◌, Option, Some, None, fold}
use Rattle.std.specs.List.{enumerate_from}
use Rattle.crsm_base.specs.Members.{IsMembers}
use Rattle.crsm_base.specs.Messages.{control_bytes}
use Rattle.crsm_spec.specs.Choice.{when◌then◌otherwise◌}
use Rattle.crsm_spec.specs.Types.{Ballot, Entry, Decision, Rec, InEpoch, Datagram, Control}
use Rattle.crsm_spec.specs.Log.{Log, boots, accepted, executed}
use Rattle.crsm_spec.specs.Paxos.{Answer, Found, value_of, value_of_best, best_of, better_answer, better_held, better, counts_before}
use Rattle.crsm_spec.specs.Parts.{cut}
use Rattle.crsm_spec.specs.Collect.{collected}
use Rattle.crsm_spec.specs.Replica.{Replica, Coordinator, Waiting, other_members}
use Rattle.crsm_spec.specs.Draft.{Draft, begun, keep, noting, send, reply, count_vote, issued_at, push_to_members, push_to, next_frame, parts_to, send_control}
use Rattle.crsm_spec.specs.Clients.{refuse, submit, await, replies, answer_each, answer_found, reply_ok, reply_dropped, find_executed, is_dropped}
use Rattle.crsm_spec.specs.Frames.{take_frame, receive, owe, ack, pay, owing, again_frame}
use Rattle.crsm_spec.specs.Coordinate.{forget_epoch, instance}
use Rattle.crsm_spec.specs.Step.{Input, step}
use Rattle.crsm_fact_step.specs.Messages.{ReceivesControl}
use Rattle.crsm_fact_step.specs.Changes.{Change, Changes, stay, and_then, AsksFor, IsAnswer}
use Rattle.crsm_fact_step.specs.Changes.Change.{Submits, Refuses, Commits, Replies, Takes, Acks, IsAcked, Pays, Owes, SendsTime, SendsAgain, SendsControl, Gathers, Suspends, Collects, TakesPage, Completes, Refrains, GivesUp, Asks, CountsAnswer, Proposes, IsPreempted, AcceptsOwn, CountsVote, Promises, Accepts, Chooses, Learns, AdoptsTail, AdoptsPage, Enters}
use Rattle.crsm_fact_step.proofs.Fitted.{step_changes}
use Rattle.crsm_law_epoch.specs.Ordered.{IsOrdered, AreOrdered}
use Rattle.crsm_law_epoch.proofs.LogReceived.{IsOrderedHeld, IsOrderedControl, received_ordered}

-- ---- what is kept in order

-- each answer names a decision in order, if any
abbrev pub AreOrderedAnswers : List (Answer Decision) → Type 0
AreOrderedAnswers [] = Unit {0}
AreOrderedAnswers (a ∷ answers) = IsOrderedHeld a.accepted × AreOrderedAnswers answers

abbrev pub IsOrderedCoordinator : Coordinator → Type 0
IsOrderedCoordinator Coordinator.Idle = Unit {0}
IsOrderedCoordinator (Coordinator.Collecting ms pages) = IsMembers ms
IsOrderedCoordinator (Coordinator.Preparing b own answers) = IsOrdered own × AreOrderedAnswers answers
IsOrderedCoordinator (Coordinator.Proposing b own value acceptors) = IsOrdered own × IsOrdered value
IsOrderedCoordinator (Coordinator.Preempted own seen) = IsOrdered own

-- a datagram that replicas send to each other
abbrev pub IsBetween : Datagram → Type 0
IsBetween (Datagram.Frame from to e seq p) = Unit {0}
IsBetween (Datagram.Ack from to e next) = Unit {0}
IsBetween (Datagram.Part from to boot number index count bytes) = Unit {0}
IsBetween _ = ⊥

abbrev pub AreBetween : List (ℕ × Datagram) → Type 0
AreBetween [] = Unit {0}
AreBetween (s ∷ ss) = IsBetween s.1 × AreBetween ss

pub record Ordered (x : Draft) : Type 0 where
  pub log : AreOrdered x.replica.log
  pub coordinator : IsOrderedCoordinator x.replica.coordinator
  pub sends : AreBetween x.sends

-- ---- answers

answers_then : (found : List (Answer Decision)) (a : Answer Decision) → AreOrderedAnswers found → IsOrderedHeld a.accepted → AreOrderedAnswers (found ++ a ∷ [])
answers_then [] a h g = (g, tt)
answers_then (b ∷ found) a h g = (h.0, answers_then found a h.1 g)

abbrev IsOrderedBest : Option (Found Decision) → Type 0
IsOrderedBest None = Unit {0}
IsOrderedBest (Some f) = IsOrdered f.value

better_of : (o : Option (Found Decision)) (f : Found Decision) → IsOrderedBest o → IsOrdered f.value → IsOrderedBest (better o f)
better_of None f h g = g
better_of (Some e) f h g = go (counts_before f e)
  where
    go : (c : Bool) → IsOrderedBest (cond c (Some f) (Some e))
    go true = g
    go false = h

better_with : (o : Option (Found Decision)) (k : ℕ) (held : Option (Ballot × Decision)) → IsOrderedBest o → IsOrderedHeld held → IsOrderedBest (better_held o k held)
better_with o k None h g = h
better_with o k (Some v) h g = better_of o (record { ballot = v.0; replica = k; value = v.1 }) h g

best_among : (o : Option (Found Decision)) (found : List (Answer Decision)) → IsOrderedBest o → AreOrderedAnswers found → IsOrderedBest (fold better_answer o found)
best_among o [] h g = h
best_among o (a ∷ found) h g = best_among (better_answer o a) found (better_with o a.replica a.accepted h g.0) g.1

value_ordered : (own : Decision) (found : List (Answer Decision)) → IsOrdered own → AreOrderedAnswers found → IsOrdered (value_of own found)
value_ordered own found h g = go (best_of found) (best_among None found tt g)
  where
    go : (o : Option (Found Decision)) → IsOrderedBest o → IsOrdered (value_of_best own o)
    go None w = h
    go (Some f) w = w

-- ---- what a log has accepted

accepted_ordered : (log : Log) → AreOrdered log → IsOrderedHeld (accepted log)
unfolding accepted
accepted_ordered [] h = tt
accepted_ordered (Rec.Boot me n ∷ log) h = accepted_ordered log h.1
accepted_ordered (Rec.Prepare e ∷ log) h = accepted_ordered log h.1
accepted_ordered (Rec.Commit s ∷ log) h = accepted_ordered log h.1
accepted_ordered (Rec.Adopt place es ∷ log) h = accepted_ordered log h.1
accepted_ordered (Rec.Suspend e ∷ log) h = accepted_ordered log h.1
accepted_ordered (Rec.Promise i b ∷ log) h = accepted_ordered log h.1
accepted_ordered (Rec.Accept i b d ∷ log) h = h.0
accepted_ordered (Rec.Decide d ∷ log) h = tt
accepted_ordered (Rec.Enter e ∷ log) h = accepted_ordered log h.1

-- ---- sends

between_then : (ss ts : List (ℕ × Datagram)) → AreBetween ss → AreBetween ts → AreBetween (ss ++ ts)
between_then [] ts h g = g
between_then (s ∷ ss) ts h g = (h.0, between_then ss ts h.1 g)

frames_between : (r : Replica) (p : InEpoch) (ks : List ℕ) → AreBetween (map (next_frame r p) ks)
unfolding next_frame
frames_between r p [] = tt
frames_between r p (k ∷ ks) = (tt, frames_between r p ks)

parts_between : (r : Replica) (k : ℕ) (c : Control) → AreBetween (parts_to r k c)
unfolding parts_to
parts_between r k c = go (length (cut (control_bytes c))) (enumerate_from 0 (cut (control_bytes c)))
  where
    go : (n : ℕ) (ps : List (ℕ × List ℕ)) → AreBetween (map (λ p. (k, Datagram.Part r.me k (boots r.log) r.made p.0 n p.1)) ps)
    go n [] = tt
    go n (p ∷ ps) = (tt, go n ps)

-- ---- replies

-- the log, the coordinator and the sends of two drafts are the same
record IsAlike (x y : Draft) : Type 0 where
  pub log : y.replica.log ≡ x.replica.log
  pub coordinator : y.replica.coordinator ≡ x.replica.coordinator
  pub sends : y.sends ≡ x.sends

alike_then : {x y z : Draft} → IsAlike x y → IsAlike y z → IsAlike x z
alike_then p q = record { log = q.log ∙ p.log; coordinator = q.coordinator ∙ p.coordinator; sends = q.sends ∙ p.sends }

alike_when : (c : Bool) (a b x : Draft) → IsAlike x a → IsAlike x b → IsAlike x (when c then a otherwise b)
unfolding when◌then◌otherwise◌
alike_when true a b x p q = p
alike_when false a b x p q = q

alike_found : (w : Waiting) (p : Option (ℕ × Entry)) (x : Draft) → IsAlike x (answer_found w p x)
unfolding answer_found reply_ok reply_dropped reply
alike_found w (Some p) x = record { log = refl; coordinator = refl; sends = refl }
alike_found w None x = alike_when (is_dropped x.replica w.entry) _ _ x (record { log = refl; coordinator = refl; sends = refl }) (record { log = refl; coordinator = refl; sends = refl })

alike_each : (ws : List Waiting) (x : Draft) → IsAlike x (answer_each ws x)
unfolding answer_each
alike_each [] x = record { log = refl; coordinator = refl; sends = refl }
alike_each (w ∷ ws) x = alike_then (alike_found w (find_executed (executed x.replica.log) w.entry) x) (alike_each ws _)

alike_replies : (x : Draft) → IsAlike x (replies x)
unfolding replies
alike_replies x = alike_then {y = record x { replica = record x.replica { waiting = [] } }} (record { log = refl; coordinator = refl; sends = refl }) (alike_each x.replica.waiting (record x { replica = record x.replica { waiting = [] } }))

alike_ordered : (x y : Draft) → IsAlike x y → Ordered x → Ordered y
alike_ordered x y a o = record { log = subst AreOrdered (sym a.log) o.log; coordinator = subst IsOrderedCoordinator (sym a.coordinator) o.coordinator; sends = subst AreBetween (sym a.sends) o.sends }

send_ordered : (c : Control) (k : ℕ) (x : Draft) → Ordered x → Ordered (send_control c x k)
unfolding send_control when◌then◌otherwise◌
send_ordered c k x o = go _
  where
    go : (b : Bool) → Ordered (when b then x otherwise record x { replica = record x.replica { made = x.replica.made + 1 }; sends = x.sends ++ parts_to x.replica k c })
    go true = o
    go false = record { log = o.log; coordinator = o.coordinator; sends = between_then x.sends (parts_to x.replica k c) o.sends (parts_between x.replica k c) }

-- ---- changes

module _ (r : Replica) (input : Input) (reading : ℕ) (wished : (ms : List ℕ) → AsksFor input ms → IsMembers ms) where
  received : (k : ℕ) (c : Control) → ReceivesControl r input k c → IsOrderedControl c
  received k c h = received_ordered h.message c h.is

  -- what the coordinator was is in order
  noted : (x : Draft) (coordinator : Coordinator) → Ordered x → x.replica.coordinator ≡ coordinator → IsOrderedCoordinator coordinator
  noted x coordinator o n = subst IsOrderedCoordinator n o.coordinator

  answered : (x : Draft) (b : Ballot) (a : Answer Decision) → Ordered x → IsAnswer r input x b a → IsOrderedHeld a.accepted
  answered x b a o (inl own_one) = subst IsOrderedHeld (sym own_one.2) (accepted_ordered x.replica.log o.log)
  answered x b a o (inr one) = received a.replica (Control.P1b (instance x) b a.accepted) one.1

  pub change_ordered : (x y : Draft) → Change r input reading x y → Ordered x → Ordered y
  unfolding submit refuse await push_to_members push_to count_vote issued_at keep noting reply send take_frame receive owe ack pay owing again_frame forget_epoch collected
  change_ordered x y (Submits a c t i h w) o = record { log = (tt, o.log); coordinator = o.coordinator; sends = between_then x.sends _ o.sends (frames_between _ _ (other_members _)) }
  change_ordered x y (Refuses a c why i h) o = record { log = o.log; coordinator = o.coordinator; sends = o.sends }
  change_ordered x y (Commits e a h w) o = record { log = (tt, o.log); coordinator = o.coordinator; sends = o.sends }
  change_ordered x y Replies o = alike_ordered x (replies x) (alike_replies x) o
  change_ordered x y (Takes a k e seq (InEpoch.Prepare g) i w h p n d) o = record { log = (tt, o.log); coordinator = o.coordinator; sends = between_then x.sends _ o.sends (tt, tt) }
  change_ordered x y (Takes a k e seq (InEpoch.PrepareOk s at) i w h p n d) o = record { log = o.log; coordinator = o.coordinator; sends = between_then x.sends _ o.sends (tt, tt) }
  change_ordered x y (Takes a k e seq (InEpoch.ClockTime at) i w h p n d) o = record { log = o.log; coordinator = o.coordinator; sends = between_then x.sends _ o.sends (tt, tt) }
  change_ordered x y (Acks k p) o = record { log = o.log; coordinator = o.coordinator; sends = between_then x.sends _ o.sends (tt, tt) }
  change_ordered x y (IsAcked k next p h) o = record { log = o.log; coordinator = o.coordinator; sends = o.sends }
  change_ordered x y (Pays s t a m w lt) o = record { log = o.log; coordinator = o.coordinator; sends = between_then x.sends _ o.sends (frames_between _ _ (other_members _)) }
  change_ordered x y (Owes ss a h) o = record { log = o.log; coordinator = o.coordinator; sends = o.sends }
  change_ordered x y (SendsTime t a i w) o = record { log = o.log; coordinator = o.coordinator; sends = between_then x.sends _ o.sends (frames_between _ _ (other_members _)) }
  change_ordered x y (SendsAgain k g a m h) o = record { log = o.log; coordinator = o.coordinator; sends = between_then x.sends _ o.sends (tt, tt) }
  change_ordered x y (SendsControl k c h) o = send_ordered c k x o
  change_ordered x y (Gathers a p i w) o = record { log = o.log; coordinator = o.coordinator; sends = o.sends }
  change_ordered x y (Suspends h) o = record { log = (tt, o.log); coordinator = o.coordinator; sends = o.sends }
  change_ordered x y (Collects ms asked h s) o = record { log = o.log; coordinator = wished ms asked; sends = o.sends }
  change_ordered x y (TakesPage ms pages e after p n h m i w) o = record { log = o.log; coordinator = noted x _ o n; sends = o.sends }
  change_ordered x y (Completes ms pages n h w) o = record { log = o.log; coordinator = noted x _ o n; sends = o.sends }
  change_ordered x y (Refrains d) o = record { log = o.log; coordinator = tt; sends = o.sends }
  change_ordered x y (GivesUp own seen n) o = record { log = o.log; coordinator = tt; sends = o.sends }
  change_ordered x y (Asks own seen b n by lt) o = record { log = (tt, o.log); coordinator = (noted x _ o n, tt); sends = o.sends }
  change_ordered x y (CountsAnswer b own answers a n i h) o =
      let was = noted x (Coordinator.Preparing b own answers) o n in
      record { log = o.log; coordinator = (was.0, answers_then answers a was.1 (answered x b a o i)); sends = o.sends }
  change_ordered x y (Proposes b own answers n h) o =
      let was = noted x (Coordinator.Preparing b own answers) o n in
      record { log = o.log; coordinator = (was.0, value_ordered own answers was.0 was.1); sends = o.sends }
  change_ordered x y (IsPreempted b own value acceptors top answers n h) o = record { log = o.log; coordinator = over n; sends = o.sends }
    where
      over : (x.replica.coordinator ≡ Coordinator.Preparing b own answers) ⊎ (x.replica.coordinator ≡ Coordinator.Proposing b own value acceptors) → IsOrdered own
      over (inl e) = (noted x (Coordinator.Preparing b own answers) o e).0
      over (inr e) = (noted x (Coordinator.Proposing b own value acceptors) o e).0
  change_ordered x y (AcceptsOwn b own value acceptors n h i j) o = record { log = ((noted x (Coordinator.Proposing b own value acceptors) o n).1, o.log); coordinator = o.coordinator; sends = o.sends }
  change_ordered x y (CountsVote b own value acceptors k n v) o = record { log = o.log; coordinator = noted x (Coordinator.Proposing b own value acceptors) o n; sends = o.sends }
  change_ordered x y (Promises k b h lt) o = record { log = (tt, o.log); coordinator = o.coordinator; sends = o.sends }
  change_ordered x y (Accepts k b d h i j l) o = record { log = (received k _ h, o.log); coordinator = o.coordinator; sends = o.sends }
  change_ordered x y (Chooses b own d acceptors n h) o = record { log = ((noted x (Coordinator.Proposing b own d acceptors) o n).1, o.log); coordinator = tt; sends = o.sends }
  change_ordered x y (Learns k d h lt) o = record { log = (received k _ h, o.log); coordinator = tt; sends = o.sends }
  change_ordered x y (AdoptsTail d h i j) o = record { log = (tt, o.log); coordinator = o.coordinator; sends = o.sends }
  change_ordered x y (AdoptsPage k e from es h i j) o = record { log = (tt, o.log); coordinator = o.coordinator; sends = o.sends }
  change_ordered x y (Enters h) o = record { log = (tt, o.log); coordinator = o.coordinator; sends = o.sends }

  changes_ordered : {x y : Draft} → Changes r input reading x y → Ordered x → Ordered y
  changes_ordered stay o = o
  changes_ordered (and_then {y = y} {z = z} p c f) o = change_ordered y z c (changes_ordered p o)

  pub step_ordered : AreOrdered r.log → IsOrderedCoordinator r.coordinator → Ordered (step r input reading)
  unfolding begun
  step_ordered log coordinator = changes_ordered (step_changes r input reading) (record { log = log; coordinator = coordinator; sends = tt })
