-- A step leaves decisions that name no replica set, in its records, its coordinator and what it sends.
use Rattle.std.proofs.Common.{◌≡◌, ℕ, List, [], ◌∷◌, ◌++◌, refl, sym, ◌∙◌, subst, inl, inr, Bool, true, false, cond}
use Rattle.std.specs.Prelude.{◌⊎◌, Option, Some, None, fold, bytes_eq}
use Rattle.std.specs.List.{list_all}
use Rattle.std.proofs.lemmas.Slice.Eq.{bytes_eq-Decides}
use Rattle.crsm_spec.specs.Choice.{when◌then◌otherwise◌}
use Rattle.crsm_spec.specs.Types.{Ballot, Entry, Decision, Rec, InEpoch, Control}
use Rattle.crsm_spec.specs.Lists.{has, numbers_below}
use Rattle.crsm_spec.specs.Log.{Log, accepted, decision, executed, spec}
use Rattle.crsm_spec.specs.Paxos.{Answer, Found, value_of, value_of_best, best_of, better_answer, better_held, better, counts_before}
use Rattle.crsm_spec.specs.Collect.{collected}
use Rattle.crsm_spec.specs.Quorum.{spec_decided}
use Rattle.crsm_spec.specs.Replica.{Replica, Coordinator, Waiting, named_spec, next_spec, spec_of}
use Rattle.crsm_spec.specs.Draft.{Draft, keep, noting, send, reply, count_vote, issued_at, push_to_members, push_to, send_control}
use Rattle.crsm_spec.specs.Clients.{refuse, submit, await, replies, answer_each, answer_found, reply_ok, reply_dropped, find_executed, is_dropped}
use Rattle.crsm_spec.specs.Frames.{take_frame, receive, owe, ack, pay, owing, again_frame}
use Rattle.crsm_spec.specs.Coordinate.{forget_epoch, instance}
use Rattle.crsm_spec.specs.Step.{Input}
use Rattle.crsm_fact_step.specs.Messages.{ReceivesControl, IsSent}
use Rattle.crsm_fact_step.specs.Changes.{Change, Changes, stay, and_then, AsksFor, IsAnswer}
use Rattle.crsm_fact_step.specs.Changes.Change.{Submits, Refuses, Commits, Replies, Takes, Acks, IsAcked, Pays, Owes, SendsTime, SendsAgain, SendsControl, Gathers, Suspends, Collects, TakesPage, Completes, Refrains, GivesUp, Asks, CountsAnswer, Proposes, IsPreempted, AcceptsOwn, CountsVote, Promises, Accepts, Chooses, Learns, AdoptsTail, AdoptsPage, Enters}
use Rattle.crsm_law_messages.specs.SentMessages.{SentMessage}
use Rattle.crsm_law_messages.proofs.History.{SendsIn}

-- ---- what keeps the first replica set

-- the decision names no replica set: it keeps that of the beginning
abbrev pub Keeps : Decision → Type 0
Keeps d = d.spec ≡ None

abbrev HeldKeeps : Option (Ballot × Decision) → Type 0
HeldKeeps None = Unit {0}
HeldKeeps (Some v) = Keeps v.1

-- and so does each decision of a record, of a log, of a control message
abbrev pub RecKeeps : Rec → Type 0
RecKeeps (Rec.Decide d) = Keeps d
RecKeeps (Rec.Accept i b d) = Keeps d
RecKeeps _ = Unit {0}

abbrev pub LogKeeps : Log → Type 0
LogKeeps [] = Unit {0}
LogKeeps (rec ∷ log) = RecKeeps rec × LogKeeps log

abbrev pub ControlKeeps : Control → Type 0
ControlKeeps (Control.P1b i b held) = HeldKeeps held
ControlKeeps (Control.P2a i b d) = Keeps d
ControlKeeps (Control.Decide d) = Keeps d
ControlKeeps _ = Unit {0}

abbrev AnswersKeep : List (Answer Decision) → Type 0
AnswersKeep [] = Unit {0}
AnswersKeep (a ∷ answers) = HeldKeeps a.accepted × AnswersKeep answers

-- they are of the n replicas of the beginning
abbrev pub AreFounders : ℕ → List ℕ → Type 0
AreFounders n ms = list_all (has (numbers_below n)) ms ≡ true

abbrev pub CoordinatorKeeps : ℕ → Coordinator → Type 0
CoordinatorKeeps n Coordinator.Idle = Unit {0}
CoordinatorKeeps n (Coordinator.Collecting ms pages) = AreFounders n ms
CoordinatorKeeps n (Coordinator.Preparing b own answers) = Keeps own × AnswersKeep answers
CoordinatorKeeps n (Coordinator.Proposing b own value acceptors) = Keeps own × Keeps value
CoordinatorKeeps n (Coordinator.Preempted own seen) = Keeps own

pub record DraftKeeps (n : ℕ) (x : Draft) : Type 0 where
  pub size : x.replica.n ≡ n
  pub log : LogKeeps x.replica.log
  pub coordinator : CoordinatorKeeps n x.replica.coordinator

-- ---- answers

answers_then : (answers : List (Answer Decision)) (a : Answer Decision) → AnswersKeep answers → HeldKeeps a.accepted → AnswersKeep (answers ++ a ∷ [])
answers_then [] a h g = (g, tt)
answers_then (b ∷ answers) a h g = (h.0, answers_then answers a h.1 g)

abbrev BestKeeps : Option (Found Decision) → Type 0
BestKeeps None = Unit {0}
BestKeeps (Some f) = Keeps f.value

better_of : (o : Option (Found Decision)) (f : Found Decision) → BestKeeps o → Keeps f.value → BestKeeps (better o f)
better_of None f h g = g
better_of (Some e) f h g = go (counts_before f e)
  where
    go : (c : Bool) → BestKeeps (cond c (Some f) (Some e))
    go true = g
    go false = h

better_with : (o : Option (Found Decision)) (k : ℕ) (held : Option (Ballot × Decision)) → BestKeeps o → HeldKeeps held → BestKeeps (better_held o k held)
better_with o k None h g = h
better_with o k (Some v) h g = better_of o (record { ballot = v.0; replica = k; value = v.1 }) h g

best_among : (o : Option (Found Decision)) (answers : List (Answer Decision)) → BestKeeps o → AnswersKeep answers → BestKeeps (fold better_answer o answers)
best_among o [] h g = h
best_among o (a ∷ answers) h g = best_among (better_answer o a) answers (better_with o a.replica a.accepted h g.0) g.1

value_keeps : (own : Decision) (answers : List (Answer Decision)) → Keeps own → AnswersKeep answers → Keeps (value_of own answers)
value_keeps own answers h g = go (best_of answers) (best_among None answers tt g)
  where
    go : (o : Option (Found Decision)) → BestKeeps o → Keeps (value_of_best own o)
    go None w = h
    go (Some f) w = w

-- ---- logs

accepted_keeps : (log : Log) → LogKeeps log → HeldKeeps (accepted log)
unfolding accepted
accepted_keeps [] h = tt
accepted_keeps (Rec.Boot me n ∷ log) h = accepted_keeps log h.1
accepted_keeps (Rec.Prepare e ∷ log) h = accepted_keeps log h.1
accepted_keeps (Rec.Commit s ∷ log) h = accepted_keeps log h.1
accepted_keeps (Rec.Adopt place es ∷ log) h = accepted_keeps log h.1
accepted_keeps (Rec.Suspend e ∷ log) h = accepted_keeps log h.1
accepted_keeps (Rec.Promise i b ∷ log) h = accepted_keeps log h.1
accepted_keeps (Rec.Accept i b d ∷ log) h = h.0
accepted_keeps (Rec.Decide d ∷ log) h = tt
accepted_keeps (Rec.Enter e ∷ log) h = accepted_keeps log h.1

abbrev KnownKeeps : Option Decision → Type 0
KnownKeeps None = Unit {0}
KnownKeeps (Some d) = Keeps d

decision_keeps : (log : Log) → LogKeeps log → KnownKeeps (decision log)
unfolding decision
decision_keeps [] h = tt
decision_keeps (Rec.Boot me n ∷ log) h = decision_keeps log h.1
decision_keeps (Rec.Prepare e ∷ log) h = decision_keeps log h.1
decision_keeps (Rec.Commit s ∷ log) h = decision_keeps log h.1
decision_keeps (Rec.Adopt place es ∷ log) h = decision_keeps log h.1
decision_keeps (Rec.Suspend e ∷ log) h = decision_keeps log h.1
decision_keeps (Rec.Promise i b ∷ log) h = decision_keeps log h.1
decision_keeps (Rec.Accept i b d ∷ log) h = decision_keeps log h.1
decision_keeps (Rec.Decide d ∷ log) h = h.0
decision_keeps (Rec.Enter e ∷ log) h = decision_keeps log h.1

-- so majorities are counted over the first replicas
pub spec_stays : (n : ℕ) (log : Log) → LogKeeps log → spec n log ≡ numbers_below n
unfolding spec spec_decided
spec_stays n log h = go (decision log) (decision_keeps log h)
  where
    unwrapped : (d : Decision) → Keeps d → spec_decided n (Some d) ≡ numbers_below n
    unwrapped d k = rw (k) refl

    go : (o : Option Decision) → KnownKeeps o → spec_decided n o ≡ numbers_below n
    go None k = refl
    go (Some d) k = unwrapped d k

-- ---- what a coordinator names

same_bytes : (ks : List ℕ) → bytes_eq ks ks ≡ true
same_bytes ks = (bytes_eq-Decides ks ks).1 refl

names_none : (r : Replica) (ms : List ℕ) → LogKeeps r.log → AreFounders r.n ms → named_spec r ms ≡ None
unfolding named_spec next_spec spec_of spec_decided
names_none r ms h founders =
    let now = spec_stays r.n r.log h in
    let same = same_bytes (numbers_below r.n) in
    rw (now, founders, same) refl

-- ---- replies

record IsAlike (x y : Draft) : Type 0 where
  pub size : y.replica.n ≡ x.replica.n
  pub log : y.replica.log ≡ x.replica.log
  pub coordinator : y.replica.coordinator ≡ x.replica.coordinator

alike_then : {x y z : Draft} → IsAlike x y → IsAlike y z → IsAlike x z
alike_then p q = record { size = q.size ∙ p.size; log = q.log ∙ p.log; coordinator = q.coordinator ∙ p.coordinator }

alike_when : (c : Bool) (a b x : Draft) → IsAlike x a → IsAlike x b → IsAlike x (when c then a otherwise b)
unfolding when◌then◌otherwise◌
alike_when true a b x p q = p
alike_when false a b x p q = q

alike_found : (w : Waiting) (p : Option (ℕ × Entry)) (x : Draft) → IsAlike x (answer_found w p x)
unfolding answer_found reply_ok reply_dropped reply
alike_found w (Some p) x = record { size = refl; log = refl; coordinator = refl }
alike_found w None x = alike_when (is_dropped x.replica w.entry) _ _ x (record { size = refl; log = refl; coordinator = refl }) (record { size = refl; log = refl; coordinator = refl })

alike_each : (ws : List Waiting) (x : Draft) → IsAlike x (answer_each ws x)
unfolding answer_each
alike_each [] x = record { size = refl; log = refl; coordinator = refl }
alike_each (w ∷ ws) x = alike_then (alike_found w (find_executed (executed x.replica.log) w.entry) x) (alike_each ws _)

alike_replies : (x : Draft) → IsAlike x (replies x)
unfolding replies
alike_replies x = alike_then {y = record x { replica = record x.replica { waiting = [] } }} (record { size = refl; log = refl; coordinator = refl }) (alike_each x.replica.waiting (record x { replica = record x.replica { waiting = [] } }))

alike_keeps : (n : ℕ) (x y : Draft) → IsAlike x y → DraftKeeps n x → DraftKeeps n y
alike_keeps n x y a o = record { size = a.size ∙ o.size; log = subst LogKeeps (sym a.log) o.log; coordinator = subst (CoordinatorKeeps n) (sym a.coordinator) o.coordinator }

send_keeps : (n : ℕ) (c : Control) (k : ℕ) (x : Draft) → DraftKeeps n x → DraftKeeps n (send_control c x k)
unfolding send_control
send_keeps n c k x o = alike_keeps n x _ (alike_when _ _ _ x (record { size = refl; log = refl; coordinator = refl }) (record { size = refl; log = refl; coordinator = refl })) o

-- ---- changes

module _ (n : ℕ) (r : Replica) (input : Input) (reading : ℕ) (wished : (ms : List ℕ) → AsksFor input ms → AreFounders n ms) (received : (k : ℕ) (c : Control) → ReceivesControl r input k c → ControlKeeps c) where
  noted : (x : Draft) (coordinator : Coordinator) → DraftKeeps n x → x.replica.coordinator ≡ coordinator → CoordinatorKeeps n coordinator
  noted x coordinator o e = subst (CoordinatorKeeps n) e o.coordinator

  answered : (x : Draft) (b : Ballot) (a : Answer Decision) → DraftKeeps n x → IsAnswer r input x b a → HeldKeeps a.accepted
  answered x b a o (inl own_one) = subst HeldKeeps (sym own_one.2) (accepted_keeps x.replica.log o.log)
  answered x b a o (inr one) = received a.replica (Control.P1b (instance x) b a.accepted) one.1

  change_keeps : (x y : Draft) → Change r input reading x y → DraftKeeps n x → DraftKeeps n y
  unfolding submit refuse await push_to_members push_to count_vote issued_at keep noting reply send take_frame receive owe ack pay owing again_frame forget_epoch collected
  change_keeps x y (Submits a c t i h w) o = record { size = o.size; log = (tt, o.log); coordinator = o.coordinator }
  change_keeps x y (Refuses a c why i h) o = record { size = o.size; log = o.log; coordinator = o.coordinator }
  change_keeps x y (Commits e a h w) o = record { size = o.size; log = (tt, o.log); coordinator = o.coordinator }
  change_keeps x y Replies o = alike_keeps n x (replies x) (alike_replies x) o
  change_keeps x y (Takes a k e seq (InEpoch.Prepare g) i w h p m d) o = record { size = o.size; log = (tt, o.log); coordinator = o.coordinator }
  change_keeps x y (Takes a k e seq (InEpoch.PrepareOk s at) i w h p m d) o = record { size = o.size; log = o.log; coordinator = o.coordinator }
  change_keeps x y (Takes a k e seq (InEpoch.ClockTime at) i w h p m d) o = record { size = o.size; log = o.log; coordinator = o.coordinator }
  change_keeps x y (Acks k p) o = record { size = o.size; log = o.log; coordinator = o.coordinator }
  change_keeps x y (IsAcked k next p h) o = record { size = o.size; log = o.log; coordinator = o.coordinator }
  change_keeps x y (Pays s t a m w lt) o = record { size = o.size; log = o.log; coordinator = o.coordinator }
  change_keeps x y (Owes ss a h) o = record { size = o.size; log = o.log; coordinator = o.coordinator }
  change_keeps x y (SendsTime t a i w) o = record { size = o.size; log = o.log; coordinator = o.coordinator }
  change_keeps x y (SendsAgain k g a m h) o = record { size = o.size; log = o.log; coordinator = o.coordinator }
  change_keeps x y (SendsControl k c h) o = send_keeps n c k x o
  change_keeps x y (Gathers a p i w) o = record { size = o.size; log = o.log; coordinator = o.coordinator }
  change_keeps x y (Suspends h) o = record { size = o.size; log = (tt, o.log); coordinator = o.coordinator }
  change_keeps x y (Collects ms asked h s) o = record { size = o.size; log = o.log; coordinator = wished ms asked }
  change_keeps x y (TakesPage ms pages e after p c h m i w) o = record { size = o.size; log = o.log; coordinator = noted x (Coordinator.Collecting ms pages) o c }
  change_keeps x y (Completes ms pages c h w) o = record {
    size = o.size;
    log = o.log;
    coordinator = names_none x.replica ms o.log (subst (λ i. AreFounders i ms) (sym o.size) (noted x (Coordinator.Collecting ms pages) o c));
  }
  change_keeps x y (Refrains d) o = record { size = o.size; log = o.log; coordinator = tt }
  change_keeps x y (GivesUp own seen c) o = record { size = o.size; log = o.log; coordinator = tt }
  change_keeps x y (Asks own seen b c by lt) o = record { size = o.size; log = (tt, o.log); coordinator = (noted x (Coordinator.Preempted own seen) o c, tt) }
  change_keeps x y (CountsAnswer b own answers a c i h) o =
      let was = noted x (Coordinator.Preparing b own answers) o c in
      record { size = o.size; log = o.log; coordinator = (was.0, answers_then answers a was.1 (answered x b a o i)) }
  change_keeps x y (Proposes b own answers c h) o =
      let was = noted x (Coordinator.Preparing b own answers) o c in
      record { size = o.size; log = o.log; coordinator = (was.0, value_keeps own answers was.0 was.1) }
  change_keeps x y (IsPreempted b own value acceptors top answers c h) o = record { size = o.size; log = o.log; coordinator = over c }
    where
      over : (x.replica.coordinator ≡ Coordinator.Preparing b own answers) ⊎ (x.replica.coordinator ≡ Coordinator.Proposing b own value acceptors) → Keeps own
      over (inl e) = (noted x (Coordinator.Preparing b own answers) o e).0
      over (inr e) = (noted x (Coordinator.Proposing b own value acceptors) o e).0
  change_keeps x y (AcceptsOwn b own value acceptors c h i j) o = record { size = o.size; log = ((noted x (Coordinator.Proposing b own value acceptors) o c).1, o.log); coordinator = o.coordinator }
  change_keeps x y (CountsVote b own value acceptors k c v) o = record { size = o.size; log = o.log; coordinator = noted x (Coordinator.Proposing b own value acceptors) o c }
  change_keeps x y (Promises k b h lt) o = record { size = o.size; log = (tt, o.log); coordinator = o.coordinator }
  change_keeps x y (Accepts k b d h i j l) o = record { size = o.size; log = (received k _ h, o.log); coordinator = o.coordinator }
  change_keeps x y (Chooses b own d acceptors c h) o = record { size = o.size; log = ((noted x (Coordinator.Proposing b own d acceptors) o c).1, o.log); coordinator = tt }
  change_keeps x y (Learns k d h lt) o = record { size = o.size; log = (received k _ h, o.log); coordinator = tt }
  change_keeps x y (AdoptsTail d h i j) o = record { size = o.size; log = (tt, o.log); coordinator = o.coordinator }
  change_keeps x y (AdoptsPage k e from es h i j) o = record { size = o.size; log = (tt, o.log); coordinator = o.coordinator }
  change_keeps x y (Enters h) o = record { size = o.size; log = (tt, o.log); coordinator = o.coordinator }

  pub changes_keep : {x y : Draft} → Changes r input reading x y → DraftKeeps n x → DraftKeeps n y
  changes_keep stay o = o
  changes_keep (and_then {y = y} {z = z} p c f) o = change_keeps y z c (changes_keep p o)

  -- what a draft says
  said : (x : Draft) (c : Control) → DraftKeeps n x → IsSent x c → ControlKeeps c
  said x (Control.Suspend e after) o s = tt
  said x (Control.SuspendOk e done last after whole es) o s = tt
  said x (Control.P1a i b) o s = tt
  said x (Control.P1b i b held) o s = subst HeldKeeps (sym s.2) (accepted_keeps x.replica.log o.log)
  said x (Control.P1no i b top) o s = tt
  said x (Control.P2a i b d) o s = (noted x (Coordinator.Proposing b s.1 d s.2) o s.3).1
  said x (Control.P2b i b) o s = tt
  said x (Control.Decide d) o s = subst KnownKeeps s (decision_keeps x.replica.log o.log)
  said x (Control.Retrieve e from) o s = tt
  said x (Control.Page e from es) o s = tt

  pub sends_keep : {x y : Draft} (p : Changes r input reading x y) → DraftKeeps n x → (s : SentMessage) → SendsIn p s → ControlKeeps s.message
  sends_keep stay o s h = absurd h
  sends_keep (and_then {y = y} p c f) o s (inl h) = said y s.message (changes_keep p o) h.is
  sends_keep (and_then {y = y} p c f) o s (inr h) = sends_keep p o s h
