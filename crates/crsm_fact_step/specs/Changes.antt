-- The changes of which every step consists. A change carries the conditions that its rule has checked, so that a proof
-- about steps is an induction over changes and never mentions a rule.
use Rattle.std.specs.Prelude.{◌≡◌, ◌≢◌, ◌⊎◌, ℕ, ◌+◌, ◌-◌, ◌<◌, ◌≤◌, false, IsTrue, List, [], ◌∷◌, ◌++◌, length, drop, map, Option, Some, None}
use Rattle.crsm_base.specs.Order.{ballot_lt}
use Rattle.crsm_spec.specs.Types.{Stamp, Ballot, Entry, Decision, Command, Refusal, Rec, InEpoch, Datagram, Control, Line}
use Rattle.crsm_spec.specs.Lists.{Among, first_of, has}
use Rattle.crsm_spec.specs.Log.{known, start, decision, executed, unexecuted, active, suspended, promised, accepted, no_ballot}
use Rattle.crsm_spec.specs.Fits.{fits}
use Rattle.crsm_spec.specs.Quorum.{has_majority}
use Rattle.crsm_spec.specs.Paxos.{Answer, value_of}
use Rattle.crsm_spec.specs.Replica.{Replica, Coordinator, LogPage, members_of, spec_of, named_spec, other_members, frames_to, next_from, unacked}
use Rattle.crsm_spec.specs.Ready.{is_ready}
use Rattle.crsm_spec.specs.Parts.{Piece, with_part}
use Rattle.crsm_spec.specs.Draft.{Draft, keep, noting, would, issued_at, push_to_members, send_control, begun}
use Rattle.crsm_spec.specs.Clients.{refusal, refuse, submit, replies}
use Rattle.crsm_spec.specs.Frames.{is_odd_frame, take_frame, ack, pay, owing, is_idle, again_frame}
use Rattle.crsm_spec.specs.Collect.{own_page, whole_ones, collected, size_of, is_within, is_whole, cursor}
use Rattle.crsm_spec.specs.Clock.{u64_max}
use Rattle.crsm_spec.specs.Coordinate.{forget_epoch, instance, has_accepted, greater_ballot, may_reconfigure}
use Rattle.crsm_spec.specs.Controls.{is_page_of, new_entries, may_adopt}
use Rattle.crsm_spec.specs.Step.{Input, step}
use Rattle.crsm_fact_step.specs.Messages.{ReceivesControl, IsSent, Answers}

-- whether two replicas exchange frames within the known epoch
abbrev pub IsPeer : Replica → ℕ → Type 0
IsPeer r k = IsTrue (active r.log) × IsTrue (has (members_of r) k)

-- an answer that a proposer counts: its own, after its promise, or one that it receives
abbrev pub IsAnswer : Replica → Input → Draft → Ballot → Answer Decision → Type 0
IsAnswer r input x b a =
    ((a.replica ≡ x.replica.me) × (promised x.replica.log ≡ b) × (a.accepted ≡ accepted x.replica.log))
    ⊎ (IsTrue (has (spec_of x.replica) a.replica) × ReceivesControl r input a.replica (Control.P1b (instance x) b a.accepted))

-- a vote that a proposer counts: its own, after its record, or one that it receives
abbrev pub IsVote : Replica → Input → Draft → Ballot → ℕ → Type 0
IsVote r input x b k =
    ((k ≡ x.replica.me) × IsTrue (has_accepted b x))
    ⊎ (IsTrue (has (spec_of x.replica) k) × ReceivesControl r input k (Control.P2b (instance x) b))

-- the ballot's round is one above the greater of the promised ballot and the ballot seen
abbrev pub IsNextRound : Ballot → Ballot → Ballot → Type 0
IsNextRound promised seen b = ((greater_ballot promised seen).round ≢ u64_max) × (b.round ≡ (greater_ballot promised seen).round + 1)

-- the replica has promised the ballot `top`, or receives from another, which refuses b, that it has
abbrev pub IsRefusal : Replica → Input → Draft → Ballot → Ballot → Type 0
IsRefusal r input x b top = (top ≡ promised x.replica.log) ⊎ ((k : ℕ) × ReceivesControl r input k (Control.P1no (instance x) b top))

-- the input asks for these members of the next epoch
abbrev pub AsksFor : Input → List ℕ → Type 0
AsksFor input ms = (input ≡ Input.Suspected ms) ⊎ ((address : ℕ) × (input ≡ Input.Came address (Datagram.Operate ms)))

-- the input is this Ack of the known epoch
abbrev pub IsAckOf : Replica → Input → Draft → ℕ → ℕ → Type 0
IsAckOf r input x k next = (address : ℕ) × (input ≡ Input.Came address (Datagram.Ack k r.me (known x.replica.log) next))

-- the PREPAREOK of this stamp was pushed to each other member
abbrev pub IsPaid : Draft → Stamp → Type 0
IsPaid x s = (j : ℕ) → Among (other_members x.replica) j → (t : ℕ) × Among (frames_to x.replica j) (InEpoch.PrepareOk s t) × (s.time < t)

-- One change of a step of r on this input at this reading, of the draft x.
pub data Change (r : Replica) (input : Input) (reading : ℕ) (x : Draft) : Draft → Type 0 where
  -- ---- clients
  -- a command is logged under a time of its own and pushed to the members, and its client waits
  Submits : (address : ℕ) (c : Command) (t : ℕ) → input ≡ Input.Came address (Datagram.Request c) → refusal x.replica ≡ None →
      would x reading ≡ Some t → Change r input reading x (submit address c t x)
  Refuses : (address : ℕ) (c : Command) (why : Refusal) → input ≡ Input.Came address (Datagram.Request c) →
      refusal x.replica ≡ Some why → Change r input reading x (refuse address c why x)
  -- a ready entry is executed
  Commits : (e : Entry) → IsTrue (active x.replica.log) → first_of (unexecuted x.replica.log) ≡ Some e → IsTrue (is_ready x.replica e.stamp) →
      Change r input reading x (keep (Rec.Commit e.stamp) x)
  -- the last change: replies to clients whose entries are executed or dropped
  Replies : Change r input reading x (replies x)
  -- ---- links
  Takes : (address k e seq : ℕ) (p : InEpoch) → input ≡ Input.Came address (Datagram.Frame k r.me e seq p) → k ≢ r.me → e ≡ known x.replica.log →
      IsPeer x.replica k → seq ≡ next_from x.replica k → is_odd_frame x.replica k p ≡ false → Change r input reading x (take_frame k p x)
  Acks : (k : ℕ) → IsPeer x.replica k → Change r input reading x (ack k x)
  IsAcked : (k next : ℕ) → IsPeer x.replica k → (next ≤ length (frames_to x.replica k)) × IsAckOf r input x k next →
      Change r input reading x (record x { replica = record x.replica { acked = (k, next) ∷ x.replica.acked } })
  -- a pending PREPAREOK is sent
  Pays : (s : Stamp) (t : ℕ) → IsTrue (active x.replica.log) → Among x.replica.owed s → would x reading ≡ Some t → s.time < t →
      Change r input reading x (pay s t x)
  -- these acknowledgements stay pending
  Owes : (ss : List Stamp) → IsTrue (active x.replica.log) →
      ((s : Stamp) → Among ss s → Among x.replica.owed s) × ((s : Stamp) → Among x.replica.owed s → Among ss s ⊎ IsPaid x s) →
      Change r input reading x (owing ss x)
  -- an idle replica sends its clock
  SendsTime : (t : ℕ) → IsTrue (active x.replica.log) → IsTrue (is_idle x.replica reading) → would x reading ≡ Some t →
      Change r input reading x (push_to_members (InEpoch.ClockTime t) (issued_at t x))
  -- an unacknowledged frame is retransmitted
  SendsAgain : (k : ℕ) (f : ℕ × InEpoch) → IsTrue (active x.replica.log) → Among (other_members x.replica) k → Among (unacked x.replica k) f →
      Change r input reading x (again_frame k x f)
  -- ---- control messages
  SendsControl : (k : ℕ) (c : Control) → IsSent x c × Answers r input c → Change r input reading x (send_control c x k)
  Gathers : (address : ℕ) (p : Piece) → input ≡ Input.Came address (Datagram.Part p.from r.me p.boot p.number p.index p.count p.bytes) →
      p.from ≢ r.me → Change r input reading x (record x { replica = record x.replica { parts = with_part p x.replica.parts } })
  -- ---- collecting a frozen epoch
  Suspends : suspended x.replica.log ≡ false → Change r input reading x (keep (Rec.Suspend (known x.replica.log)) x)
  Collects : (ms : List ℕ) → AsksFor input ms → IsTrue (may_reconfigure x.replica ms) → IsTrue (suspended x.replica.log) →
      Change r input reading x (noting (Coordinator.Collecting ms (own_page x.replica.me x.replica.log ∷ [])) x)
  TakesPage : (ms : List ℕ) (pages : List LogPage) (e : ℕ) (after : Option Stamp) (p : LogPage) → x.replica.coordinator ≡ Coordinator.Collecting ms pages →
      ReceivesControl r input p.from (Control.SuspendOk e p.executed p.last after p.whole p.entries) → IsTrue (has (spec_of x.replica) p.from) →
      IsTrue (is_page_of (known x.replica.log) e (cursor pages p.from) after p) → is_whole pages p.from ≡ false →
      Change r input reading x (noting (Coordinator.Collecting ms (pages ++ p ∷ [])) x)
  -- the collection is complete, and its decision is to be proposed
  Completes : (ms : List ℕ) (pages : List LogPage) → x.replica.coordinator ≡ Coordinator.Collecting ms pages →
      IsTrue (has_majority (spec_of x.replica) (whole_ones (spec_of x.replica) pages)) →
      IsTrue (is_within (collected (spec_of x.replica) (named_spec x.replica ms) x.replica.log ms pages).tail) →
      Change r input reading x (noting (Coordinator.Preempted (collected (spec_of x.replica) (named_spec x.replica ms) x.replica.log ms pages) no_ballot) x)
  -- the collection is beyond its limits
  Refrains : (d : Decision) → Change r input reading x
      (noting Coordinator.Idle (record x { excess = x.excess ++ Line.TooMany x.replica.me (known x.replica.log) (length d.tail) (size_of d.tail) ∷ [] }))
  -- ---- proposing
  GivesUp : (own : Decision) (seen : Ballot) → x.replica.coordinator ≡ Coordinator.Preempted own seen → Change r input reading x (noting Coordinator.Idle x)
  -- a ballot of its own is promised, and promises for it are requested
  Asks : (own : Decision) (seen b : Ballot) → x.replica.coordinator ≡ Coordinator.Preempted own seen →
      (b.by ≡ x.replica.me) × IsNextRound (promised x.replica.log) seen b → IsTrue (ballot_lt (promised x.replica.log) b) →
      Change r input reading x (noting (Coordinator.Preparing b own []) (keep (Rec.Promise (instance x) b) x))
  CountsAnswer : (b : Ballot) (own : Decision) (answers : List (Answer Decision)) (a : Answer Decision) → x.replica.coordinator ≡ Coordinator.Preparing b own answers →
      IsAnswer r input x b a → has (map (λ f. f.replica) answers) a.replica ≡ false →
      Change r input reading x (noting (Coordinator.Preparing b own (answers ++ a ∷ [])) x)
  Proposes : (b : Ballot) (own : Decision) (answers : List (Answer Decision)) → x.replica.coordinator ≡ Coordinator.Preparing b own answers →
      IsTrue (has_majority (spec_of x.replica) (map (λ f. f.replica) answers)) →
      Change r input reading x (noting (Coordinator.Proposing b own (value_of own answers) []) x)
  -- the ballot is preempted: a greater one was promised, here or at another replica
  IsPreempted : (b : Ballot) (own value : Decision) (acceptors : List ℕ) (top : Ballot) → (answers : List (Answer Decision)) →
      (x.replica.coordinator ≡ Coordinator.Preparing b own answers) ⊎ (x.replica.coordinator ≡ Coordinator.Proposing b own value acceptors) →
      IsTrue (ballot_lt b top) × IsRefusal r input x b top →
      Change r input reading x (noting (Coordinator.Preempted own top) x)
  AcceptsOwn : (b : Ballot) (own value : Decision) (acceptors : List ℕ) → x.replica.coordinator ≡ Coordinator.Proposing b own value acceptors →
      ballot_lt b (promised x.replica.log) ≡ false → value.base_len ≤ length (executed x.replica.log) → has_accepted b x ≡ false →
      Change r input reading x (keep (Rec.Accept (instance x) b value) x)
  CountsVote : (b : Ballot) (own value : Decision) (acceptors : List ℕ) (k : ℕ) → x.replica.coordinator ≡ Coordinator.Proposing b own value acceptors →
      IsVote r input x b k → Change r input reading x (noting (Coordinator.Proposing b own value (k ∷ acceptors)) x)
  -- ---- promising and accepting for others
  Promises : (k : ℕ) (b : Ballot) → ReceivesControl r input k (Control.P1a (instance x) b) → IsTrue (ballot_lt (promised x.replica.log) b) →
      Change r input reading x (keep (Rec.Promise (instance x) b) x)
  Accepts : (k : ℕ) (b : Ballot) (d : Decision) → ReceivesControl r input k (Control.P2a (instance x) b d) → ballot_lt b (promised x.replica.log) ≡ false →
      has_accepted b x ≡ false → d.base_len ≤ length (executed x.replica.log) →
      Change r input reading x (keep (Rec.Accept (instance x) b d) x)
  -- ---- the next epoch
  -- what was chosen here is learnt, and the old epoch is forgotten
  Chooses : (b : Ballot) (own d : Decision) (acceptors : List ℕ) → x.replica.coordinator ≡ Coordinator.Proposing b own d acceptors →
      IsTrue (has_majority (spec_of x.replica) acceptors) →
      Change r input reading x (forget_epoch (noting Coordinator.Idle (keep (Rec.Decide d) x)))
  -- a received decision is learned likewise
  Learns : (k : ℕ) (d : Decision) → ReceivesControl r input k (Control.Decide d) → known x.replica.log < d.epoch →
      Change r input reading x (forget_epoch (noting Coordinator.Idle (keep (Rec.Decide d) x)))
  -- the rest of the tail, after the base
  AdoptsTail : (d : Decision) → decision x.replica.log ≡ Some d → d.base_len ≤ length (executed x.replica.log) →
      length (executed x.replica.log) < start x.replica.log →
      Change r input reading x (keep (Rec.Adopt (length (executed x.replica.log)) (drop (length (executed x.replica.log) - d.base_len) d.tail)) x)
  AdoptsPage : (k e from : ℕ) (es : List Entry) → ReceivesControl r input k (Control.Page e from es) → IsTrue (may_adopt x.replica.log e from) →
      0 < length (new_entries x.replica.log from es) →
      Change r input reading x (keep (Rec.Adopt (length (executed x.replica.log)) (new_entries x.replica.log from es)) x)
  Enters : IsTrue (fits x.replica.me x.replica.n x.replica.log (Rec.Enter (known x.replica.log))) →
      Change r input reading x (keep (Rec.Enter (known x.replica.log)) (forget_epoch x))

-- Changes in sequence, each of which leaves a draft whose records may be written.
pub data Changes (r : Replica) (input : Input) (reading : ℕ) (x : Draft) : Draft → Type 0 where
  stay : Changes r input reading x x
  and_then : {y z : Draft} → Changes r input reading x y → Change r input reading y z → IsTrue z.fitting → Changes r input reading x z

-- Every step is a sequence of changes, for any replica, input and reading.
abbrev pub StepsAreChanges : Type 0
StepsAreChanges = (r : Replica) (input : Input) (reading : ℕ) → Changes r input reading (begun r) (step r input reading)
