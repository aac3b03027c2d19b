-- The effect of each change of a step on the log, the lines, the replies and the waiting clients.
use Rattle.std.proofs.Common.{◌≡◌, ℕ, ◌-◌, List, [], ◌∷◌, ◌++◌, length, drop, refl, sym, subst, Bool, true, false}
use Rattle.std.specs.Prelude.{◌≢◌, Some, ◌==◌}
use Rattle.crsm_spec.specs.Choice.{when◌then◌otherwise◌}
use Rattle.crsm_spec.specs.Clock.{u64_max}
use Rattle.crsm_spec.specs.Types.{Entry, Decision, Command, Refusal, Rec, InEpoch, Datagram, Control, Line}
use Rattle.crsm_spec.specs.Lists.{first_of}
use Rattle.crsm_spec.specs.Log.{decision, executed, unexecuted}
use Rattle.crsm_spec.specs.Lines.{lines_of}
use Rattle.crsm_spec.specs.Replica.{Replica}
use Rattle.crsm_spec.specs.Draft.{Draft, keep, noting, send, reply, count_vote, issued_at, push_to_members, push_to, send_control}
use Rattle.crsm_spec.specs.Clients.{refuse, submit, await, replies}
use Rattle.crsm_spec.specs.Frames.{take_frame, receive, owe, ack, pay, owing, again_frame}
use Rattle.crsm_spec.specs.Coordinate.{forget_epoch}
use Rattle.crsm_spec.specs.Controls.{new_entries}
use Rattle.crsm_spec.specs.Step.{Input}
use Rattle.crsm_fact_step.specs.Messages.{ReceivesControl}
use Rattle.crsm_fact_step.specs.Changes.{Change}
use Rattle.crsm_fact_step.specs.Changes.Change.{Submits, Refuses, Commits, Replies, Takes, Acks, IsAcked, Pays, Owes, SendsTime, SendsAgain, SendsControl, Gathers, Suspends, Collects, TakesPage, Completes, Refrains, GivesUp, Asks, CountsAnswer, Proposes, IsPreempted, AcceptsOwn, CountsVote, Promises, Accepts, Chooses, Learns, AdoptsTail, AdoptsPage, Enters}
use Rattle.crsm_law_epoch.proofs.CommitEffects.{taken_origin}

-- a line that tells of no submission, no execution and no answer
abbrev pub IsPlain : Line → Type 0
IsPlain (Line.Submit k x t c m) = ⊥
IsPlain (Line.Exec k p x s c m a) = ⊥
IsPlain (Line.ReplyOk k c m p a) = ⊥
IsPlain (Line.ReplyDropped k c m x s) = ⊥
IsPlain _ = Unit {0}

abbrev pub ArePlain : List Line → Type 0
ArePlain [] = Unit {0}
ArePlain (l ∷ ls) = IsPlain l × ArePlain ls

-- a record that logs and executes nothing
abbrev pub IsQuiet : Rec → Type 0
IsQuiet (Rec.Suspend x) = Unit {0}
IsQuiet (Rec.Promise i b) = Unit {0}
IsQuiet (Rec.Accept i b d) = Unit {0}
IsQuiet (Rec.Decide d) = Unit {0}
IsQuiet (Rec.Enter x) = Unit {0}
IsQuiet _ = ⊥

-- no client is answered, and none waits that did not
pub record IsSilent (x y : Draft) : Type 0 where
  pub replies : y.replies ≡ x.replies
  pub waiting : y.replica.waiting ≡ x.replica.waiting
  pub me : y.replica.me ≡ x.replica.me
  pub excess : ArePlain x.excess → ArePlain y.excess

-- a record is kept, with its lines
pub record IsKept (rec : Rec) (x y : Draft) : Type 0 where
  pub log : y.replica.log ≡ rec ∷ x.replica.log
  pub lines : y.lines ≡ x.lines ++ lines_of x.replica.me x.replica.log rec
  pub silent : IsSilent x y

pub data Effect (r : Replica) (input : Input) (reading : ℕ) (x : Draft) : Draft → Type 0 where
  Still : {y : Draft} → y.replica.log ≡ x.replica.log → y.lines ≡ x.lines → IsSilent x y → Effect r input reading x y
  Quiet : {y : Draft} (rec : Rec) → IsQuiet rec → IsKept rec x y → Effect r input reading x y
  Took : {y : Draft} (a j e i : ℕ) (f : Entry) → input ≡ Input.Came a (Datagram.Frame j r.me e i (InEpoch.Prepare f)) → j ≢ r.me → f.stamp.origin ≡ j → IsKept (Rec.Prepare f) x y → Effect r input reading x y
  Stamped : (a : ℕ) (c : Command) (t : ℕ) → input ≡ Input.Came a (Datagram.Request c) → Effect r input reading x (submit a c t x)
  Refused : (a : ℕ) (c : Command) (why : Refusal) → Effect r input reading x (refuse a c why x)
  Executed : {y : Draft} (e : Entry) → first_of (unexecuted x.replica.log) ≡ Some e → IsKept (Rec.Commit e.stamp) x y → Effect r input reading x y
  AdoptedTail : {y : Draft} (d : Decision) → decision x.replica.log ≡ Some d →
      IsKept (Rec.Adopt (length (executed x.replica.log)) (drop (length (executed x.replica.log) - d.base_len) d.tail)) x y → Effect r input reading x y
  AdoptedPage : {y : Draft} (j e from : ℕ) (es : List Entry) → ReceivesControl r input j (Control.Page e from es) →
      IsKept (Rec.Adopt (length (executed x.replica.log)) (new_entries x.replica.log from es)) x y → Effect r input reading x y
  Answered : Effect r input reading x (replies x)

pub plain_then : (ls ms : List Line) → ArePlain ls → ArePlain ms → ArePlain (ls ++ ms)
plain_then [] ms h g = g
plain_then (l ∷ ls) ms h g = (h.0, plain_then ls ms h.1 g)

-- the log, the lines and the clients are as before
record IsAsBefore (x y : Draft) : Type 0 where
  log : y.replica.log ≡ x.replica.log
  lines : y.lines ≡ x.lines
  replies : y.replies ≡ x.replies
  waiting : y.replica.waiting ≡ x.replica.waiting
  me : y.replica.me ≡ x.replica.me
  excess : y.excess ≡ x.excess

before_when : {x a b : Draft} (c : Bool) → IsAsBefore x a → IsAsBefore x b → IsAsBefore x (when c then a otherwise b)
unfolding when◌then◌otherwise◌
before_when true p q = p
before_when false p q = q

tell_before : (c : Control) (k : ℕ) (x : Draft) → IsAsBefore x (send_control c x k)
unfolding send_control
tell_before c k x =
    before_when (x.replica.made == u64_max) (record { log = refl; lines = refl; replies = refl; waiting = refl; me = refl; excess = refl })
    (record { log = refl; lines = refl; replies = refl; waiting = refl; me = refl; excess = refl })

module _ (r : Replica) (input : Input) (reading : ℕ) where
  silent : (x y : Draft) → y.replies ≡ x.replies → y.replica.waiting ≡ x.replica.waiting → y.replica.me ≡ x.replica.me → y.excess ≡ x.excess → IsSilent x y
  silent x y r w m e = record { replies = r; waiting = w; me = m; excess = subst ArePlain (sym e) }

  still : (x y : Draft) → y.replica.log ≡ x.replica.log → y.lines ≡ x.lines → y.replies ≡ x.replies → y.replica.waiting ≡ x.replica.waiting → y.replica.me ≡ x.replica.me → y.excess ≡ x.excess → Effect r input reading x y
  still x y l s p w m e = Still l s (silent x y p w m e)

  quiet : (rec : Rec) (x y : Draft) → IsQuiet rec → y.replica.log ≡ rec ∷ x.replica.log → y.lines ≡ x.lines ++ lines_of x.replica.me x.replica.log rec → y.replies ≡ x.replies → y.replica.waiting ≡ x.replica.waiting →
      y.replica.me ≡ x.replica.me → y.excess ≡ x.excess → Effect r input reading x y
  quiet rec x y q l s p w m e = Quiet rec q (record { log = l; lines = s; silent = silent x y p w m e })

  pub effect : (x y : Draft) → Change r input reading x y → Effect r input reading x y
  unfolding refuse await push_to_members push_to count_vote issued_at keep noting reply send take_frame receive owe ack pay owing again_frame forget_epoch
  effect x y (Submits a c t i h w) = Stamped a c t i
  effect x y (Refuses a c why i h) = Refused a c why
  effect x y (Commits e a h w) = Executed e h (record { log = refl; lines = refl; silent = silent x y refl refl refl refl })
  effect x y Replies = Answered
  effect x y (Takes a j e seq (InEpoch.Prepare g) i o h p q d) = Took a j e seq g i o (taken_origin x.replica j g d) (record { log = refl; lines = refl; silent = silent x y refl refl refl refl })
  effect x y (Takes a j e seq (InEpoch.PrepareOk s at) i o h p q d) = still x y refl refl refl refl refl refl
  effect x y (Takes a j e seq (InEpoch.ClockTime at) i o h p q d) = still x y refl refl refl refl refl refl
  effect x y (Acks j p) = still x y refl refl refl refl refl refl
  effect x y (IsAcked j next p h) = still x y refl refl refl refl refl refl
  effect x y (Pays s t a m w lt) = still x y refl refl refl refl refl refl
  effect x y (Owes ss a h) = still x y refl refl refl refl refl refl
  effect x y (SendsTime t a i w) = still x y refl refl refl refl refl refl
  effect x y (SendsAgain j g a m h) = still x y refl refl refl refl refl refl
  effect x y (SendsControl j c h) = let t = tell_before c j x in still x y t.log t.lines t.replies t.waiting t.me t.excess
  effect x y (Gathers a p i o) = still x y refl refl refl refl refl refl
  effect x y (Suspends h) = quiet _ x y tt refl refl refl refl refl refl
  effect x y (Collects ms asked h s) = still x y refl refl refl refl refl refl
  effect x y (TakesPage ms pages e after p q h m i w) = still x y refl refl refl refl refl refl
  effect x y (Completes ms pages q h w) = still x y refl refl refl refl refl refl
  effect x y (Refrains d) = Still refl refl (record { replies = refl; waiting = refl; me = refl; excess = λ p. plain_then x.excess _ p (tt, tt) })
  effect x y (GivesUp own seen q) = still x y refl refl refl refl refl refl
  effect x y (Asks own seen b q by lt) = quiet _ x y tt refl refl refl refl refl refl
  effect x y (CountsAnswer b own answers a q i h) = still x y refl refl refl refl refl refl
  effect x y (Proposes b own answers q h) = still x y refl refl refl refl refl refl
  effect x y (IsPreempted b own value acceptors top answers q h) = still x y refl refl refl refl refl refl
  effect x y (AcceptsOwn b own value acceptors q h i j) = quiet _ x y tt refl refl refl refl refl refl
  effect x y (CountsVote b own value acceptors j q v) = still x y refl refl refl refl refl refl
  effect x y (Promises j b h lt) = quiet _ x y tt refl refl refl refl refl refl
  effect x y (Accepts j b d h i l m) = quiet _ x y tt refl refl refl refl refl refl
  effect x y (Chooses b own d acceptors q h) = quiet _ x y tt refl refl refl refl refl refl
  effect x y (Learns j d h lt) = quiet _ x y tt refl refl refl refl refl refl
  effect x y (AdoptsTail d h i j) = AdoptedTail d h (record { log = refl; lines = refl; silent = silent x y refl refl refl refl })
  effect x y (AdoptsPage j e from es h i l) = AdoptedPage j e from es h (record { log = refl; lines = refl; silent = silent x y refl refl refl refl })
  effect x y (Enters h) = quiet _ x y tt refl refl refl refl refl refl
