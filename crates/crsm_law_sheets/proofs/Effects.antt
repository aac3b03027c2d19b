-- The effect of each change of a step on the log, the lines, the replies and the waiting clients.
use Rattle.std.proofs.Common.{◌≡◌, ◌≢◌, ℕ, ◌∷◌, ◌++◌, refl, ◌∙◌, Bool, true, false}
use Rattle.std.specs.Prelude.{Some, Option, None, ◌==◌, not, nat_le, length}
use Rattle.std.proofs.lemmas.Option.{none-some, same_Some}
use Rattle.crsm_spec.specs.Choice.{when◌then◌otherwise◌}
use Rattle.crsm_spec.specs.Clock.{u64_max}
use Rattle.crsm_spec.specs.Types.{Entry, Command, Refusal, Rec, InEpoch, Control}
use Rattle.crsm_spec.specs.Log.{known, live, suspended}
use Rattle.crsm_spec.specs.Lines.{lines_of}
use Rattle.crsm_base.specs.Limits.{most_own}
use Rattle.crsm_spec.specs.Replica.{Replica, last_issued, is_congested}
use Rattle.crsm_spec.specs.Draft.{Draft, keep, noting, send, count_vote, issued_at, push_to_members, push_to, send_control}
use Rattle.crsm_spec.specs.Clients.{refuse, refusal, submit, await, replies, own_unexecuted}
use Rattle.crsm_spec.specs.Frames.{take_frame, receive, owe, ack, pay, owing, again_frame}
use Rattle.crsm_spec.specs.Coordinate.{forget_epoch}
use Rattle.crsm_spec.specs.Step.{Input}
use Rattle.crsm_fact_step.specs.Changes.{Change}
use Rattle.crsm_fact_step.specs.Changes.Change.{Submits, Refuses, Commits, Replies, Takes, Acks, IsAcked, Pays, Owes, SendsTime, SendsAgain, SendsControl, Gathers, Suspends, Collects, TakesPage, Completes, Refrains, GivesUp, Asks, CountsAnswer, Proposes, IsPreempted, AcceptsOwn, CountsVote, Promises, Accepts, Chooses, Learns, AdoptsTail, AdoptsPage, Enters}

-- no client is answered, and the same ones wait
pub record IsSilent (x y : Draft) : Type 0 where
  pub replies : y.replies ≡ x.replies
  pub waiting : y.replica.waiting ≡ x.replica.waiting
  pub me : y.replica.me ≡ x.replica.me

-- the entry of a command that is submitted
abbrev pub own_entry : Command → ℕ → Draft → Entry
own_entry c t x = record { epoch = known x.replica.log; stamp = record { time = t; origin = x.replica.me }; command = c }

pub data Effect (x : Draft) : Draft → Type 0 where
  Still : {y : Draft} → y.replica.log ≡ x.replica.log → y.lines ≡ x.lines → IsSilent x y → Effect x y
  Kept : {y : Draft} (rec : Rec) → y.replica.log ≡ rec ∷ x.replica.log → y.lines ≡ x.lines ++ lines_of x.replica.me x.replica.log rec → IsSilent x y → Effect x y
  Submitted : (a : ℕ) (c : Command) (t : ℕ) → Effect x (submit a c t x)
  Refused : (a : ℕ) (c : Command) (why : Refusal) → why ≢ Refusal.Dropped → Effect x (refuse a c why x)
  Answered : Effect x (replies x)

-- ---- refusals

refusal_when : (b : Bool) (r : Refusal) (o : Option Refusal) → r ≢ Refusal.Dropped → ((w : Refusal) → o ≡ Some w → w ≢ Refusal.Dropped) →
    (w : Refusal) → (when b then Some r otherwise o) ≡ Some w → w ≢ Refusal.Dropped
unfolding when◌then◌otherwise◌
refusal_when true r o h f w e = λ d. h (same_Some r w e ∙ d)
refusal_when false r o h f w e = f w e

-- no request is refused because it is dropped
not_dropped : (r : Replica) (w : Refusal) → refusal r ≡ Some w → w ≢ Refusal.Dropped
unfolding refusal
not_dropped r =
    refusal_when (not (live r.log)) Refusal.NotLive _ (λ e. (cc))
    (refusal_when (suspended r.log) Refusal.Suspended _ (λ e. (cc))
    (refusal_when (nat_le most_own (length (own_unexecuted r))) Refusal.Busy _ (λ e. (cc))
    (refusal_when (is_congested r) Refusal.Congested _ (λ e. (cc))
    (refusal_when (last_issued r == u64_max) Refusal.ClockSpent None (λ e. (cc)) (λ w e. absurd (none-some w e))))))

-- ---- control messages

record IsAsBefore (x y : Draft) : Type 0 where
  log : y.replica.log ≡ x.replica.log
  lines : y.lines ≡ x.lines
  silent : IsSilent x y

before_when : {x a b : Draft} (c : Bool) → IsAsBefore x a → IsAsBefore x b → IsAsBefore x (when c then a otherwise b)
unfolding when◌then◌otherwise◌
before_when true p q = p
before_when false p q = q

all_same : (x : Draft) → IsSilent x x
all_same x = record { replies = refl; waiting = refl; me = refl }

sent_before : (c : Control) (k : ℕ) (x : Draft) → IsAsBefore x (send_control c x k)
unfolding send_control
sent_before c k x =
    before_when (x.replica.made == u64_max) (record { log = refl; lines = refl; silent = all_same x })
    (record { log = refl; lines = refl; silent = record { replies = refl; waiting = refl; me = refl } })

-- ---- all changes

module _ (r : Replica) (input : Input) (reading : ℕ) where
  silent : (x y : Draft) → y.replies ≡ x.replies → y.replica.waiting ≡ x.replica.waiting → y.replica.me ≡ x.replica.me → IsSilent x y
  silent x y p w m = record { replies = p; waiting = w; me = m }

  still : (x y : Draft) → y.replica.log ≡ x.replica.log → y.lines ≡ x.lines → y.replies ≡ x.replies → y.replica.waiting ≡ x.replica.waiting → y.replica.me ≡ x.replica.me → Effect x y
  still x y l s p w m = Still l s (silent x y p w m)

  kept : (rec : Rec) (x y : Draft) → y.replica.log ≡ rec ∷ x.replica.log → y.lines ≡ x.lines ++ lines_of x.replica.me x.replica.log rec → y.replies ≡ x.replies →
      y.replica.waiting ≡ x.replica.waiting → y.replica.me ≡ x.replica.me → Effect x y
  kept rec x y l s p w m = Kept rec l s (silent x y p w m)

  pub effect : (x y : Draft) → Change r input reading x y → Effect x y
  unfolding await push_to_members push_to count_vote issued_at keep noting send take_frame receive owe ack pay owing again_frame forget_epoch
  effect x y (Submits a c t i h w) = Submitted a c t
  effect x y (Refuses a c why i h) = Refused a c why (not_dropped x.replica why h)
  effect x y (Commits e a h w) = kept _ x y refl refl refl refl refl
  effect x y Replies = Answered
  effect x y (Takes a j e seq (InEpoch.Prepare g) i o h p q d) = kept _ x y refl refl refl refl refl
  effect x y (Takes a j e seq (InEpoch.PrepareOk s at) i o h p q d) = still x y refl refl refl refl refl
  effect x y (Takes a j e seq (InEpoch.ClockTime at) i o h p q d) = still x y refl refl refl refl refl
  effect x y (Acks j p) = still x y refl refl refl refl refl
  effect x y (IsAcked j next p h) = still x y refl refl refl refl refl
  effect x y (Pays s t a m w lt) = still x y refl refl refl refl refl
  effect x y (Owes ss a h) = still x y refl refl refl refl refl
  effect x y (SendsTime t a i w) = still x y refl refl refl refl refl
  effect x y (SendsAgain j g a m h) = still x y refl refl refl refl refl
  effect x y (SendsControl j c h) = let t = sent_before c j x in Still t.log t.lines t.silent
  effect x y (Gathers a p i o) = still x y refl refl refl refl refl
  effect x y (Suspends h) = kept _ x y refl refl refl refl refl
  effect x y (Collects ms asked h s) = still x y refl refl refl refl refl
  effect x y (TakesPage ms pages e after p q h m i w) = still x y refl refl refl refl refl
  effect x y (Completes ms pages q h w) = still x y refl refl refl refl refl
  effect x y (Refrains d) = still x y refl refl refl refl refl
  effect x y (GivesUp own seen q) = still x y refl refl refl refl refl
  effect x y (Asks own seen b q by lt) = kept _ x y refl refl refl refl refl
  effect x y (CountsAnswer b own answers a q i h) = still x y refl refl refl refl refl
  effect x y (Proposes b own answers q h) = still x y refl refl refl refl refl
  effect x y (IsPreempted b own value acceptors top answers q h) = still x y refl refl refl refl refl
  effect x y (AcceptsOwn b own value acceptors q h i j) = kept _ x y refl refl refl refl refl
  effect x y (CountsVote b own value acceptors j q v) = still x y refl refl refl refl refl
  effect x y (Promises j b h lt) = kept _ x y refl refl refl refl refl
  effect x y (Accepts j b d h i l m) = kept _ x y refl refl refl refl refl
  effect x y (Chooses b own d acceptors q h) = kept _ x y refl refl refl refl refl
  effect x y (Learns j d h lt) = kept _ x y refl refl refl refl refl
  effect x y (AdoptsTail d h i j) = kept _ x y refl refl refl refl refl
  effect x y (AdoptsPage j e from es h i l) = kept _ x y refl refl refl refl refl
  effect x y (Enters h) = kept _ x y refl refl refl refl refl
