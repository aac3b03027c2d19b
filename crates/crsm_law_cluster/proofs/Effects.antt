-- The effect of each change of a step on its replica's own entries, the waiting clients and the replies.
use Rattle.std.proofs.Common.{◌≡◌, ℕ, ◌∷◌, refl, sym, ◌∙◌, ap, subst, inl, inr}
use Rattle.std.specs.Prelude.{◌==◌}
use Rattle.crsm_spec.specs.Clock.{u64_max}
use Rattle.crsm_spec.specs.Types.{Entry, Command, Refusal, Rec, InEpoch, Datagram, Control}
use Rattle.crsm_spec.specs.Replica.{Replica}
use Rattle.crsm_spec.specs.Draft.{Draft, keep, noting, send, count_vote, issued_at, push_to_members, push_to, send_control}
use Rattle.crsm_spec.specs.Clients.{refuse, submit, replies}
use Rattle.crsm_spec.specs.Frames.{take_frame, receive, owe, ack, pay, owing, again_frame}
use Rattle.crsm_spec.specs.Coordinate.{forget_epoch}
use Rattle.crsm_spec.specs.Step.{Input}
use Rattle.crsm_fact_log.specs.Logs.{Logged}
use Rattle.crsm_fact_step.specs.Changes.{Change}
use Rattle.crsm_fact_step.specs.Changes.Change.{Submits, Refuses, Commits, Replies, Takes, Acks, IsAcked, Pays, Owes, SendsTime, SendsAgain, SendsControl, Gathers, Suspends, Collects, TakesPage, Completes, Refrains, GivesUp, Asks, CountsAnswer, Proposes, IsPreempted, AcceptsOwn, CountsVote, Promises, Accepts, Chooses, Learns, AdoptsTail, AdoptsPage, Enters}
use Rattle.crsm_fact_step.proofs.Logs.{send_still}
use Rattle.crsm_fact_step.proofs.Walk.{same_when}
use Rattle.crsm_law_epoch.proofs.CommitEffects.{taken_origin, same_entry}

-- no client is answered, none waits that did not, and no entry of the replica's own is logged
pub record IsQuiet (me : ℕ) (x y : Draft) : Type 0 where
  pub replies : y.replies ≡ x.replies
  pub waiting : y.replica.waiting ≡ x.replica.waiting
  pub own : (e : Entry) → Logged y.replica.log e → e.stamp.origin ≡ me → Logged x.replica.log e

pub data Effect (r : Replica) (input : Input) (x : Draft) : Draft → Type 0 where
  Submitted : (a : ℕ) (c : Command) (t : ℕ) → input ≡ Input.Came a (Datagram.Request c) → Effect r input x (submit a c t x)
  Refused : (a : ℕ) (c : Command) (why : Refusal) → input ≡ Input.Came a (Datagram.Request c) → Effect r input x (refuse a c why x)
  Answered : Effect r input x (replies x)
  Quiet : {y : Draft} → IsQuiet r.me x y → Effect r input x y

module _ (r : Replica) (input : Input) (t : ℕ) where
  -- no record, or one that logs no own entry
  still : (x y : Draft) → y.replies ≡ x.replies → y.replica.waiting ≡ x.replica.waiting → y.replica.log ≡ x.replica.log → Effect r input x y
  still x y p w l = Quiet (record { replies = p; waiting = w; own = λ e q o. subst (λ z. Logged z e) l q })

  one : (rec : Rec) → ((e : Entry) → rec ≡ Rec.Prepare e → e.stamp.origin ≡ r.me → ⊥) → (x y : Draft) → y.replies ≡ x.replies → y.replica.waiting ≡ x.replica.waiting → y.replica.log ≡ rec ∷ x.replica.log → Effect r input x y
  one rec none x y p w l = Quiet (record { replies = p; waiting = w; own = λ e q o. old e o (subst (λ z. Logged z e) l q) })
    where
      old : (e : Entry) → e.stamp.origin ≡ r.me → Logged (rec ∷ x.replica.log) e → Logged x.replica.log e
      old e o (inl is) = absurd (none e is o)
      old e o (inr h) = h

  told_still : (c : Control) (k : ℕ) (x : Draft) → Effect r input x (send_control c x k)
  unfolding send_control
  told_still c k x =
      still x (send_control c x k) (same_when (λ (z : Draft). z.replies) (x.replica.made == u64_max) x _ x refl refl) (same_when (λ (z : Draft). z.replica.waiting) (x.replica.made == u64_max) x _ x refl refl) (send_still c k x).log

  pub effect : (x y : Draft) → Change r input t x y → Effect r input x y
  unfolding push_to_members push_to issued_at count_vote keep noting send take_frame receive owe ack pay owing again_frame forget_epoch
  effect x y (Submits a c s i h w) = Submitted a c s i
  effect x y (Refuses a c why i h) = Refused a c why i
  effect x y (Commits e a h w) = one _ (λ f q o. absurd (cc)) x y refl refl refl
  effect x y Replies = Answered
  effect x y (Takes a j e seq (InEpoch.Prepare g) i o h p q d) =
      one (Rec.Prepare g) (λ f is own. o (sym (taken_origin x.replica j g d) ∙ ap (λ (z : Entry). z.stamp.origin) (same_entry g f is) ∙ own)) x y refl refl refl
  effect x y (Takes a j e seq (InEpoch.PrepareOk s at) i o h p q d) = still x y refl refl refl
  effect x y (Takes a j e seq (InEpoch.ClockTime at) i o h p q d) = still x y refl refl refl
  effect x y (Acks j p) = still x y refl refl refl
  effect x y (IsAcked j next p h) = still x y refl refl refl
  effect x y (Pays s u a m w lt) = still x y refl refl refl
  effect x y (Owes ss a h) = still x y refl refl refl
  effect x y (SendsTime u a i w) = still x y refl refl refl
  effect x y (SendsAgain j g a m h) = still x y refl refl refl
  effect x y (SendsControl j c h) = told_still c j x
  effect x y (Gathers a p i o) = still x y refl refl refl
  effect x y (Suspends h) = one _ (λ f q o. absurd (cc)) x y refl refl refl
  effect x y (Collects ms asked h s) = still x y refl refl refl
  effect x y (TakesPage ms pages e after p q h m i w) = still x y refl refl refl
  effect x y (Completes ms pages q h w) = still x y refl refl refl
  effect x y (Refrains d) = still x y refl refl refl
  effect x y (GivesUp own seen q) = still x y refl refl refl
  effect x y (Asks own seen b q by lt) = one _ (λ f i o. absurd (cc)) x y refl refl refl
  effect x y (CountsAnswer b own answers a q i h) = still x y refl refl refl
  effect x y (Proposes b own answers q h) = still x y refl refl refl
  effect x y (IsPreempted b own value acceptors top answers q h) = still x y refl refl refl
  effect x y (AcceptsOwn b own value acceptors q h i j) = one _ (λ f s o. absurd (cc)) x y refl refl refl
  effect x y (CountsVote b own value acceptors j q v) = still x y refl refl refl
  effect x y (Promises j b h lt) = one _ (λ f q o. absurd (cc)) x y refl refl refl
  effect x y (Accepts j b d h i l m) = one _ (λ f q o. absurd (cc)) x y refl refl refl
  effect x y (Chooses b own d acceptors q h) = one _ (λ f s o. absurd (cc)) x y refl refl refl
  effect x y (Learns j d h lt) = one _ (λ f q o. absurd (cc)) x y refl refl refl
  effect x y (AdoptsTail d h i j) = one _ (λ f q o. absurd (cc)) x y refl refl refl
  effect x y (AdoptsPage j e from es h i l) = one _ (λ f q o. absurd (cc)) x y refl refl refl
  effect x y (Enters h) = one _ (λ f q o. absurd (cc)) x y refl refl refl
