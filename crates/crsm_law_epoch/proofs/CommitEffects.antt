-- The effect of each change of a step on the log and the times, in the few cases that witnesses distinguish.
use Rattle.std.proofs.Common.{◌≡◌, ℕ, ◌∷◌, refl, sym, ◌∙◌, ap, subst, inr, Bool, true, false}
use Rattle.std.specs.Prelude.{IsTrue, Option, Some, None, ◌&&◌, ◌||◌, not, ◌==◌}
use Rattle.std.proofs.lemmas.Bool.{false≢true, eqb-true}
use Rattle.std.proofs.lemmas.Option.{none-some}
use Rattle.crsm_spec.specs.Choice.{when◌then◌otherwise◌}
use Rattle.crsm_spec.specs.Types.{Entry, Rec, Refusal, InEpoch}
use Rattle.crsm_spec.specs.Lists.{Among, first_of}
use Rattle.crsm_spec.specs.Log.{Log, known, decision, live, suspended, active, unexecuted}
use Rattle.crsm_spec.specs.Fits.{fits}
use Rattle.crsm_spec.specs.Ready.{is_ready}
use Rattle.crsm_spec.specs.Replica.{Replica}
use Rattle.crsm_spec.specs.Draft.{Draft, keep, noting, send, reply, count_vote, issued_at, push_to_members, push_to, would}
use Rattle.crsm_spec.specs.Clients.{refusal, refuse, submit, await}
use Rattle.crsm_spec.specs.Frames.{take_frame, receive, owe, ack, pay, owing, again_frame, is_odd_frame, is_wrong}
use Rattle.crsm_spec.specs.Coordinate.{forget_epoch}
use Rattle.crsm_spec.specs.Step.{Input}
use Rattle.crsm_fact_step.specs.Changes.{Change}
use Rattle.crsm_fact_step.specs.Changes.Change.{Submits, Refuses, Commits, Replies, Takes, Acks, IsAcked, Pays, Owes, SendsTime, SendsAgain, SendsControl, Gathers, Suspends, Collects, TakesPage, Completes, Refrains, GivesUp, Asks, CountsAnswer, Proposes, IsPreempted, AcceptsOwn, CountsVote, Promises, Accepts, Chooses, Learns, AdoptsTail, AdoptsPage, Enters}
use Rattle.crsm_fact_step.proofs.Logs.{send_still, replies_still}
use Rattle.crsm_fact_log.proofs.Tests.{or_parts}

-- the record is no commit, and no entry of k's own
pub record IsForeign (k : ℕ) (rec : Rec) : Type 0 where
  pub entry : (f : Entry) → rec ≡ Rec.Prepare f → f.stamp.origin ≡ k → ⊥
  pub commit : (f : Entry) → rec ≡ Rec.Commit f.stamp → ⊥

pub data Effect (reading : ℕ) (x y : Draft) : Type 0 where
  -- nothing is logged
  Still : y.replica.log ≡ x.replica.log → ((t : ℕ) → Among x.replica.issued t → Among y.replica.issued t) → Effect reading x y
  -- a record within the epoch
  Within : (rec : Rec) → y.replica.log ≡ rec ∷ x.replica.log → IsForeign x.replica.me rec → known (rec ∷ x.replica.log) ≡ known x.replica.log →
      (IsTrue (active (rec ∷ x.replica.log)) → IsTrue (active x.replica.log)) → y.replica.issued ≡ x.replica.issued → Effect reading x y
  -- a record behind which the replica does not run
  Off : (rec : Rec) → y.replica.log ≡ rec ∷ x.replica.log → IsForeign x.replica.me rec → active (rec ∷ x.replica.log) ≡ false → Effect reading x y
  -- the known epoch is entered
  Entered : y.replica.log ≡ Rec.Enter (known x.replica.log) ∷ x.replica.log → IsTrue (fits x.replica.me x.replica.n x.replica.log (Rec.Enter (known x.replica.log))) → Effect reading x y
  -- an own entry
  Stamped : (f : Entry) → y.replica.log ≡ Rec.Prepare f ∷ x.replica.log → f.epoch ≡ known x.replica.log → would x reading ≡ Some f.stamp.time →
      IsTrue (active x.replica.log) → y.replica.issued ≡ f.stamp.time ∷ x.replica.issued → Effect reading x y
  -- a commit
  Executed : (f : Entry) → y.replica.log ≡ Rec.Commit f.stamp ∷ x.replica.log → IsTrue (active x.replica.log) → first_of (unexecuted x.replica.log) ≡ Some f →
      IsTrue (is_ready x.replica f.stamp) → y.replica.issued ≡ x.replica.issued → Effect reading x y

no_entry : (k : ℕ) (rec : Rec) → ((f : Entry) → rec ≡ Rec.Prepare f → ⊥) → ((f : Entry) → rec ≡ Rec.Commit f.stamp → ⊥) → IsForeign k rec
no_entry k rec p q = record { entry = λ f e o. p f e; commit = q }

not_false : (a : Bool) → not a ≡ false → a ≡ true
not_false true e = refl
not_false false e = absurd (false≢true (sym e))

-- an entry that is taken from m is m's own
pub taken_origin : (x : Replica) (m : ℕ) (g : Entry) → is_odd_frame x m (InEpoch.Prepare g) ≡ false → g.stamp.origin ≡ m
unfolding is_odd_frame is_wrong
taken_origin x m g h = eqb-true g.stamp.origin m (not_false (g.stamp.origin == m) (or_parts _ (not (g.stamp.origin == m)) (or_parts _ _ h).1).1)

pub same_entry : (f g : Entry) → Rec.Prepare f ≡ Rec.Prepare g → f ≡ g
same_entry f g e = cc

refused_active : (x : Draft) → refusal x.replica ≡ None → IsTrue (active x.replica.log)
unfolding refusal active when◌then◌otherwise◌
refused_active x h = go (live x.replica.log) (suspended x.replica.log) _ h
  where
    go : (l s : Bool) (o : Option Refusal) → (when not l then Some Refusal.NotLive otherwise when s then Some Refusal.Suspended otherwise o) ≡ None → (l && not s) ≡ true
    go true false o e = refl
    go true true o e = absurd (none-some _ (sym e))
    go false s o e = absurd (none-some _ (sym e))

suspend_off : (e : ℕ) (log : Log) → active (Rec.Suspend e ∷ log) ≡ false
unfolding active live suspended
suspend_off e log = go (live log)
  where
    go : (b : Bool) → (b && not true) ≡ false
    go true = refl
    go false = refl

module _ (r : Replica) (input : Input) (reading : ℕ) where
  pub effect : (x y : Draft) → Change r input reading x y → r.me ≡ x.replica.me → Effect reading x y
  unfolding submit refuse await push_to_members push_to count_vote issued_at keep noting reply send take_frame receive owe ack pay owing again_frame forget_epoch known decision live suspended active
  effect x y (Submits a c t i h w) me = Stamped _ refl refl w (refused_active x h) refl
  effect x y (Refuses a c why i h) me = Still refl (λ t m. m)
  effect x y (Commits e a h w) me = Executed e refl a h w refl
  effect x y Replies me = let s = replies_still x in Still s.log (λ t m. subst (λ l. Among l t) (sym s.issued) m)
  effect x y (Takes a k e seq (InEpoch.Prepare g) i o h p n d) me = Within _ refl
      (record { entry = λ f q own. o (sym (taken_origin x.replica k g d) ∙ ap (λ z. z.stamp.origin) (same_entry g f q) ∙ own ∙ sym me); commit = λ f q. absurd (cc) }) refl (λ b. b) refl
  effect x y (Takes a k e seq (InEpoch.PrepareOk s at) i o h p n d) me = Still refl (λ t m. m)
  effect x y (Takes a k e seq (InEpoch.ClockTime at) i o h p n d) me = Still refl (λ t m. m)
  effect x y (Acks k p) me = Still refl (λ t m. m)
  effect x y (IsAcked k next p h) me = Still refl (λ t m. m)
  effect x y (Pays s t a m w lt) me = Still refl (λ u q. inr q)
  effect x y (Owes ss a h) me = Still refl (λ t m. m)
  effect x y (SendsTime t a i w) me = Still refl (λ u q. inr q)
  effect x y (SendsAgain k g a m h) me = Still refl (λ t m. m)
  effect x y (SendsControl k c h) me = let s = send_still c k x in Still s.log (λ t m. subst (λ l. Among l t) (sym s.issued) m)
  effect x y (Gathers a p i o) me = Still refl (λ t m. m)
  effect x y (Suspends h) me = Off _ refl (no_entry _ _ (λ f q. absurd (cc)) (λ f q. absurd (cc))) (suspend_off (known x.replica.log) x.replica.log)
  effect x y (Collects ms asked h s) me = Still refl (λ t m. m)
  effect x y (TakesPage ms pages e after p n h m i w) me = Still refl (λ t m. m)
  effect x y (Completes ms pages n h w) me = Still refl (λ t m. m)
  effect x y (Refrains d) me = Still refl (λ t m. m)
  effect x y (GivesUp own seen n) me = Still refl (λ t m. m)
  effect x y (Asks own seen b n by lt) me = Within _ refl (no_entry _ _ (λ f q. absurd (cc)) (λ f q. absurd (cc))) refl (λ b. b) refl
  effect x y (CountsAnswer b own answers a n i h) me = Still refl (λ t m. m)
  effect x y (Proposes b own answers n h) me = Still refl (λ t m. m)
  effect x y (IsPreempted b own value acceptors top answers n h) me = Still refl (λ t m. m)
  effect x y (AcceptsOwn b own value acceptors n h i j) me = Within _ refl (no_entry _ _ (λ f q. absurd (cc)) (λ f q. absurd (cc))) refl (λ b. b) refl
  effect x y (CountsVote b own value acceptors k n v) me = Still refl (λ t m. m)
  effect x y (Promises k b h lt) me = Within _ refl (no_entry _ _ (λ f q. absurd (cc)) (λ f q. absurd (cc))) refl (λ b. b) refl
  effect x y (Accepts k b d h i j l) me = Within _ refl (no_entry _ _ (λ f q. absurd (cc)) (λ f q. absurd (cc))) refl (λ b. b) refl
  effect x y (Chooses b own d acceptors n h) me = Off _ refl (no_entry _ _ (λ f q. absurd (cc)) (λ f q. absurd (cc))) refl
  effect x y (Learns k d h lt) me = Off _ refl (no_entry _ _ (λ f q. absurd (cc)) (λ f q. absurd (cc))) refl
  effect x y (AdoptsTail d h i j) me = Within _ refl (no_entry _ _ (λ f q. absurd (cc)) (λ f q. absurd (cc))) refl (λ b. b) refl
  effect x y (AdoptsPage k e from es h i j) me = Within _ refl (no_entry _ _ (λ f q. absurd (cc)) (λ f q. absurd (cc))) refl (λ b. b) refl
  effect x y (Enters h) me = Entered refl h
