-- After a step no client waits whose entry is executed or dropped.
use Rattle.std.proofs.Common.{◌≡◌, ℕ, ◌≤◌, List, [], ◌∷◌, ◌++◌, length, refl, sym, ◌∙◌, ap, subst, inl, inr, Bool, true, false, arith, length-append}
use Rattle.std.specs.Prelude.{◌⊎◌, IsTrue, Option, Some, None, nat_lt, nat_le, ◌&&◌, option_to_list}
use Rattle.std.proofs.lemmas.Bool.{and_parts, false≢true, ltb-false, le-leb}
use Rattle.crsm_spec.specs.Choice.{when◌then◌otherwise◌}
use Rattle.crsm_spec.specs.Types.{Entry, Rec, InEpoch, Control}
use Rattle.crsm_spec.specs.Lists.{Among}
use Rattle.crsm_spec.specs.Log.{Log, known, start, decision, executed, entry_of, live, active}
use Rattle.crsm_spec.specs.Fits.{fits}
use Rattle.crsm_spec.specs.Replica.{Replica, Waiting}
use Rattle.crsm_spec.specs.Draft.{Draft, begun, keep, noting, send, reply, count_vote, issued_at, push_to_members, push_to, send_control}
use Rattle.crsm_spec.specs.Clients.{refuse, submit, await, commits, replies, answer_each, answer_found, reply_ok, reply_dropped, find_executed, is_dropped}
use Rattle.crsm_spec.specs.Frames.{take_frame, receive, owe, ack, pay, owing, again_frame, owed_oks}
use Rattle.crsm_spec.specs.Coordinate.{forget_epoch}
use Rattle.crsm_spec.specs.Step.{Input, step, if_fitting, on_input, idle_at}
use Rattle.crsm_fact_step.specs.Changes.{Change, Changes, stay, and_then}
use Rattle.crsm_fact_step.specs.Changes.Change.{Submits, Refuses, Commits, Replies, Takes, Acks, IsAcked, Pays, Owes, SendsTime, SendsAgain, SendsControl, Gathers, Suspends, Collects, TakesPage, Completes, Refrains, GivesUp, Asks, CountsAnswer, Proposes, IsPreempted, AcceptsOwn, CountsVote, Promises, Accepts, Chooses, Learns, AdoptsTail, AdoptsPage, Enters}
use Rattle.crsm_fact_step.proofs.Logs.{log_change, change_grows, changes_numbers, steps_fit}
use Rattle.crsm_fact_step.proofs.Fitted.{step_changes}
use Rattle.crsm_fact_log.specs.Logs.{Extends, same, more, AllFit, Logged}
use Rattle.crsm_fact_log.proofs.Logged.{prepare_known, decide_above}
use Rattle.crsm_fact_log.proofs.Lists.{among_either}
use Rattle.crsm_law_collection.proofs.Orderly.{enter_fit}
use Rattle.crsm_law_active.proofs.Ending.{by_when, found_replied, each_replied}
use Rattle.crsm_law_active.proofs.Execute.{steps_execute}
use Rattle.crsm_law_active.specs.Served.{WaitsRightly, IsDone}

-- ---- logs

-- an entry is of the known epoch or an earlier one
pub logged_epoch_low : (me n : ℕ) (log : Log) (f : Entry) → AllFit me n log → Logged log f → f.epoch ≤ known log
unfolding known decision
logged_epoch_low me n [] f h m = absurd m
logged_epoch_low me n (Rec.Decide d ∷ log) f h (inr m) = let t = logged_epoch_low me n log f h.1 m in let u = decide_above me n log d h.0 in omega (arith, t, u)
logged_epoch_low me n (Rec.Decide d ∷ log) f h (inl e) = absurd (cc)
logged_epoch_low me n (Rec.Prepare g ∷ log) f h (inr m) = logged_epoch_low me n log f h.1 m
logged_epoch_low me n (Rec.Prepare g ∷ log) f h (inl e) = let t = (prepare_known me n log f (subst (λ z. IsTrue (fits me n log z)) e h.0)).0 in omega (arith, t)
logged_epoch_low me n (Rec.Enter x ∷ log) f h (inr m) = logged_epoch_low me n log f h.1 m
logged_epoch_low me n (Rec.Enter x ∷ log) f h (inl e) = absurd (cc)
logged_epoch_low me n (Rec.Boot i j ∷ log) f h (inr m) = logged_epoch_low me n log f h.1 m
logged_epoch_low me n (Rec.Boot i j ∷ log) f h (inl e) = absurd (cc)
logged_epoch_low me n (Rec.Commit s ∷ log) f h (inr m) = logged_epoch_low me n log f h.1 m
logged_epoch_low me n (Rec.Commit s ∷ log) f h (inl e) = absurd (cc)
logged_epoch_low me n (Rec.Adopt p es ∷ log) f h (inr m) = logged_epoch_low me n log f h.1 m
logged_epoch_low me n (Rec.Adopt p es ∷ log) f h (inl e) = absurd (cc)
logged_epoch_low me n (Rec.Suspend x ∷ log) f h (inr m) = logged_epoch_low me n log f h.1 m
logged_epoch_low me n (Rec.Suspend x ∷ log) f h (inl e) = absurd (cc)
logged_epoch_low me n (Rec.Promise i b ∷ log) f h (inr m) = logged_epoch_low me n log f h.1 m
logged_epoch_low me n (Rec.Promise i b ∷ log) f h (inl e) = absurd (cc)
logged_epoch_low me n (Rec.Accept i b d ∷ log) f h (inr m) = logged_epoch_low me n log f h.1 m
logged_epoch_low me n (Rec.Accept i b d ∷ log) f h (inl e) = absurd (cc)

longer : {A : Type 0} (xs ys : List A) (m : ℕ) → m ≤ length xs → m ≤ length (xs ++ ys)
longer xs ys m le = let e = length-append xs ys in omega (arith, le, e)

-- who runs in an epoch has executed what it begins with
pub live_started : (me n : ℕ) (log : Log) → AllFit me n log → IsTrue (live log) → start log ≤ length (executed log)
unfolding live start decision executed
live_started me n [] h l = absurd (false≢true l)
live_started me n (Rec.Enter x ∷ log) h l = let e = enter_fit me n log x h.0 in omega (arith, e)
live_started me n (Rec.Boot i j ∷ log) h l = absurd (false≢true l)
live_started me n (Rec.Decide d ∷ log) h l = absurd (false≢true l)
live_started me n (Rec.Prepare f ∷ log) h l = live_started me n log h.1 l
live_started me n (Rec.Commit s ∷ log) h l = longer (executed log) (option_to_list (entry_of log s)) (start log) (live_started me n log h.1 l)
live_started me n (Rec.Adopt p es ∷ log) h l = longer (executed log) es (start log) (live_started me n log h.1 l)
live_started me n (Rec.Suspend x ∷ log) h l = live_started me n log h.1 l
live_started me n (Rec.Promise i b ∷ log) h l = live_started me n log h.1 l
live_started me n (Rec.Accept i b d ∷ log) h l = live_started me n log h.1 l

active_is_live : (log : Log) → IsTrue (active log) → IsTrue (live log)
unfolding active
active_is_live log a = (and_parts (live log) _ a).0

-- ---- who waits after the replies

-- c is asked for and not served
record StaysOpen (ws : List Waiting) (x : Draft) (c : Waiting) : Type 0 where
  one : Among ws c
  none : find_executed (executed x.replica.log) c.entry ≡ None
  kept : is_dropped x.replica c.entry ≡ false

found_waits : (w : Waiting) (o : Option (ℕ × Entry)) (x : Draft) (c : Waiting) → find_executed (executed x.replica.log) w.entry ≡ o → Among (answer_found w o x).replica.waiting c →
    Among x.replica.waiting c ⊎ StaysOpen (w ∷ []) x c
unfolding answer_found reply_ok reply_dropped reply when◌then◌otherwise◌
found_waits w (Some p) x c e m = inl m
found_waits w None x c e m = go (is_dropped x.replica w.entry) refl m
  where
    go : (b : Bool) → is_dropped x.replica w.entry ≡ b → Among (when b then reply_dropped w x otherwise record x { replica = record x.replica { waiting = x.replica.waiting ++ w ∷ [] } }).replica.waiting c →
        Among x.replica.waiting c ⊎ StaysOpen (w ∷ []) x c
    go true q h = inl h
    go false q h = elim (among_either x.replica.waiting (w ∷ []) c h) [
      | inl a ↦ inl a
      | inr a ↦ elim a [
        | inl i ↦ inr (record { one = inl i; none = subst (λ (z : Waiting). find_executed (executed x.replica.log) z.entry ≡ None) i e; kept = subst (λ (z : Waiting). is_dropped x.replica z.entry ≡ false) i q })
        | inr i ↦ absurd i
      ]
    ]

same_dropped : (x y : Draft) (c : Waiting) → y.replica.log ≡ x.replica.log → is_dropped y.replica c.entry ≡ is_dropped x.replica c.entry
unfolding is_dropped
same_dropped x y c e = ap (λ l. nat_le (start l) (length (executed l)) && nat_lt c.entry.epoch (known l)) e

each_waits : (ws : List Waiting) (x : Draft) (c : Waiting) → Among (answer_each ws x).replica.waiting c → Among x.replica.waiting c ⊎ StaysOpen ws x c
unfolding answer_each
each_waits [] x c m = inl m
each_waits (w ∷ ws) x c m =
    let y = answer_found w (find_executed (executed x.replica.log) w.entry) x in
    let log = (found_replied w (find_executed (executed x.replica.log) w.entry) x).log in
    elim (each_waits ws y c m) [
      | inl a ↦ elim (found_waits w (find_executed (executed x.replica.log) w.entry) x c refl a) [
        | inl b ↦ inl b
        | inr b ↦ inr (record { one = elim b.one [ inl i ↦ inl i | inr i ↦ absurd i ]; none = b.none; kept = b.kept })
      ]
      | inr b ↦ inr (record { one = inr b.one; none = ap (λ l. find_executed (executed l) c.entry) (sym log) ∙ b.none; kept = sym (same_dropped x y c log) ∙ b.kept })
    ]

-- who waits after replies is not served
pub replies_wait : (x : Draft) (c : Waiting) → Among (replies x).replica.waiting c →
    Among x.replica.waiting c × (find_executed (executed (replies x).replica.log) c.entry ≡ None) × (is_dropped (replies x).replica c.entry ≡ false)
unfolding replies
replies_wait x c m =
    let y = record x { replica = record x.replica { waiting = [] } } in
    let log = (each_replied x.replica.waiting y).log in
    elim (each_waits x.replica.waiting y c m) [
      | inl a ↦ absurd a
      | inr b ↦ (b.one, ap (λ l. find_executed (executed l) c.entry) log ∙ b.none, same_dropped y (answer_each x.replica.waiting y) c log ∙ b.kept)
    ]

-- ---- whose entry it is

control_waits : (c : Control) (k : ℕ) (x : Draft) (w : Waiting) → Among (send_control c x k).replica.waiting w → Among x.replica.waiting w
unfolding send_control
control_waits c k x w = by_when (λ y. Among y.replica.waiting w → Among x.replica.waiting w) _ _ _ (λ m. m) (λ m. m)

module _ (r : Replica) (input : Input) (reading : ℕ) where
  -- who waits after a change has waited, or is a client whose own entry was logged by it
  waits_change : (x y : Draft) → Change r input reading x y → (c : Waiting) → Among y.replica.waiting c → Among x.replica.waiting c ⊎ (Logged y.replica.log c.entry × (c.entry.stamp.origin ≡ x.replica.me))
  unfolding submit refuse await push_to_members push_to count_vote issued_at keep noting reply send take_frame receive owe ack pay owing again_frame forget_epoch
  waits_change x y (Submits a d t i h w) c m = elim (among_either x.replica.waiting _ c m) [
    | inl o ↦ inl o
    | inr o ↦ elim o [ inl e ↦ inr (inl (ap (λ (z : Waiting). Rec.Prepare z.entry) e), sym (ap (λ (z : Waiting). z.entry.stamp.origin) e)) | inr q ↦ absurd q ]
  ]
  waits_change x y Replies c m = inl (replies_wait x c m).0
  waits_change x y (Takes a k e seq (InEpoch.Prepare g) i o h p n d) c m = inl m
  waits_change x y (Takes a k e seq (InEpoch.PrepareOk s at) i o h p n d) c m = inl m
  waits_change x y (Takes a k e seq (InEpoch.ClockTime at) i o h p n d) c m = inl m
  waits_change x y (SendsControl k d h) c m = inl (control_waits d k x c m)
  waits_change x y (Refuses a d why i h) c m = inl m
  waits_change x y (Commits e a h w) c m = inl m
  waits_change x y (Acks k p) c m = inl m
  waits_change x y (IsAcked k next p h) c m = inl m
  waits_change x y (Pays s t a q w lt) c m = inl m
  waits_change x y (Owes ss a h) c m = inl m
  waits_change x y (SendsTime t a i w) c m = inl m
  waits_change x y (SendsAgain k g a q h) c m = inl m
  waits_change x y (Gathers a p i o) c m = inl m
  waits_change x y (Suspends h) c m = inl m
  waits_change x y (Collects ms asked h s) c m = inl m
  waits_change x y (TakesPage ms pages e after p n h q i w) c m = inl m
  waits_change x y (Completes ms pages n h w) c m = inl m
  waits_change x y (Refrains d) c m = inl m
  waits_change x y (GivesUp own seen n) c m = inl m
  waits_change x y (Asks own seen b n by lt) c m = inl m
  waits_change x y (CountsAnswer b own answers a n i h) c m = inl m
  waits_change x y (Proposes b own answers n h) c m = inl m
  waits_change x y (IsPreempted b own value acceptors top answers n h) c m = inl m
  waits_change x y (AcceptsOwn b own value acceptors n h i j) c m = inl m
  waits_change x y (CountsVote b own value acceptors k n v) c m = inl m
  waits_change x y (Promises k b h lt) c m = inl m
  waits_change x y (Accepts k b d h i j l) c m = inl m
  waits_change x y (Chooses b own d acceptors n h) c m = inl m
  waits_change x y (Learns k d h lt) c m = inl m
  waits_change x y (AdoptsTail d h i j) c m = inl m
  waits_change x y (AdoptsPage k e from es h i j) c m = inl m
  waits_change x y (Enters h) c m = inl m

  logged_on : {a b : Log} (f : Entry) → Extends a b → Logged a f → Logged b f
  logged_on f same h = h
  logged_on f (more rec p) h = inr (logged_on f p h)

  waits_changes : {x y : Draft} → Changes r input reading x y → ((c : Waiting) → Among x.replica.waiting c → Logged x.replica.log c.entry × (c.entry.stamp.origin ≡ x.replica.me)) →
      (c : Waiting) → Among y.replica.waiting c → Logged y.replica.log c.entry × (c.entry.stamp.origin ≡ x.replica.me)
  waits_changes stay h c m = h c m
  waits_changes {x} (and_then {y = y} {z = z} p d f) h c m =
      elim (waits_change y z d c m) [
        | inl o ↦ (let t = waits_changes p h c o in (logged_on c.entry (change_grows y z (log_change r input reading y z d)) t.0, t.1))
        | inr o ↦ (o.0, o.1 ∙ (changes_numbers p).0)
      ]

not_below : (a b : ℕ) (c : Bool) → c ≡ true → (c && nat_lt a b) ≡ false → b ≤ a
not_below a b true e h = ltb-false a b h
not_below a b false e h = absurd (false≢true e)

open_dropped : (r : Replica) (c : Waiting) → is_dropped r c.entry ≡ false → (nat_le (start r.log) (length (executed r.log)) && nat_lt c.entry.epoch (known r.log)) ≡ false
unfolding is_dropped
open_dropped r c h = h

step_waits : (r : Replica) (input : Input) (reading : ℕ) (c : Waiting) → Among (step r input reading).replica.waiting c →
    (find_executed (executed (step r input reading).replica.log) c.entry ≡ None) × (is_dropped (step r input reading).replica c.entry ≡ false)
unfolding step
step_waits r input reading c m =
    let t = replies_wait (commits (idle_at input reading (owed_oks reading (if_fitting (begun r) (on_input input reading (begun r)))))) c m in
    (t.1, t.2)

-- after a step nothing is left to do
pub step_done : (k : ℕ) (r : Replica) (input : Input) (reading : ℕ) → r.me ≡ k → AllFit r.me r.n r.log → ((c : Waiting) → Among r.waiting c → WaitsRightly k r c) →
    IsDone k (step r input reading).replica
unfolding begun
step_done k r input reading me fit waits = record {
  idle = λ a. steps_execute r input reading fit a;
  waits = λ c m.
      let z = step r input reading in
      let t = waits_changes r input reading (step_changes r input reading) (λ d q. ((waits d q).logged, (waits d q).own ∙ sym me)) c m in
      let u = ended c m in
      record { logged = t.0; own = t.1 ∙ me; pending = u.0; epoch = λ a. epoch_is c t.0 u.1 a };
}
  where
    ended : (c : Waiting) → Among (step r input reading).replica.waiting c → (find_executed (executed (step r input reading).replica.log) c.entry ≡ None) × (is_dropped (step r input reading).replica c.entry ≡ false)
    ended c m = step_waits r input reading c m

    fit_now : AllFit r.me r.n (step r input reading).replica.log
    fit_now = steps_fit r input reading fit

    epoch_is : (c : Waiting) → Logged (step r input reading).replica.log c.entry → is_dropped (step r input reading).replica c.entry ≡ false → IsTrue (active (step r input reading).replica.log) →
        c.entry.epoch ≡ known (step r input reading).replica.log
    epoch_is c l d a =
        let log = (step r input reading).replica.log in
        let low = logged_epoch_low r.me r.n log c.entry fit_now l in
        let started = live_started r.me r.n log fit_now (active_is_live log a) in
        let high = not_below c.entry.epoch (known log) (nat_le (start log) (length (executed log))) (le-leb (start log) (length (executed log)) started) (open_dropped (step r input reading).replica c d) in
        omega (arith, low, high)
