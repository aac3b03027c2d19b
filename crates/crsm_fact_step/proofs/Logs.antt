-- The effect of changes on a replica's log, numbers and times.
use Rattle.std.proofs.Common.{◌≡◌, ℕ, ◌+◌, ◌<◌, List, [], ◌∷◌, ◌++◌, refl, sym, ◌∙◌, subst, inl, inr, Bool, true, false, cond, arith, max}
use Rattle.std.specs.Prelude.{◌⊎◌, IsTrue, Option, Some, None, ◌&&◌, unwrap_or}
use Rattle.std.proofs.lemmas.Bool.{and_parts}
use Rattle.std.proofs.lemmas.Option.{none-some, same_Some}
use Rattle.crsm_spec.specs.Choice.{when◌then◌otherwise◌}
use Rattle.crsm_spec.specs.Clock.{issue}
use Rattle.crsm_spec.specs.Types.{Entry, Rec, InEpoch, Control}
use Rattle.crsm_spec.specs.Lists.{first_of}
use Rattle.crsm_spec.specs.Log.{executed}
use Rattle.crsm_spec.specs.Fits.{fits}
use Rattle.crsm_spec.specs.Replica.{Replica, Waiting, last_issued}
use Rattle.crsm_spec.specs.Draft.{Draft, begun, keep, noting, send, reply, count_vote, issued_at, push_to_members, push_to, send_control, would}
use Rattle.crsm_spec.specs.Clients.{refuse, submit, await, replies, answer_each, answer_found, reply_ok, reply_dropped, find_executed}
use Rattle.crsm_spec.specs.Frames.{take_frame, receive, owe, ack, pay, owing, again_frame}
use Rattle.crsm_spec.specs.Coordinate.{forget_epoch}
use Rattle.crsm_spec.specs.Step.{Input, step}
use Rattle.crsm_fact_step.specs.Changes.{Change, Changes, stay, and_then}
use Rattle.crsm_fact_step.specs.Changes.Change.{Submits, Refuses, Commits, Replies, Takes, Acks, IsAcked, Pays, Owes, SendsTime, SendsAgain, SendsControl, Gathers, Suspends, Collects, TakesPage, Completes, Refrains, GivesUp, Asks, CountsAnswer, Proposes, IsPreempted, AcceptsOwn, CountsVote, Promises, Accepts, Chooses, Learns, AdoptsTail, AdoptsPage, Enters}
use Rattle.crsm_fact_log.specs.Logs.{Extends, same, more, AllFit}
use Rattle.crsm_fact_step.specs.Steps.{RisesTo}
use Rattle.crsm_fact_step.proofs.Fitted.{step_changes}
use Rattle.crsm_fact_log.proofs.Logged.{extends_trans}

-- ---- one record, or none

-- what a change does to the log: nothing, or one more record, which fits where the draft then does
pub data LogChange (x y : Draft) : Type 0 where
  NoRecord : y.replica.log ≡ x.replica.log → LogChange x y
  OneRecord : (rec : Rec) → y.replica.log ≡ rec ∷ x.replica.log → y.fitting ≡ (x.fitting && fits x.replica.me x.replica.n x.replica.log rec) → LogChange x y

-- The same with the batch and the replica's numbers: these stand, and a record that is logged is the batch's last.
pub data RecordChange (x y : Draft) : Type 0 where
  NothingKept : y.replica.me ≡ x.replica.me → y.replica.n ≡ x.replica.n → y.replica.log ≡ x.replica.log → y.batch ≡ x.batch → RecordChange x y
  OneKept : (rec : Rec) → y.replica.me ≡ x.replica.me → y.replica.n ≡ x.replica.n → y.replica.log ≡ rec ∷ x.replica.log → y.batch ≡ x.batch ++ rec ∷ [] →
      y.fitting ≡ (x.fitting && fits x.replica.me x.replica.n x.replica.log rec) → RecordChange x y

-- the numbers and the log of a replica, its times and the batch
pub record IsStill (x y : Draft) : Type 0 where
  pub me : y.replica.me ≡ x.replica.me
  pub n : y.replica.n ≡ x.replica.n
  pub log : y.replica.log ≡ x.replica.log
  pub issued : y.replica.issued ≡ x.replica.issued
  pub batch : y.batch ≡ x.batch

still : (x : Draft) → IsStill x x
still x = record { me = refl; n = refl; log = refl; issued = refl; batch = refl }

still_when : (c : Bool) (a b x : Draft) → IsStill x a → IsStill x b → IsStill x (when c then a otherwise b)
unfolding when◌then◌otherwise◌
still_when true a b x p q = p
still_when false a b x p q = q

still_then : {x y z : Draft} → IsStill x y → IsStill y z → IsStill x z
still_then p q = record { me = q.me ∙ p.me; n = q.n ∙ p.n; log = q.log ∙ p.log; issued = q.issued ∙ p.issued; batch = q.batch ∙ p.batch }

still_change : {x y : Draft} → IsStill x y → RecordChange x y
still_change s = NothingKept s.me s.n s.log s.batch

pub send_still : (c : Control) (k : ℕ) (x : Draft) → IsStill x (send_control c x k)
unfolding send_control
send_still c k x = still_when _ _ _ x (still x) (record { me = refl; n = refl; log = refl; issued = refl; batch = refl })

found_still : (w : Waiting) (p : Option (ℕ × Entry)) (x : Draft) → IsStill x (answer_found w p x)
unfolding answer_found reply_ok reply_dropped reply
found_still w (Some p) x = record { me = refl; n = refl; log = refl; issued = refl; batch = refl }
found_still w None x =
    still_when _ _ _ x (record { me = refl; n = refl; log = refl; issued = refl; batch = refl }) (record { me = refl; n = refl; log = refl; issued = refl; batch = refl })

each_still : (ws : List Waiting) (x : Draft) → IsStill x (answer_each ws x)
unfolding answer_each
each_still [] x = still x
each_still (w ∷ ws) x = still_then (found_still w (find_executed (executed x.replica.log) w.entry) x) (each_still ws _)

pub replies_still : (x : Draft) → IsStill x (replies x)
unfolding replies
replies_still x =
    let y = record x { replica = record x.replica { waiting = [] } } in
    still_then {y = y} (record { me = refl; n = refl; log = refl; issued = refl; batch = refl }) (each_still x.replica.waiting y)

module _ (r : Replica) (input : Input) (reading : ℕ) where
  pub record_change : (x y : Draft) → Change r input reading x y → RecordChange x y
  unfolding submit refuse await push_to_members push_to count_vote issued_at keep noting reply send take_frame receive owe ack pay owing again_frame forget_epoch
  record_change x y (Submits a c t i h w) = OneKept _ refl refl refl refl refl
  record_change x y (Refuses a c why i h) = NothingKept refl refl refl refl
  record_change x y (Commits e a h w) = OneKept _ refl refl refl refl refl
  record_change x y Replies = still_change (replies_still x)
  record_change x y (Takes a k e seq (InEpoch.Prepare g) i o h p n d) = OneKept _ refl refl refl refl refl
  record_change x y (Takes a k e seq (InEpoch.PrepareOk s at) i o h p n d) = NothingKept refl refl refl refl
  record_change x y (Takes a k e seq (InEpoch.ClockTime at) i o h p n d) = NothingKept refl refl refl refl
  record_change x y (Acks k p) = NothingKept refl refl refl refl
  record_change x y (IsAcked k next p h) = NothingKept refl refl refl refl
  record_change x y (Pays s t a m w lt) = NothingKept refl refl refl refl
  record_change x y (Owes ss a h) = NothingKept refl refl refl refl
  record_change x y (SendsTime t a i w) = NothingKept refl refl refl refl
  record_change x y (SendsAgain k g a m h) = NothingKept refl refl refl refl
  record_change x y (SendsControl k c h) = still_change (send_still c k x)
  record_change x y (Gathers a p i o) = NothingKept refl refl refl refl
  record_change x y (Suspends h) = OneKept _ refl refl refl refl refl
  record_change x y (Collects ms asked h s) = NothingKept refl refl refl refl
  record_change x y (TakesPage ms pages e after p n h m i w) = NothingKept refl refl refl refl
  record_change x y (Completes ms pages n h w) = NothingKept refl refl refl refl
  record_change x y (Refrains d) = NothingKept refl refl refl refl
  record_change x y (GivesUp own seen n) = NothingKept refl refl refl refl
  record_change x y (Asks own seen b n by lt) = OneKept _ refl refl refl refl refl
  record_change x y (CountsAnswer b own answers a n i h) = NothingKept refl refl refl refl
  record_change x y (Proposes b own answers n h) = NothingKept refl refl refl refl
  record_change x y (IsPreempted b own value acceptors top answers n h) = NothingKept refl refl refl refl
  record_change x y (AcceptsOwn b own value acceptors n h i j) = OneKept _ refl refl refl refl refl
  record_change x y (CountsVote b own value acceptors k n v) = NothingKept refl refl refl refl
  record_change x y (Promises k b h lt) = OneKept _ refl refl refl refl refl
  record_change x y (Accepts k b d h i j l) = OneKept _ refl refl refl refl refl
  record_change x y (Chooses b own d acceptors n h) = OneKept _ refl refl refl refl refl
  record_change x y (Learns k d h lt) = OneKept _ refl refl refl refl refl
  record_change x y (AdoptsTail d h i j) = OneKept _ refl refl refl refl refl
  record_change x y (AdoptsPage k e from es h i j) = OneKept _ refl refl refl refl refl
  record_change x y (Enters h) = OneKept _ refl refl refl refl refl

  pub log_change : (x y : Draft) → Change r input reading x y → LogChange x y
  log_change x y c = go (record_change x y c)
    where
      go : RecordChange x y → LogChange x y
      go (NothingKept me n log batch) = NoRecord log
      go (OneKept rec me n log batch fit) = OneRecord rec log fit

  -- a replica keeps its numbers
  pub numbers_stay : (x y : Draft) → Change r input reading x y → (y.replica.me ≡ x.replica.me) × (y.replica.n ≡ x.replica.n)
  numbers_stay x y c = go (record_change x y c)
    where
      go : RecordChange x y → (y.replica.me ≡ x.replica.me) × (y.replica.n ≡ x.replica.n)
      go (NothingKept me n log batch) = (me, n)
      go (OneKept rec me n log batch fit) = (me, n)

  -- ---- times

  -- the times after a change: the same, none, or one more that was issued at the reading
  pub times_change : (x y : Draft) → Change r input reading x y →
      (y.replica.issued ≡ x.replica.issued) ⊎ ((y.replica.issued ≡ []) ⊎ ((t : ℕ) × (y.replica.issued ≡ t ∷ x.replica.issued) × (would x reading ≡ Some t)))
  unfolding submit refuse await push_to_members push_to count_vote issued_at keep noting reply send take_frame receive owe ack pay owing again_frame forget_epoch
  times_change x y (Submits a c t i h w) = inr (inr (t, refl, w))
  times_change x y (Pays s t a m w lt) = inr (inr (t, refl, w))
  times_change x y (SendsTime t a i w) = inr (inr (t, refl, w))
  times_change x y (SendsControl k c h) = inl (send_still c k x).issued
  times_change x y Replies = inl (replies_still x).issued
  times_change x y (Takes a k e seq (InEpoch.Prepare g) i o h p n d) = inl refl
  times_change x y (Takes a k e seq (InEpoch.PrepareOk s at) i o h p n d) = inl refl
  times_change x y (Takes a k e seq (InEpoch.ClockTime at) i o h p n d) = inl refl
  times_change x y (Chooses b own d acceptors n h) = inr (inl refl)
  times_change x y (Learns k d h lt) = inr (inl refl)
  times_change x y (Enters h) = inr (inl refl)
  times_change x y _ = inl refl

-- ---- logs grow, and their records fit

pub change_grows : (x y : Draft) → LogChange x y → Extends x.replica.log y.replica.log
change_grows x y (NoRecord e) = subst (Extends x.replica.log) (sym e) same
change_grows x y (OneRecord rec e f) = subst (Extends x.replica.log) (sym e) (more rec same)

pub changes_grow : {r : Replica} {input : Input} {reading : ℕ} {x y : Draft} → Changes r input reading x y → Extends x.replica.log y.replica.log
changes_grow stay = same
changes_grow {r} {input} {reading} (and_then {y = y} {z = z} p c f) = extends_trans (changes_grow p) (change_grows y z (log_change r input reading y z c))

pub change_fits : (x y : Draft) → y.replica.me ≡ x.replica.me → y.replica.n ≡ x.replica.n → LogChange x y → IsTrue y.fitting → AllFit x.replica.me x.replica.n x.replica.log → AllFit y.replica.me y.replica.n y.replica.log
change_fits x y me n c f h = subst (λ k. AllFit k y.replica.n y.replica.log) (sym me) (subst (λ k. AllFit x.replica.me k y.replica.log) (sym n) (go c))
  where
    go : LogChange x y → AllFit x.replica.me x.replica.n y.replica.log
    go (NoRecord e) = subst (AllFit x.replica.me x.replica.n) (sym e) h
    go (OneRecord rec e g) = subst (AllFit x.replica.me x.replica.n) (sym e) ((and_parts x.fitting _ (sym g ∙ f)).1, h)

changes_fit : {r : Replica} {input : Input} {reading : ℕ} {x y : Draft} → Changes r input reading x y → AllFit x.replica.me x.replica.n x.replica.log → AllFit y.replica.me y.replica.n y.replica.log
changes_fit stay h = h
changes_fit {r} {input} {reading} (and_then {y = y} {z = z} p c f) h =
    let e = numbers_stay r input reading y z c in change_fits y z e.0 e.1 (log_change r input reading y z c) f (changes_fit p h)

pub changes_numbers : {r : Replica} {input : Input} {reading : ℕ} {x y : Draft} → Changes r input reading x y → (y.replica.me ≡ x.replica.me) × (y.replica.n ≡ x.replica.n)
changes_numbers stay = (refl, refl)
changes_numbers {r} {input} {reading} (and_then {y = y} {z = z} p c f) =
    let e = numbers_stay r input reading y z c in let g = changes_numbers p in (e.0 ∙ g.0, e.1 ∙ g.1)

pub steps_grow : (r : Replica) (input : Input) (reading : ℕ) → Extends r.log (step r input reading).replica.log
unfolding begun
steps_grow r input reading = changes_grow (step_changes r input reading)

pub steps_fit : (r : Replica) (input : Input) (reading : ℕ) → AllFit r.me r.n r.log → AllFit r.me r.n (step r input reading).replica.log
unfolding begun
steps_fit r input reading h =
    let z = step r input reading in
    let c = step_changes r input reading in
    let e = changes_numbers c in
    subst (λ k. AllFit k r.n z.replica.log) e.0 (subst (λ k. AllFit z.replica.me k z.replica.log) e.1 (changes_fit c h))

-- ---- times rise

later : (last reading t : ℕ) (b : Bool) → cond b None (Some (max reading (last + 1))) ≡ Some t → last < t
later last reading t true h = absurd (none-some t h)
later last reading t false h = let e = same_Some _ t h in omega (arith, e)

rises_more : (x : Draft) (reading t : ℕ) → would x reading ≡ Some t → RisesTo x.replica.issued → RisesTo (t ∷ x.replica.issued)
unfolding would issue last_issued first_of
rises_more x reading t w h = go x.replica.issued (later (unwrap_or (first_of x.replica.issued) 0) reading t _ w) h
  where
    go : (us : List ℕ) → unwrap_or (first_of us) 0 < t → RisesTo us → RisesTo (t ∷ us)
    go [] lt h = tt
    go (u ∷ us) lt h = (lt, h)

changes_rise : {r : Replica} {input : Input} {reading : ℕ} {x y : Draft} → Changes r input reading x y → RisesTo x.replica.issued → RisesTo y.replica.issued
changes_rise stay h = h
changes_rise {r} {input} {reading} (and_then {y = y} {z = z} p c f) h =
    let g = changes_rise p h in
    elim (times_change r input reading y z c) [
      | inl e ↦ subst RisesTo (sym e) g
      | inr w ↦ elim w [ inl e ↦ subst RisesTo (sym e) tt | inr v ↦ subst RisesTo (sym v.1) (rises_more y reading v.0 v.2 g) ]
    ]

pub times_rise : (r : Replica) (input : Input) (reading : ℕ) → RisesTo r.issued → RisesTo (step r input reading).replica.issued
unfolding begun
times_rise r input reading h = changes_rise (step_changes r input reading) h
