-- Each change of a step keeps what its replica has counted.
use Rattle.std.proofs.Common.{◌≡◌, ℕ, ◌+◌, ◌≤◌, List, [], ◌∷◌, ◌++◌, length, refl, sym, ◌∙◌, ap, subst, inl, inr, Bool, true, false, cond, arith, map, max}
use Rattle.std.specs.Prelude.{◌⊎◌, IsTrue, Some, None, not, ◌&&◌, ◌==◌}
use Rattle.std.specs.List.{enumerate_from}
use Rattle.std.proofs.lemmas.Bool.{and_parts, false≢true}
use Rattle.std.proofs.lemmas.Option.{none-some, same_Some}
use Rattle.std.proofs.lemmas.List.{append-nil, map-append}
use Rattle.crsm_base.specs.Messages.{control_bytes}
use Rattle.crsm_spec.specs.Clock.{u64_max, issue}
use Rattle.crsm_spec.specs.Types.{Entry, Command, Rec, InEpoch, Datagram, Control}
use Rattle.crsm_spec.specs.Lists.{Among}
use Rattle.crsm_spec.specs.Log.{Log, known, decision, members, live, suspended, active, boots, has_entered}
use Rattle.crsm_spec.specs.Fits.{fits}
use Rattle.crsm_spec.specs.Parts.{cut}
use Rattle.crsm_spec.specs.Replica.{Replica, members_of, other_members, frames_to, next_from, last_issued}
use Rattle.crsm_spec.specs.Draft.{Draft, keep, noting, send, reply, count_vote, issued_at, push_to_members, push_to, next_frame, parts_to, send_control, would}
use Rattle.crsm_spec.specs.Clients.{refuse, submit, await, replies}
use Rattle.crsm_spec.specs.Frames.{time_of, take_frame, receive, owe, ack, pay, owing, again_frame, is_odd_frame}
use Rattle.crsm_spec.specs.Coordinate.{forget_epoch}
use Rattle.crsm_spec.specs.Step.{Input}
use Rattle.crsm_fact_step.specs.Changes.{Change, Changes, stay, and_then}
use Rattle.crsm_fact_step.specs.Changes.Change.{Submits, Refuses, Commits, Replies, Takes, Acks, IsAcked, Pays, Owes, SendsTime, SendsAgain, SendsControl, Gathers, Suspends, Collects, TakesPage, Completes, Refrains, GivesUp, Asks, CountsAnswer, Proposes, IsPreempted, AcceptsOwn, CountsVote, Promises, Accepts, Chooses, Learns, AdoptsTail, AdoptsPage, Enters}
use Rattle.crsm_fact_step.proofs.Logs.{log_change, change_grows}
use Rattle.crsm_fact_log.specs.Logs.{Extends, AllFit, Logged}
use Rattle.crsm_fact_log.proofs.Logged.{extends_trans, end_fits, prepare_known}
use Rattle.crsm_fact_log.proofs.Lists.{among_left, among_right, among_either}
use Rattle.crsm_law_epoch.specs.Numbers.{Distinct}
use Rattle.crsm_law_epoch.proofs.CommitEffects.{taken_origin}
use Rattle.crsm_law_epoch.proofs.CommitLogs.{enter_new}
use Rattle.crsm_law_epoch.proofs.Drafts.{outs}
use Rattle.crsm_law_epoch.proofs.Kept.{live_entered}
use Rattle.crsm_law_epoch.proofs.Quiet.{IsNoEntry, strip, entered_more}
use Rattle.crsm_law_epoch.proofs.Words.{distinct_filter}
use Rattle.crsm_law_active.proofs.Ending.{all_replied, by_when}
use Rattle.crsm_law_active.specs.Counted.{Counted}
use Rattle.crsm_law_active.proofs.Replicas as of

-- ---- what is so while a replica makes a step

-- of a draft of replica k, where `sent` was sent before the step
pub record Mid (n k : ℕ) (sent : List Datagram) (x : Draft) : Type 0 where
  pub me : x.replica.me ≡ k
  pub size : x.replica.n ≡ n
  pub counts : IsTrue (active x.replica.log) → Counted k x.replica (sent ++ outs x)
  -- its Acks are of epochs that it has entered, and from it
  pub entered : (m e a : ℕ) → Among (sent ++ outs x) (Datagram.Ack k m e a) → IsTrue (has_entered e x.replica.log)
  pub own : (j m e a : ℕ) → Among (outs x) (Datagram.Ack j m e a) → j ≡ k

-- ---- logs

active_live : (log : Log) → IsTrue (active log) → IsTrue (live log)
unfolding active
active_live log a = (and_parts (live log) (not (suspended log)) a).0

-- who logs an entry of an epoch has entered it
pub logged_entered : (me n : ℕ) (log : Log) (f : Entry) → AllFit me n log → Logged log f → IsTrue (has_entered f.epoch log)
logged_entered me n [] f h m = absurd m
logged_entered me n (rec ∷ log) f h (inr m) = entered_more f.epoch rec log (logged_entered me n log f h.1 m)
logged_entered me n (rec ∷ log) f h (inl e) =
    let t = prepare_known me n log f (subst (λ z. IsTrue (fits me n log z)) e h.0) in
    entered_more f.epoch rec log (subst (λ z. IsTrue (has_entered z log)) (sym t.0) (live_entered me n log h.1 (active_live log t.2)).0)

suspend_off : (e : ℕ) (log : Log) → active (Rec.Suspend e ∷ log) ≡ false
unfolding active live suspended
suspend_off e log = go (live log)
  where
    go : (b : Bool) → (b && not true) ≡ false
    go true = refl
    go false = refl

would_later : (x : Draft) (reading t : ℕ) → would x reading ≡ Some t → 1 ≤ t
unfolding would issue
would_later x reading t h = go _ h
  where
    go : (b : Bool) → cond b None (Some (max reading (last_issued x.replica + 1))) ≡ Some t → 1 ≤ t
    go true e = absurd (none-some t e)
    go false e = let q = same_Some _ t e in omega (arith, q)

-- ---- changes at large

abbrev NoAcks : List (ℕ × Datagram) → Type 0
NoAcks ds = (j m e a : ℕ) → Among (map (λ s. s.1) ds) (Datagram.Ack j m e a) → ⊥

outs_more : (x y : Draft) (ds : List (ℕ × Datagram)) → y.sends ≡ x.sends ++ ds → outs y ≡ outs x ++ map (λ s. s.1) ds
outs_more x y ds e = ap (map (λ s. s.1)) e ∙ map-append (λ s. s.1) x.sends ds

frames_no_acks : (r : Replica) (p : InEpoch) (ks : List ℕ) → NoAcks (map (next_frame r p) ks)
unfolding next_frame
frames_no_acks r p [] j m e a h = h
frames_no_acks r p (k ∷ ks) j m e a (inl q) = absurd (cc)
frames_no_acks r p (k ∷ ks) j m e a (inr h) = frames_no_acks r p ks j m e a h

parts_no_acks : (r : Replica) (j : ℕ) (c : Control) → NoAcks (parts_to r j c)
unfolding parts_to
parts_no_acks r j c = go (enumerate_from 0 (cut (control_bytes c))) (length (cut (control_bytes c)))
  where
    go : (l : List (ℕ × List ℕ)) (count : ℕ) → NoAcks (map (λ p. (j, Datagram.Part r.me j (boots r.log) r.made p.0 count p.1)) l)
    go [] count i m e a z = z
    go (p ∷ l) count i m e a (inl q) = absurd (cc)
    go (p ∷ l) count i m e a (inr z) = go l count i m e a z

module _ (n k : ℕ) (sent : List Datagram) where
  abbrev M : Draft → Type 0
  M x = Mid n k sent x

  all_more : (x y : Draft) (ds : List (ℕ × Datagram)) → y.sends ≡ x.sends ++ ds → (d : Datagram) → Among (sent ++ outs x) d → Among (sent ++ outs y) d
  all_more x y ds es d h = subst (λ l. Among (sent ++ l) d) (sym (outs_more x y ds es)) (elim (among_either sent (outs x) d h) [
    | inl a ↦ among_left sent _ d a
    | inr b ↦ among_right sent _ d (among_left (outs x) _ d b)
  ])

  all_cases : (x y : Draft) (ds : List (ℕ × Datagram)) → y.sends ≡ x.sends ++ ds → (d : Datagram) → Among (sent ++ outs y) d → Among (sent ++ outs x) d ⊎ Among (map (λ s. s.1) ds) d
  all_cases x y ds es d h = elim (among_either sent (outs x ++ map (λ s. s.1) ds) d (subst (λ l. Among (sent ++ l) d) (outs_more x y ds es) h)) [
    | inl a ↦ inl (among_left sent _ d a)
    | inr b ↦ elim (among_either (outs x) _ d b) [ inl a ↦ inl (among_right sent _ d a) | inr a ↦ inr a ]
  ]

  own_more : (x y : Draft) (ds : List (ℕ × Datagram)) → y.sends ≡ x.sends ++ ds → ((j m e a : ℕ) → Among (map (λ s. s.1) ds) (Datagram.Ack j m e a) → j ≡ k) → M x → (j m e a : ℕ) → Among (outs y) (Datagram.Ack j m e a) → j ≡ k
  own_more x y ds es new g j m e a h = elim (among_either (outs x) (map (λ s. s.1) ds) _ (subst (λ l. Among l (Datagram.Ack j m e a)) (outs_more x y ds es) h)) [
    | inl q ↦ g.own j m e a q
    | inr q ↦ new j m e a q
  ]

  -- a change that acknowledges nothing
  quietly : (x y : Draft) (ds : List (ℕ × Datagram)) → y.replica.me ≡ x.replica.me → y.replica.n ≡ x.replica.n → y.sends ≡ x.sends ++ ds → NoAcks ds →
      ((e : ℕ) → IsTrue (has_entered e x.replica.log) → IsTrue (has_entered e y.replica.log)) →
      (IsTrue (active y.replica.log) → (IsTrue (active x.replica.log) → Counted k x.replica (sent ++ outs x)) → Counted k y.replica (sent ++ outs x)) → M x → M y
  quietly x y ds me size es none grows f g = record {
    me = me ∙ g.me;
    size = size ∙ g.size;
    counts = λ a. let c = f a g.counts in of.more_sent k y.replica (sent ++ outs x) (sent ++ outs y) (all_more x y ds es)
        (λ m b h. elim (all_cases x y ds es _ h) [ inl q ↦ c.told m b q | inr q ↦ absurd (none k m (known y.replica.log) b q) ]) c;
    entered = λ m e b h. elim (all_cases x y ds es _ h) [ inl q ↦ grows e (g.entered m e b q) | inr q ↦ absurd (none k m e b q) ];
    own = own_more x y ds es (λ j m e b q. absurd (none j m e b q)) g;
  }

  -- nothing that is counted changes
  same : (x y : Draft) (ds : List (ℕ × Datagram)) → of.IsAlike x.replica y.replica → y.sends ≡ x.sends ++ ds → NoAcks ds → M x → M y
  same x y ds s es none g = quietly x y ds s.me s.n es none (λ e h. subst (λ l. IsTrue (has_entered e l)) (sym s.log) h)
      (λ a c. of.alike k (sent ++ outs x) x.replica y.replica s (c (subst (λ l. IsTrue (active l)) s.log a))) g

  still : (x y : Draft) → of.IsAlike x.replica y.replica → y.sends ≡ x.sends → M x → M y
  still x y s es g = same x y [] s (es ∙ sym (append-nil x.sends)) (λ j m e a h. h) g

  -- one more record within the epoch
  one_record : (rec : Rec) (x y : Draft) → IsNoEntry rec → of.IsAlike (record x.replica { log = rec ∷ x.replica.log }) y.replica → y.sends ≡ x.sends →
      known (rec ∷ x.replica.log) ≡ known x.replica.log → members x.replica.n (rec ∷ x.replica.log) ≡ members x.replica.n x.replica.log →
      active (rec ∷ x.replica.log) ≡ active x.replica.log → M x → M y
  one_record rec x y none s es kn ms act g =
      quietly x y [] s.me s.n (es ∙ sym (append-nil x.sends)) (λ j m e a h. h)
      (λ e h. subst (λ l. IsTrue (has_entered e l)) (sym s.log) (entered_more e rec x.replica.log h))
      (λ a c. of.alike k (sent ++ outs x) (record x.replica { log = rec ∷ x.replica.log }) y.replica s
      (of.recorded k (sent ++ outs x) x.replica rec none kn ms (c (sym act ∙ subst (λ l. IsTrue (active l)) s.log a)))) g

  -- a record behind which the replica is not active
  off : (rec : Rec) (x y : Draft) → y.replica.me ≡ x.replica.me → y.replica.n ≡ x.replica.n → y.replica.log ≡ rec ∷ x.replica.log → y.sends ≡ x.sends → active (rec ∷ x.replica.log) ≡ false → M x → M y
  off rec x y me size log es out g =
      quietly x y [] me size (es ∙ sym (append-nil x.sends)) (λ j m e a h. h)
      (λ e h. subst (λ l. IsTrue (has_entered e l)) (sym log) (entered_more e rec x.replica.log h))
      (λ a c. absurd (false≢true (sym out ∙ subst (λ l. IsTrue (active l)) log a))) g

  -- a change that acknowledges the next frame of j
  acknowledging : (x y : Draft) (j : ℕ) → y.replica.me ≡ x.replica.me → y.replica.n ≡ x.replica.n →
      y.sends ≡ x.sends ++ (j, Datagram.Ack y.replica.me j (known y.replica.log) (next_from y.replica j)) ∷ [] → AllFit k n y.replica.log → IsTrue (active y.replica.log) →
      ((e : ℕ) → IsTrue (has_entered e x.replica.log) → IsTrue (has_entered e y.replica.log)) → Counted k y.replica (sent ++ outs x) → M x → M y
  acknowledging x y j me size es fit a grows c g =
      let ds = (j, Datagram.Ack y.replica.me j (known y.replica.log) (next_from y.replica j)) ∷ [] in
      let here = (live_entered k n y.replica.log fit (active_live y.replica.log a)).0 in
      record {
        me = me ∙ g.me;
        size = size ∙ g.size;
        counts = λ b. of.more_sent k y.replica (sent ++ outs x) (sent ++ outs y) (all_more x y ds es)
            (λ m b h. elim (all_cases x y ds es _ h) [ inl q ↦ c.told m b q | inr q ↦ elim q [ inl e ↦ up_to y.replica j m b e | inr w ↦ absurd w ] ]) c;
        entered = λ m e b h. elim (all_cases x y ds es _ h) [
          | inl q ↦ grows e (g.entered m e b q)
          | inr q ↦ elim q [ inl w ↦ subst (λ z. IsTrue (has_entered z y.replica.log)) (epoch_of w) here | inr w ↦ absurd w ]
        ];
        own = own_more x y ds es (λ i m e b q. elim q [ inl w ↦ sym (sender_of w) ∙ me ∙ g.me | inr w ↦ absurd w ]) g;
      }
    where
      epoch_of : {a b e c a' b' e' c' : ℕ} → Datagram.Ack a b e c ≡ Datagram.Ack a' b' e' c' → e ≡ e'
      epoch_of h = cc

      sender_of : {a b e c a' b' e' c' : ℕ} → Datagram.Ack a b e c ≡ Datagram.Ack a' b' e' c' → a ≡ a'
      sender_of h = cc

      receiver_of : {a b e c a' b' e' c' : ℕ} → Datagram.Ack a b e c ≡ Datagram.Ack a' b' e' c' → b ≡ b'
      receiver_of h = cc

      number_of : {a b e c a' b' e' c' : ℕ} → Datagram.Ack a b e c ≡ Datagram.Ack a' b' e' c' → c ≡ c'
      number_of h = cc

      up_to : (r : Replica) (j m b : ℕ) → Datagram.Ack r.me j (known r.log) (next_from r j) ≡ Datagram.Ack k m (known r.log) b → b ≤ next_from r m
      up_to r j m b h = let c = number_of h in let i = ap (next_from r) (receiver_of h) in omega (arith, c, i)

  peers_distinct : (r : Replica) → r.n ≡ n → Distinct (members n r.log) → Distinct (other_members r)
  unfolding other_members members_of
  peers_distinct r e d = distinct_filter (λ i. not (i == r.me)) (members r.n r.log) (subst (λ z. Distinct (members z r.log)) (sym e) d)

  module _ (r : Replica) (input : Input) (reading : ℕ) (r_me : r.me ≡ k)
      (came : (a m e i : ℕ) (p : InEpoch) → input ≡ Input.Came a (Datagram.Frame m r.me e i p) → Among sent (Datagram.Frame m r.me e i p))
      (answered : (a m e i : ℕ) → input ≡ Input.Came a (Datagram.Ack m r.me e i) → Among sent (Datagram.Ack m r.me e i)) where
    -- a datagram of a replica that came was sent
    frame_came : (x : Draft) (a m e i : ℕ) (p : InEpoch) → input ≡ Input.Came a (Datagram.Frame m r.me e i p) → Among (sent ++ outs x) (Datagram.Frame m k e i p)
    frame_came x a m e i p q = among_left sent (outs x) _ (subst (λ z. Among sent (Datagram.Frame m z e i p)) r_me (came a m e i p q))

    ack_came : (x : Draft) (a m e i : ℕ) → input ≡ Input.Came a (Datagram.Ack m r.me e i) → Among (sent ++ outs x) (Datagram.Ack m k e i)
    ack_came x a m e i q = among_left sent (outs x) _ (subst (λ z. Among sent (Datagram.Ack m z e i)) r_me (answered a m e i q))

    taken_frame : (x : Draft) (a m e i : ℕ) (p : InEpoch) → input ≡ Input.Came a (Datagram.Frame m r.me e i p) → e ≡ known x.replica.log → i ≡ next_from x.replica m →
        Among (sent ++ outs x) (Datagram.Frame m k (known x.replica.log) (next_from x.replica m) p)
    taken_frame x a m e i p q ep num = subst (λ z. Among (sent ++ outs x) (Datagram.Frame m k z (next_from x.replica m) p)) ep
        (subst (λ z. Among (sent ++ outs x) (Datagram.Frame m k e z p)) num (frame_came x a m e i p q))

    takes : (x : Draft) (a m e i : ℕ) (p : InEpoch) → input ≡ Input.Came a (Datagram.Frame m r.me e i p) → e ≡ known x.replica.log → IsTrue (active x.replica.log) → i ≡ next_from x.replica m →
        is_odd_frame x.replica m p ≡ false → AllFit k n (take_frame m p x).replica.log → M x → M (take_frame m p x)
    unfolding take_frame receive ack send keep count_vote owe known decision live suspended active next_from time_of
    takes x a m e i (InEpoch.Prepare g) q ep act num odd fit h =
        let all = sent ++ outs x in
        let c = of.frame k all x.replica m (InEpoch.Prepare g) x.replica.votes (λ v z. z) (taken_frame x a m e i (InEpoch.Prepare g) q ep num) tt (h.counts act) in
        acknowledging x (take_frame m (InEpoch.Prepare g) x) m refl refl refl fit act (λ e w. entered_more e (Rec.Prepare g) x.replica.log w)
        (of.others_entry k all _ g m (taken_origin x.replica m g odd) h.me (inl refl) c) h
    takes x a m e i (InEpoch.PrepareOk s t) q ep act num odd fit h =
        let all = sent ++ outs x in
        acknowledging x (take_frame m (InEpoch.PrepareOk s t) x) m refl refl refl fit act (λ e w. w)
        (of.frame k all x.replica m (InEpoch.PrepareOk s t) ((s, m) ∷ x.replica.votes) (λ v z. inr z) (taken_frame x a m e i (InEpoch.PrepareOk s t) q ep num) (inl refl) (h.counts act)) h
    takes x a m e i (InEpoch.ClockTime t) q ep act num odd fit h =
        let all = sent ++ outs x in
        acknowledging x (take_frame m (InEpoch.ClockTime t) x) m refl refl refl fit act (λ e w. w)
        (of.frame k all x.replica m (InEpoch.ClockTime t) x.replica.votes (λ v z. z) (taken_frame x a m e i (InEpoch.ClockTime t) q ep num) tt (h.counts act)) h

    acks : (x : Draft) (j : ℕ) → IsTrue (active x.replica.log) → AllFit k n x.replica.log → M x → M (ack j x)
    unfolding ack send
    acks x j act fit h = acknowledging x (ack j x) j refl refl refl fit act (λ e w. w) (h.counts act) h

    -- a time that is issued, and pushed
    pushes : (x y : Draft) (p : InEpoch) → y.replica.me ≡ x.replica.me → y.replica.n ≡ x.replica.n → y.replica.log ≡ x.replica.log →
        y.sends ≡ x.sends ++ map (next_frame x.replica p) (other_members x.replica) → Distinct (members n x.replica.log) → 1 ≤ time_of p →
        of.IsAlike (record x.replica { issued = time_of p ∷ x.replica.issued; pushed = x.replica.pushed ++ map (λ j. (j, p)) (other_members x.replica) }) y.replica → M x → M y
    pushes x y p me size log es d late s h =
        quietly x y (map (next_frame x.replica p) (other_members x.replica)) me size es (frames_no_acks x.replica p (other_members x.replica))
        (λ e w. subst (λ l. IsTrue (has_entered e l)) (sym log) w)
        (λ a c. of.alike k (sent ++ outs x) _ y.replica s
        (of.push k (sent ++ outs x) x.replica p (peers_distinct x.replica h.size d) late (c (subst (λ l. IsTrue (active l)) log a)))) h

    submits : (x : Draft) (a : ℕ) (c : Command) (t : ℕ) → would x reading ≡ Some t → Distinct (members n x.replica.log) → M x → M (submit a c t x)
    unfolding submit await push_to_members push_to count_vote issued_at keep other_members members_of members known decision live suspended active next_frame frames_to time_of
    submits x a c t w d h =
        let f : Entry = record { epoch = known x.replica.log; stamp = record { time = t; origin = x.replica.me }; command = c } in
        let p = InEpoch.Prepare f in
        let y = submit a c t x in
        let q : Replica = record x.replica { issued = t ∷ x.replica.issued; pushed = x.replica.pushed ++ map (λ j. (j, p)) (other_members x.replica) } in
        quietly x y (map (next_frame x.replica p) (other_members x.replica)) refl refl refl (frames_no_acks x.replica p (other_members x.replica)) (λ e z. entered_more e (Rec.Prepare f) x.replica.log z)
        (λ act g. of.alike k (sent ++ outs x) (record q { log = Rec.Prepare f ∷ x.replica.log; votes = (f.stamp, x.replica.me) ∷ x.replica.votes }) y.replica
        (of.like k (sent ++ outs x) _ _ _ _ _)
        (of.own_entry k (sent ++ outs x) q f h.me h.me (of.push k (sent ++ outs x) x.replica p (peers_distinct x.replica h.size d) (would_later x reading t w) (g act)))) h

    enters : (x : Draft) → IsTrue (fits x.replica.me x.replica.n x.replica.log (Rec.Enter (known x.replica.log))) → AllFit k n x.replica.log → M x → M (keep (Rec.Enter (known x.replica.log)) (forget_epoch x))
    unfolding keep forget_epoch known decision
    enters x fit fits_before h =
        let y = keep (Rec.Enter (known x.replica.log)) (forget_epoch x) in
        let new = enter_new x.replica.me x.replica.n x.replica.log fit in
        quietly x y [] refl refl (sym (append-nil x.sends)) (λ j m e a z. z) (λ e z. entered_more e (Rec.Enter (known x.replica.log)) x.replica.log z)
        (λ act c. of.entered k (sent ++ outs x) y.replica refl refl refl refl refl refl refl
        (λ f z. false≢true (sym new ∙ subst (λ e. IsTrue (has_entered e x.replica.log)) z.1
        (logged_entered k n x.replica.log f fits_before (strip (Rec.Enter (known x.replica.log)) x.replica.log f (λ g q. no_enter g q) z.0))))
        (λ m a z. false≢true (sym new ∙ h.entered m (known x.replica.log) a z))) h
      where
        no_enter : (g : Entry) → Rec.Enter (known x.replica.log) ≡ Rec.Prepare g → ⊥
        no_enter g q = cc

    control_same : (c : Control) (j : ℕ) (x : Draft) → M x → M (send_control c x j)
    unfolding send_control
    control_same c j x h = by_when M (x.replica.made == u64_max) x _ h
        (same x _ (parts_to x.replica j c) (of.like k (sent ++ outs x) _ _ _ _ _) refl (parts_no_acks x.replica j c) h)

    replies_same : (x : Draft) → M x → M (replies x)
    replies_same x h =
        let t = all_replied x in
        let b = t.before in
        still x (replies x) (record { me = b.me; n = b.n; log = t.log; issued = b.issued; received = b.received; votes = b.votes; owed = b.owed; pushed = b.pushed; acked = b.acked; taken = b.taken }) b.sends h

    again_same : (x : Draft) (j : ℕ) (f : ℕ × InEpoch) → M x → M (again_frame j x f)
    unfolding again_frame send
    again_same x j f h = same x (again_frame j x f) _ (of.like k (sent ++ outs x) _ _ _ _ _) refl (λ i m e a q. elim q [ inl w ↦ absurd (no_frame w) | inr w ↦ w ]) h
      where
        no_frame : {i m e a : ℕ} → Datagram.Frame x.replica.me j (known x.replica.log) f.0 f.1 ≡ Datagram.Ack i m e a → ⊥
        no_frame w = cc

    change : (x y : Draft) → Change r input reading x y → AllFit k n x.replica.log → AllFit k n y.replica.log → Distinct (members n x.replica.log) → M x → M y
    unfolding refuse push_to_members push_to issued_at keep noting reply pay owing forget_epoch known decision members live suspended active time_of next_frame other_members frames_to members_of
    change x y (Submits a c t i h w) fx fy d g = submits x a c t w d g
    change x y (Refuses a c why i h) fx fy d g = still x y (of.like k (sent ++ outs x) _ _ _ _ _) refl g
    change x y (Commits e a h w) fx fy d g = one_record (Rec.Commit e.stamp) x y (λ f q. absurd (cc)) (of.like k (sent ++ outs x) _ _ _ _ _) refl refl refl refl g
    change x y Replies fx fy d g = replies_same x g
    change x y (Takes a m e seq p i o h q b odd) fx fy d g = takes x a m e seq p i h q.0 b odd fy g
    change x y (Acks j p) fx fy d g = acks x j p.0 fx g
    change x y (IsAcked j next p h) fx fy d g =
        quietly x y [] refl refl (sym (append-nil x.sends)) (λ i m e a z. z) (λ e z. z)
        (λ act c. of.acked k (sent ++ outs x) x.replica j next h.0 (ack_came x h.1.0 j (known x.replica.log) next h.1.1) (c act)) g
    change x y (Pays s t a m w lt) fx fy d g =
        pushes x y (InEpoch.PrepareOk s t) refl refl refl refl d (would_later x reading t w) (of.like k (sent ++ outs x) _ _ _ _ _) g
    change x y (Owes ss a h) fx fy d g =
        quietly x y [] refl refl (sym (append-nil x.sends)) (λ i m e b z. z) (λ e z. z)
        (λ act c. of.owes k (sent ++ outs x) x.replica ss h.1 (c act)) g
    change x y (SendsTime t a i w) fx fy d g =
        pushes x y (InEpoch.ClockTime t) refl refl refl refl d (would_later x reading t w) (of.like k (sent ++ outs x) _ _ _ _ _) g
    change x y (SendsAgain j f a m h) fx fy d g = again_same x j f g
    change x y (SendsControl j c h) fx fy d g = control_same c j x g
    change x y (Gathers a p i o) fx fy d g = still x y (of.like k (sent ++ outs x) _ _ _ _ _) refl g
    change x y (Suspends h) fx fy d g = off (Rec.Suspend (known x.replica.log)) x y refl refl refl refl (suspend_off (known x.replica.log) x.replica.log) g
    change x y (Collects ms asked h s) fx fy d g = still x y (of.like k (sent ++ outs x) _ _ _ _ _) refl g
    change x y (TakesPage ms pages e after p c h m i w) fx fy d g = still x y (of.like k (sent ++ outs x) _ _ _ _ _) refl g
    change x y (Completes ms pages c h w) fx fy d g = still x y (of.like k (sent ++ outs x) _ _ _ _ _) refl g
    change x y (Refrains q) fx fy d g = still x y (of.like k (sent ++ outs x) _ _ _ _ _) refl g
    change x y (GivesUp own seen c) fx fy d g = still x y (of.like k (sent ++ outs x) _ _ _ _ _) refl g
    change x y (Asks own seen b c by lt) fx fy d g = one_record _ x y (λ f q. absurd (cc)) (of.like k (sent ++ outs x) _ _ _ _ _) refl refl refl refl g
    change x y (CountsAnswer b own answers a c i h) fx fy d g = still x y (of.like k (sent ++ outs x) _ _ _ _ _) refl g
    change x y (Proposes b own answers c h) fx fy d g = still x y (of.like k (sent ++ outs x) _ _ _ _ _) refl g
    change x y (IsPreempted b own value acceptors top answers c h) fx fy d g = still x y (of.like k (sent ++ outs x) _ _ _ _ _) refl g
    change x y (AcceptsOwn b own value acceptors c h i j) fx fy d g = one_record _ x y (λ f q. absurd (cc)) (of.like k (sent ++ outs x) _ _ _ _ _) refl refl refl refl g
    change x y (CountsVote b own value acceptors j c v) fx fy d g = still x y (of.like k (sent ++ outs x) _ _ _ _ _) refl g
    change x y (Promises j b h lt) fx fy d g = one_record _ x y (λ f q. absurd (cc)) (of.like k (sent ++ outs x) _ _ _ _ _) refl refl refl refl g
    change x y (Accepts j b v h i q l) fx fy d g = one_record _ x y (λ f q. absurd (cc)) (of.like k (sent ++ outs x) _ _ _ _ _) refl refl refl refl g
    change x y (Chooses b own v acceptors c h) fx fy d g = off (Rec.Decide v) x y refl refl refl refl refl g
    change x y (Learns j v h lt) fx fy d g = off (Rec.Decide v) x y refl refl refl refl refl g
    change x y (AdoptsTail v h i j) fx fy d g = one_record _ x y (λ f q. absurd (cc)) (of.like k (sent ++ outs x) _ _ _ _ _) refl refl refl refl g
    change x y (AdoptsPage j e from es h i q) fx fy d g = one_record _ x y (λ f q. absurd (cc)) (of.like k (sent ++ outs x) _ _ _ _ _) refl refl refl refl g
    change x y (Enters h) fx fy d g = enters x h fx g

    -- a chain of changes, whose logs go on to the last
    pub chain : (last : Log) → AllFit k n last → ((log : Log) → Extends log last → Distinct (members n log)) → {x y : Draft} → Changes r input reading x y → Extends y.replica.log last → M x → M y
    chain last fit distinct stay ex g = g
    chain last fit distinct (and_then {y = y} {z = z} p c f) ex g =
        let ey = extends_trans (change_grows y z (log_change r input reading y z c)) ex in
        change y z c (end_fits k n ey fit) (end_fits k n ex fit) (distinct y.replica.log ey) (chain last fit distinct p ey g)
