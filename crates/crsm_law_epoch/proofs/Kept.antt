-- Each change of a step keeps the facts.
use Rattle.std.proofs.Common.{◌≡◌, ℕ, zero, suc, ◌+◌, ◌<◌, ◌≤◌, List, [], ◌∷◌, ◌++◌, length, refl, sym, ◌∙◌, ap, subst, inl, inr, Bool, true, false, cond, arith, take, drop, map, max}
use Rattle.std.specs.Prelude.{◌⊎◌, IsTrue, Option, Some, None, slice_get, ◌==◌, ◌&&◌, ◌||◌, not, unwrap_or}
use Rattle.std.specs.List.{enumerate_from, list_any}
use Rattle.std.proofs.lemmas.Bool.{cases_eq, eq-eqb, ne_eqb, eqb-true, and_parts, or_cases, false≢true, not-true}
use Rattle.std.proofs.lemmas.Option.{none-some, same_Some}
use Rattle.std.proofs.lemmas.List.{append-nil, append_assoc}
use Rattle.crsm_base.specs.Order.{stamp_lt}
use Rattle.crsm_base.specs.Messages.{control_bytes}
use Rattle.crsm_spec.specs.Choice.{when◌then◌otherwise◌}
use Rattle.crsm_spec.specs.Clock.{u64_max, issue}
use Rattle.crsm_spec.specs.Types.{Stamp, Entry, Rec, InEpoch, Datagram, Control, Command, Refusal}
use Rattle.crsm_spec.specs.Lists.{Among, has, first_of}
use Rattle.crsm_spec.specs.Log.{Log, known, members, boots, active, live, suspended, has_entered, is_enter, decision, executed, start}
use Rattle.crsm_spec.specs.Fits.{fits}
use Rattle.crsm_spec.specs.Frames.{time_of, take_frame, receive, owe, ack, pay, owing, with_stamp, again_frame}
use Rattle.crsm_spec.specs.Parts.{cut}
use Rattle.crsm_spec.specs.Replica.{Replica, Waiting, last_issued, members_of, other_members, next_from, frames_to, acked_by, unacked}
use Rattle.crsm_spec.specs.Draft.{Draft, keep, noting, send, reply, count_vote, issued_at, push_to_members, push_to, next_frame, parts_to, send_control, would}
use Rattle.crsm_spec.specs.Clients.{refusal, refuse, submit, await, replies, answer_each, answer_found, reply_ok, reply_dropped, find_executed, is_dropped}
use Rattle.crsm_spec.specs.Coordinate.{forget_epoch}
use Rattle.crsm_spec.specs.Step.{Input}
use Rattle.crsm_fact_log.specs.Logs.{AllFit, Extends, Logged}
use Rattle.crsm_fact_step.specs.Changes.{Change, Changes, stay, and_then}
use Rattle.crsm_fact_step.specs.Changes.Change.{Submits, Refuses, Commits, Replies, Takes, Acks, IsAcked, Pays, Owes, SendsTime, SendsAgain, SendsControl, Gathers, Suspends, Collects, TakesPage, Completes, Refrains, GivesUp, Asks, CountsAnswer, Proposes, IsPreempted, AcceptsOwn, CountsVote, Promises, Accepts, Chooses, Learns, AdoptsTail, AdoptsPage, Enters}
use Rattle.crsm_fact_step.proofs.Logs.{log_change, change_fits, change_grows, numbers_stay}
use Rattle.crsm_fact_log.proofs.Logged.{extends_trans}
use Rattle.crsm_law_epoch.specs.Numbers.{Distinct}
use Rattle.crsm_law_epoch.specs.Seats.{Seat, seat_up, Sender, IsTop, IsOther, IsFirst, Facts, logs_of, pushed_to, taken_of}
use Rattle.crsm_fact_log.proofs.Lists.{get_some, among_left, among_right, among_either, kept_from, has_from, has_in, among_take}
use Rattle.crsm_law_epoch.proofs.Words.{among_unmap, among_filter, distinct_filter}
use Rattle.crsm_law_epoch.proofs.Moved.{at, at_same}
use Rattle.crsm_law_epoch.proofs.Quiet.{entered_more, or_right}
use Rattle.crsm_law_epoch.proofs.Takes.{Takings, took}
use Rattle.crsm_law_epoch.proofs.Pushes.{Pushings, pushed_all, first_of_sender, sender_after, frame_to, behind, is_new}
use Rattle.crsm_law_epoch.proofs.Drafts.{Good, IsPrefix, IsLowOf, outs, at_at, take_either, sends_more, all_more, all_back, sender_of, receiver_of, fit_of, seat_fact, sender_more, receiver_more, prefixes_more}
use Rattle.crsm_law_epoch.proofs.Seated.{Olds, good_same, good_owed, good_record, good_off, good_enter}

-- ---- a running log

or_left : (a b : Bool) → IsTrue a → (a || b) ≡ true
or_left true b h = refl
or_left false b h = absurd (false≢true h)

-- whoever runs has entered the known epoch, and is a member of it
pub live_entered : (me n : ℕ) (log : Log) → AllFit me n log → IsTrue (live log) → IsTrue (has_entered (known log) log) × IsTrue (has (members n log) me)
unfolding live known decision has_entered members fits is_enter
live_entered me n [] h l = absurd (false≢true l)
live_entered me n (Rec.Enter x ∷ log) h l =
    let a = and_parts _ (not (has_entered x log)) h.0 in
    let b = and_parts _ (length (executed log) == start log) a.0 in
    let c = and_parts _ (has (members n log) me) b.0 in
    let d = and_parts _ (x == known log) c.0 in
    let e : x ≡ known log = eqb-true x (known log) d.1 in
    (or_left (x == known log) (list_any (is_enter (known log)) log) (eq-eqb x (known log) e), c.1)
live_entered me n (Rec.Boot m k ∷ log) h l = absurd (false≢true l)
live_entered me n (Rec.Decide d ∷ log) h l = absurd (false≢true l)
live_entered me n (Rec.Prepare f ∷ log) h l = live_entered me n log h.1 l
live_entered me n (Rec.Commit s ∷ log) h l = live_entered me n log h.1 l
live_entered me n (Rec.Adopt p es ∷ log) h l = live_entered me n log h.1 l
live_entered me n (Rec.Suspend x ∷ log) h l = live_entered me n log h.1 l
live_entered me n (Rec.Promise i b ∷ log) h l = live_entered me n log h.1 l
live_entered me n (Rec.Accept i b d ∷ log) h l = live_entered me n log h.1 l

with_stamp_is : (s : Stamp) (ss : List Stamp) (t : Stamp) → Among (with_stamp s ss) t → (s ≡ t) ⊎ Among ss t
unfolding with_stamp when◌then◌otherwise◌
with_stamp_is s [] t h = elim h [ inl e ↦ inl e | inr w ↦ absurd w ]
with_stamp_is s (u ∷ us) t h = go (λ w. with_stamp_is s us t w) (stamp_lt s u) h
  where
    go : (Among (with_stamp s us) t → (s ≡ t) ⊎ Among us t) → (c : Bool) → Among (when c then s ∷ u ∷ us otherwise u ∷ with_stamp s us) t → (s ≡ t) ⊎ Among (u ∷ us) t
    go k true (inl e) = inl e
    go k true (inr w) = inr w
    go k false (inl e) = inr (inl e)
    go k false (inr w) = elim (k w) [ inl e ↦ inl e | inr i ↦ inr (inr i) ]

-- ---- datagrams that are no frames

no_acks : (k : ℕ) (d : Datagram) (m j e i : ℕ) (p : InEpoch) → Among (d ∷ []) (Datagram.Frame m j e i p) → (d ≡ Datagram.Frame m j e i p → ⊥) → ⊥
no_acks k d m j e i p (inl q) h = h q
no_acks k d m j e i p (inr q) h = q

no_parts : (r : Replica) (k : ℕ) (c : Control) (m j e i : ℕ) (p : InEpoch) → Among (map (λ s. s.1) (parts_to r k c)) (Datagram.Frame m j e i p) → ⊥
unfolding parts_to
no_parts r k c m j e i p h =
    let t = among_unmap (λ s. s.1) _ (Datagram.Frame m j e i p) h in
    let u = among_unmap _ (enumerate_from 0 (cut (control_bytes c))) t.0 t.1 in
    let same : Datagram.Part r.me k (boots r.log) r.made u.0.0 (length (cut (control_bytes c))) u.0.1 ≡ Datagram.Frame m j e i p = ap (λ s. s.1) u.2 ∙ t.2 in
    absurd (cc)

-- ---- replies leave the seat

answer_seat : (w : Waiting) (p : Option (ℕ × Entry)) (x : Draft) → (seat_up (answer_found w p x).replica ≡ seat_up x.replica) × ((answer_found w p x).sends ≡ x.sends)
unfolding answer_found reply_ok reply_dropped reply seat_up when◌then◌otherwise◌
answer_seat w (Some p) x = (refl, refl)
answer_seat w None x = go (is_dropped x.replica w.entry)
  where
    go : (c : Bool) → (seat_up (when c then reply_dropped w x otherwise record x { replica = record x.replica { waiting = x.replica.waiting ++ w ∷ [] } }).replica ≡ seat_up x.replica)
        × ((when c then reply_dropped w x otherwise record x { replica = record x.replica { waiting = x.replica.waiting ++ w ∷ [] } }).sends ≡ x.sends)
    go true = (refl, refl)
    go false = (refl, refl)

each_seat : (ws : List Waiting) (x : Draft) → (seat_up (answer_each ws x).replica ≡ seat_up x.replica) × ((answer_each ws x).sends ≡ x.sends)
unfolding answer_each
each_seat [] x = (refl, refl)
each_seat (w ∷ ws) x =
    let a = answer_seat w (find_executed (executed x.replica.log) w.entry) x in
    let b = each_seat ws (answer_found w (find_executed (executed x.replica.log) w.entry) x) in (b.0 ∙ a.0, b.1 ∙ a.1)

replies_seat : (x : Draft) → (seat_up (replies x).replica ≡ seat_up x.replica) × ((replies x).sends ≡ x.sends)
unfolding replies seat_up
replies_seat x = each_seat x.replica.waiting (record x { replica = record x.replica { waiting = [] } })

-- ---- unacknowledged frames were pushed

drop_among : {A : Type 0} (n : ℕ) (xs : List A) (a : A) → Among (drop n xs) a → Among xs a
drop_among zero xs a h = h
drop_among (suc n) [] a h = absurd h
drop_among (suc n) (x ∷ xs) a h = inr (drop_among n xs a h)

numbered : (i : ℕ) (xs : List InEpoch) (f : ℕ × InEpoch) → Among (enumerate_from i xs) f → (j : ℕ) × (f.0 ≡ i + j) × (slice_get xs j ≡ Some f.1)
numbered i [] f h = absurd h
numbered i (x ∷ xs) f (inl e) = (0, ap (λ y. y.0) (sym e) ∙ (omega arith), ap (λ y. Some y.1) e)
numbered i (x ∷ xs) f (inr h) = let t = numbered (i + 1) xs f h in (suc t.0, (omega (arith, t.1)), t.2)

unacked_pushed : (x : Replica) (j : ℕ) (f : ℕ × InEpoch) → Among (unacked x j) f → slice_get (pushed_to j x.pushed) f.0 ≡ Some f.1
unfolding unacked frames_to pushed_to
unacked_pushed x j f h =
    let t = numbered 0 (frames_to x j) f (drop_among (acked_by x j) (enumerate_from 0 (frames_to x j)) f h) in
    subst (λ i. slice_get (frames_to x j) i ≡ Some f.1) (sym (t.1 ∙ (omega arith))) t.2

-- ---- times

later : (last reading t : ℕ) (b : Bool) → cond b None (Some (max reading (last + 1))) ≡ Some t → last < t
later last reading t true h = absurd (none-some t h)
later last reading t false h = let e = same_Some _ t h in omega (arith, e)

top_later : (us : List ℕ) (t : ℕ) → IsTop us → unwrap_or (first_of us) 0 < t → (u : ℕ) → Among us u → u < t
unfolding first_of
top_later [] t p lt u h = absurd h
top_later (w ∷ us) t p lt u (inl e) = omega (arith, lt, e)
top_later (w ∷ us) t p lt u (inr h) = let a = p u h in omega (arith, lt, a)

pub would_late : (x : Draft) (reading t : ℕ) → IsTop x.replica.issued → would x reading ≡ Some t → (u : ℕ) → Among x.replica.issued u → u < t
unfolding would issue last_issued
would_late x reading t p h = top_later x.replica.issued t p (later (unwrap_or (first_of x.replica.issued) 0) reading t _ h)

-- more was sent, and no new frame
packets : (n : ℕ) (v : ℕ → Seat) (all after : List Datagram) → Facts n v all → ((d : Datagram) → Among all d → Among after d) →
    ((m j e i : ℕ) (p : InEpoch) → Among after (Datagram.Frame m j e i p) → Among all (Datagram.Frame m j e i p)) → Facts n v after
packets n v all after i more back = record {
  fit = i.fit;
  own = i.own;
  one = i.one;
  says = λ m j e x f h. i.says m j e x f (back m j e x _ h);
  says_ok = λ m j e x s t h. i.says_ok m j e x s t (back m j e x _ h);
  same = λ m j e x p q g h. i.same m j e x p q (back m j e x p g) (back m j e x q h);
  low = λ m j e x p y h lt. let t = i.low m j e x p y (back m j e x p h) lt in (t.0, more _ t.1);
  first = λ m f j x p g o h le. let t = i.first m f j x p g o (back m j f.epoch x p h) le in (t.0, t.1, more _ t.2);
  entered = λ m j e x p h. i.entered m j e x p (back m j e x p h);
  stamped = i.stamped;
  sender = λ k r. sender_more n k v [] (v k) all after more back (i.sender k r);
  receiver = λ k r. receiver_more n k v [] (v k) (logs_of v) all after more back (i.receiver k r);
}

-- ---- the changes

module _ (n k : ℕ) (v : ℕ → Seat) (sent : List Datagram) (r : Replica) (input : Input) (reading : ℕ) (r_me : r.me ≡ k)
    (came : (a m e i : ℕ) (p : InEpoch) → input ≡ Input.Came a (Datagram.Frame m r.me e i p) → Among sent (Datagram.Frame m r.me e i p)) where
  abbrev G : Draft → Type 0
  G x = Good n k v sent x

  none_old : (x : Draft) → Olds n k v sent x []
  none_old x m j e i p h = absurd h

  no_sends : (x : Draft) → x.sends ≡ x.sends ++ []
  no_sends x = sym (append-nil x.sends)

  -- what a change that keeps a record leaves: the log with the record, each of whose records fits
  fit_after : (x y : Draft) → Change r input reading x y → IsTrue y.fitting → G x → y.replica.me ≡ x.replica.me → y.replica.n ≡ x.replica.n → AllFit k n y.replica.log
  fit_after x y c f g me size =
      let h : AllFit x.replica.me x.replica.n x.replica.log = subst (λ b. AllFit x.replica.me b x.replica.log) (sym g.size) (subst (λ a. AllFit a n x.replica.log) (sym g.me) (fit_of n k v sent x g)) in
      let w = change_fits x y me size (log_change r input reading x y c) f h in
      subst (λ a. AllFit a n y.replica.log) (me ∙ g.me) (subst (λ b. AllFit y.replica.me b y.replica.log) (size ∙ g.size) w)

  -- ---- a push to all members

  frames_are : (x : Draft) (p : InEpoch) (ks : List ℕ) → map (λ s. s.1) (map (next_frame x.replica p) ks) ≡ map (frame_to x.replica.me (known x.replica.log) x.replica.pushed p) ks
  unfolding next_frame frames_to pushed_to
  frames_are x p [] = refl
  frames_are x p (j ∷ ks) = ap (λ l. Datagram.Frame x.replica.me j (known x.replica.log) (length (pushed_to j x.replica.pushed)) p ∷ l) (frames_are x p ks)

  -- the seat before, in the world of the draft
  before : (x : Draft) → at k (seat_up x.replica) v k ≡ seat_up x.replica
  before x = at_same n k v (seat_up x.replica)

  module _ (x y : Draft) (p : InEpoch) (ks : List ℕ) (g : G x) (a : IsTrue (active x.replica.log)) (t : Pushings n k (at k (seat_up x.replica) v) p ks (seat_up y.replica))
      (so : Sender n k (seat_up y.replica) (sent ++ outs y)) (eo : outs y ≡ outs x ++ map (frame_to k (known x.replica.log) x.replica.pushed p) ks) where
    abbrev new_frames : List Datagram
    new_frames = map (frame_to k (known x.replica.log) x.replica.pushed p) ks

    sends_x : Sender n k (seat_up x.replica) (sent ++ outs x)
    sends_x = sender_of n k v sent x g a

    from_x : (f : Entry) → Logged y.replica.log f → Logged x.replica.log f ⊎ (p ≡ InEpoch.Prepare f)
    unfolding seat_up
    from_x f h = subst (λ z. Logged z.log f ⊎ (p ≡ InEpoch.Prepare f)) (before x) (t.from f h)

    says_x : (f : Entry) → p ≡ InEpoch.Prepare f → f.epoch ≡ known x.replica.log
    unfolding seat_up
    says_x f e = subst (λ z. f.epoch ≡ known z.log) (before x) (t.says f e).1

    known_y : known y.replica.log ≡ known x.replica.log
    unfolding seat_up
    known_y = t.known_is ∙ ap (λ z. known z.log) (before x)

    -- no frame of before has the time of a new entry or a later one
    no_later : (f : Entry) (j i : ℕ) (q : InEpoch) → p ≡ InEpoch.Prepare f → Among (sent ++ outs x) (Datagram.Frame k j f.epoch i q) → f.stamp.time ≤ time_of q → ⊥
    unfolding seat_up time_of
    no_later f j i q e h le =
        let got = sends_x.only j i q (subst (λ z. Among (sent ++ outs x) (Datagram.Frame k j z i q)) (says_x f e) h) in
        let issued = sends_x.times j i q got in
        let lt = t.late (time_of q) (subst (λ z. Among z.issued (time_of q)) (sym (before x)) issued) in
        let eq : time_of p ≡ f.stamp.time = ap time_of e in
        omega (arith, lt, le, eq)

    wide : (d : ℕ) (dg : Datagram) → Among (sent ++ outs x) dg → Among (sent ++ (outs x ++ take d new_frames)) dg
    wide d dg h = elim (among_either sent (outs x) dg h) [ inl b ↦ among_left sent _ dg b | inr b ↦ among_right sent _ dg (among_left (outs x) _ dg b) ]

    narrow : (c : ℕ) (dg : Datagram) → Among (sent ++ take c (outs x)) dg → Among (sent ++ outs x) dg
    narrow c dg h = elim (among_either sent (take c (outs x)) dg h) [ inl b ↦ among_left sent _ dg b | inr b ↦ among_right sent _ dg (among_take c (outs x) dg b) ]

    of_part : (d m j e i : ℕ) (q : InEpoch) → Among (sent ++ (outs x ++ take d new_frames)) (Datagram.Frame m j e i q) →
        Among (sent ++ outs x) (Datagram.Frame m j e i q) ⊎ Among new_frames (Datagram.Frame m j e i q)
    of_part d m j e i q h = elim (among_either sent _ _ h) [
      | inl b ↦ inl (among_left sent _ _ b)
      | inr b ↦ elim (among_either (outs x) (take d new_frames) _ b) [ inl c ↦ inl (among_right sent _ _ c) | inr c ↦ inr (among_take d new_frames _ c) ]
    ]

    part_in_all : (d : ℕ) (dg : Datagram) → Among (sent ++ (outs x ++ take d new_frames)) dg → Among (sent ++ outs y) dg
    part_in_all d dg h = subst (λ l. Among (sent ++ l) dg) (sym eo) (elim (among_either sent _ dg h) [
      | inl b ↦ among_left sent _ dg b
      | inr b ↦ elim (among_either (outs x) (take d new_frames) dg b) [ inl c ↦ among_right sent _ dg (among_left (outs x) _ dg c) | inr c ↦ among_right sent _ dg (among_right (outs x) _ dg (among_take d new_frames dg c)) ]
    ])

    part_low : (d : ℕ) → IsLowOf k (sent ++ (outs x ++ take d new_frames))
    unfolding seat_up
    part_low d j e i q z h lt = elim (of_part d k j e i q h) [
      | inl o ↦ (let w = g.facts.low k j e i q z o lt in (w.0, wide d _ w.1))
      | inr o ↦ (let w = is_new k (known x.replica.log) x.replica.pushed p ks k j e i q o in
          let b = get_some (pushed_to j x.replica.pushed) z (omega (arith, lt, w.place)) in
          (b.0, subst (λ u. Among (sent ++ (outs x ++ take d new_frames)) (Datagram.Frame k j u z b.0)) w.epoch (wide d _ (sends_x.sent j z b.0 b.1))))
    ]

    part_old : (d : ℕ) (f : Entry) → Logged y.replica.log f → f.stamp.origin ≡ k → (f.epoch ≡ known y.replica.log)
        ⊎ ((j i : ℕ) (q : InEpoch) → Among (sent ++ (outs x ++ take d new_frames)) (Datagram.Frame k j f.epoch i q) → f.stamp.time ≤ time_of q →
        (z : ℕ) × (z ≤ i) × Among (sent ++ (outs x ++ take d new_frames)) (Datagram.Frame k j f.epoch z (InEpoch.Prepare f)))
    unfolding seat_up
    part_old d f h o = elim (cases_eq f.epoch (known x.replica.log)) [
      | inl e ↦ inl (e ∙ sym known_y)
      | inr ne ↦ elim (from_x f h) [
        | inr new ↦ absurd (ne (says_x f new))
        | inl was ↦ inr (λ j i q am le. elim (of_part d k j f.epoch i q am) [
          | inl b ↦ (let w = seat_fact n k v sent x (λ s. IsFirst k s.log (sent ++ outs x)) (g.facts.first k) f j i q was o b le in (w.0, w.1, wide d _ w.2))
          | inr b ↦ absurd (ne (sym (is_new k (known x.replica.log) x.replica.pushed p ks k j f.epoch i q b).epoch))
        ])
      ]
    ]

    push_front : (c : ℕ) → IsPrefix k y.replica.log (sent ++ take c (outs x ++ new_frames))
    unfolding seat_up
    push_front c = elim (take_either (outs x) new_frames c) [
      | inl e ↦ (let w = g.prefixes c in record {
        first = subst (λ l. IsFirst k y.replica.log (sent ++ l)) (sym e) (λ f j i q h o am le. elim (from_x f h) [
          | inl was ↦ w.first f j i q was o am le
          | inr new ↦ absurd (no_later f j i q new (narrow c _ am) le)
        ]);
        low = subst (λ l. IsLowOf k (sent ++ l)) (sym e) w.low;
      })
      | inr w ↦ record {
        first = subst (λ l. IsFirst k y.replica.log (sent ++ l)) (sym w.1)
            (first_of_sender n k (seat_up y.replica) (sent ++ outs y) (sent ++ (outs x ++ take w.0 new_frames)) so (part_old w.0) (part_in_all w.0) (part_low w.0));
        low = subst (λ l. IsLowOf k (sent ++ l)) (sym w.1) (part_low w.0);
      }
    ]

  good_push : (x y : Draft) (p : InEpoch) (ks : List ℕ) → G x → IsTrue (active x.replica.log) → y.replica.me ≡ x.replica.me → y.replica.n ≡ x.replica.n →
      y.sends ≡ x.sends ++ map (next_frame x.replica p) ks → Pushings n k (at k (seat_up x.replica) v) p ks (seat_up y.replica) → G y
  unfolding seat_up
  good_push x y p ks g a me size es t =
      let u = seat_up x.replica in
      let s = seat_up y.replica in
      let w = at k u v in
      let all = sent ++ outs x in
      let runs : IsTrue (w k).running = subst (λ z. IsTrue z.running) (sym (before x)) a in
      let ds = map (frame_to k (known x.replica.log) x.replica.pushed p) ks in
      let eo : outs y ≡ outs x ++ ds = sends_more n k v sent x y (map (next_frame x.replica p) ks) es ∙ ap (λ l. outs x ++ l) (frames_are x p ks ∙ ap (λ z. map (frame_to z (known x.replica.log) x.replica.pushed p) ks) g.me) in
      let after_is : all ++ map (frame_to k (known (w k).log) (w k).pushed p) ks ≡ sent ++ outs y =
      ap (λ z. all ++ map (frame_to k (known z.log) z.pushed p) ks) (before x) ∙ append_assoc sent (outs x) ds ∙ ap (λ l. sent ++ l) (sym eo) in
      let f = subst (λ l. Facts n (at k s w) l) after_is (pushed_all n k w all g.facts runs p ks s t) in
      let so = subst (Sender n k s) after_is (sender_after n k w all g.facts runs p ks s t) in
      record {
        me = me ∙ g.me;
        size = size ∙ g.size;
        facts = subst (λ z. Facts n z (sent ++ outs y)) (at_at k s u v) f;
        prefixes = λ c. subst (λ l. IsPrefix k y.replica.log (sent ++ take c l)) (sym eo) (push_front x y p ks g a t so eo c);
        mine = λ m j e i q h. elim (among_either (outs x) ds _ (subst (λ l. Among l (Datagram.Frame m j e i q)) eo h)) [
          | inl b ↦ g.mine m j e i q b
          | inr b ↦ sym (is_new k (known x.replica.log) x.replica.pushed p ks m j e i q b).sender
        ];
      }

  -- ---- a frame is taken

  good_take : (m : ℕ) (p : InEpoch) (x y : Draft) (d : ℕ × Datagram) → G x → IsTrue (active x.replica.log) → y.replica.me ≡ x.replica.me → y.replica.n ≡ x.replica.n → y.sends ≡ x.sends ++ d ∷ [] →
      ((a j e i : ℕ) (q : InEpoch) → d.1 ≡ Datagram.Frame a j e i q → ⊥) → Takings n k (at k (seat_up x.replica) v) (sent ++ outs x) m p (seat_up y.replica) →
      ((f : Entry) → Logged y.replica.log f → f.stamp.origin ≡ k → Logged x.replica.log f) → G y
  unfolding seat_up
  good_take m p x y d g a me size es none t own_old =
      let u = seat_up x.replica in
      let s = seat_up y.replica in
      let w = at k u v in
      let all = sent ++ outs x in
      let runs : IsTrue (w k).running = subst (λ z. IsTrue z.running) (sym (before x)) a in
      let f0 : Facts n (at k s v) all = subst (λ z. Facts n z all) (at_at k s u v) (took n k w all g.facts runs m p s t) in
      let eo : outs y ≡ outs x ++ d.1 ∷ [] = sends_more n k v sent x y (d ∷ []) es in
      let more = all_more n k v sent x y (d ∷ []) es in
      let back = all_back n k v sent x y (d ∷ []) es (λ m j e i p h. elim h [ inl q ↦ absurd (none m j e i p q) | inr q ↦ absurd q ]) in
      record {
        me = me ∙ g.me;
        size = size ∙ g.size;
        facts = packets n (at k s v) all (sent ++ outs y) f0 more back;
        prefixes = λ c. subst (λ l. IsPrefix k y.replica.log (sent ++ take c l)) (sym eo)
            (prefixes_more n k v sent x y.replica.log (d.1 ∷ []) g own_old (λ m j e i p h. elim h [ inl q ↦ absurd (none m j e i p q) | inr q ↦ absurd q ]) c);
        mine = λ a j e i q h. elim (among_either (outs x) (d.1 ∷ []) _ (subst (λ l. Among l (Datagram.Frame a j e i q)) eo h)) [
          | inl b ↦ g.mine a j e i q b
          | inr b ↦ elim b [ inl c ↦ absurd (none a j e i q c) | inr c ↦ absurd c ]
        ];
      }

  -- ---- members

  module _ (last : Log) (distinct : (log : Log) → Extends log last → Distinct (members n log)) where
    others_distinct : (x : Draft) → G x → Extends x.replica.log last → Distinct (other_members x.replica)
    unfolding other_members members_of
    others_distinct x g ex = distinct_filter (λ j. not (j == x.replica.me)) (members x.replica.n x.replica.log) (subst (λ z. Distinct (members z x.replica.log)) (sym g.size) (distinct x.replica.log ex))

    others_in : (x : Draft) → G x → (j : ℕ) → Among (other_members x.replica) j → IsOther n k x.replica.log j
    unfolding other_members members_of
    others_in x g j h =
        let t = kept_from (λ j. not (j == x.replica.me)) (members x.replica.n x.replica.log) j h in (
          subst (λ z. IsTrue (has (members z x.replica.log) j)) g.size (has_in (members x.replica.n x.replica.log) j t.0),
          λ e. false≢true (sym (not-true (j == x.replica.me) t.1) ∙ eq-eqb j x.replica.me (e ∙ sym g.me)),
        )

    others_every : (x : Draft) → G x → (j : ℕ) → IsOther n k x.replica.log j → Among (other_members x.replica) j
    unfolding other_members members_of
    others_every x g j h =
        among_filter (λ j. not (j == x.replica.me)) (members x.replica.n x.replica.log) j (ap not (ne_eqb j x.replica.me (λ e. h.1 (e ∙ g.me))))
        (has_from (members x.replica.n x.replica.log) j (subst (λ z. IsTrue (has (members z x.replica.log) j)) (sym g.size) h.0))

    -- a push without a record: the payload is no entry
    good_send : (x y : Draft) (p : InEpoch) (t : ℕ) → G x → Extends x.replica.log last → IsTrue (active x.replica.log) → time_of p ≡ t → would x reading ≡ Some t → ((f : Entry) → p ≡ InEpoch.Prepare f → ⊥) →
        ((s : Stamp) (u : ℕ) → p ≡ InEpoch.PrepareOk s u → Among x.replica.owed s) → y ≡ push_to_members p (issued_at t x) → G y
    unfolding seat_up push_to_members push_to issued_at next_frame other_members frames_to members_of live active
    good_send x y p t g ex a tp w none owes is =
        let u = seat_up x.replica in
        let z = push_to_members p (issued_at t x) in
        let ks = other_members x.replica in
        let b = before x in
        subst G (sym is) (good_push x z p ks g a refl refl refl (record {
          distinct = others_distinct x g ex;
          members_in = λ j h. subst (λ q. IsOther n k q.log j) (sym b) (others_in x g j h);
          every = λ j h. others_every x g j (subst (λ q. IsOther n k q.log j) b h);
          late = λ q h. subst (λ c. q < c) (sym tp) (would_late x reading t (sender_of n k v sent x g a).top w q (subst (λ s. Among s.issued q) b h));
          fit = fit_of n k v sent x g;
          known_is = ap (λ s. known s.log) (sym b);
          members_are = ap (λ s. members n s.log) (sym b);
          from = λ f h. inl (subst (λ s. Logged s.log f) (sym b) h);
          keeps = λ f h. subst (λ s. Logged s.log f) b h;
          says = λ f e. absurd (none f e);
          says_ok = λ s c e. let q = (receiver_of n k v sent x g a).owed s (owes s c e) in (q.0, q.1, q.2 ∙ ap (λ s. known s.log) (sym b), q.3);
          grows = λ e h. subst (λ s. IsTrue (has_entered e s.log)) b h;
          here = subst (λ s. IsTrue (has_entered (known s.log) x.replica.log)) (sym b) (live_entered k n x.replica.log (fit_of n k v sent x g) (and_parts (live x.replica.log) (not (suspended x.replica.log)) a).0).0;
          issued = ap (λ c. c ∷ x.replica.issued) (sym tp) ∙ ap (λ s. time_of p ∷ s.issued) (sym b);
          received = ap (λ s. s.received) (sym b);
          pushed = ap (λ s. s.pushed ++ behind p ks) (sym b);
          taken = ap (λ s. s.taken) (sym b);
          votes = λ s j h. inl (subst (λ q. Among q.votes (s, j)) (sym b) h);
          owed = λ s h. subst (λ q. Among q.owed s) (sym b) h;
        }))

    prepare_same : (f g : Entry) → InEpoch.Prepare f ≡ InEpoch.Prepare g → f ≡ g
    prepare_same f g h = cc

    -- a request is taken
    good_submit : (a : ℕ) (c : Command) (t : ℕ) (x : Draft) → G x → Extends x.replica.log last → IsTrue (active x.replica.log) → would x reading ≡ Some t → AllFit k n (submit a c t x).replica.log → G (submit a c t x)
    unfolding seat_up submit await keep count_vote push_to_members push_to issued_at next_frame other_members frames_to members_of members known decision live suspended active time_of
    good_submit a c t x g ex act w fit =
        let e : Entry = record { epoch = known x.replica.log; stamp = record { time = t; origin = x.replica.me }; command = c } in
        let p = InEpoch.Prepare e in
        let b = before x in
        let old = sender_of n k v sent x g act in
        good_push x (submit a c t x) p (other_members x.replica) g act refl refl refl (record {
          distinct = others_distinct x g ex;
          members_in = λ j h. subst (λ q. IsOther n k q.log j) (sym b) (others_in x g j h);
          every = λ j h. others_every x g j (subst (λ q. IsOther n k q.log j) b h);
          late = λ q h. would_late x reading t old.top w q (subst (λ s. Among s.issued q) b h);
          fit = fit;
          known_is = ap (λ s. known s.log) (sym b);
          members_are = ap (λ s. members n s.log) (sym b);
          from = λ f h. elim h [ inl q ↦ inr (ap InEpoch.Prepare (rec_same e f q)) | inr q ↦ inl (subst (λ s. Logged s.log f) (sym b) q) ];
          keeps = λ f h. inr (subst (λ s. Logged s.log f) b h);
          says = λ f q. let w = prepare_same e f q in (inl (ap Rec.Prepare w), ap (λ z. z.epoch) (sym w) ∙ ap (λ s. known s.log) (sym b), ap (λ z. z.stamp.origin) (sym w) ∙ g.me);
          says_ok = λ s u q. absurd (no_ok e s u q);
          grows = λ y h. entered_more y (Rec.Prepare e) x.replica.log (subst (λ s. IsTrue (has_entered y s.log)) b h);
          here = subst (λ s. IsTrue (has_entered (known s.log) (Rec.Prepare e ∷ x.replica.log))) (sym b)
              (entered_more (known x.replica.log) (Rec.Prepare e) x.replica.log (live_entered k n x.replica.log (fit_of n k v sent x g) (and_parts (live x.replica.log) (not (suspended x.replica.log)) act).0).0);
          issued = ap (λ s. t ∷ s.issued) (sym b);
          received = ap (λ s. s.received) (sym b);
          pushed = ap (λ s. s.pushed ++ behind p (other_members x.replica)) (sym b);
          taken = ap (λ s. s.taken) (sym b);
          votes = λ s j h. elim h [ inl q ↦ inr (ap (λ z. z.1) (sym q) ∙ g.me, (e, refl, ap (λ z. z.0) q)) | inr q ↦ inl (subst (λ z. Among z.votes (s, j)) (sym b) q) ];
          owed = λ s h. subst (λ q. Among q.owed s) (sym b) h;
        })
      where
        rec_same : (e f : Entry) → Rec.Prepare e ≡ Rec.Prepare f → e ≡ f
        rec_same e f h = cc

        no_ok : (e : Entry) (s : Stamp) (u : ℕ) → InEpoch.Prepare e ≡ InEpoch.PrepareOk s u → ⊥
        no_ok e s u h = absurd (cc)

    -- the frame that came, at its place in the world of the draft
    frame_in : (a m i : ℕ) (p : InEpoch) (x : Draft) → input ≡ Input.Came a (Datagram.Frame m r.me (known x.replica.log) i p) → i ≡ next_from x.replica m →
        Among (sent ++ outs x) (Datagram.Frame m k (known (at k (seat_up x.replica) v k).log) (taken_of m (at k (seat_up x.replica) v k).taken) p)
    unfolding seat_up next_from taken_of
    frame_in a m i p x inp is =
        let h : Among sent (Datagram.Frame m k (known x.replica.log) i p) = subst (λ z. Among sent (Datagram.Frame m z (known x.replica.log) i p)) r_me (came a m (known x.replica.log) i p inp) in
        subst (λ z. Among (sent ++ outs x) (Datagram.Frame m k (known z.log) (taken_of m z.taken) p)) (sym (before x))
        (subst (λ z. Among (sent ++ outs x) (Datagram.Frame m k (known x.replica.log) z p)) is (among_left sent (outs x) _ h))

    -- the next frame of a peer is taken
    good_takes : (a m i : ℕ) (p : InEpoch) (x : Draft) → G x → IsTrue (active x.replica.log) → input ≡ Input.Came a (Datagram.Frame m r.me (known x.replica.log) i p) → (m ≡ k → ⊥) → i ≡ next_from x.replica m →
        AllFit k n (take_frame m p x).replica.log → G (take_frame m p x)
    unfolding seat_up take_frame receive owe ack send keep count_vote next_from taken_of known decision members live suspended active time_of
    good_takes a m i (InEpoch.Prepare e) x g act inp other is fit =
        let b = before x in
        let fr = frame_in a m i (InEpoch.Prepare e) x inp is in
        good_take m (InEpoch.Prepare e) x (take_frame m (InEpoch.Prepare e) x) _ g act refl refl refl (λ a j e i q h. absurd (cc)) (record {
          other = other;
          frame = fr;
          fit = fit;
          known_is = ap (λ s. known s.log) (sym b);
          members_are = ap (λ s. members n s.log) (sym b);
          from = λ f h. elim h [ inl q ↦ inr (ap InEpoch.Prepare (rec_same e f q)) | inr q ↦ inl (subst (λ s. Logged s.log f) (sym b) q) ];
          keeps = λ f h. inr (subst (λ s. Logged s.log f) b h);
          got = λ f q. inl (ap Rec.Prepare (prepare_same e f q));
          grows = λ y h. entered_more y (Rec.Prepare e) x.replica.log (subst (λ s. IsTrue (has_entered y s.log)) b h);
          issued = ap (λ s. s.issued) (sym b);
          received = ap (λ s. (m, time_of (InEpoch.Prepare e)) ∷ s.received) (sym b);
          pushed = ap (λ s. s.pushed) (sym b);
          taken = ap (λ s. m ∷ s.taken) (sym b);
          votes = λ s j h. elim h [
            | inl q ↦ inr (inl (inr (ap (λ z. z.1) (sym q) ∙ g.me), (e, refl, ap (λ z. z.0) q)))
            | inr h' ↦ elim h' [
              | inl q ↦ inr (inl (inl (ap (λ z. z.1) (sym q)), (e, refl, ap (λ z. z.0) q)))
              | inr q ↦ inl (subst (λ z. Among z.votes (s, j)) (sym b) q)
            ]
          ];
          owed = λ s h. elim (with_stamp_is e.stamp x.replica.owed s h) [ inl q ↦ inr (e, refl, q) | inr q ↦ inl (subst (λ z. Among z.owed s) (sym b) q) ];
        }) (λ f h o. elim h [
          | inl q ↦ (let w = g.facts.says m k (known x.replica.log) (next_from x.replica m) e (subst (λ z. Among (sent ++ outs x) (Datagram.Frame m k (known z.log) (taken_of m z.taken) (InEpoch.Prepare e))) b fr) in
              absurd (other (sym w.2 ∙ ap (λ z. z.stamp.origin) (rec_same e f q) ∙ o)))
          | inr q ↦ q
        ])
      where
        rec_same : (e f : Entry) → Rec.Prepare e ≡ Rec.Prepare f → e ≡ f
        rec_same e f h = cc
    good_takes a m i (InEpoch.PrepareOk s at') x g act inp other is fit =
        let b = before x in
        good_take m (InEpoch.PrepareOk s at') x (take_frame m (InEpoch.PrepareOk s at') x) _ g act refl refl refl (λ a j e i q h. absurd (cc)) (record {
          other = other;
          frame = frame_in a m i (InEpoch.PrepareOk s at') x inp is;
          fit = fit;
          known_is = ap (λ s. known s.log) (sym b);
          members_are = ap (λ s. members n s.log) (sym b);
          from = λ f h. inl (subst (λ s. Logged s.log f) (sym b) h);
          keeps = λ f h. subst (λ s. Logged s.log f) b h;
          got = λ f q. absurd (cc);
          grows = λ y h. subst (λ s. IsTrue (has_entered y s.log)) b h;
          issued = ap (λ s. s.issued) (sym b);
          received = ap (λ z. (m, at') ∷ z.received) (sym b);
          pushed = ap (λ s. s.pushed) (sym b);
          taken = ap (λ s. m ∷ s.taken) (sym b);
          votes = λ u j h. elim h [ inl q ↦ inr (inr (ap (λ z. z.1) (sym q), (at', ap (λ z. InEpoch.PrepareOk z at') (ap (λ z. z.0) q)))) | inr q ↦ inl (subst (λ z. Among z.votes (u, j)) (sym b) q) ];
          owed = λ u h. inl (subst (λ z. Among z.owed u) (sym b) h);
        }) (λ f h o. h)
    good_takes a m i (InEpoch.ClockTime at') x g act inp other is fit =
        let b = before x in
        good_take m (InEpoch.ClockTime at') x (take_frame m (InEpoch.ClockTime at') x) _ g act refl refl refl (λ a j e i q h. absurd (cc)) (record {
          other = other;
          frame = frame_in a m i (InEpoch.ClockTime at') x inp is;
          fit = fit;
          known_is = ap (λ s. known s.log) (sym b);
          members_are = ap (λ s. members n s.log) (sym b);
          from = λ f h. inl (subst (λ s. Logged s.log f) (sym b) h);
          keeps = λ f h. subst (λ s. Logged s.log f) b h;
          got = λ f q. absurd (cc);
          grows = λ y h. subst (λ s. IsTrue (has_entered y s.log)) b h;
          issued = ap (λ s. s.issued) (sym b);
          received = ap (λ z. (m, at') ∷ z.received) (sym b);
          pushed = ap (λ s. s.pushed) (sym b);
          taken = ap (λ s. m ∷ s.taken) (sym b);
          votes = λ u j h. inl (subst (λ z. Among z.votes (u, j)) (sym b) h);
          owed = λ u h. inl (subst (λ z. Among z.owed u) (sym b) h);
        }) (λ f h o. h)

    refused_active : (x : Draft) → refusal x.replica ≡ None → IsTrue (active x.replica.log)
    unfolding refusal active when◌then◌otherwise◌
    refused_active x h = go (live x.replica.log) (suspended x.replica.log) _ h
      where
        go : (l s : Bool) (o : Option Refusal) → (when not l then Some Refusal.NotLive otherwise when s then Some Refusal.Suspended otherwise o) ≡ None → (l && not s) ≡ true
        go true false o e = refl
        go true true o e = absurd (none-some _ (sym e))
        go false s o e = absurd (none-some _ (sym e))

    time_ok : (s : Stamp) (t : ℕ) → time_of (InEpoch.PrepareOk s t) ≡ t
    unfolding time_of
    time_ok s t = refl

    time_clock : (t : ℕ) → time_of (InEpoch.ClockTime t) ≡ t
    unfolding time_of
    time_clock t = refl

    ok_same : (s : Stamp) (t : ℕ) (z : Stamp) (u : ℕ) → InEpoch.PrepareOk s t ≡ InEpoch.PrepareOk z u → s ≡ z
    ok_same s t z u h = cc

    no_and : (b : Bool) → (b && not true) ≡ false
    no_and true = refl
    no_and false = refl

    -- the epoch was not entered before
    new_epoch : (x : Draft) → IsTrue (fits x.replica.me x.replica.n x.replica.log (Rec.Enter (known x.replica.log))) → has_entered (known x.replica.log) x.replica.log ≡ false
    unfolding fits
    new_epoch x h = not-true (has_entered (known x.replica.log) x.replica.log) (and_parts _ (not (has_entered (known x.replica.log) x.replica.log)) h).1

    sends_kept : (m : ℕ) (c : Control) (x : Draft) → G x → G (send_control c x m)
    unfolding send_control seat_up when◌then◌otherwise◌
    sends_kept m c x g = go (x.replica.made == u64_max)
      where
        go : (b : Bool) → G (when b then x otherwise record x { replica = record x.replica { made = x.replica.made + 1 }; sends = x.sends ++ parts_to x.replica m c })
        go true = g
        go false = good_same n k v sent x _ (parts_to x.replica m c) g refl refl refl (λ a j e i q h. absurd (no_parts x.replica m c a j e i q h)) refl

    -- a frame that is sent again was sent
    again_old : (x : Draft) → G x → IsTrue (active x.replica.log) → (j : ℕ) (d : ℕ × InEpoch) → Among (unacked x.replica j) d → (b i e z : ℕ) (q : InEpoch) →
        Datagram.Frame x.replica.me j (known x.replica.log) d.0 d.1 ≡ Datagram.Frame b i e z q → (b ≡ k) × Among (sent ++ outs x) (Datagram.Frame b i e z q)
    unfolding seat_up
    again_old x g a j d l b i e z q h =
        let s = (sender_of n k v sent x g a).sent j d.0 d.1 (unacked_pushed x.replica j d l) in
        let bk : x.replica.me ≡ b = cc in
        (sym bk ∙ g.me, subst (λ w. Among (sent ++ outs x) w) h (subst (λ w. Among (sent ++ outs x) (Datagram.Frame w j (known x.replica.log) d.0 d.1)) (sym g.me) s))

    -- Each change keeps the facts.
    pub kept : (x y : Draft) → Change r input reading x y → IsTrue y.fitting → Extends x.replica.log last → G x → G y
    unfolding refuse reply keep noting send ack owing pay again_frame seat_up forget_epoch known decision members live suspended active
    kept x y (Submits a c t i h w) f ex g = good_submit a c t x g ex (refused_active x h) w (fit_after x y (Submits a c t i h w) f g (numbers_stay r input reading x y (Submits a c t i h w)).0 (numbers_stay r input reading x y (Submits a c t i h w)).1)
    kept x y (Refuses a c why i h) f ex g = good_same n k v sent x y [] g refl refl (no_sends x) (none_old x) refl
    kept x y (Commits e a h w) f ex g = good_record n k v sent (Rec.Commit e.stamp) x y g refl refl refl (λ z q. absurd (cc)) refl (fit_after x y (Commits e a h w) f g refl refl) refl refl refl refl refl refl refl refl refl
    kept x y Replies f ex g =
        let t = replies_seat x in let z = numbers_stay r input reading x y Replies in
        good_same n k v sent x y [] g z.0 z.1 (t.1 ∙ no_sends x) (none_old x) (sym t.0)
    kept x y (Takes a m e i p inp other ek peer is odd) f ex g =
        good_takes a m i p x g peer.0 (subst (λ z. input ≡ Input.Came a (Datagram.Frame m r.me z i p)) ek inp) (λ q. other (q ∙ sym r_me)) is (fit_after x y (Takes a m e i p inp other ek peer is odd) f g (numbers_stay r input reading x y (Takes a m e i p inp other ek peer is odd)).0 (numbers_stay r input reading x y (Takes a m e i p inp other ek peer is odd)).1)
    kept x y (Acks m p) f ex g = good_same n k v sent x y _ g refl refl refl (λ a j e i q h. elim h [ inl w ↦ absurd (cc) | inr w ↦ absurd w ]) refl
    kept x y (IsAcked m next p h) f ex g = good_same n k v sent x y [] g refl refl (no_sends x) (none_old x) refl
    kept x y (Pays s t a m w lt) f ex g = good_send x y (InEpoch.PrepareOk s t) t g ex a (time_ok s t) w (λ z q. absurd (cc)) (λ z u q. subst (λ b. Among x.replica.owed b) (ok_same s t z u q) m) refl
    kept x y (Owes ss a h) f ex g = good_owed n k v sent x y g refl refl refl refl refl refl refl refl refl h.0
    kept x y (SendsTime t a i w) f ex g = good_send x y (InEpoch.ClockTime t) t g ex a (time_clock t) w (λ z q. absurd (cc)) (λ z u q. absurd (cc)) refl
    kept x y (SendsAgain m d a h l) f ex g = good_same n k v sent x y _ g refl refl refl (λ b j e i q w. elim w [ inl z ↦ again_old x g a m d l b j e i q z | inr z ↦ absurd z ]) refl
    kept x y (SendsControl m c h) f ex g = sends_kept m c x g
    kept x y (Gathers a p i o) f ex g = good_same n k v sent x y [] g refl refl (no_sends x) (none_old x) refl
    kept x y (Suspends h) f ex g = good_off n k v sent (Rec.Suspend (known x.replica.log)) x y g refl refl refl (λ z q. absurd (cc)) refl (fit_after x y (Suspends h) f g refl refl) (no_and (live x.replica.log))
    kept x y (Collects ms asked h s) f ex g = good_same n k v sent x y [] g refl refl (no_sends x) (none_old x) refl
    kept x y (TakesPage ms pages e after p m h i w j) f ex g = good_same n k v sent x y [] g refl refl (no_sends x) (none_old x) refl
    kept x y (Completes ms pages m h w) f ex g = good_same n k v sent x y [] g refl refl (no_sends x) (none_old x) refl
    kept x y (Refrains d) f ex g = good_same n k v sent x y [] g refl refl (no_sends x) (none_old x) refl
    kept x y (GivesUp own seen m) f ex g = good_same n k v sent x y [] g refl refl (no_sends x) (none_old x) refl
    kept x y (Asks own seen b m by lt) f ex g = good_record n k v sent _ x y g refl refl refl (λ z q. absurd (cc)) refl (fit_after x y (Asks own seen b m by lt) f g refl refl) refl refl refl refl refl refl refl refl refl
    kept x y (CountsAnswer b own answers a m i h) f ex g = good_same n k v sent x y [] g refl refl (no_sends x) (none_old x) refl
    kept x y (Proposes b own answers m h) f ex g = good_same n k v sent x y [] g refl refl (no_sends x) (none_old x) refl
    kept x y (IsPreempted b own value acceptors top answers m h) f ex g = good_same n k v sent x y [] g refl refl (no_sends x) (none_old x) refl
    kept x y (AcceptsOwn b own value acceptors m h i j) f ex g = good_record n k v sent _ x y g refl refl refl (λ z q. absurd (cc)) refl (fit_after x y (AcceptsOwn b own value acceptors m h i j) f g refl refl) refl refl refl refl refl refl refl refl refl
    kept x y (CountsVote b own value acceptors m q w) f ex g = good_same n k v sent x y [] g refl refl (no_sends x) (none_old x) refl
    kept x y (Promises m b h lt) f ex g = good_record n k v sent _ x y g refl refl refl (λ z q. absurd (cc)) refl (fit_after x y (Promises m b h lt) f g refl refl) refl refl refl refl refl refl refl refl refl
    kept x y (Accepts m b d h i j l) f ex g = good_record n k v sent _ x y g refl refl refl (λ z q. absurd (cc)) refl (fit_after x y (Accepts m b d h i j l) f g refl refl) refl refl refl refl refl refl refl refl refl
    kept x y (Chooses b own d acceptors m h) f ex g = good_off n k v sent (Rec.Decide d) x y g refl refl refl (λ z q. absurd (cc)) refl (fit_after x y (Chooses b own d acceptors m h) f g refl refl) refl
    kept x y (Learns m d h lt) f ex g = good_off n k v sent (Rec.Decide d) x y g refl refl refl (λ z q. absurd (cc)) refl (fit_after x y (Learns m d h lt) f g refl refl) refl
    kept x y (AdoptsTail d h i j) f ex g = good_record n k v sent _ x y g refl refl refl (λ z q. absurd (cc)) refl (fit_after x y (AdoptsTail d h i j) f g refl refl) refl refl refl refl refl refl refl refl refl
    kept x y (AdoptsPage m e from es h i j) f ex g = good_record n k v sent _ x y g refl refl refl (λ z q. absurd (cc)) refl (fit_after x y (AdoptsPage m e from es h i j) f g refl refl) refl refl refl refl refl refl refl refl refl
    kept x y (Enters h) f ex g = good_enter n k v sent x y g refl refl refl refl (fit_after x y (Enters h) f g refl refl) (new_epoch x h) refl refl refl refl refl refl

    -- and so does a chain of changes
    pub chain_kept : {x y : Draft} → Changes r input reading x y → Extends y.replica.log last → G x → G y
    chain_kept stay ex g = g
    chain_kept (and_then {y = y} {z = z} p c f) ex g =
        let grown = change_grows y z (log_change r input reading y z c) in
        let ey = extends_trans grown ex in
        kept y z c f ey (chain_kept p ey g)
