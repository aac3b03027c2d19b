-- Each happening keeps the world sound.
use Rattle.std.proofs.Common.{zero, suc, ◌≡◌, ◌≢◌, ℕ, ◌+◌, ◌<◌, ◌≤◌, ◌⊎◌, Bool, true, false, nat_eq, List, [], ◌∷◌, ◌++◌, map, length, take, leb, append-nil, arith, inl, inr, refl, sym, subst, ap, ◌∙◌, Option, Some, None}
use Rattle.std.specs.List.{Contains, slice_get, slice_set, range_with_len}
use Rattle.std.specs.Option.{option_map_or}
use Rattle.std.proofs.lemmas.Bool.Decides.{nat_tests}
use Rattle.std.proofs.lemmas.List.{length-set}
use Rattle.std.proofs.lemmas.Option.{slice_get_within}
use Rattle.std.proofs.lemmas.List.Elements.{Contains-append_left, Contains-append_right, Contains-append_cases}
use Rattle.crsm_base.specs.Order.{ballot_lt}
use Rattle.crsm_base.proofs.Orders.{below-irrefl}
use Rattle.crsm_spec.specs.Lists.{numbers_below}
use Rattle.crsm_safety.proofs.Paxos.Majority.{nat_eq_is}
use Rattle.crsm_safety.proofs.Paxos.Basics.{changed, changed_at, changed_cases, got, nat_eq_not, le_from}
use Rattle.crsm_law_steps.proofs.Moments.{set_case, set_there}
use Rattle.crsm_mpspec.specs.declared.MpMessage.{MpMessage}
use Rattle.crsm_mpspec.specs.declared.MpInput.{MpInput}
use Rattle.crsm_mpspec.specs.Types.{Command, Value}
use Rattle.crsm_mpspec.specs.Log.{Log, promised, accepted_at, chosen_at, accepts, choices}
use Rattle.crsm_mpspec.specs.Replica.{Replica, Note, fresh, note_after}
use Rattle.crsm_mpspec.specs.Draft.{Draft, begun, noting, keep, keep_as}
use Rattle.crsm_mpspec.specs.Step.{step, boot}
use Rattle.crsm_mpspec.specs.World.{Site, Packet, World, log_of, log_at, with_site, packet_of, after_step, whole_step, then_down, cut_step, down}
use Rattle.crsm_mpspec.specs.Moments.{use_up}
use Rattle.crsm_law_mp.specs.Slots.{Seat, Sent, Slots, HasAsked, NoteHolds, IsTrueMessage, Holds, Past}
use Rattle.crsm_law_mp.proofs.Turns.{turn}
use Rattle.crsm_law_mp.proofs.Changes.{Stands, with_sends}
use Rattle.crsm_law_mp.proofs.Voting.{acceptor_of, idle_asks}
use Rattle.crsm_law_mp.proofs.Lists.{cons_cases, first_in, later_in, none_in, in_map, map_in}
use Rattle.crsm_law_mp.specs.Seats.{seat_of, seat_in, seat_at, IsSound}
use Rattle.crsm_law_mp.proofs.Telling.{in_take}
use Rattle.crsm_law_mp.proofs.Drafts.{seat_now, At, note_idle}
use Rattle.crsm_law_mp.proofs.Steps.{CanCome, step_at}

-- ---- the same seats and messages, written otherwise

module _ (spec : List ℕ) (past : Past) (seats seats' : ℕ → Seat) (sent sent' : Sent) (slots : Slots)
    (same : (k : ℕ) → seats' k ≡ seats k) (to : (k : ℕ) (m : MpMessage) → sent k m → sent' k m) (back : (k : ℕ) (m : MpMessage) → sent' k m → sent k m) where
  message_as : (k : ℕ) (m : MpMessage) → IsTrueMessage spec seats sent slots k m → IsTrueMessage spec seats' sent' slots k m
  message_as k (MpMessage.Prep b start) t = (t.0, subst (λ x. HasAsked x b start) (sym (same b.by)) t.1)
  message_as k (MpMessage.Prom b accepted chosen) t =
      let (member, j, start, asked, reported) = t in (member, j, start, to j (MpMessage.Prep b start) asked, reported)
  message_as k (MpMessage.No p) t = tt
  message_as k (MpMessage.Acc b s v) t = t
  message_as k (MpMessage.Accd b s) t = t
  message_as k (MpMessage.Learn s v) t = t
  message_as k (MpMessage.Ask start) t = tt

  pub holds_as : Holds spec past seats sent slots → Holds spec past seats' sent' slots
  holds_as h = record {
    reached = h.reached;
    same = λ s k. subst (λ x. (slots s).acceptor k ≡ record { promised = x.promised; accepted = x.accepted s }) (sym (same k)) (h.same s k);
    owners = λ s q c. subst (λ x. ballot_lt x.promised q.ballot ≡ false) (sym (same q.ballot.by)) (h.owners s q c);
    owned = h.owned;
    stays = h.stays;
    chosen = λ s k v is. h.chosen s k v (subst (λ x. x.chosen s ≡ Some v) (same k) is);
    notes = λ k. subst (λ x. NoteHolds spec slots k x x.note) (sym (same k)) (h.notes k);
    sound = λ k m there. message_as k m (h.sound k m (back k m there));
  }

-- ---- replicas

in_range : (len a k : ℕ) → a ≤ k → k < a + len → Contains (range_with_len a len) k
in_range zero a k low high = absurd (omega arith)
in_range (suc len) a k low high = go (nat_eq a k) refl (λ apart. in_range len (a + 1) k (omega arith) (omega arith))
  where
    go : (t : Bool) → nat_eq a k ≡ t → (a ≢ k → Contains (range_with_len (a + 1) len) k) → Contains (a ∷ range_with_len (a + 1) len) k
    go true e rest = subst (λ j. Contains (a ∷ range_with_len (a + 1) len) j) (nat_eq_is a k e) (first_in a (range_with_len (a + 1) len))
    go false e rest = later_in a (range_with_len (a + 1) len) k (rest (nat_eq_not a k e))

pub is_replica : (n k : ℕ) → k < n → Contains (numbers_below n) k
unfolding numbers_below
is_replica n k below = in_range n 0 k (omega arith) (omega arith)

-- ---- one site changes

set_past : {A : Type 0} (xs : List A) (k : ℕ) (y : A) → length xs ≤ k → slice_set xs k y ≡ xs
set_past [] k y past = refl
set_past (x ∷ xs) zero y past = absurd (omega arith)
set_past (x ∷ xs) (suc k) y past = ap (λ zs. x ∷ zs) (set_past xs k y (omega arith))

pub same_site : (s t : Site) → Some s ≡ Some t → s ≡ t
same_site s t e = cc

pub up_is : (r q : Replica) → Site.Up r ≡ Site.Up q → r ≡ q
up_is r q e = cc

pub never_up : (log : Log) (q : Replica) → Site.Down log ≡ Site.Up q → ⊥
never_up log q e = cc

-- a site whose replica, if it is up, is this one
abbrev IsPlaced : ℕ → ℕ → Site → Type 0
IsPlaced n k (Site.Up r) = (r.me ≡ k) × (r.n ≡ n)
IsPlaced n k (Site.Down log) = Unit {0}

module _ (n : ℕ) (past : Past) (w : World) (sound : IsSound n past w) (k : ℕ) (within : k < length w.sites) (site : Site) (placed : IsPlaced n k site)
    (past' : Past) (v : World) (size : v.n ≡ w.n) (sites : v.sites ≡ slice_set w.sites k site)
    (made : List (ℕ × MpMessage)) (sent : (p : Packet) → Contains v.packets p → Contains made (p.from, p.message)) (slots : Slots)
    (holds : Holds (numbers_below n) past' (changed (seat_at w) k (seat_in site)) (λ j m. Contains made (j, m)) slots) where
  seat_is : (j : ℕ) → seat_at v j ≡ changed (seat_at w) k (seat_in site) j
  unfolding seat_at
  seat_is j =
      subst (λ ss. option_map_or seat_in (slice_get ss j) (seat_of [] Note.Idle) ≡ changed (seat_at w) k (seat_in site) j) (sym sites)
      (changed_cases (seat_at w) k (seat_in site) j (λ y. option_map_or seat_in (slice_get (slice_set w.sites k site) j) (seat_of [] Note.Idle) ≡ y)
      (λ is. subst (λ i. option_map_or seat_in (slice_get (slice_set w.sites k site) i) (seat_of [] Note.Idle) ≡ seat_in site) (sym is)
      (ap (λ o. option_map_or seat_in o (seat_of [] Note.Idle)) (set_there w.sites k site within)))
      (λ other. elim (set_case w.sites k site j) [
        | inl e ↦ ap (λ o. option_map_or seat_in o (seat_of [] Note.Idle)) e
        | inr c ↦ absurd (other c.0)
      ]))

  at_place : (j : ℕ) (r : Replica) → slice_get v.sites j ≡ Some (Site.Up r) → (r.me ≡ j) × (r.n ≡ n)
  at_place j r is =
      elim (set_case w.sites k site j) [
        | inl e ↦ let old : slice_get w.sites j ≡ Some (Site.Up r) = sym e ∙ now in (sound.me j r old, sound.count j r old)
        | inr c ↦
            let here : site ≡ Site.Up r = same_site site (Site.Up r) (sym c.1 ∙ now) in
            let mine : IsPlaced n k (Site.Up r) = subst (λ s. IsPlaced n k s) here placed in
            (mine.0 ∙ sym c.0, mine.1)
      ]
    where
      now : slice_get (slice_set w.sites k site) j ≡ Some (Site.Up r)
      now = subst (λ ss. slice_get ss j ≡ Some (Site.Up r)) sites is

  pub sound_with_site : IsSound n past' v
  sound_with_site = record {
    size = size ∙ sound.size;
    places = ap length sites ∙ (length-set w.sites k site ∙ sound.places);
    me = λ j r is. (at_place j r is).0;
    count = λ j r is. (at_place j r is).1;
    made = made;
    sent = sent;
    slots = slots;
    holds = holds_as (numbers_below n) past' (changed (seat_at w) k (seat_in site)) (seat_at v) (λ j m. Contains made (j, m)) (λ j m. Contains made (j, m)) slots
        seat_is (λ j m c. c) (λ j m c. c) holds;
  }

-- ---- more past commands, fewer packets

-- more commands were submitted, and no more values known but such as a replica knows
pub record GoesOn (past more : Past) (w : World) : Type 0 where
  pub submitted : (c : Command) → Contains past.submitted c → Contains more.submitted c
  pub known : (s : ℕ) (v : Value) → Contains more.known (s, v) → Contains past.known (s, v) ⊎ ((k : ℕ) × (chosen_at s (log_at w k) ≡ Some v))

pub seat_chosen : (w : World) (k s : ℕ) → (seat_at w k).chosen s ≡ chosen_at s (log_at w k)
unfolding seat_at log_at seat_in log_of seat_of
seat_chosen w k s = go (slice_get w.sites k)
  where
    go : (o : Option Site) → (option_map_or seat_in o (seat_of [] Note.Idle)).chosen s ≡ chosen_at s (option_map_or log_of o [])
    go None = refl
    go (Some (Site.Up r)) = refl
    go (Some (Site.Down log)) = refl

pub sound_more : (n : ℕ) (past more : Past) (w : World) → GoesOn past more w → IsSound n past w → IsSound n more w
sound_more n past more w on s = record {
  size = s.size;
  places = s.places;
  me = s.me;
  count = s.count;
  made = s.made;
  sent = s.sent;
  slots = s.slots;
  holds = record {
    reached = s.holds.reached;
    same = s.holds.same;
    owners = s.holds.owners;
    owned = λ t q c there is. on.submitted c (s.holds.owned t q c there is);
    stays = λ t v c. elim (on.known t v c) [
      | inl old ↦ s.holds.stays t v old
      | inr new ↦ s.holds.chosen t new.0 v (seat_chosen w new.0 t ∙ new.1)
    ];
    chosen = s.holds.chosen;
    notes = s.holds.notes;
    sound = s.holds.sound;
  };
}

in_set : {A : Type 0} (xs : List A) (k : ℕ) (y z : A) → Contains (slice_set xs k y) z → (y ≡ z) ⊎ Contains xs z
in_set [] k y z c = inr c
in_set (x ∷ xs) zero y z c = elim (cons_cases y xs z c) [ inl is ↦ inl is | inr rest ↦ inr (later_in x xs z rest) ]
in_set (x ∷ xs) (suc k) y z c =
    elim (cons_cases x (slice_set xs k y) z c) [
      | inl is ↦ inr (subst (λ a. Contains (x ∷ xs) a) is (first_in x xs))
      | inr rest ↦ elim (in_set xs k y z rest) [ inl new ↦ inl new | inr old ↦ inr (later_in x xs z old) ]
    ]

-- a packet of a world in which one more is used is one that was there, but for its use
used_packet : (i : ℕ) (w : World) (p : Packet) → Contains (use_up i w).packets p → (q : Packet) × Contains w.packets q × (q.from ≡ p.from) × (q.message ≡ p.message)
unfolding use_up
used_packet i w p c = go (slice_get w.packets i) refl c
  where
    go : (o : Option Packet) → slice_get w.packets i ≡ o → Contains (option_map_or (λ m. slice_set w.packets i (record m { used = true })) o w.packets) p →
        (q : Packet) × Contains w.packets q × (q.from ≡ p.from) × (q.message ≡ p.message)
    go None e c = (p, c, refl, refl)
    go (Some m) e c = elim (in_set w.packets i (record m { used = true }) p c) [
      | inl is ↦ (m, got w.packets i m e, ap (λ z. z.from) is, ap (λ z. z.message) is)
      | inr old ↦ (p, old, refl, refl)
    ]

pub use_up_sound : (n : ℕ) (past : Past) (i : ℕ) (w : World) → IsSound n past w → IsSound n past (use_up i w)
unfolding use_up seat_at
use_up_sound n past i w s = record {
  size = s.size;
  places = s.places;
  me = s.me;
  count = s.count;
  made = s.made;
  sent = λ p c.
      let (q, there, from, message) = used_packet i w p c in
      subst (λ f. Contains s.made (f, p.message)) from (subst (λ m. Contains s.made (q.from, m)) message (s.sent q there));
  slots = s.slots;
  holds = s.holds;
}

pub use_up_made : (n : ℕ) (past : Past) (i : ℕ) (w : World) (s : IsSound n past w) → (use_up_sound n past i w s).made ≡ s.made
unfolding use_up_sound
use_up_made n past i w s = refl

-- ---- a replica steps

module _ (n : ℕ) (past : Past) (w : World) (sound : IsSound n past w) (k : ℕ) (r : Replica)
    (is : slice_get w.sites k ≡ Some (Site.Up r)) where
  within : k < length w.sites
  within = slice_get_within w.sites k (Site.Up r) is

  pub member : Contains (numbers_below n) k
  member = is_replica n k (subst (λ l. k < l) sound.places within)

  seat_here : seat_at w k ≡ seat_of r.log r.note
  unfolding seat_at seat_in
  seat_here = ap (λ o. option_map_or seat_in o (seat_of [] Note.Idle)) is

  -- in the middle of a step of k
  abbrev pub InStep : Draft → Slots → Type 0
  InStep x slots = At n past (seat_at w) (λ j m. Contains sound.made (j, m)) k x slots

  begins : Stands (numbers_below n) past (seat_at w) (λ j m. Contains sound.made (j, m)) k (seat_of r.log r.note) [] sound.slots
  begins =
      holds_as (numbers_below n) past (seat_at w) (changed (seat_at w) k (seat_of r.log r.note)) (λ j m. Contains sound.made (j, m))
      (with_sends (λ j m. Contains sound.made (j, m)) k []) sound.slots
      (λ j. changed_cases (seat_at w) k (seat_of r.log r.note) j (λ y. y ≡ seat_at w j) (λ same. subst (λ i. seat_of r.log r.note ≡ seat_at w i) (sym same) (sym seat_here)) (λ other. refl))
      (λ j m c. inl c) (λ j m c. elim c [ inl old ↦ old | inr new ↦ absurd (none_in (new.1, m) new.2) ])
      sound.holds

  pub begins_step : InStep (begun r) sound.slots
  unfolding begun
  begins_step = record { me = sound.me k r is; count = sound.count k r is; stands = begins }

  pub steps : (input : MpInput) (from : ℕ) → CanCome n past (seat_at w) (λ j m. Contains sound.made (j, m)) k member (begun r) input from →
      (slots : Slots) × InStep (step r input from) slots
  steps input from can =
      step_at n past (seat_at w) (λ j m. Contains sound.made (j, m)) k member r sound.slots (sound.me k r is) (sound.count k r is) begins input from can

  module _ (x : Draft) (slots : Slots) (a : InStep x slots) where
    all_made : List (ℕ × MpMessage)
    all_made = sound.made ++ map (λ s. (k, s.1)) x.sends

    in_made : (p : Packet) (sends : List (ℕ × MpMessage)) → ((s : ℕ × MpMessage) → Contains sends s → Contains x.sends s) → Contains (w.packets ++ map (packet_of k) sends) p → Contains all_made (p.from, p.message)
    unfolding all_made packet_of
    in_made p sends few c =
        elim (Contains-append_cases w.packets (map (packet_of k) sends) p c) [
          | inl old ↦ Contains-append_left sound.made _ _ (sound.sent p old)
          | inr new ↦
              let (s, there, same) = in_map (packet_of k) sends p new in
              Contains-append_right sound.made (map (λ s. (k, s.1)) x.sends) (p.from, p.message)
              (subst (λ q. Contains {X = ℕ × MpMessage} (map (λ s. (k, s.1)) x.sends) (q.from, q.message)) same (map_in (λ s. (k, s.1)) x.sends s (few s there)))
        ]

    made_holds : (seat : Seat) → Stands (numbers_below n) past (seat_at w) (λ j m. Contains sound.made (j, m)) k seat x.sends slots →
        Holds (numbers_below n) past (changed (seat_at w) k seat) (λ j m. Contains all_made (j, m)) slots
    unfolding all_made
    made_holds seat st =
        holds_as (numbers_below n) past (changed (seat_at w) k seat) (changed (seat_at w) k seat) (with_sends (λ j m. Contains sound.made (j, m)) k x.sends)
        (λ j m. Contains all_made (j, m)) slots (λ j. refl)
        (λ j m c. elim c [
          | inl old ↦ Contains-append_left sound.made _ _ old
          | inr new ↦ Contains-append_right sound.made (map (λ s. (k, s.1)) x.sends) (j, m)
              (subst (λ i. Contains {X = ℕ × MpMessage} (map (λ s. (k, s.1)) x.sends) (i, m)) (sym new.0) (map_in (λ s. (k, s.1)) x.sends (new.1, m) new.2))
        ])
        (λ j m c. elim (Contains-append_cases sound.made (map (λ s. (k, s.1)) x.sends) (j, m) c) [
          | inl old ↦ inl old
          | inr new ↦
              let (s, there, same) = in_map (λ s. (k, s.1)) x.sends (j, m) new in
              inr (sym (ap (λ p. p.0) same), s.0, subst (λ o. Contains x.sends (s.0, o)) (ap (λ p. p.1) same) there)
        ])
        st

    -- a step that ends whole
    pub whole_sound : IsSound n past (whole_step w k x).after
    unfolding whole_step after_step seat_in
    whole_sound =
        sound_with_site n past w sound k within (Site.Up x.replica) (a.me, a.count) past (whole_step w k x).after refl refl all_made
        (λ p c. in_made p x.sends (λ s there. there) c) slots (made_holds (seat_now x) a.stands)

    -- a step that stops once its batch is kept
    pub cut_sound : (count : ℕ) → IsSound n past (cut_step count w k x).after
    unfolding cut_step then_down after_step seat_in noting
    cut_sound count =
        sound_with_site n past w sound k within (Site.Down x.replica.log) tt past (cut_step count w k x).after refl refl all_made
        (λ p c. in_made p (take count x.sends) (λ s there. in_take count x.sends s there) c) slots
        (made_holds (seat_of x.replica.log Note.Idle) (note_idle n past (seat_at w) (λ j m. Contains sound.made (j, m)) k x slots a).stands)

-- ---- a replica stops or starts

-- a replica that is at nothing, of the same log
module _ (n : ℕ) (past : Past) (w : World) (sound : IsSound n past w) (k : ℕ) where
  rests : Holds (numbers_below n) past (changed (seat_at w) k (seat_of (log_at w k) Note.Idle)) (λ j m. Contains sound.made (j, m)) sound.slots
  unfolding seat_at log_at seat_in log_of seat_of
  rests =
      let h : Holds (numbers_below n) past (seat_at w) (λ j m. Contains sound.made (j, m)) sound.slots = sound.holds in
      turn (numbers_below n) past (seat_at w) (changed (seat_at w) k (seat_of (log_at w k) Note.Idle)) (λ j m. Contains sound.made (j, m)) (λ j m. Contains sound.made (j, m))
      sound.slots sound.slots h
      (record { reached = h.reached; promises = λ s p c. c; votes = λ s v c. c; proposals = λ s q c. c; chosen = λ s v c. c })
      k (seat_of (log_at w k) Note.Idle) (changed_at (seat_at w) k (seat_of (log_at w k) Note.Idle) (λ y. y ≡ seat_of (log_at w k) Note.Idle) refl)
      (λ j apart. changed_cases (seat_at w) k (seat_of (log_at w k) Note.Idle) j (λ y. y ≡ seat_at w j) (λ same. absurd (apart same)) (λ other. refl))
      (subst (λ b. ballot_lt b (seat_at w k).promised ≡ false) same_promise (below-irrefl (seat_at w k).promised))
      (λ s. h.same s k ∙ acceptor_of (seat_at w k).promised (seat_of (log_at w k) Note.Idle).promised ((seat_at w k).accepted s) ((seat_of (log_at w k) Note.Idle).accepted s) same_promise (same_accepted s))
      (λ s j apart. refl) (λ s q c. inl c) (λ s v e. h.chosen s k v (same_chosen s ∙ e)) tt
      (idle_asks (λ j m. Contains sound.made (j, m)) (seat_of (log_at w k) Note.Idle) refl)
      (λ j m c. c) (λ j m c. inl c)
    where
      by_site : (o : Option Site) → (P : Seat → Seat → Type 0) → ((log : Log) (note : Note) → P (seat_of log note) (seat_of log Note.Idle)) →
          P (option_map_or seat_in o (seat_of [] Note.Idle)) (seat_of (option_map_or log_of o []) Note.Idle)
      by_site None P h = h [] Note.Idle
      by_site (Some (Site.Up r)) P h = h r.log r.note
      by_site (Some (Site.Down log)) P h = h log Note.Idle

      same_promise : (seat_at w k).promised ≡ (seat_of (log_at w k) Note.Idle).promised
      same_promise = by_site (slice_get w.sites k) (λ x y. x.promised ≡ y.promised) (λ log note. refl)

      same_accepted : (s : ℕ) → (seat_at w k).accepted s ≡ (seat_of (log_at w k) Note.Idle).accepted s
      same_accepted s = by_site (slice_get w.sites k) (λ x y. x.accepted s ≡ y.accepted s) (λ log note. refl)

      same_chosen : (s : ℕ) → (seat_at w k).chosen s ≡ (seat_of (log_at w k) Note.Idle).chosen s
      same_chosen s = by_site (slice_get w.sites k) (λ x y. x.chosen s ≡ y.chosen s) (λ log note. refl)

  pub down_sound : IsSound n past (down w k).after
  unfolding down with_site seat_in seat_at
  down_sound = go (leb (suc k) (length w.sites)) refl
    where
      go : (t : Bool) → leb (suc k) (length w.sites) ≡ t → IsSound n past (record w { sites = slice_set w.sites k (Site.Down (log_at w k)) })
      go true e =
          sound_with_site n past w sound k (le_from _ _ e) (Site.Down (log_at w k)) tt past (record w { sites = slice_set w.sites k (Site.Down (log_at w k)) }) refl refl
          sound.made sound.sent sound.slots rests
      go false e = record {
        size = sound.size;
        places = subst (λ ss. length ss ≡ n) (sym (same_sites e)) sound.places;
        me = subst (λ ss. (j : ℕ) (r : Replica) → slice_get ss j ≡ Some (Site.Up r) → r.me ≡ j) (sym (same_sites e)) sound.me;
        count = subst (λ ss. (j : ℕ) (r : Replica) → slice_get ss j ≡ Some (Site.Up r) → r.n ≡ n) (sym (same_sites e)) sound.count;
        made = sound.made;
        sent = sound.sent;
        slots = sound.slots;
        holds = subst (λ ss. Holds (numbers_below n) past (λ j. option_map_or seat_in (slice_get ss j) (seat_of [] Note.Idle)) (λ j m. Contains sound.made (j, m)) sound.slots)
            (sym (same_sites e)) sound.holds;
      }
        where
          same_sites : leb (suc k) (length w.sites) ≡ false → slice_set w.sites k (Site.Down (log_at w k)) ≡ w.sites
          same_sites e = let past : length w.sites ≤ k = grind (arith, nat_tests) in set_past w.sites k (Site.Down (log_at w k)) past

  pub start_sound : k < length w.sites → IsSound n past (whole_step w k (boot k w.n (log_at w k))).after
  unfolding whole_step after_step boot keep keep_as note_after fresh begun seat_in seat_of promised accepted_at chosen_at accepts choices
  start_sound within =
      sound_with_site n past w sound k within (Site.Up (boot k w.n (log_at w k)).replica) (refl, sound.size) past (whole_step w k (boot k w.n (log_at w k))).after refl refl
      sound.made (λ p c. sound.sent p (subst (λ ps. Contains ps p) (append-nil w.packets) c)) sound.slots rests
