-- A whole step of a replica keeps the invariant.
use Rattle.std.proofs.Common.{◌≡◌, ℕ, ◌⊎◌, true, false, not, ◌==◌, List, [], ◌∷◌, filter, take, drop, length, inl, inr, refl, sym, subst, ◌∙◌, Option, Some, None}
use Rattle.std.specs.List.{Contains, fold, slice_get, enumerate_from}
use Rattle.std.specs.Option.{option_map_or}
use Rattle.std.proofs.lemmas.List.Elements.{filter_passes, All-contains}
use Rattle.crsm_base.specs.Limits.{most_again}
use Rattle.crsm_base.specs.Order.{ballot_lt}
use Rattle.crsm_base.proofs.Orders.{below-irrefl}
use Rattle.crsm_spec.specs.Lists.{numbers_below}
use Rattle.crsm_spec.specs.Paxos.{Held, IsChosen}
use Rattle.crsm_safety.proofs.Paxos.Majority.{nat_eq_is}
use Rattle.crsm_safety.proofs.Paxos.Basics.{changed}
use Rattle.crsm_mpspec.specs.declared.MpMessage.{MpMessage}
use Rattle.crsm_mpspec.specs.declared.MpInput.{MpInput}
use Rattle.crsm_mpspec.specs.declared.MpLine.{MpLine}
use Rattle.crsm_mpspec.specs.Types.{Ballot, Command, Value}
use Rattle.crsm_mpspec.specs.Log.{accepted_at, is_chosen, executed}
use Rattle.crsm_mpspec.specs.Replica.{Replica, Report, Note, Waiting, others, slots_of}
use Rattle.crsm_mpspec.specs.Draft.{Draft, begun, send, send_to_each}
use Rattle.crsm_mpspec.specs.Deciding.{on_request, refuse}
use Rattle.crsm_mpspec.specs.Step.{teach, on_ask, unreported, open_slots, unvoted, propose_again, renew, on_tick, on_message, on_input, reply_line, answer, answer_each, replies, step}
use Rattle.crsm_law_mp.specs.Slots.{Seat, Sent, Slots, HasAsked, HasProposed, IsAsking, IsLeading, NoteHolds, IsTrueMessage, Past}
use Rattle.crsm_law_mp.proofs.Changes.{Stands, with_sends, seat}
use Rattle.crsm_law_mp.proofs.Voting.{voted_proposed, same_some}
use Rattle.crsm_law_mp.proofs.Lists.{first_in, later_in, none_in, in_map}
use Rattle.crsm_law_mp.specs.Seats.{seat_of}
use Rattle.crsm_law_mp.proofs.Telling.{in_filter, in_take, taught}
use Rattle.crsm_law_mp.proofs.Drafts.{seat_now, At, Good, note_at, known_at, send_at, send_each_at}
use Rattle.crsm_law_mp.proofs.Accepting.{learn_at, on_acc_at, on_prep_at, on_no_at}
use Rattle.crsm_law_mp.proofs.Leading.{sends_replica, send_others_at, leads_at, on_accd_at, on_request_at, reply_at}
use Rattle.crsm_law_mp.proofs.Electing.{on_prom_at, on_lead_at}

in_slots : (k : ℕ) (votes : List (ℕ × ℕ)) (s : ℕ) → Contains (slots_of k votes) s → Contains votes (s, k)
unfolding slots_of
in_slots k votes s c =
    let (v, kept, is) = in_map (λ v. v.0) (filter (λ v. v.1 == k) votes) s c in
    let passes : (v.1 == k) ≡ true = All-contains (λ w. (w.1 == k) ≡ true) (filter (λ w. w.1 == k) votes) v (filter_passes (λ w. w.1 == k) votes) kept in
    let there : Contains votes v = in_filter (λ w. w.1 == k) votes v kept in
    subst (λ j. Contains votes (s, j)) (nat_eq_is v.1 k passes) (subst (λ t. Contains votes (t, v.1)) is there)

-- the command is refused
abbrev pub IsRefused : Command → Draft → Type 0
IsRefused c x = (code : ℕ) × (on_request c x ≡ refuse code c x)

module _ (n : ℕ) (past : Past) (base : ℕ → Seat) (sent : Sent) (k : ℕ) (member : Contains (numbers_below n) k) where
  -- ---- who asks for executed values is told

  taught_each : (from : ℕ) (ps : List (ℕ × Value)) (x : Draft) (slots : Slots) → At n past base sent k x slots →
      ((p : ℕ × Value) → Contains ps p → IsChosen (numbers_below n) (slots p.0) p.1) → At n past base sent k (fold (teach from) x ps) slots
  unfolding teach
  taught_each from [] x slots a are = a
  taught_each from (p ∷ ps) x slots a are =
      taught_each from ps (send (MpMessage.Learn p.0 p.1) x from) slots
      (send_at n past base sent k x slots a (MpMessage.Learn p.0 p.1) from (are p (first_in p ps))) (λ q there. are q (later_in p ps q there))

  on_ask_at : (x : Draft) (slots : Slots) → At n past base sent k x slots → (from start : ℕ) → At n past base sent k (on_ask from start x) slots
  unfolding on_ask
  on_ask_at x slots a from start =
      taught_each from (take most_again (drop start (enumerate_from 0 (executed x.replica.log)))) x slots a
      (λ p there. known_at n past base sent k x slots a p.0 p.1 (taught most_again start x.replica.log p there))

  -- ---- ticks

  module _ (b : Ballot) (votes : List (ℕ × ℕ)) (r : Replica) (slots : Slots) where
    again_each : (ss : List ℕ) (x : Draft) → At n past base sent k x slots → x.replica ≡ r →
        ((s : ℕ) → Contains ss s → (v : Ballot × Value) → accepted_at s r.log ≡ Some v → HasProposed (slots s) b v.1) →
        At n past base sent k (fold (propose_again b votes) x ss) slots
    unfolding propose_again
    again_each [] x a same are = a
    again_each (s ∷ ss) x a same are =
        go (accepted_at s x.replica.log) refl (λ y at is. again_each ss y at is (λ t there v e. are t (later_in s ss t there) v e))
      where
        go : (o : Held Value) → accepted_at s x.replica.log ≡ o →
            ((y : Draft) → At n past base sent k y slots → y.replica ≡ r → At n past base sent k (fold (propose_again b votes) y ss) slots) →
            At n past base sent k (fold (propose_again b votes) (option_map_or (λ v. send_to_each (unvoted s votes x.replica) (MpMessage.Acc b s v.1) x) o x) ss) slots
        go None e rest = rest x a same
        go (Some v) e rest =
            let proposed : HasProposed (slots s) b v.1 = are s (first_in s ss) v (subst (λ z. accepted_at s z.log ≡ Some v) same e) in
            rest (send_to_each (unvoted s votes x.replica) (MpMessage.Acc b s v.1) x)
            (send_each_at n past base sent k (unvoted s votes x.replica) x slots a (MpMessage.Acc b s v.1) (λ sends. proposed))
            (sends_replica (unvoted s votes x.replica) (MpMessage.Acc b s v.1) x ∙ same)

  renew_at : (x : Draft) (slots : Slots) → At n past base sent k x slots → (note : Note) → x.replica.note ≡ note → At n past base sent k (renew note x) slots
  unfolding renew seat_of open_slots
  renew_at x slots a Note.Idle is = a
  renew_at x slots a (Note.Asking b start reports) is =
      let asks : IsAsking (numbers_below n) slots k (seat_now x) b start reports =
      subst (λ note. NoteHolds (numbers_below n) slots k (seat_now x) note) is (note_at n past base sent k x slots a) in
      let asked : HasAsked (seat_now x) b start = record {
        promised = subst (λ c. ballot_lt c b ≡ false) (sym asks.current) (below-irrefl b);
        same = λ from others e. asked_from from others (sym is ∙ e);
      } in
      send_each_at n past base sent k (unreported reports x.replica) x slots a (MpMessage.Prep b start) (λ sends. (
        asks.high,
        subst (λ j. HasAsked (changed base k (seat_now x) j) b start) (sym asks.by)
            (subst (λ y. HasAsked y b start) (sym (seat (numbers_below n) past base sent k (seat_now x))) asked),
      ))
    where
      asked_from : (from : ℕ) (others : List Report) → Note.Asking b start reports ≡ Note.Asking b from others → from ≡ start
      asked_from from others e = cc
  renew_at x slots a (Note.Leading b start next reports votes) is =
      let leads : IsLeading (numbers_below n) slots k (seat_now x) b start next reports votes = leads_at n past base sent k x slots a b start next reports votes is in
      again_each b votes x.replica slots (open_slots votes x.replica) x a refl (λ s there v e.
      let voted : Contains votes (s, k) = subst (λ j. Contains votes (s, j)) a.me (in_slots x.replica.me votes s
      (in_filter (λ t. not (is_chosen t x.replica.log)) (slots_of x.replica.me votes) s
      (in_take most_again (filter (λ t. not (is_chosen t x.replica.log)) (slots_of x.replica.me votes)) s there))) in
      let (of_spec, w, accepted, cast) = leads.voted s k voted in
      let same : (b, w) ≡ v = same_some (b, w) v (sym accepted ∙ e) in
      subst (λ z. HasProposed (slots s) b z.1) same (voted_proposed (numbers_below n) past base sent k (seat_now x) x.sends slots a.stands s b k w cast))

  on_tick_at : (x : Draft) (slots : Slots) → At n past base sent k x slots → At n past base sent k (on_tick x) slots
  unfolding on_tick
  on_tick_at x slots a =
      send_others_at n past base sent k (renew x.replica.note x) slots (renew_at x slots a x.replica.note refl) (MpMessage.Ask (length (executed x.replica.log))) (λ sends. tt)

  refused_at : (x : Draft) (slots : Slots) → At n past base sent k x slots → (code : ℕ) (c : Command) → At n past base sent k (refuse code c x) slots
  unfolding refuse
  refused_at x slots a code c = reply_at n past base sent k x slots a (MpLine.ReplyNo x.replica.me c.client c.number code)

  -- ---- any input

  on_message_at : (x : Draft) (slots : Slots) → At n past base sent k x slots → x.sends ≡ [] → (from : ℕ) (m : MpMessage) → sent from m → Good n past base sent k (on_message from m x)
  unfolding on_message
  on_message_at x slots a none from m there = go m there (a.stands.sound from m (inl there))
    where
      only_before : (j : ℕ) (o : MpMessage) → with_sends sent k x.sends j o → sent j o
      only_before j o now = elim now [
        | inl before ↦ before
        | inr new ↦ absurd (none_in (new.1, o) (subst (λ sends. Contains sends (new.1, o)) none new.2))
      ]

      go : (m : MpMessage) → sent from m → IsTrueMessage (numbers_below n) (changed base k (seat_now x)) (with_sends sent k x.sends) slots from m → Good n past base sent k (on_message from m x)
      go (MpMessage.Prep b start) there t = on_prep_at n past base sent k member x slots a from b start t.0 there
      go (MpMessage.Prom b accepted chosen) there t =
          let (of_spec, j, start, asked, reported) = t in
          on_prom_at n past base sent k member x slots a from b accepted chosen of_spec j start (only_before j (MpMessage.Prep b start) asked) reported
      go (MpMessage.No p) there t = (slots, on_no_at n past base sent k member x slots a p)
      go (MpMessage.Acc b s v) there t = on_acc_at n past base sent k member x slots a from b s v t
      go (MpMessage.Accd b s) there t = (slots, on_accd_at n past base sent k x slots a from b s t.0 t.1 t.2)
      go (MpMessage.Learn s v) there t = (slots, learn_at n past base sent k member x slots a s v t)
      go (MpMessage.Ask start) there t = (slots, on_ask_at x slots a from start)

  -- an input that can come: a message that was sent, or a command that is one of these or is refused
  abbrev pub CanCome : Draft → MpInput → ℕ → Type 0
  CanCome x (MpInput.Request c) from = Contains past.submitted c ⊎ IsRefused c x
  CanCome x (MpInput.Message m) from = sent from m
  CanCome x MpInput.Tick from = Unit {0}
  CanCome x MpInput.Lead from = Unit {0}

  on_input_at : (x : Draft) (slots : Slots) → At n past base sent k x slots → x.sends ≡ [] → (input : MpInput) (from : ℕ) → CanCome x input from → Good n past base sent k (on_input input from x)
  unfolding on_input
  on_input_at x slots a none (MpInput.Request c) from can =
      elim can [
        | inl owned ↦ on_request_at n past base sent k member c owned x slots a
        | inr refused ↦ (slots, subst (λ y. At n past base sent k y slots) (sym refused.1) (refused_at x slots a refused.0 c))
      ]
  on_input_at x slots a none (MpInput.Message m) from can = on_message_at x slots a none from m can
  on_input_at x slots a none MpInput.Tick from can = (slots, on_tick_at x slots a)
  on_input_at x slots a none MpInput.Lead from can = on_lead_at n past base sent k member x slots a

  -- ---- replies

  answered_each : (ws : List Waiting) (x : Draft) (slots : Slots) → At n past base sent k x slots → At n past base sent k (answer_each ws x) slots
  unfolding answer_each answer
  answered_each [] x slots a = a
  answered_each (w ∷ ws) x slots a = go (slice_get (executed x.replica.log) w.slot) (λ y at. answered_each ws y slots at)
    where
      go : (o : Option Value) → ((y : Draft) → At n past base sent k y slots → At n past base sent k (answer_each ws y) slots) → At n past base sent k (answer_each ws (answer w o x)) slots
      go None rest = rest _ (record { me = a.me; count = a.count; stands = a.stands })
      go (Some v) rest = rest _ (reply_at n past base sent k x slots a (reply_line x.replica.me (executed x.replica.log) w v))

  -- A step keeps what holds.
  pub step_at : (r : Replica) (slots : Slots) → r.me ≡ k → r.n ≡ n → Stands (numbers_below n) past base sent k (seat_of r.log r.note) [] slots →
      (input : MpInput) (from : ℕ) → CanCome (begun r) input from → Good n past base sent k (step r input from)
  unfolding step replies begun
  step_at r slots me count stands input from can =
      let (more, at) = on_input_at (begun r) slots (record { me = me; count = count; stands = stands }) refl input from can in
      let y : Draft = on_input input from (begun r) in
      (more, answered_each y.replica.waiting _ more (record { me = at.me; count = at.count; stands = at.stands }))
