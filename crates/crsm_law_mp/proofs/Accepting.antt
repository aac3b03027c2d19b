-- The rules of a replica that follows a leader keep the invariant.
use Rattle.std.proofs.Common.{◌≡◌, ◌≢◌, ℕ, ◌⊎◌, Bool, true, false, ◌∷◌, arith, inl, inr, refl, sym, subst, ◌∙◌, Some, None}
use Rattle.std.specs.List.{Contains}
use Rattle.std.specs.Option.{ForSome, option_map_or}
use Rattle.std.proofs.lemmas.Bool.Decides.{nat_tests}
use Rattle.crsm_base.specs.Order.{ballot_lt, ballot_eq}
use Rattle.crsm_base.proofs.Orders.{below-irrefl, compare, le_below, below_not_back, ballot_eq_is}
use Rattle.crsm_spec.specs.Lists.{numbers_below}
use Rattle.crsm_spec.specs.Choice.{when◌then◌otherwise◌}
use Rattle.crsm_spec.specs.Paxos.{Held, IsChosen}
use Rattle.crsm_spec.specs.Following.{lowest}
use Rattle.crsm_safety.proofs.Paxos.Basics.{clash}
use Rattle.crsm_mpspec.specs.declared.MpRec.{MpRec}
use Rattle.crsm_mpspec.specs.declared.MpMessage.{MpMessage}
use Rattle.crsm_mpspec.specs.Types.{Ballot, Value}
use Rattle.crsm_mpspec.specs.Log.{Log, promised, accepted_at, chosen_at, accepts, choices, accepted_from, chosen_from, is_chosen}
use Rattle.crsm_mpspec.specs.Replica.{Note, note_after, ended_by, refused_by}
use Rattle.crsm_mpspec.specs.Draft.{Draft, keep_as, keep, send, noting}
use Rattle.crsm_mpspec.specs.Deciding.{choose, has_accepted, on_acc}
use Rattle.crsm_mpspec.specs.Electing.{on_prep, on_no}
use Rattle.crsm_law_mp.specs.Slots.{Seat, Sent, Slots, HasVoted, HasProposed, NoteHolds, Past}
use Rattle.crsm_law_mp.proofs.Changes.{Stands, promised_more}
use Rattle.crsm_law_mp.proofs.Voting.{held_below, held_voted, vote, voted_more, has_voted}
use Rattle.crsm_law_mp.proofs.Reports.{report_true}
use Rattle.crsm_law_mp.specs.Seats.{seat_of}
use Rattle.crsm_law_mp.proofs.Telling.{accepted_told, chosen_told}
use Rattle.crsm_law_mp.proofs.Drafts.{seat_now, accepted_here, accepted_elsewhere, ends, At, note_at, send_at, choose_at, note_as, note_idle, same_asks, Good, promised_slots, promise_at, idle_at}

-- what was accepted last, where it was in this ballot
pub accepted_in : (b : Ballot) (s : ℕ) (log : Log) → has_accepted b s log ≡ true → (v : Value) × (accepted_at s log ≡ Some (b, v))
unfolding has_accepted
accepted_in b s log is = go (accepted_at s log) refl is
  where
    go : (o : Held Value) → accepted_at s log ≡ o → option_map_or (λ a. ballot_eq a.0 b) o false ≡ true → (v : Value) × (accepted_at s log ≡ Some (b, v))
    go None e is = absurd (clash false is refl)
    go (Some a) e is = (a.1, subst (λ c. accepted_at s log ≡ Some (c, a.1)) (ballot_eq_is a.0 b is) e)

ballot_eq_itself : (b : Ballot) → ballot_eq b b ≡ true
unfolding ballot_eq
ballot_eq_itself b = grind (arith, nat_tests)

-- else what was accepted is not in it
pub not_accepted_in : (b : Ballot) (s : ℕ) (log : Log) → has_accepted b s log ≡ false → (held : Ballot × Value) → accepted_at s log ≡ Some held → held.0 ≢ b
unfolding has_accepted
not_accepted_in b s log is held e same =
    let here : option_map_or (λ a. ballot_eq a.0 b) (Some held) false ≡ false = subst (λ o. option_map_or (λ a. ballot_eq a.0 b) o false ≡ false) e is in
    clash (ballot_eq b b) (ballot_eq_itself b) (subst (λ c. ballot_eq c b ≡ false) same here)

module _ (n : ℕ) (past : Past) (base : ℕ → Seat) (sent : Sent) (k : ℕ) where
  -- ---- votes

  -- a replica that is at nothing accepts in the ballot that it promised
  voted_at : (x : Draft) (slots : Slots) → At n past base sent k x slots → (b : Ballot) (s : ℕ) (v : Value) → promised x.replica.log ≡ b → x.replica.note ≡ Note.Idle →
      HasProposed (slots s) b v → ForSome (accepted_at s x.replica.log) (λ held. ballot_lt held.0 b ≡ true) →
      (more : Slots) × Stands (numbers_below n) past base sent k (seat_of (MpRec.Accept s b v ∷ x.replica.log) Note.Idle) x.sends more × HasVoted (more s) b k v
  unfolding seat_of promised chosen_at choices
  voted_at x slots a b s v current idle proposed above = (
    voted_more (numbers_below n) past base sent k (seat_now x) x.sends slots a.stands s b v current proposed above,
    vote (numbers_below n) past base sent k (seat_now x) x.sends slots a.stands s b v current proposed above
        (seat_of (MpRec.Accept s b v ∷ x.replica.log) Note.Idle) refl (accepted_here s b v x.replica.log) (accepted_elsewhere s b v x.replica.log) (λ t w e. e) refl,
    has_voted (numbers_below n) past base sent k (seat_now x) x.sends slots a.stands s b v current proposed above,
  )

  module _ (x : Draft) (slots : Slots) (a : At n past base sent k x slots) (b : Ballot) (s : ℕ) (v : Value) (not_low : ballot_lt b (promised x.replica.log) ≡ false)
      (proposed : HasProposed (slots s) b v) (new : has_accepted b s x.replica.log ≡ false) where
    low_held : (held : Ballot × Value) → accepted_at s x.replica.log ≡ Some held → ballot_lt (promised x.replica.log) held.0 ≡ false
    unfolding seat_of
    low_held = held_below (numbers_below n) past base sent k (seat_now x) x.sends slots a.stands s

    -- it is not at anything in this ballot
    at_nothing : promised x.replica.log ≡ b → (note : Note) → NoteHolds (numbers_below n) slots k (seat_now x) note → note ≡ Note.Idle
    unfolding seat_of
    at_nothing current Note.Idle h = refl
    at_nothing current (Note.Asking c start reports) h =
        absurd (h.unused s (record { ballot = b; value = v }) proposed (sym current ∙ h.current))
    at_nothing current (Note.Leading c start next reports votes) h =
        let same : b ≡ c = sym current ∙ h.current in
        let (of_spec, w, is, cast) = h.voted s k (h.used s (record { ballot = b; value = v }, proposed, same)) in
        absurd (not_accepted_in b s x.replica.log new (c, w) is (sym same))

    as_kept : (note : Note) → note ≡ Note.Idle → (more : Slots) →
        Stands (numbers_below n) past base sent k (seat_of (MpRec.Accept s b v ∷ x.replica.log) Note.Idle) x.sends more →
        Stands (numbers_below n) past base sent k (seat_of (MpRec.Accept s b v ∷ x.replica.log) note) x.sends more
    as_kept note idle more st = subst (λ z. Stands (numbers_below n) past base sent k (seat_of (MpRec.Accept s b v ∷ x.replica.log) z) x.sends more) (sym idle) st

    higher : ballot_lt (promised x.replica.log) b ≡ true → (more : Slots) × At n past base sent k (keep (MpRec.Accept s b v) x) more × HasVoted (more s) b k v
    unfolding keep keep_as note_after seat_of promised accepted_at accepts chosen_at choices promised_slots promised_more
    higher above =
        let y : Draft = keep (MpRec.Promise b) x in
        let idle : ended_by b x.replica.note ≡ Note.Idle = ends (numbers_below n) slots k (seat_now x) b above x.replica.note (note_at n past base sent k x slots a) in
        let (more, st, cast) = voted_at y (promised_slots n past base sent k x slots a b above) (promise_at n past base sent k x slots a b above) b s v refl
        (idle_at n past base sent k x slots a b above) proposed (λ held is. le_below held.0 (promised x.replica.log) b (low_held held is) above) in (
          more,
          record { me = a.me; count = a.count; stands = as_kept (ended_by b x.replica.note) idle more st },
          cast,
        )

    equal : promised x.replica.log ≡ b → (more : Slots) × At n past base sent k (keep (MpRec.Accept s b v) x) more × HasVoted (more s) b k v
    unfolding keep keep_as note_after ended_by
    equal current =
        let idle : x.replica.note ≡ Note.Idle = at_nothing current x.replica.note (note_at n past base sent k x slots a) in
        let lesser : ForSome (accepted_at s x.replica.log) (λ held. ballot_lt held.0 b ≡ true) = λ held is.
        elim (compare held.0 b) [
          | inl lower ↦ lower
          | inr (inl same) ↦ absurd (not_accepted_in b s x.replica.log new held is same)
          | inr (inr over) ↦ absurd (clash _ over (subst (λ c. ballot_lt c held.0 ≡ false) current (low_held held is)))
        ] in
        let (more, st, cast) = voted_at x slots a b s v current idle proposed lesser in
        let still : ended_by b x.replica.note ≡ Note.Idle = subst (λ z. ended_by b z ≡ Note.Idle) (sym idle) ended_nothing in (
          more,
          record { me = a.me; count = a.count; stands = as_kept (ended_by b x.replica.note) still more st },
          cast,
        )
      where
        ended_nothing : ended_by b Note.Idle ≡ Note.Idle
        ended_nothing = refl

    -- a replica accepts what was proposed in a ballot that is not below its promise
    pub accept_at : (more : Slots) × At n past base sent k (keep (MpRec.Accept s b v) x) more × HasVoted (more s) b k v
    accept_at = elim (compare (promised x.replica.log) b) [
      | inl above ↦ higher above
      | inr (inl current) ↦ equal current
      | inr (inr over) ↦ absurd (clash _ over not_low)
    ]

  -- ---- the rules

  promised_now : (b : Ballot) (x : Draft) → promised (keep (MpRec.Promise b) x).replica.log ≡ b
  unfolding keep keep_as promised
  promised_now b x = refl

  module _ (member : Contains (numbers_below n) k) where
    pub learn_at : (x : Draft) (slots : Slots) → At n past base sent k x slots → (s : ℕ) (v : Value) → IsChosen (numbers_below n) (slots s) v → At n past base sent k (choose s v x) slots
    unfolding choose when◌then◌otherwise◌ keep
    learn_at x slots a s v is = go (is_chosen s x.replica.log)
      where
        go : (t : Bool) → At n past base sent k (when t then x otherwise keep (MpRec.Choose s v) x) slots
        go true = a
        go false = choose_at n past base sent k x slots a _ s v is

    pub on_acc_at : (x : Draft) (slots : Slots) → At n past base sent k x slots → (from : ℕ) (b : Ballot) (s : ℕ) (v : Value) → HasProposed (slots s) b v → Good n past base sent k (on_acc from b s v x)
    unfolding on_acc when◌then◌otherwise◌ seat_of
    on_acc_at x slots a from b s v proposed = go (ballot_lt b (promised x.replica.log)) refl
      where
        accepted : (t : Bool) → has_accepted b s x.replica.log ≡ t → ballot_lt b (promised x.replica.log) ≡ false →
            Good n past base sent k (send (MpMessage.Accd b s) (when t then x otherwise keep (MpRec.Accept s b v) x) from)
        accepted true is low =
            let (w, held) = accepted_in b s x.replica.log is in (
              slots,
              send_at n past base sent k x slots a (MpMessage.Accd b s) from
                  (member, w, held_voted (numbers_below n) past base sent k (seat_now x) x.sends slots a.stands s b w held),
            )
        accepted false is low =
            let (more, at, cast) = accept_at x slots a b s v low proposed is in
            (more, send_at n past base sent k (keep (MpRec.Accept s b v) x) more at (MpMessage.Accd b s) from (member, v, cast))

        go : (t : Bool) → ballot_lt b (promised x.replica.log) ≡ t →
            Good n past base sent k (when t then send (MpMessage.No (promised x.replica.log)) x from otherwise send (MpMessage.Accd b s) (when has_accepted b s x.replica.log then x otherwise keep (MpRec.Accept s b v) x) from)
        go true low = (slots, send_at n past base sent k x slots a (MpMessage.No (promised x.replica.log)) from tt)
        go false low = accepted (has_accepted b s x.replica.log) refl low

    -- a promise of the ballot that is promised, with its report
    tells : (x : Draft) (slots : Slots) → At n past base sent k x slots → (from : ℕ) (b : Ballot) (start : ℕ) → promised x.replica.log ≡ b → ballot_lt lowest b ≡ true →
        sent from (MpMessage.Prep b start) → At n past base sent k (send (MpMessage.Prom b (accepted_from start x.replica.log) (chosen_from start x.replica.log)) x from) slots
    unfolding seat_of
    tells x slots a from b start current high asked =
        send_at n past base sent k x slots a (MpMessage.Prom b (accepted_from start x.replica.log) (chosen_from start x.replica.log)) from (
          member,
          from,
          start,
          inl asked,
          report_true (numbers_below n) past base sent k (seat_now x) x.sends slots a.stands b current high start
              (record { from = k; accepted = accepted_from start x.replica.log; chosen = chosen_from start x.replica.log }) refl
              (λ s late. accepted_told start s late x.replica.log) (λ c there. chosen_told start x.replica.log c there),
        )

    pub on_prep_at : (x : Draft) (slots : Slots) → At n past base sent k x slots → (from : ℕ) (b : Ballot) (start : ℕ) → ballot_lt lowest b ≡ true →
        sent from (MpMessage.Prep b start) → Good n past base sent k (on_prep from b start x)
    unfolding on_prep when◌then◌otherwise◌
    on_prep_at x slots a from b start high asked = go (compare (promised x.replica.log) b)
      where
        refused : Draft → Draft
        refused y = send (MpMessage.Prom b (accepted_from start y.replica.log) (chosen_from start y.replica.log)) y from

        answer : Bool → Bool → Draft
        answer t u = when t then send (MpMessage.No (promised x.replica.log)) x from otherwise refused (when u then keep (MpRec.Promise b) x otherwise x)

        go : (ballot_lt (promised x.replica.log) b ≡ true) ⊎ ((promised x.replica.log ≡ b) ⊎ (ballot_lt b (promised x.replica.log) ≡ true)) →
            Good n past base sent k (answer (ballot_lt b (promised x.replica.log)) (ballot_lt (promised x.replica.log) b))
        go (inl above) = rw (above, below_not_back (promised x.replica.log) b above) (
          promised_slots n past base sent k x slots a b above,
          tells (keep (MpRec.Promise b) x) (promised_slots n past base sent k x slots a b above) (promise_at n past base sent k x slots a b above) from b start (promised_now b x) high asked,
        )
        go (inr (inl same)) = rw (same, below-irrefl b) (slots, tells x slots a from b start same high asked)
        go (inr (inr over)) = rw over (slots, send_at n past base sent k x slots a (MpMessage.No (promised x.replica.log)) from tt)

    pub on_no_at : (x : Draft) (slots : Slots) → At n past base sent k x slots → (p : Ballot) → At n past base sent k (on_no p x) slots
    unfolding on_no refused_by ended_by when◌then◌otherwise◌
    on_no_at x slots a p = go x.replica.note refl (note_at n past base sent k x slots a)
      where
        as_before : (note : Note) → x.replica.note ≡ note → NoteHolds (numbers_below n) slots k (seat_now x) note → At n past base sent k (noting note x) slots
        as_before note is h = note_as n past base sent k x slots a note h (same_asks n past base sent k x slots a note is)

        go : (note : Note) → x.replica.note ≡ note → NoteHolds (numbers_below n) slots k (seat_now x) note → At n past base sent k (noting (refused_by p note) x) slots
        go Note.Idle is h = as_before Note.Idle is h
        go (Note.Asking b start reports) is h = as_before (Note.Asking b start reports) is h
        go (Note.Leading b start next reports votes) is h = by_ballot (ballot_lt b p)
          where
            by_ballot : (t : Bool) → At n past base sent k (noting (when t then Note.Idle otherwise Note.Leading b start next reports votes) x) slots
            by_ballot true = note_idle n past base sent k x slots a
            by_ballot false = as_before (Note.Leading b start next reports votes) is h
