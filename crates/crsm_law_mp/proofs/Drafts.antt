-- The single changes of a step: each keeps the invariant within a step.
use Rattle.std.proofs.Common.{◌≡◌, ◌≢◌, ℕ, ◌⊎◌, Bool, true, false, cond, ◌==◌, List, [], ◌∷◌, ◌++◌, inl, inr, refl, sym, subst, ◌∙◌, Some}
use Rattle.std.specs.List.{Contains}
use Rattle.crsm_base.specs.Order.{ballot_lt}
use Rattle.crsm_spec.specs.Lists.{numbers_below}
use Rattle.crsm_spec.specs.Choice.{when◌then◌otherwise◌}
use Rattle.crsm_spec.specs.Paxos.{IsChosen}
use Rattle.crsm_safety.proofs.Paxos.Majority.{nat_eq_is, nat_eq_itself}
use Rattle.crsm_mpspec.specs.declared.MpRec.{MpRec}
use Rattle.crsm_mpspec.specs.declared.MpMessage.{MpMessage}
use Rattle.crsm_mpspec.specs.declared.MpLine.{MpLine}
use Rattle.crsm_mpspec.specs.Types.{Ballot, Value}
use Rattle.crsm_mpspec.specs.Log.{Log, at_slot, promised, accepts, choices, accepted_at, chosen_at}
use Rattle.crsm_mpspec.specs.Replica.{Note, note_after, ended_by}
use Rattle.crsm_mpspec.specs.Draft.{Draft, keep_as, keep, send, send_to_each, noting}
use Rattle.crsm_law_mp.specs.Slots.{Seat, Sent, Slots, NoteHolds, Past}
use Rattle.crsm_law_mp.proofs.Turns.{AsksAsSent}
use Rattle.crsm_law_mp.proofs.Changes.{Stands, IsTrueNow, noted, sent_too, note_holds, chosen_here, asks_as_sent, promise, promised_more}
use Rattle.crsm_law_mp.proofs.Voting.{vote, idle_asks}
use Rattle.crsm_law_mp.specs.Seats.{seat_of}

-- what the replica of a draft holds
abbrev pub seat_now : Draft → Seat
seat_now x = seat_of x.replica.log x.replica.note

-- ---- what a record says of slots

pub accepted_here : (s : ℕ) (b : Ballot) (v : Value) (log : Log) → accepted_at s (MpRec.Accept s b v ∷ log) ≡ Some (b, v)
unfolding accepted_at at_slot accepts
accepted_here s b v log = rw (nat_eq_itself s) refl

other_slot : (s t : ℕ) → t ≢ s → (s == t) ≡ false
other_slot s t apart = go (s == t) refl
  where
    go : (z : Bool) → (s == t) ≡ z → (s == t) ≡ false
    go true e = absurd (apart (sym (nat_eq_is s t e)))
    go false e = e

pub accepted_elsewhere : (s : ℕ) (b : Ballot) (v : Value) (log : Log) (t : ℕ) → t ≢ s → accepted_at t (MpRec.Accept s b v ∷ log) ≡ accepted_at t log
unfolding accepted_at at_slot accepts
accepted_elsewhere s b v log t apart = rw (other_slot s t apart) refl

pub chosen_with : (s : ℕ) (v : Value) (log : Log) (t : ℕ) (w : Value) → chosen_at t (MpRec.Choose s v ∷ log) ≡ Some w → ((s ≡ t) × (v ≡ w)) ⊎ (chosen_at t log ≡ Some w)
unfolding chosen_at at_slot choices
chosen_with s v log t w is = go (s == t) refl is
  where
    go : (z : Bool) → (s == t) ≡ z → cond z (Some v) (at_slot t (choices log)) ≡ Some w → ((s ≡ t) × (v ≡ w)) ⊎ (at_slot t (choices log) ≡ Some w)
    go true e is = let same : v ≡ w = cc in inl (nat_eq_is s t e, same)
    go false e is = inr is

-- what a replica is at holds also of a seat that differs in what it knows alone
pub note_of_same : (spec : List ℕ) (slots : Slots) (k : ℕ) (x y : Seat) → y.promised ≡ x.promised → ((s : ℕ) → y.accepted s ≡ x.accepted s) →
    (note : Note) → NoteHolds spec slots k x note → NoteHolds spec slots k y note
note_of_same spec slots k x y raised accepted Note.Idle h = tt
note_of_same spec slots k x y raised accepted (Note.Asking b start reports) h = record {
  by = h.by;
  high = h.high;
  current = raised ∙ h.current;
  unused = h.unused;
  answered = h.answered;
  chosen = h.chosen;
  distinct = h.distinct;
  of_spec = h.of_spec;
}
note_of_same spec slots k x y raised accepted (Note.Leading b start next reports votes) h = record {
  by = h.by;
  current = raised ∙ h.current;
  used = h.used;
  answered = h.answered;
  majority = h.majority;
  above = h.above;
  below = h.below;
  voted = λ s j c. let (of_spec, v, is, vote) = h.voted s j c in (of_spec, v, accepted s ∙ is, vote);
  once = h.once;
}

-- a promise of a greater ballot ends what a replica is at
pub ends : (spec : List ℕ) (slots : Slots) (k : ℕ) (x : Seat) (b : Ballot) → ballot_lt x.promised b ≡ true → (note : Note) → NoteHolds spec slots k x note → ended_by b note ≡ Note.Idle
unfolding ended_by when◌then◌otherwise◌
ends spec slots k x b above Note.Idle h = refl
ends spec slots k x b above (Note.Asking a start reports) h =
    let low : ballot_lt a b ≡ true = subst (λ c. ballot_lt c b ≡ true) h.current above in rw low refl
ends spec slots k x b above (Note.Leading a start next reports votes) h =
    let low : ballot_lt a b ≡ true = subst (λ c. ballot_lt c b ≡ true) h.current above in rw low refl

module _ (n : ℕ) (past : Past) (base : ℕ → Seat) (sent : Sent) (k : ℕ) where
  -- In the middle of a step of replica k all holds.
  pub record At (x : Draft) (slots : Slots) : Type 0 where
    pub me : x.replica.me ≡ k
    pub count : x.replica.n ≡ n
    pub stands : Stands (numbers_below n) past base sent k (seat_now x) x.sends slots

  -- it holds with some instances
  abbrev pub Good : Draft → Type 0
  Good x = (slots : Slots) × At x slots

  -- a message is true in the middle of a step
  abbrev pub IsTrueAt : Draft → List (ℕ × MpMessage) → Slots → MpMessage → Type 0
  IsTrueAt x sends slots m = IsTrueNow (numbers_below n) past base sent k (seat_now x) sends slots m

  pub note_at : (x : Draft) (slots : Slots) → At x slots → NoteHolds (numbers_below n) slots k (seat_now x) x.replica.note
  unfolding seat_of
  note_at x slots a = note_holds (numbers_below n) past base sent k (seat_now x) x.sends slots a.stands

  pub known_at : (x : Draft) (slots : Slots) → At x slots → (s : ℕ) (v : Value) → chosen_at s x.replica.log ≡ Some v → IsChosen (numbers_below n) (slots s) v
  unfolding seat_of
  known_at x slots a s v is = chosen_here (numbers_below n) past base sent k (seat_now x) x.sends slots a.stands s v is

  -- ---- messages

  pub send_at : (x : Draft) (slots : Slots) → At x slots → (m : MpMessage) (to : ℕ) → IsTrueAt x (x.sends ++ (to, m) ∷ []) slots m → At (send m x to) slots
  unfolding send
  send_at x slots a m to is = record {
    me = a.me;
    count = a.count;
    stands = sent_too (numbers_below n) past base sent k (seat_now x) x.sends slots a.stands to m is;
  }

  pub send_each_at : (ks : List ℕ) (x : Draft) (slots : Slots) → At x slots → (m : MpMessage) → ((sends : List (ℕ × MpMessage)) → IsTrueAt x sends slots m) → At (send_to_each ks m x) slots
  unfolding send_to_each send
  send_each_at [] x slots a m is = a
  send_each_at (j ∷ ks) x slots a m is = send_each_at ks (send m x j) slots (send_at x slots a m j (is (x.sends ++ (j, m) ∷ []))) m is

  -- ---- what is known and what the replica is at

  pub choose_at : (x : Draft) (slots : Slots) → At x slots → (line : MpLine) (s : ℕ) (v : Value) → IsChosen (numbers_below n) (slots s) v → At (keep_as line (MpRec.Choose s v) x) slots
  unfolding keep_as note_after seat_of promised accepted_at accepts
  choose_at x slots a line s v is = record {
    me = a.me;
    count = a.count;
    stands =
        noted (numbers_below n) past base sent k (seat_now x) x.sends slots a.stands (seat_of (MpRec.Choose s v ∷ x.replica.log) x.replica.note)
        refl (λ t. refl)
        (λ t w e. elim (chosen_with s v x.replica.log t w e) [
          | inl new ↦ subst (λ j. IsChosen (numbers_below n) (slots j) w) new.0 (subst (λ u. IsChosen (numbers_below n) (slots s) u) new.1 is)
          | inr old ↦ known_at x slots a t w old
        ])
        (note_of_same (numbers_below n) slots k (seat_now x) (seat_of (MpRec.Choose s v ∷ x.replica.log) x.replica.note) refl (λ t. refl) x.replica.note (note_at x slots a))
        (asks_as_sent (numbers_below n) past base sent k (seat_now x) x.sends slots a.stands);
  }

  pub note_as : (x : Draft) (slots : Slots) → At x slots → (note : Note) → NoteHolds (numbers_below n) slots k (seat_now x) note →
      AsksAsSent (λ j m. sent j m ⊎ ((j ≡ k) × (to : ℕ) × Contains x.sends (to, m))) (seat_of x.replica.log note) → At (noting note x) slots
  unfolding noting seat_of
  note_as x slots a note holds asks = record {
    me = a.me;
    count = a.count;
    stands =
        noted (numbers_below n) past base sent k (seat_now x) x.sends slots a.stands (seat_of x.replica.log note) refl (λ t. refl)
        (λ t w e. known_at x slots a t w e)
        (note_of_same (numbers_below n) slots k (seat_now x) (seat_of x.replica.log note) refl (λ t. refl) note holds)
        asks;
  }

  -- it is at this already
  pub same_asks : (x : Draft) (slots : Slots) → At x slots → (note : Note) → x.replica.note ≡ note →
      AsksAsSent (λ j m. sent j m ⊎ ((j ≡ k) × (to : ℕ) × Contains x.sends (to, m))) (seat_of x.replica.log note)
  unfolding seat_of
  same_asks x slots a note same b start reports is =
      asks_as_sent (numbers_below n) past base sent k (seat_now x) x.sends slots a.stands b start reports (same ∙ is)

  pub note_idle : (x : Draft) (slots : Slots) → At x slots → At (noting Note.Idle x) slots
  unfolding seat_of
  note_idle x slots a = note_as x slots a Note.Idle tt (idle_asks (λ j m. sent j m ⊎ ((j ≡ k) × (to : ℕ) × Contains x.sends (to, m))) (seat_of x.replica.log Note.Idle) refl)

  -- ---- promises

  module _ (x : Draft) (slots : Slots) (a : At x slots) (b : Ballot) (above : ballot_lt (promised x.replica.log) b ≡ true) where
    ends_at : ended_by b x.replica.note ≡ Note.Idle
    unfolding seat_of
    ends_at = ends (numbers_below n) slots k (seat_now x) b above x.replica.note (note_at x slots a)

    unfoldable pub promised_slots : Slots
    unfolding seat_of
    promised_slots = promised_more (numbers_below n) past base sent k (seat_now x) x.sends slots a.stands b above

    pub promise_at : At (keep (MpRec.Promise b) x) promised_slots
    unfolding keep keep_as note_after seat_of promised accepted_at accepts chosen_at choices promised_slots
    promise_at = record {
      me = a.me;
      count = a.count;
      stands = subst (λ note. Stands (numbers_below n) past base sent k (seat_of (MpRec.Promise b ∷ x.replica.log) note) x.sends promised_slots) (sym ends_at)
          (promise (numbers_below n) past base sent k (seat_now x) x.sends slots a.stands b above);
    }

    pub idle_at : (keep (MpRec.Promise b) x).replica.note ≡ Note.Idle
    unfolding keep keep_as note_after
    idle_at = ends_at
