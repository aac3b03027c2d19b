-- The rules of a leader keep the invariant.
use Rattle.std.proofs.Common.{◌≡◌, ℕ, ◌+◌, ◌<◌, ◌≤◌, ◌⊎◌, Bool, true, false, not, ◌&&◌, ◌==◌, leb, List, [], ◌∷◌, ◌++◌, length, arith, inl, inr, refl, sym, subst, ap, ◌∙◌, Some, None}
use Rattle.std.specs.List.{Contains}
use Rattle.std.proofs.lemmas.List.Elements.{Contains-append_left, Contains-append_right}
use Rattle.std.proofs.lemmas.List.FromFn.{length-range_with_len}
use Rattle.crsm_base.specs.Order.{ballot_eq}
use Rattle.crsm_base.specs.Replicas.{has}
use Rattle.crsm_base.proofs.Orders.{below-irrefl, ballot_eq_is}
use Rattle.crsm_spec.specs.Lists.{numbers_below}
use Rattle.crsm_spec.specs.Choice.{when◌then◌otherwise◌}
use Rattle.crsm_spec.specs.Clock.{u64_max}
use Rattle.crsm_spec.specs.Paxos.{Held, majority, value_of, IsChosen}
use Rattle.crsm_safety.proofs.Paxos.Basics.{le_from}
use Rattle.crsm_mpspec.specs.declared.MpRec.{MpRec}
use Rattle.crsm_mpspec.specs.declared.MpMessage.{MpMessage}
use Rattle.crsm_mpspec.specs.declared.MpLine.{MpLine}
use Rattle.crsm_mpspec.specs.Types.{Ballot, Command, Value}
use Rattle.crsm_mpspec.specs.Log.{promised, accepted_at, chosen_at, choices, is_chosen}
use Rattle.crsm_mpspec.specs.Replica.{Report, Note, note_after, ended_by, others, voters_at, votes_of, with_vote}
use Rattle.crsm_mpspec.specs.Draft.{Draft, keep_as, keep, send, send_to_each, send_to_others, reply, noting, count_vote, await}
use Rattle.crsm_mpspec.specs.Deciding.{choose_accepted, is_voted, choose_voted, propose_as, refuse, submit, take_request, on_request, counts, take_vote, on_accd}
use Rattle.crsm_mpspec.specs.Electing.{answers_at}
use Rattle.crsm_law_mp.specs.Slots.{Seat, Sent, Slots, HasVoted, HasProposed, IsLeading, NoteHolds, Past}
use Rattle.crsm_law_mp.proofs.Changes.{Stands}
use Rattle.crsm_law_mp.proofs.Voting.{proposed_more, has_proposed, leader_asks, held_voted}
use Rattle.crsm_law_mp.proofs.Voting as voting
use Rattle.crsm_law_mp.proofs.Reports.{votes_choose, counts_vote, leads_on}
use Rattle.crsm_law_mp.proofs.Lists.{has_is, has_not, in_voters, voter_in, own_value_left, start_below}
use Rattle.crsm_law_mp.specs.Seats.{seat_of}
use Rattle.crsm_law_mp.proofs.Drafts.{seat_now, accepted_here, accepted_elsewhere, At, Good, note_at, IsTrueAt, send_each_at, choose_at, note_as}

pub majority_of : (n : ℕ) → majority (length (numbers_below n)) ≡ majority n
unfolding numbers_below
majority_of n = ap majority (length-range_with_len 0 n)

pub sends_replica : (ks : List ℕ) (m : MpMessage) (x : Draft) → (send_to_each ks m x).replica ≡ x.replica
unfolding send_to_each send
sends_replica [] m x = refl
sends_replica (k ∷ ks) m x = sends_replica ks m (send m x k)

module _ (n : ℕ) (past : Past) (base : ℕ → Seat) (sent : Sent) (k : ℕ) where
  pub send_others_at : (x : Draft) (slots : Slots) → At n past base sent k x slots → (m : MpMessage) →
      ((sends : List (ℕ × MpMessage)) → IsTrueAt n past base sent k x sends slots m) → At n past base sent k (send_to_others m x) slots
  unfolding send_to_others
  send_others_at x slots a m is = send_each_at n past base sent k (others x.replica) x slots a m is

  -- ---- choosing

  module _ (x : Draft) (slots : Slots) (a : At n past base sent k x slots) (b : Ballot) (start next : ℕ) (reports : List Report) (votes : List (ℕ × ℕ))
      (is : x.replica.note ≡ Note.Leading b start next reports votes) where
    pub leads_at : IsLeading (numbers_below n) slots k (seat_now x) b start next reports votes
    leads_at = subst (λ note. NoteHolds (numbers_below n) slots k (seat_now x) note) is (note_at n past base sent k x slots a)

    chooses : (s : ℕ) → leb (majority x.replica.n) (length (voters_at s (votes_of x.replica.note))) ≡ true → (o : Held Value) → accepted_at s x.replica.log ≡ o →
        At n past base sent k (choose_accepted s o x) slots
    unfolding choose_accepted keep seat_of votes_of
    chooses s enough None e = a
    chooses s enough (Some v) e =
        let votes_are : votes_of x.replica.note ≡ votes = subst (λ note. votes_of note ≡ votes) (sym is) leader_votes in
        let counted : leb (majority n) (length (voters_at s votes)) ≡ true =
        subst (λ c. leb (majority c) (length (voters_at s votes)) ≡ true) a.count (subst (λ vs. leb (majority x.replica.n) (length (voters_at s vs)) ≡ true) votes_are enough) in
        let most : majority (length (numbers_below n)) ≤ length (voters_at s votes) =
        subst (λ c. c ≤ length (voters_at s votes)) (sym (majority_of n)) (le_from _ _ counted) in
        let chosen : IsChosen (numbers_below n) (slots s) v.1 =
        votes_choose (numbers_below n) past base sent k (seat_now x) x.sends slots a.stands b start next reports votes leads_at s v e most in
        send_others_at (keep (MpRec.Choose s v.1) x) slots (choose_at n past base sent k x slots a _ s v.1 chosen) (MpMessage.Learn s v.1) (λ sends. chosen)
      where
        leader_votes : votes_of (Note.Leading b start next reports votes) ≡ votes
        leader_votes = refl

    pub choose_voted_at : (s : ℕ) → At n past base sent k (choose_voted s x) slots
    unfolding choose_voted is_voted when◌then◌otherwise◌
    choose_voted_at s = go (leb (majority x.replica.n) (length (voters_at s (votes_of x.replica.note)))) refl (not (is_chosen s x.replica.log))
      where
        go : (t : Bool) → leb (majority x.replica.n) (length (voters_at s (votes_of x.replica.note))) ≡ t → (u : Bool) →
            At n past base sent k (when t && u then choose_accepted s (accepted_at s x.replica.log) x otherwise x) slots
        go true enough true = chooses s enough (accepted_at s x.replica.log) refl
        go true enough false = a
        go false few u = a

  pub choose_voted_note : (s : ℕ) (x : Draft) → (choose_voted s x).replica.note ≡ x.replica.note
  unfolding choose_voted when◌then◌otherwise◌ choose_accepted send_to_others keep keep_as note_after
  choose_voted_note s x = go (is_voted s x.replica) (accepted_at s x.replica.log)
    where
      go : (t : Bool) (o : Held Value) → (when t then choose_accepted s o x otherwise x).replica.note ≡ x.replica.note
      go true None = refl
      go true (Some v) = ap (λ r. r.note) (sends_replica (others (keep (MpRec.Choose s v.1) x).replica) (MpMessage.Learn s v.1) (keep (MpRec.Choose s v.1) x))
      go false o = refl

  -- ---- proposing

  module _ (member : Contains (numbers_below n) k) (x : Draft) (slots : Slots) (a : At n past base sent k x slots) (b : Ballot) (start next : ℕ) (reports : List Report) (votes : List (ℕ × ℕ))
      (is : x.replica.note ≡ Note.Leading b start next reports votes) (s : ℕ) (late : start ≤ s) (below : s < next) (unvoted : Contains votes (s, k) → ⊥)
      (own : Value) (owned : (c : Command) → value_of own (answers_at s reports) ≡ Some c → Contains past.submitted c) (line : MpLine) where
    abbrev v : Value
    v = value_of own (answers_at s reports)

    -- with the leader's own vote
    abbrev after : Note
    after = Note.Leading b start next reports (votes ++ (s, k) ∷ [])

    kept : Draft
    kept = count_vote s x.replica.me (keep_as line (MpRec.Accept s b v) x)

    note_then : with_vote s x.replica.me (ended_by b x.replica.note) ≡ after
    unfolding with_vote ended_by when◌then◌otherwise◌
    note_then =
        subst (λ me. with_vote s me (ended_by b x.replica.note) ≡ after) (sym a.me)
        (subst (λ note. with_vote s k (ended_by b note) ≡ after) (sym is) (rw (below-irrefl b) refl))

    more : Slots
    more = proposed_more (numbers_below n) past base sent k (seat_now x) x.sends slots a.stands member b start next reports votes
        (leads_at x slots a b start next reports votes is) s late below unvoted own owned

    kept_at : At n past base sent k kept more
    unfolding kept count_vote noting keep_as note_after seat_of promised chosen_at choices more
    kept_at = record {
      me = a.me;
      count = a.count;
      stands = subst (λ note. Stands (numbers_below n) past base sent k (seat_of (MpRec.Accept s b v ∷ x.replica.log) note) x.sends more) (sym note_then)
          (voting.propose (numbers_below n) past base sent k (seat_now x) x.sends slots a.stands member b start next reports votes
          (leads_at x slots a b start next reports votes is) s late below unvoted own owned (seat_of (MpRec.Accept s b v ∷ x.replica.log) after)
          refl (accepted_here s b v x.replica.log) (accepted_elsewhere s b v x.replica.log) (λ t w e. e) refl);
    }

    offered : HasProposed (more s) b v
    unfolding more
    offered = has_proposed (numbers_below n) past base sent k (seat_now x) x.sends slots a.stands member b start next reports votes
        (leads_at x slots a b start next reports votes is) s late below unvoted own owned

    told : Draft
    told = send_to_others (MpMessage.Acc b s v) kept

    told_note : told.replica.note ≡ after
    unfolding told send_to_others kept count_vote noting keep_as note_after
    told_note = ap (λ r. r.note) (sends_replica (others kept.replica) (MpMessage.Acc b s v) kept) ∙ note_then

    -- a leader proposes, accepts and asks the others to accept
    pub propose_as_at : Good n past base sent k (propose_as line b s v x)
    unfolding propose_as told kept
    propose_as_at = (
      more,
      choose_voted_at told more (send_others_at kept more kept_at (MpMessage.Acc b s v) (λ sends. offered)) b start next reports (votes ++ (s, k) ∷ []) told_note s,
    )

    pub propose_as_note : (propose_as line b s v x).replica.note ≡ after
    unfolding propose_as told kept
    propose_as_note = choose_voted_note s told ∙ told_note

  -- ---- votes that come

  pub on_accd_at : (x : Draft) (slots : Slots) → At n past base sent k x slots → (from : ℕ) (b : Ballot) (s : ℕ) → Contains (numbers_below n) from → (v : Value) → HasVoted (slots s) b from v →
      At n past base sent k (on_accd from b s x) slots
  unfolding on_accd take_vote when◌then◌otherwise◌ counts count_vote noting with_vote seat_of
  on_accd_at x slots a from b s member v cast = go x.replica.note refl
    where
      counted : (c : Ballot) (start next : ℕ) (reports : List Report) (votes : List (ℕ × ℕ)) → x.replica.note ≡ Note.Leading c start next reports votes →
          c ≡ b → has (voters_at s votes) x.replica.me ≡ true → has (voters_at s votes) from ≡ false → At n past base sent k (choose_voted s (count_vote s from x)) slots
      counted c start next reports votes is same own new =
          let note : Note = Note.Leading c start next reports (votes ++ (s, from) ∷ []) in
          let mine : Contains votes (s, k) = voter_in s votes k (has_is (voters_at s votes) k (subst (λ me. has (voters_at s votes) me ≡ true) a.me own)) in
          let leads : IsLeading (numbers_below n) slots k (seat_now x) c start next reports (votes ++ (s, from) ∷ []) =
          counts_vote (numbers_below n) past base sent k (seat_now x) x.sends slots a.stands c start next reports votes
          (leads_at x slots a c start next reports votes is) s from member v (subst (λ z. HasVoted (slots s) z from v) (sym same) cast) mine
          (λ there. has_not (voters_at s votes) from new (in_voters s votes from there)) in
          let at : At n past base sent k (noting note x) slots =
          note_as n past base sent k x slots a note leads (leader_asks (λ j m. sent j m ⊎ ((j ≡ k) × (to : ℕ) × Contains x.sends (to, m))) (seat_of x.replica.log note) c start next reports (votes ++ (s, from) ∷ []) refl) in
          let same_note : with_vote s from x.replica.note ≡ note = subst (λ z. with_vote s from z ≡ note) (sym is) refl in
          subst (λ z. At n past base sent k (choose_voted s (noting z x)) slots) (sym same_note)
          (choose_voted_at (noting note x) slots at c start next reports (votes ++ (s, from) ∷ []) refl s)

      go : (note : Note) → x.replica.note ≡ note → At n past base sent k (take_vote from b s note x) slots
      go Note.Idle is = a
      go (Note.Asking c start reports) is = a
      go (Note.Leading c start next reports votes) is =
          by_tests (ballot_eq c b) refl (has (voters_at s votes) x.replica.me) refl (has (voters_at s votes) from) refl (not (is_chosen s x.replica.log))
        where
          by_tests : (t : Bool) → ballot_eq c b ≡ t → (u : Bool) → has (voters_at s votes) x.replica.me ≡ u → (w : Bool) → has (voters_at s votes) from ≡ w → (z : Bool) →
              At n past base sent k (when t && ((u && not w) && z) then choose_voted s (count_vote s from x) otherwise x) slots
          by_tests true same true own false new true = counted c start next reports votes is (ballot_eq_is c b same) own new
          by_tests true same true own false new false = a
          by_tests true same true own true new z = a
          by_tests true same false own w new z = a
          by_tests false same u own w new z = a

  -- ---- requests

  pub reply_at : (x : Draft) (slots : Slots) → At n past base sent k x slots → (line : MpLine) → At n past base sent k (reply line x) slots
  unfolding reply
  reply_at x slots a line = record { me = a.me; count = a.count; stands = a.stands }

  pub await_at : (x : Draft) (slots : Slots) → At n past base sent k x slots → (s : ℕ) (c : Command) → At n past base sent k (await s c x) slots
  unfolding await
  await_at x slots a s c = record { me = a.me; count = a.count; stands = a.stands }

  module _ (member : Contains (numbers_below n) k) (c : Command) (owned : Contains past.submitted c) where
    pub on_request_at : (x : Draft) (slots : Slots) → At n past base sent k x slots → Good n past base sent k (on_request c x)
    unfolding on_request take_request refuse when◌then◌otherwise◌ submit await noting seat_of
    on_request_at x slots a = go x.replica.note refl
      where
        submits : (b : Ballot) (start next : ℕ) (reports : List Report) (votes : List (ℕ × ℕ)) → x.replica.note ≡ Note.Leading b start next reports votes →
            Good n past base sent k (submit b next c (noting (Note.Leading b start (next + 1) reports votes) x))
        submits b start next reports votes is =
            let leads : IsLeading (numbers_below n) slots k (seat_now x) b start next reports votes = leads_at x slots a b start next reports votes is in
            let note : Note = Note.Leading b start (next + 1) reports votes in
            let at : At n past base sent k (noting note x) slots =
            note_as n past base sent k x slots a note (leads_on (numbers_below n) past base sent k (seat_now x) x.sends slots a.stands b start next reports votes leads (next + 1) (omega arith))
            (leader_asks (λ j m. sent j m ⊎ ((j ≡ k) × (to : ℕ) × Contains x.sends (to, m))) (seat_of x.replica.log note) b start (next + 1) reports votes refl) in
            let y : Draft = await next c (noting note x) in
            let left : value_of (Some c) (answers_at next reports) ≡ Some c = own_value_left start next reports (Some c) leads.above in
            let line : MpLine = MpLine.Submit y.replica.me next b.round b.by c.client c.number in
            subst (λ z. Good n past base sent k (propose_as line b next z y)) left
            (propose_as_at member y slots (await_at (noting note x) slots at next c) b start (next + 1) reports votes refl next
            (let low = start_below start reports in let high = leads.above in omega arith) (omega arith)
            (λ there. let under = leads.below next k there in omega arith) (Some c)
            (λ d e. let same : c ≡ d = some_is left e in subst (λ z. Contains past.submitted z) same owned) line)
          where
            some_is : {z : Value} {d : Command} → z ≡ Some c → z ≡ Some d → c ≡ d
            some_is e f = cc

        refuses : (code : ℕ) → Good n past base sent k (refuse code c x)
        refuses code = (slots, reply_at x slots a (MpLine.ReplyNo x.replica.me c.client c.number code))

        go : (note : Note) → x.replica.note ≡ note → Good n past base sent k (take_request c note x)
        go Note.Idle is = refuses 1
        go (Note.Asking b start reports) is = refuses 1
        go (Note.Leading b start next reports votes) is = by_tests (not (ballot_eq b (promised x.replica.log))) (next == u64_max)
          where
            by_tests : (t u : Bool) → Good n past base sent k (when t then refuse 1 c x otherwise when u then refuse 5 c x otherwise submit b next c (noting (Note.Leading b start (next + 1) reports votes) x))
            by_tests true u = refuses 1
            by_tests false true = refuses 5
            by_tests false false = submits b start next reports votes is

  -- ---- the line of a request

  pub sends_lines : (ks : List ℕ) (m : MpMessage) (x : Draft) → (send_to_each ks m x).lines ≡ x.lines
  unfolding send_to_each send
  sends_lines [] m x = refl
  sends_lines (j ∷ ks) m x = sends_lines ks m (send m x j)

  chosen_lines : (s : ℕ) (x : Draft) (line : MpLine) → Contains x.lines line → Contains (choose_voted s x).lines line
  unfolding choose_voted when◌then◌otherwise◌ choose_accepted send_to_others keep keep_as
  chosen_lines s x line there = go (is_voted s x.replica) (accepted_at s x.replica.log)
    where
      go : (t : Bool) (o : Held Value) → Contains (when t then choose_accepted s o x otherwise x).lines line
      go true None = there
      go true (Some v) =
          subst (λ ls. Contains ls line) (sym (sends_lines (others (keep (MpRec.Choose s v.1) x).replica) (MpMessage.Learn s v.1) (keep (MpRec.Choose s v.1) x)))
          (Contains-append_left x.lines _ line there)
      go false o = there

  proposed_line : (line : MpLine) (b : Ballot) (s : ℕ) (u : Value) (x : Draft) → Contains (propose_as line b s u x).lines line
  unfolding propose_as send_to_others count_vote noting keep_as
  proposed_line line b s u x =
      let y : Draft = count_vote s x.replica.me (keep_as line (MpRec.Accept s b u) x) in
      chosen_lines s (send_to_others (MpMessage.Acc b s u) y) line
      (subst (λ ls. Contains ls line) (sym (sends_lines (others y.replica) (MpMessage.Acc b s u) y)) (Contains-append_right x.lines _ line (0, omega arith, refl)))

  -- a request is refused, or a line tells that its command is submitted
  pub request_told : (x : Draft) (slots : Slots) → At n past base sent k x slots → (c : Command) →
      ((code : ℕ) × (on_request c x ≡ refuse code c x)) ⊎ ((s : ℕ) × (round : ℕ) × Contains (on_request c x).lines (MpLine.Submit k s round k c.client c.number))
  unfolding on_request take_request when◌then◌otherwise◌ submit await noting
  request_told x slots a c = go x.replica.note refl
    where
      go : (note : Note) → x.replica.note ≡ note →
          ((code : ℕ) × (take_request c note x ≡ refuse code c x)) ⊎ ((s : ℕ) × (round : ℕ) × Contains (take_request c note x).lines (MpLine.Submit k s round k c.client c.number))
      go Note.Idle is = inl (1, refl)
      go (Note.Asking b start reports) is = inl (1, refl)
      go (Note.Leading b start next reports votes) is = by_tests (not (ballot_eq b (promised x.replica.log))) (next == u64_max)
        where
          made : Draft
          made = submit b next c (noting (Note.Leading b start (next + 1) reports votes) x)

          told : Contains made.lines (MpLine.Submit k next b.round k c.client c.number)
          told =
              let leads : IsLeading (numbers_below n) slots k (seat_now x) b start next reports votes = leads_at x slots a b start next reports votes is in
              let line : MpLine = MpLine.Submit x.replica.me next b.round b.by c.client c.number in
              let there : Contains made.lines line = proposed_line line b next (Some c) (await next c (noting (Note.Leading b start (next + 1) reports votes) x)) in
              subst (λ j. Contains made.lines (MpLine.Submit k next b.round j c.client c.number)) leads.by
              (subst (λ j. Contains made.lines (MpLine.Submit j next b.round b.by c.client c.number)) a.me there)

          by_tests : (t u : Bool) →
              ((code : ℕ) × ((when t then refuse 1 c x otherwise when u then refuse 5 c x otherwise made) ≡ refuse code c x))
              ⊎ ((s : ℕ) × (round : ℕ) × Contains (when t then refuse 1 c x otherwise when u then refuse 5 c x otherwise made).lines (MpLine.Submit k s round k c.client c.number))
          by_tests true u = inl (1, refl)
          by_tests false true = inl (5, refl)
          by_tests false false = inr (next, b.round, told)
