-- The rules by which a replica becomes leader keep the invariant.
use Rattle.std.proofs.Common.{zero, suc, ◌≡◌, ℕ, ◌+◌, ◌-◌, ◌<◌, ◌≤◌, ◌⊎◌, Bool, true, false, not, ◌&&◌, ◌==◌, leb, List, [], ◌∷◌, ◌++◌, map, length, arith, inl, inr, refl, sym, subst, ap, ◌∙◌, Some, None}
use Rattle.std.specs.List.{Contains, fold, range_with_len}
use Rattle.std.proofs.lemmas.Bool.Decides.{nat_tests}
use Rattle.std.proofs.lemmas.List.Elements.{Contains-push_cases}
use Rattle.crsm_base.specs.Order.{ballot_lt, ballot_eq}
use Rattle.crsm_base.specs.Replicas.{has}
use Rattle.crsm_base.proofs.Orders.{below-irrefl, ballot_eq_is}
use Rattle.crsm_spec.specs.Lists.{numbers_below}
use Rattle.crsm_spec.specs.Choice.{when◌then◌otherwise◌}
use Rattle.crsm_spec.specs.Clock.{u64_max}
use Rattle.crsm_spec.specs.Following.{IsUnused, lowest}
use Rattle.crsm_spec.specs.Paxos.{majority, value_of, IsChosen}
use Rattle.crsm_safety.proofs.Paxos.Basics.{changed, le_from}
use Rattle.crsm_mpspec.specs.declared.MpRec.{MpRec}
use Rattle.crsm_mpspec.specs.declared.MpMessage.{MpMessage}
use Rattle.crsm_mpspec.specs.declared.MpLine.{MpLine}
use Rattle.crsm_mpspec.specs.declared.MpAccepted.{MpAccepted}
use Rattle.crsm_mpspec.specs.declared.MpChosen.{MpChosen}
use Rattle.crsm_mpspec.specs.Types.{Ballot, Command, Value}
use Rattle.crsm_mpspec.specs.Log.{promised, is_chosen, executed}
use Rattle.crsm_mpspec.specs.Replica.{Report, Note, note_after, without_lead, with_report, has_reported, others}
use Rattle.crsm_mpspec.specs.Draft.{Draft, keep_as, keep, send_to_others, noting}
use Rattle.crsm_mpspec.specs.Deciding.{choose, propose}
use Rattle.crsm_mpspec.specs.Electing.{report, reported_at, answers_at, chosen_among, next_slot, choose_reported, propose_reported, lead, lead_by, lead_at_majority, ask, on_lead, take_report, on_prom}
use Rattle.crsm_law_mp.specs.Slots.{Seat, Sent, Slots, HasAsked, HasReported, IsAsking, IsLeading, NoteHolds, Past}
use Rattle.crsm_law_mp.proofs.Turns.{AsksAsSent}
use Rattle.crsm_law_mp.proofs.Changes.{seat, asks_as_sent, not_proposed, not_asked, promised_more}
use Rattle.crsm_law_mp.proofs.Voting.{leader_asks}
use Rattle.crsm_law_mp.proofs.Reports.{report_true, begins_to_ask, counts_report, begins_to_lead, owned_answers}
use Rattle.crsm_law_mp.proofs.Lists.{first_in, later_in, none_in, has_not, start_below}
use Rattle.crsm_law_mp.specs.Seats.{seat_of}
use Rattle.crsm_law_mp.proofs.Telling.{accepted_told, chosen_told, chosen_reported}
use Rattle.crsm_law_mp.proofs.Drafts.{seat_now, At, Good, note_at, note_as, note_idle, same_asks, promised_slots, promise_at}
use Rattle.crsm_law_mp.proofs.Accepting.{learn_at}
use Rattle.crsm_law_mp.proofs.Leading.{majority_of, sends_replica, leads_at, send_others_at, propose_as_at, propose_as_note}

pub choose_note : (s : ℕ) (v : Value) (x : Draft) → (choose s v x).replica.note ≡ x.replica.note
unfolding choose when◌then◌otherwise◌ keep keep_as note_after
choose_note s v x = go (is_chosen s x.replica.log)
  where
    go : (t : Bool) → (when t then x otherwise keep (MpRec.Choose s v) x).replica.note ≡ x.replica.note
    go true = refl
    go false = refl

chosen_note : (cs : List (ℕ × Value)) (x : Draft) → (fold choose_reported x cs).replica.note ≡ x.replica.note
unfolding choose_reported
chosen_note [] x = refl
chosen_note (c ∷ cs) x = chosen_note cs (choose c.0 c.1 x) ∙ choose_note c.0 c.1 x

module _ (n : ℕ) (past : Past) (base : ℕ → Seat) (sent : Sent) (k : ℕ) (member : Contains (numbers_below n) k) where
  -- ---- taking the lead

  chosen_each : (cs : List (ℕ × Value)) (x : Draft) (slots : Slots) → At n past base sent k x slots →
      ((c : ℕ × Value) → Contains cs c → IsChosen (numbers_below n) (slots c.0) c.1) → At n past base sent k (fold choose_reported x cs) slots
  unfolding choose_reported
  chosen_each [] x slots a are = a
  chosen_each (c ∷ cs) x slots a are =
      chosen_each cs (choose c.0 c.1 x) slots (learn_at n past base sent k member x slots a c.0 c.1 (are c (first_in c cs))) (λ d there. are d (later_in c cs d there))

  module _ (b : Ballot) (start next : ℕ) (reports : List Report) where
    -- proposes at each of these slots, above those that it has proposed at
    proposed_each : (len s : ℕ) (x : Draft) (slots : Slots) → At n past base sent k x slots → (votes : List (ℕ × ℕ)) → x.replica.note ≡ Note.Leading b start next reports votes →
        start ≤ s → s + len ≤ next → ((t j : ℕ) → Contains votes (t, j) → t < s) → Good n past base sent k (fold (propose_reported b reports) x (range_with_len s len))
    unfolding propose_reported when◌then◌otherwise◌ propose reported_at
    proposed_each zero s x slots a votes is late below under = (slots, a)
    proposed_each (suc len) s x slots a votes is late below under =
        go (is_chosen s x.replica.log)
        (proposed_each len (s + 1) x slots a votes is (omega arith) (omega arith) (λ t j c. let u = under t j c in omega arith))
        (λ y more at note. proposed_each len (s + 1) y more at (votes ++ (s, k) ∷ []) note (omega arith) (omega arith)
        (λ t j c. elim (Contains-push_cases votes (s, k) (t, j) c) [
          | inl old ↦ let u = under t j old in omega arith
          | inr new ↦ subst (λ q. q < s + 1) (ap (λ p. p.0) new) (omega arith)
        ]))
      where
        line : MpLine
        line = MpLine.Accept x.replica.me s b.round b.by

        go : (t : Bool) → Good n past base sent k (fold (propose_reported b reports) x (range_with_len (s + 1) len)) →
            ((y : Draft) (more : Slots) → At n past base sent k y more → y.replica.note ≡ Note.Leading b start next reports (votes ++ (s, k) ∷ []) →
            Good n past base sent k (fold (propose_reported b reports) y (range_with_len (s + 1) len))) →
            Good n past base sent k (fold (propose_reported b reports) (when t then x otherwise propose b s (reported_at s reports) x) (range_with_len (s + 1) len))
        go true known new = known
        go false known new =
            let unvoted : Contains votes (s, k) → ⊥ = λ c. let u = under s k c in omega arith in
            let owned : (c : Command) → value_of None (answers_at s reports) ≡ Some c → Contains past.submitted c =
            owned_answers (numbers_below n) past base sent k (seat_now x) x.sends slots a.stands b start next reports votes
            (leads_at n past base sent k x slots a b start next reports votes is) s late in
            let (more, at) = propose_as_at n past base sent k member x slots a b start next reports votes is s late (omega arith) unvoted None owned line in
            new (propose b s (reported_at s reports) x) more at
            (propose_as_note n past base sent k member x slots a b start next reports votes is s late (omega arith) unvoted None owned line)

  lead_at : (x : Draft) (slots : Slots) → At n past base sent k x slots → (b : Ballot) (start : ℕ) (reports : List Report) → x.replica.note ≡ Note.Asking b start reports →
      majority n ≤ length reports → Good n past base sent k (lead b start reports x)
  unfolding lead noting seat_of
  lead_at x slots a b start reports is enough =
      let asks : IsAsking (numbers_below n) slots k (seat_now x) b start reports =
      subst (λ note. NoteHolds (numbers_below n) slots k (seat_now x) note) is (note_at n past base sent k x slots a) in
      let y : Draft = fold choose_reported x (chosen_among reports) in
      let at_y : At n past base sent k y slots = chosen_each (chosen_among reports) x slots a (λ p there.
      let (r, c, of_it, named, same) = chosen_reported reports p there in
      subst (λ q. IsChosen (numbers_below n) (slots q.0) q.1) same (asks.chosen r of_it c named)) in
      let still : IsAsking (numbers_below n) slots k (seat_now y) b start reports =
      subst (λ note. NoteHolds (numbers_below n) slots k (seat_now y) note) (chosen_note (chosen_among reports) x ∙ is) (note_at n past base sent k y slots at_y) in
      let note : Note = Note.Leading b start (next_slot start reports) reports [] in
      let leads : IsLeading (numbers_below n) slots k (seat_now y) b start (next_slot start reports) reports [] =
      begins_to_lead (numbers_below n) past base sent k (seat_now y) y.sends slots at_y.stands b start reports still
      (subst (λ c. c ≤ length reports) (sym (majority_of n)) enough) in
      let at : At n past base sent k (noting note y) slots =
      note_as n past base sent k y slots at_y note leads (leader_asks (λ j m. sent j m ⊎ ((j ≡ k) × (to : ℕ) × Contains y.sends (to, m))) (seat_of y.replica.log note) b start (next_slot start reports) reports [] refl) in
      let low : start ≤ next_slot start reports = start_below start reports in
      proposed_each b start (next_slot start reports) reports (next_slot start reports - start) start (noting note y) slots at [] refl (omega arith) (omega arith)
      (λ t j c. absurd (none_in (t, j) c))

  lead_by_at : (x : Draft) (slots : Slots) → At n past base sent k x slots → (note : Note) → x.replica.note ≡ note → Good n past base sent k (lead_by note x)
  unfolding lead_by when◌then◌otherwise◌
  lead_by_at x slots a Note.Idle is = (slots, a)
  lead_by_at x slots a (Note.Leading b start next reports votes) is = (slots, a)
  lead_by_at x slots a (Note.Asking b start reports) is = go (leb (majority x.replica.n) (length reports)) refl
    where
      go : (t : Bool) → leb (majority x.replica.n) (length reports) ≡ t → Good n past base sent k (when t then lead b start reports x otherwise x)
      go true enough = lead_at x slots a b start reports is (le_from _ _ (subst (λ c. leb (majority c) (length reports) ≡ true) a.count enough))
      go false few = (slots, a)

  -- ---- reports that come

  pub on_prom_at : (x : Draft) (slots : Slots) → At n past base sent k x slots → (from : ℕ) (b : Ballot) (accepted : List MpAccepted) (chosen : List MpChosen) →
      Contains (numbers_below n) from → (j start : ℕ) → sent j (MpMessage.Prep b start) → HasReported (numbers_below n) slots b start (record { from = from; accepted = accepted; chosen = chosen }) →
      Good n past base sent k (on_prom from b accepted chosen x)
  unfolding on_prom take_report when◌then◌otherwise◌ lead_at_majority has_reported noting seat_of
  on_prom_at x slots a from b accepted chosen of_spec j start asked reported = go x.replica.note refl
    where
      y : Report
      y = record { from = from; accepted = accepted; chosen = chosen }

      go : (note : Note) → x.replica.note ≡ note → Good n past base sent k (take_report b y note x)
      go Note.Idle is = (slots, a)
      go (Note.Leading c begin next reports votes) is = (slots, a)
      go (Note.Asking c begin reports) is = by_tests (ballot_eq c b) refl (has (map (λ r. r.from) reports) from) refl
        where
          note : Note
          note = Note.Asking c begin (with_report y reports)

          counted : c ≡ b → has (map (λ r. r.from) reports) from ≡ false → Good n past base sent k (lead_by note (noting note x))
          counted same new =
              let asks : IsAsking (numbers_below n) slots k (seat_now x) c begin reports =
              subst (λ z. NoteHolds (numbers_below n) slots k (seat_now x) z) is (note_at n past base sent k x slots a) in
              let sent_so : AsksAsSent (λ i m. sent i m ⊎ ((i ≡ k) × (to : ℕ) × Contains x.sends (to, m))) (seat_now x) =
              asks_as_sent (numbers_below n) past base sent k (seat_now x) x.sends slots a.stands in
              let at_start : begin ≡ start = sent_so c begin reports is j start (inl (subst (λ z. sent j (MpMessage.Prep z start)) (sym same) asked)) in
              let true_one : HasReported (numbers_below n) slots c begin y =
              subst (λ z. HasReported (numbers_below n) slots z begin y) (sym same) (subst (λ z. HasReported (numbers_below n) slots b z y) (sym at_start) reported) in
              let more : IsAsking (numbers_below n) slots k (seat_now x) c begin (with_report y reports) =
              counts_report (numbers_below n) past base sent k (seat_now x) x.sends slots a.stands c begin reports asks y of_spec true_one
              (λ there. has_not (map (λ r. r.from) reports) from new there) in
              let at : At n past base sent k (noting note x) slots = note_as n past base sent k x slots a note more (λ d first others e i at there.
              let (same_ballot, same_start) = asked_same e in
              subst (λ z. z ≡ at) same_start (sent_so c begin reports is i at (subst (λ z. sent i (MpMessage.Prep z at) ⊎ ((i ≡ k) × (to : ℕ) × Contains x.sends (to, MpMessage.Prep z at))) (sym same_ballot) there))) in
              lead_by_at (noting note x) slots at note refl
            where
              asked_same : {d : Ballot} {first : ℕ} {others : List Report} → note ≡ Note.Asking d first others → (c ≡ d) × (begin ≡ first)
              asked_same e = (cc, cc)

          by_tests : (t : Bool) → ballot_eq c b ≡ t → (u : Bool) → has (map (λ r. r.from) reports) from ≡ u →
              Good n past base sent k (when t && not u then lead_by note (noting note x) otherwise x)
          by_tests true same false new = counted (ballot_eq_is c b same) new
          by_tests true same true new = (slots, a)
          by_tests false same u new = (slots, a)

  -- ---- asking

  module _ (x : Draft) (slots : Slots) (a : At n past base sent k x slots) (b : Ballot) (by : b.by ≡ k) (above : ballot_lt (promised x.replica.log) b ≡ true)
      (high : ballot_lt lowest b ≡ true) where
    promised_draft : Draft
    promised_draft = keep (MpRec.Promise b) x

    begin : ℕ
    begin = length (executed promised_draft.replica.log)

    more : Slots
    more = promised_slots n past base sent k x slots a b above

    at_promise : At n past base sent k promised_draft more
    unfolding promised_draft more
    at_promise = promise_at n past base sent k x slots a b above

    not_used : (s : ℕ) → IsUnused (more s) b
    unfolding more promised_slots promised_more seat_of
    not_used s = not_proposed (numbers_below n) past base sent k (seat_now x) x.sends slots a.stands b by above s

    not_sent : (i from : ℕ) → (sent i (MpMessage.Prep b from) ⊎ ((i ≡ k) × (to : ℕ) × Contains promised_draft.sends (to, MpMessage.Prep b from))) → ⊥
    unfolding promised_draft keep keep_as seat_of
    not_sent i from there = not_asked (numbers_below n) past base sent k (seat_now x) x.sends slots a.stands b by above i from there

    promised_now : promised promised_draft.replica.log ≡ b
    unfolding promised_draft keep keep_as promised
    promised_now = refl

    own_report : Report
    own_report = report begin promised_draft.replica

    asking : Note
    asking = Note.Asking b begin (own_report ∷ [])

    reported_true : HasReported (numbers_below n) more b begin own_report
    unfolding own_report report seat_of
    reported_true =
        report_true (numbers_below n) past base sent k (seat_now promised_draft) promised_draft.sends more at_promise.stands b promised_now high begin
        (report begin promised_draft.replica) at_promise.me
        (λ s late. accepted_told begin s late promised_draft.replica.log) (λ c there. chosen_told begin promised_draft.replica.log c there)

    asks_now : IsAsking (numbers_below n) more k (seat_now promised_draft) b begin (own_report ∷ [])
    unfolding seat_of own_report report
    asks_now =
        begins_to_ask (numbers_below n) past base sent k (seat_now promised_draft) promised_draft.sends more at_promise.stands member b by high promised_now not_used begin own_report
        at_promise.me reported_true

    asks_same : {c : Ballot} {first : ℕ} {others : List Report} → asking ≡ Note.Asking c first others → (b ≡ c) × (begin ≡ first)
    unfolding asking
    asks_same e = (cc, cc)

    asker : Draft
    asker = noting asking promised_draft

    at_asker : At n past base sent k asker more
    unfolding asker asking seat_of
    at_asker = note_as n past base sent k promised_draft more at_promise (Note.Asking b begin (own_report ∷ [])) asks_now (λ c first others e i at there.
        absurd (not_sent i at (subst (λ z. sent i (MpMessage.Prep z at) ⊎ ((i ≡ k) × (to : ℕ) × Contains promised_draft.sends (to, MpMessage.Prep z at))) (sym (asks_same e).0) there)))

    has_asked : HasAsked (seat_now asker) b begin
    unfolding asker asking noting seat_of
    has_asked = record {
      promised = subst (λ c. ballot_lt c b ≡ false) (sym promised_now) (below-irrefl b);
      same = λ from others e. sym (asks_same e).1;
    }

    told : Draft
    told = send_to_others (MpMessage.Prep b begin) asker

    at_told : At n past base sent k told more
    unfolding told
    at_told = send_others_at n past base sent k asker more at_asker (MpMessage.Prep b begin) (λ sends. (
      high,
      subst (λ j. HasAsked (changed base k (seat_now asker) j) b begin) (sym by)
          (subst (λ y. HasAsked y b begin) (sym (seat (numbers_below n) past base sent k (seat_now asker))) has_asked),
    ))

    told_note : told.replica.note ≡ asking
    unfolding told send_to_others asker noting
    told_note = ap (λ r. r.note) (sends_replica (others asker.replica) (MpMessage.Prep b begin) asker)

    pub ask_at : Good n past base sent k (ask b x)
    unfolding ask lead_at_majority told asker asking own_report begin promised_draft
    ask_at = lead_by_at told more at_told told.replica.note refl

  pub on_lead_at : (x : Draft) (slots : Slots) → At n past base sent k x slots → Good n past base sent k (on_lead x)
  unfolding on_lead when◌then◌otherwise◌ noting without_lead ballot_lt
  on_lead_at x slots a = go ((promised x.replica.log).round == u64_max)
    where
      y : Draft
      y = noting (without_lead x.replica.note) x

      by_note : (note : Note) → x.replica.note ≡ note → At n past base sent k (noting (without_lead note) x) slots
      by_note Note.Idle is = note_idle n past base sent k x slots a
      by_note (Note.Asking b start reports) is =
          note_as n past base sent k x slots a (Note.Asking b start reports)
          (subst (λ z. NoteHolds (numbers_below n) slots k (seat_now x) z) is (note_at n past base sent k x slots a))
          (same_asks n past base sent k x slots a (Note.Asking b start reports) is)
      by_note (Note.Leading b start next reports votes) is = note_idle n past base sent k x slots a

      next : Ballot
      next = record { round = (promised x.replica.log).round + 1; by = x.replica.me }

      above : ballot_lt (promised x.replica.log) next ≡ true
      above = grind (arith, nat_tests)

      high : ballot_lt lowest next ≡ true
      high = grind (arith, nat_tests)

      go : (t : Bool) → Good n past base sent k (when t then y otherwise ask next y)
      go true = (slots, by_note x.replica.note refl)
      go false = ask_at y slots (by_note x.replica.note refl) next a.me above high
