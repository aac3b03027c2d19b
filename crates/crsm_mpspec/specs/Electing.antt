-- The election of a leader: a replica asks for promises of a ballot, and the reports of a majority determine what it
-- proposes.
use Rattle.std.specs.Prelude.{ℕ, suc, ◌+◌, ◌-◌, ◌==◌, ◌&&◌, not, nat_le, List, [], ◌∷◌, ◌++◌, length, map, filter, flat_map, fold, None, Some}
use Rattle.std.specs.List.{range_with_len}
use Rattle.crsm_base.specs.Order.{ballot_lt, ballot_eq}
use Rattle.crsm_spec.specs.Lists.{greatest}
use Rattle.crsm_spec.specs.Clock.{u64_max}
use Rattle.crsm_spec.specs.Paxos.{majority, Held, Answer, value_of}
use Rattle.crsm_spec.specs.Choice.{when◌then◌otherwise◌}
use Rattle.crsm_mpspec.specs.declared.rec.MpRec.{MpRec}
use Rattle.crsm_mpspec.specs.declared.accepts.MpAccepted.{MpAccepted}
use Rattle.crsm_mpspec.specs.declared.choices.MpChosen.{MpChosen}
use Rattle.crsm_mpspec.specs.declared.message.MpMessage.{MpMessage}
use Rattle.crsm_mpspec.specs.Types.{Ballot, Value}
use Rattle.crsm_mpspec.specs.Log.{by_slot, promised, accepted_from, chosen_from, is_chosen, executed}
use Rattle.crsm_mpspec.specs.Replica.{Replica, Report, Note, without_lead, refused_by, with_report, has_reported}
use Rattle.crsm_mpspec.specs.Draft.{Draft, keep, send, send_to_others, noting}
use Rattle.crsm_mpspec.specs.Deciding.{choose, propose}

-- ---- reports

-- the report of a replica from a slot on
unfoldable pub report : ℕ → Replica → Report
report start r =
    record { from = r.me; accepted = accepted_from start r.log; chosen = chosen_from start r.log }

-- of two values that were accepted the one of the greater ballot, the first where these are equal
unfoldable pub greater_held : Held Value → Ballot × Value → Held Value
greater_held None a = Some a
greater_held (Some held) a = when ballot_lt held.0 a.0 then Some a otherwise Some held

-- the value that a report has as accepted at the slot
unfoldable pub held_at : ℕ → List MpAccepted → Held Value
held_at slot accepted =
    fold greater_held None (map (λ a. (a.ballot, a.value)) (filter (λ a. a.slot == slot) accepted))

-- the reports as the answers of one instance of Paxos, that of the slot
unfoldable pub answers_at : ℕ → List Report → List (Answer Value)
answers_at slot reports = map (λ r. record { replica = r.from; accepted = held_at slot r.accepted }) reports

-- the value that the leader must propose at the slot: a noop if no report names a value
unfoldable pub reported_at : ℕ → List Report → Value
reported_at slot reports = value_of None (answers_at slot reports)

-- the slots that are reported to be chosen, ascending, with the value that the first of the reports gives
unfoldable pub chosen_among : List Report → List (ℕ × Value)
chosen_among reports = by_slot (flat_map (λ r. map (λ c. (c.slot, c.value)) r.chosen) reports)

-- the slots that a report names
unfoldable pub slots_in : Report → List ℕ
slots_in r = map (λ a. a.slot) r.accepted ++ map (λ c. c.slot) r.chosen

-- one above the greatest slot that is reported, or the one from which on they were asked for
unfoldable pub next_slot : ℕ → List Report → ℕ
next_slot start reports = greatest (start ∷ map (λ s. suc s) (flat_map slots_in reports))

-- ---- taking the lead

-- keeps a choice that was reported
unfoldable pub choose_reported : Draft → ℕ × Value → Draft
choose_reported x c = choose c.0 c.1 x

-- proposes what the reports leave at the slot, unless its value is known
unfoldable pub propose_reported : Ballot → List Report → Draft → ℕ → Draft
propose_reported b reports x slot =
    when is_chosen slot x.replica.log then x otherwise propose b slot (reported_at slot reports) x

-- Leads: records the values reported as chosen, and proposes again at the other slots up to the last that is reported.
unfoldable pub lead : Ballot → ℕ → List Report → Draft → Draft
lead b start reports x =
    let next = next_slot start reports in
    let y = fold choose_reported x (chosen_among reports) in
    fold (propose_reported b reports) (noting (Note.Leading b start next reports []) y) (range_with_len start (next - start))

-- a majority of reports makes a leader
unfoldable pub lead_by : Note → Draft → Draft
lead_by (Note.Asking b start reports) x =
    when nat_le (majority x.replica.n) (length reports) then lead b start reports x otherwise x
lead_by note x = x

unfoldable pub lead_at_majority : Draft → Draft
lead_at_majority x = lead_by x.replica.note x

-- ---- asking

-- asks all for promises of the ballot, its own first
unfoldable pub ask : Ballot → Draft → Draft
ask b x =
    let y = keep (MpRec.Promise b) x in
    let start = length (executed y.replica.log) in
    let z = noting (Note.Asking b start (report start y.replica ∷ [])) y in
    lead_at_majority (send_to_others (MpMessage.Prep b start) z)

-- The replica is to lead: a lead that it has ends, and it asks in a ballot of its own above its promise, if there is
-- one.
unfoldable pub on_lead : Draft → Draft
on_lead x =
    let p = promised x.replica.log in
    let y = noting (without_lead x.replica.note) x in
    when p.round == u64_max then y otherwise ask (record { round = p.round + 1; by = x.replica.me }) y

-- ---- promising

-- A replica asks for a promise, and for a report from a slot on.
unfoldable pub on_prep : ℕ → Ballot → ℕ → Draft → Draft
on_prep from b start x =
    let y = when ballot_lt (promised x.replica.log) b then keep (MpRec.Promise b) x otherwise x in
    when ballot_lt b (promised x.replica.log) then send (MpMessage.No (promised x.replica.log)) x from
    otherwise send (MpMessage.Prom b (accepted_from start y.replica.log) (chosen_from start y.replica.log)) y from

-- a promise of ballot b with its report
unfoldable pub take_report : Ballot → Report → Note → Draft → Draft
take_report b r (Note.Asking a start reports) x =
    when ballot_eq a b && not (has_reported reports r.from)
    then lead_at_majority (noting (Note.Asking a start (with_report r reports)) x) otherwise x
take_report b r note x = x

-- A replica promises ballot b, and reports what it has accepted and knows to be chosen.
unfoldable pub on_prom : ℕ → Ballot → List MpAccepted → List MpChosen → Draft → Draft
on_prom from b accepted chosen x =
    take_report b (record { from = from; accepted = accepted; chosen = chosen }) x.replica.note x

-- A replica has promised a greater ballot.
unfoldable pub on_no : Ballot → Draft → Draft
on_no p x = noting (refused_by p x.replica.note) x
