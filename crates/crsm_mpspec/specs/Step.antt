-- One step of a replica: the rule of its input, and then the replies.
use Rattle.std.specs.Prelude.{ℕ, not, List, [], ◌∷◌, ◌++◌, length, take, drop, filter, fold, Option, None, Some, slice_get}
use Rattle.std.specs.List.{enumerate_from}
use Rattle.std.specs.Option.{option_map_or}
use Rattle.crsm_base.specs.Limits.{most_again}
use Rattle.crsm_spec.specs.Lists.{has}
use Rattle.crsm_spec.specs.Choice.{when◌then◌otherwise◌}
use Rattle.crsm_mpspec.specs.declared.rec.MpRec.{MpRec}
use Rattle.crsm_mpspec.specs.declared.message.MpMessage.{MpMessage}
use Rattle.crsm_mpspec.specs.declared.input.MpInput.{MpInput}
use Rattle.crsm_mpspec.specs.declared.line.MpLine.{MpLine}
use Rattle.crsm_mpspec.specs.Types.{Ballot, Value}
use Rattle.crsm_mpspec.specs.Log.{Log, accepted_at, is_chosen, executed}
use Rattle.crsm_mpspec.specs.Values.{answer_after, is_command}
use Rattle.crsm_mpspec.specs.Replica.{Replica, Report, Note, Waiting, fresh, others, has_reported, voters_at, slots_of}
use Rattle.crsm_mpspec.specs.Draft.{Draft, begun, keep, send, send_to_each, send_to_others, reply}
use Rattle.crsm_mpspec.specs.Deciding.{choose, on_request, on_acc, on_accd}
use Rattle.crsm_mpspec.specs.Electing.{on_lead, on_prep, on_prom, on_no}

-- ---- what a replica asks for

-- sends replica k the value of a slot
unfoldable pub teach : ℕ → Draft → ℕ × Value → Draft
teach k x s = send (MpMessage.Learn s.0 s.1) x k

-- A replica asks for executed values from a slot on, and gets the first of them.
unfoldable pub on_ask : ℕ → ℕ → Draft → Draft
on_ask from start x = fold (teach from) x (take most_again (drop start (enumerate_from 0 (executed x.replica.log))))

-- ---- ticks

-- the other replicas that have not reported
unfoldable pub unreported : List Report → Replica → List ℕ
unreported reports r = filter (λ k. not (has_reported reports k)) (others r)

-- the first slots that this lead proposed at and that are not chosen yet
unfoldable pub open_slots : List (ℕ × ℕ) → Replica → List ℕ
open_slots votes r = take most_again (filter (λ s. not (is_chosen s r.log)) (slots_of r.me votes))

-- the other replicas that have not voted at the slot
unfoldable pub unvoted : ℕ → List (ℕ × ℕ) → Replica → List ℕ
unvoted slot votes r = filter (λ k. not (has (voters_at slot votes) k)) (others r)

-- proposes the accepted value once more to those that have not voted
unfoldable pub propose_again : Ballot → List (ℕ × ℕ) → Draft → ℕ → Draft
propose_again b votes x slot =
    option_map_or (λ a. send_to_each (unvoted slot votes x.replica) (MpMessage.Acc b slot a.1) x)
    (accepted_at slot x.replica.log) x

-- the retransmitted requests of the replica
unfoldable pub renew : Note → Draft → Draft
renew Note.Idle x = x
renew (Note.Asking b start reports) x = send_to_each (unreported reports x.replica) (MpMessage.Prep b start) x
renew (Note.Leading b start next reports votes) x = fold (propose_again b votes) x (open_slots votes x.replica)

-- A tick: requests that are not answered are retransmitted, and all are asked for executed values that are missing
-- here.
unfoldable pub on_tick : Draft → Draft
on_tick x =
    let y = renew x.replica.note x in send_to_others (MpMessage.Ask (length (executed x.replica.log))) y

-- ---- the rule of each input

-- A message of replica `from`.
unfoldable pub on_message : ℕ → MpMessage → Draft → Draft
on_message from (MpMessage.Prep b start) x = on_prep from b start x
on_message from (MpMessage.Prom b accepted chosen) x = on_prom from b accepted chosen x
on_message from (MpMessage.No p) x = on_no p x
on_message from (MpMessage.Acc b slot v) x = on_acc from b slot v x
on_message from (MpMessage.Accd b slot) x = on_accd from b slot x
on_message from (MpMessage.Learn slot v) x = choose slot v x
on_message from (MpMessage.Ask start) x = on_ask from start x

-- the rule of an input; `from` is the sender of a message
unfoldable pub on_input : MpInput → ℕ → Draft → Draft
on_input (MpInput.Request c) from x = on_request c x
on_input (MpInput.Message m) from x = on_message from m x
on_input MpInput.Tick from x = on_tick x
on_input MpInput.Lead from x = on_lead x

-- ---- replies

-- the line of the reply to a client for whose slot this value was chosen
unfoldable pub reply_line : ℕ → List Value → Waiting → Value → MpLine
reply_line me done w v =
    let c = w.command in
    when is_command c v
    then MpLine.ReplyOk me c.client c.number w.slot (answer_after (take w.slot done) c)
    otherwise MpLine.ReplyDropped me c.client c.number w.slot

-- replies to a client where its slot is executed; else it waits on
unfoldable pub answer : Waiting → Option Value → Draft → Draft
answer w None x = record x { replica = record x.replica { waiting = x.replica.waiting ++ w ∷ [] } }
answer w (Some v) x = reply (reply_line x.replica.me (executed x.replica.log) w v) x

-- each waiting client in turn
unfoldable pub answer_each : List Waiting → Draft → Draft
answer_each [] x = x
answer_each (w ∷ ws) x = answer_each ws (answer w (slice_get (executed x.replica.log) w.slot) x)

-- Answers each waiting client whose slot is executed. The others wait on.
unfoldable pub replies : Draft → Draft
replies x = answer_each x.replica.waiting (record x { replica = record x.replica { waiting = [] } })

-- ---- the step

-- One step.
unfoldable pub step : Replica → MpInput → ℕ → Draft
step r input from = replies (on_input input from (begun r))

-- A boot on a log puts itself on record.
unfoldable pub boot : ℕ → ℕ → Log → Draft
boot me n log = keep MpRec.Boot (begun (fresh me n log))
