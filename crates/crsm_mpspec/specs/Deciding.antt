-- The decision of a slot: a leader proposes, the others accept, and a majority of votes chooses.
use Rattle.std.specs.Prelude.{ℕ, ◌+◌, Bool, false, ◌==◌, ◌&&◌, not, nat_le, List, length, Option, None, Some}
use Rattle.std.specs.Option.{option_map_or}
use Rattle.crsm_base.specs.Order.{ballot_lt, ballot_eq}
use Rattle.crsm_spec.specs.Lists.{has}
use Rattle.crsm_spec.specs.Clock.{u64_max}
use Rattle.crsm_spec.specs.Paxos.{majority}
use Rattle.crsm_spec.specs.Choice.{when◌then◌otherwise◌}
use Rattle.crsm_mpspec.specs.declared.rec.MpRec.{MpRec}
use Rattle.crsm_mpspec.specs.declared.message.MpMessage.{MpMessage}
use Rattle.crsm_mpspec.specs.declared.line.MpLine.{MpLine}
use Rattle.crsm_mpspec.specs.Types.{Ballot, Command, Value}
use Rattle.crsm_mpspec.specs.Log.{Log, promised, accepted_at, is_chosen}
use Rattle.crsm_mpspec.specs.Replica.{Replica, Note, voters_at, votes_of}
use Rattle.crsm_mpspec.specs.Draft.{Draft, keep, keep_as, send, send_to_others, reply, noting, count_vote, await}

-- ---- choosing

-- keeps that the value was chosen at the slot, unless that is known
unfoldable pub choose : ℕ → Value → Draft → Draft
choose slot v x = when is_chosen slot x.replica.log then x otherwise keep (MpRec.Choose slot v) x

-- the value that this replica accepted is chosen, and all others learn it
unfoldable pub choose_accepted : ℕ → Option (Ballot × Value) → Draft → Draft
choose_accepted slot None x = x
choose_accepted slot (Some a) x = send_to_others (MpMessage.Learn slot a.1) (keep (MpRec.Choose slot a.1) x)

-- a majority of votes at the slot, whose value is not known yet
unfoldable pub is_voted : ℕ → Replica → Bool
is_voted slot r =
    nat_le (majority r.n) (length (voters_at slot (votes_of r.note))) && not (is_chosen slot r.log)

-- at a majority of votes the leader's value is chosen
unfoldable pub choose_voted : ℕ → Draft → Draft
choose_voted slot x =
    when is_voted slot x.replica then choose_accepted slot (accepted_at slot x.replica.log) x otherwise x

-- ---- proposing

-- accepts the value in the leader's own ballot, with this line, and asks the others to accept it
unfoldable pub propose_as : MpLine → Ballot → ℕ → Value → Draft → Draft
propose_as line b slot v x =
    let y = count_vote slot x.replica.me (keep_as line (MpRec.Accept slot b v) x) in
    choose_voted slot (send_to_others (MpMessage.Acc b slot v) y)

-- the same of a value that no client asked for
unfoldable pub propose : Ballot → ℕ → Value → Draft → Draft
propose b slot v x = propose_as (MpLine.Accept x.replica.me slot b.round b.by) b slot v x

-- ---- requests

-- refuses the client's command: 1 if the replica does not lead, 5 if no slot is left
unfoldable pub refuse : ℕ → Command → Draft → Draft
refuse code c x = reply (MpLine.ReplyNo x.replica.me c.client c.number code) x

-- proposes a client's command at the slot
unfoldable pub submit : Ballot → ℕ → Command → Draft → Draft
submit b slot c x =
    propose_as (MpLine.Submit x.replica.me slot b.round b.by c.client c.number) b slot (Some c) (await slot c x)

-- Only a leader in the promised ballot takes a command, at the next slot.
unfoldable pub take_request : Command → Note → Draft → Draft
take_request c (Note.Leading b start next reports votes) x =
    when not (ballot_eq b (promised x.replica.log)) then refuse 1 c x
    otherwise when next == u64_max then refuse 5 c x
    otherwise submit b next c (noting (Note.Leading b start (next + 1) reports votes) x)
take_request c note x = refuse 1 c x

-- A client's command.
unfoldable pub on_request : Command → Draft → Draft
on_request c x = take_request c x.replica.note x

-- ---- accepting

-- the replica accepted in this ballot at the slot before
unfoldable pub has_accepted : Ballot → ℕ → Log → Bool
has_accepted b slot log = option_map_or (λ a. ballot_eq a.0 b) (accepted_at slot log) false

-- A leader asks to accept a value.
unfoldable pub on_acc : ℕ → Ballot → ℕ → Value → Draft → Draft
on_acc from b slot v x =
    let accepted = when has_accepted b slot x.replica.log then x otherwise keep (MpRec.Accept slot b v) x in
    when ballot_lt b (promised x.replica.log) then send (MpMessage.No (promised x.replica.log)) x from
    otherwise send (MpMessage.Accd b slot) accepted from

-- the vote counts: of a slot that was proposed here, whose value is not known, and the first of its replica
unfoldable pub counts : ℕ → ℕ → List (ℕ × ℕ) → Replica → Bool
counts slot k votes r =
    (has (voters_at slot votes) r.me && not (has (voters_at slot votes) k)) && not (is_chosen slot r.log)

-- a vote in ballot b
unfoldable pub take_vote : ℕ → Ballot → ℕ → Note → Draft → Draft
take_vote from b slot (Note.Leading a start next reports votes) x =
    when ballot_eq a b && counts slot from votes x.replica then choose_voted slot (count_vote slot from x) otherwise x
take_vote from b slot note x = x

-- A replica has accepted in ballot b at the slot.
unfoldable pub on_accd : ℕ → Ballot → ℕ → Draft → Draft
on_accd from b slot x = take_vote from b slot x.replica.note x
