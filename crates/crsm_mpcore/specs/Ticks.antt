-- The retransmissions at a tick, replica by replica.
use Rattle.std.specs.Prelude.{◌==◌, ◌&&◌, Bool, false, not, ℕ, IsTrue, List, [], fold, Option, None, Some}
use Rattle.std.specs.BTreeMap.{get}
use Rattle.std.specs.Option.{option_map, option_map_or}
use Rattle.std.specs.Ordering.{nat_cmp}
use Rattle.crsm_spec.specs.Lists.{has, numbers_below}
use Rattle.crsm_spec.specs.Choice.{when◌then◌otherwise◌}
use Rattle.crsm_mpspec.specs.declared.message.MpMessage.{MpMessage}
use Rattle.crsm_mpspec.specs.Log.{accepted_at}
use Rattle.crsm_mpspec.specs.Replica.{Replica, Note, has_reported, voters_at}
use Rattle.crsm_mpspec.specs.Draft.{Draft, send}
use Rattle.crsm_mpspec.specs.Step.{open_slots}
use Rattle.crsm_mpreplica.specs.declared.note.Leading.{Leading}
use Rattle.crsm_mpreplica.specs.Notes.{open_of}

-- sends what there is for replica k
unfoldable pub send_if : (ℕ → Option MpMessage) → Draft → ℕ → Draft
send_if message x k = option_map_or (λ m. send m x k) (message k) x

-- sends each of the first replicas what there is for it
unfoldable pub send_where : (ℕ → Option MpMessage) → ℕ → Draft → Draft
send_where message n x = fold (send_if message) x (numbers_below n)

-- ---- promises

-- the request to replica k, if it has not reported
unfoldable pub question : ℕ → Note → ℕ → Option MpMessage
question me (Note.Asking b start reports) k =
    when not (k == me) && not (has_reported reports k) then Some (MpMessage.Prep b start) otherwise None
question me note k = None

-- asks all once more who have not reported
unfoldable pub ask_again : Draft → Draft
ask_again x = send_where (question x.replica.me x.replica.note) x.replica.n x

-- ---- proposals

-- the voter is one of those at the slot in memory
unfoldable pub is_voter : Leading → ℕ → ℕ → Bool
is_voter l slot k = option_map_or (λ voters. has voters.items k) (get nat_cmp l.open slot) false

-- the proposal at the slot for replica k, if it has not voted
unfoldable pub proposal : ℕ → Replica → Note → ℕ → Option MpMessage
proposal slot r (Note.Leading b start next reports votes) k =
    when not (k == r.me) && not (has (voters_at slot votes) k)
    then option_map (λ a. MpMessage.Acc b slot a.1) (accepted_at slot r.log) otherwise None
proposal slot r note k = None

-- the replica leads, and the slot is one of those that it proposed at and whose value is not known
abbrev pub IsOpen : ℕ → Replica → Note → Type 0
IsOpen slot r (Note.Leading b start next reports votes) = IsTrue (has (open_of r.me r.log votes) slot)
IsOpen slot r _ = ⊥

-- the slots whose values are proposed again
unfoldable pub slots_again : Replica → Note → List ℕ
slots_again r (Note.Leading b start next reports votes) = open_slots votes r
slots_again r note = []

-- proposes again at one slot
unfoldable pub propose_slot : ℕ → Draft → Draft
propose_slot slot x = send_where (proposal slot x.replica x.replica.note) x.replica.n x

-- proposes again at each of them
unfoldable pub propose_all_again : Draft → Draft
propose_all_again x = fold (λ y slot. propose_slot slot y) x (slots_again x.replica x.replica.note)
