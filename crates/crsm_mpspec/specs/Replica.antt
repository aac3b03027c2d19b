-- A replica of the definitions: its log, and its state in memory.
use Rattle.std.specs.Prelude.{ℕ, ◌==◌, Bool, not, nat_lt, if◌then◌else◌, List, [], ◌∷◌, ◌++◌, map, filter}
use Rattle.crsm_base.specs.Order.{ballot_lt}
use Rattle.crsm_spec.specs.Lists.{has, numbers_below}
use Rattle.crsm_spec.specs.Choice.{when◌then◌otherwise◌}
use Rattle.crsm_mpspec.specs.declared.rec.MpRec.{MpRec}
use Rattle.crsm_mpspec.specs.declared.accepts.MpAccepted.{MpAccepted}
use Rattle.crsm_mpspec.specs.declared.choices.MpChosen.{MpChosen}
use Rattle.crsm_mpspec.specs.Types.{Ballot, Command}
use Rattle.crsm_mpspec.specs.Log.{Log}

-- the report of a replica with its promise, from the requested slot on
pub record Report : Type 0 where
  pub from : ℕ
  pub accepted : List MpAccepted
  pub chosen : List MpChosen

-- The stage of a replica: it asks for promises of a ballot, or leads in one. It keeps the slot from which on it asked
-- and the reports, by ascending replica; a leader also the slot of the next request, and each vote with its slot.
pub data Note : Type 0 where
  Idle : Note
  Asking : (b : Ballot) (start : ℕ) (reports : List Report) → Note
  Leading : (b : Ballot) (start next : ℕ) (reports : List Report) (votes : List (ℕ × ℕ)) → Note

-- a client that waits for its command at this slot
pub record Waiting : Type 0 where
  pub slot : ℕ
  pub command : Command

-- One replica: only `log` is on its disk; the rest is lost at a boot.
pub record Replica : Type 0 where
  pub me : ℕ  -- its number
  pub n : ℕ  -- how many replicas there are
  pub log : Log  -- the records kept, the newest first
  pub note : Note
  pub waiting : List Waiting  -- in order of submission

-- a replica of this log, at the beginning of a boot
unfoldable pub fresh : ℕ → ℕ → Log → Replica
fresh me n log = record { me = me; n = n; log = log; note = Note.Idle; waiting = [] }

-- the other replicas, ascending
unfoldable pub others : Replica → List ℕ
others r = filter (λ k. not (k == r.me)) (numbers_below r.n)

-- ---- what ends an asking and a lead

-- a promise of ballot b ends a request or a lead in a lesser one
unfoldable pub ended_by : Ballot → Note → Note
ended_by b Note.Idle = Note.Idle
ended_by b (Note.Asking a start reports) = when ballot_lt a b then Note.Idle otherwise Note.Asking a start reports
ended_by b (Note.Leading a start next reports votes) =
    when ballot_lt a b then Note.Idle otherwise Note.Leading a start next reports votes

-- the note once this record is kept
unfoldable pub note_after : MpRec → Note → Note
note_after (MpRec.Promise b) note = ended_by b note
note_after (MpRec.Accept slot b v) note = ended_by b note
note_after _ note = note

-- it leads no more
unfoldable pub without_lead : Note → Note
without_lead (Note.Leading b start next reports votes) = Note.Idle
without_lead note = note

-- a promise of b elsewhere ends a lead in a lesser ballot
unfoldable pub refused_by : Ballot → Note → Note
refused_by b (Note.Leading a start next reports votes) = ended_by b (Note.Leading a start next reports votes)
refused_by b note = note

-- ---- reports

-- the reports with this one, by ascending replica
unfoldable pub with_report : Report → List Report → List Report
with_report r [] = r ∷ []
with_report r (s ∷ ss) = if nat_lt r.from s.from then r ∷ s ∷ ss else s ∷ with_report r ss

-- replica k has reported
unfoldable pub has_reported : List Report → ℕ → Bool
has_reported reports k = has (map (λ r. r.from) reports) k

-- ---- votes

-- who voted at a slot, in order
unfoldable pub voters_at : ℕ → List (ℕ × ℕ) → List ℕ
voters_at slot votes = map (λ v. v.1) (filter (λ v. v.0 == slot) votes)

-- the slots that replica k voted at, in order: where it leads, those that it proposed at
unfoldable pub slots_of : ℕ → List (ℕ × ℕ) → List ℕ
slots_of k votes = map (λ v. v.0) (filter (λ v. v.1 == k) votes)

-- the votes of a lead, none where the replica does not lead
unfoldable pub votes_of : Note → List (ℕ × ℕ)
votes_of (Note.Leading b start next reports votes) = votes
votes_of _ = []

-- one vote more
unfoldable pub with_vote : ℕ → ℕ → Note → Note
with_vote slot k (Note.Leading b start next reports votes) =
    Note.Leading b start next reports (votes ++ (slot, k) ∷ [])
with_vote slot k note = note
