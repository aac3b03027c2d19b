-- The stage of a replica in an election, in memory.
use Rattle.std.specs.Prelude.{◌≡◌, ℕ, Bool, true, false, ◌&&◌, not, IsTrue, List, map, filter}
use Rattle.std.specs.List.{AllByRecursion}
use Rattle.crsm_base.specs.Order.{ballot_lt, ballot_eq}
use Rattle.crsm_base.specs.Spelling.{FitsBallot}
use Rattle.crsm_spec.specs.Lists.{has}
use Rattle.crsm_mpspec.specs.Types.{Ballot}
use Rattle.crsm_mpspec.specs.Log.{Log, is_chosen}
use Rattle.crsm_mpspec.specs.Deciding.{counts}
use Rattle.crsm_mpspec.specs.Draft.{Draft, noting}
use Rattle.crsm_mpspec.specs.Replica.{Replica, Note as NoteOnPaper, Report as ReportOnPaper, has_reported, with_report, voters_at, slots_of}
use Rattle.crsm_mpreplica.specs.declared.note.Asking.{Asking}
use Rattle.crsm_mpreplica.specs.declared.note.Leading.{Leading}
use Rattle.crsm_mpreplica.specs.declared.note.Note.{Note}
use Rattle.crsm_mpreplica.specs.declared.note.MpReport.{MpReport}
use Rattle.crsm_mpreplica.specs.Fitting.{FitsReport}

-- the report of a replica
unfoldable pub report_of : ℕ × MpReport → ReportOnPaper
report_of r = record { from = r.0; accepted = r.1.accepted; chosen = r.1.chosen }

-- the request for promises, with the reports received
pub record IsAsking (a : Asking) (b : Ballot) (start : ℕ) (reports : List ReportOnPaper) : Type 0 where
  pub ballot : a.ballot ≡ b
  pub start_is : a.start ≡ start
  pub reports_are : map report_of a.reports.entries ≡ reports
  pub ballot_fits : FitsBallot b
  pub reports_fit : AllByRecursion FitsReport reports

-- the slots that replica k proposed at and whose values are not known
unfoldable pub open_of : ℕ → Log → List (ℕ × ℕ) → List ℕ
open_of k log votes = filter (λ s. not (is_chosen s log)) (slots_of k votes)

-- a slot with those who voted there
unfoldable pub with_voters : List (ℕ × ℕ) → ℕ → ℕ × List ℕ
with_voters votes slot = (slot, voters_at slot votes)

-- The lead of replica me over this log: the open slots with their voters. Each vote is for a slot at which the leader
-- has proposed.
pub record IsLeading (l : Leading) (me : ℕ) (log : Log) (b : Ballot) (next : ℕ) (votes : List (ℕ × ℕ)) : Type 0 where
  pub ballot : l.ballot ≡ b
  pub next_is : l.next ≡ next
  pub open_are : map (λ e. (e.0, e.1.items)) l.open.entries ≡ map (with_voters votes) (open_of me log votes)
  pub proposed : AllByRecursion (λ v. IsTrue (has (slots_of me votes) v.0)) votes
  pub ballot_fits : FitsBallot b

-- the stage of replica me with this log
abbrev pub NoteStands : Note → ℕ → Log → NoteOnPaper → Type 0
NoteStands Note.Idle me log NoteOnPaper.Idle = Unit {0}
NoteStands (Note.Asking a) me log (NoteOnPaper.Asking b start reports) = IsAsking a b start reports
NoteStands (Note.Leading l) me log (NoteOnPaper.Leading b start next reports votes) = IsLeading l me log b next votes
NoteStands _ me log _ = ⊥

-- the replica leads
abbrev pub is_lead : NoteOnPaper → Bool
is_lead (NoteOnPaper.Leading b start next reports votes) = true
is_lead _ = false

-- the replica asks or leads in a ballot below this one
abbrev pub is_lesser : Ballot → NoteOnPaper → Bool
is_lesser b NoteOnPaper.Idle = false
is_lesser b (NoteOnPaper.Asking a start reports) = ballot_lt a b
is_lesser b (NoteOnPaper.Leading a start next reports votes) = ballot_lt a b

-- ---- reports and votes

-- promises of ballot b are asked for, and replica k has not reported
unfoldable pub awaits_report : Ballot → ℕ → NoteOnPaper → Bool
awaits_report b k (NoteOnPaper.Asking a start reports) = ballot_eq a b && not (has_reported reports k)
awaits_report b k _ = false

-- one report more, where reports are asked for
unfoldable pub note_report : ReportOnPaper → NoteOnPaper → NoteOnPaper
note_report r (NoteOnPaper.Asking a start reports) = NoteOnPaper.Asking a start (with_report r reports)
note_report r note = note

-- the draft with one report more
abbrev pub reported : ReportOnPaper → Draft → Draft
reported r x = noting (note_report r x.replica.note) x

-- the replica, in this stage, leads in ballot b, and the vote of replica k at the slot counts
unfoldable pub awaits_vote : Ballot → ℕ → ℕ → Replica → NoteOnPaper → Bool
awaits_vote b slot k r (NoteOnPaper.Leading a start next reports votes) = ballot_eq a b && counts slot k votes r
awaits_vote b slot k r _ = false
