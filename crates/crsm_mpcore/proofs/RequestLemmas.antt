-- The requests that are accepted, and those that are refused.
use Rattle.std.proofs.Common.{◌≡◌, ℕ, ◌+◌, true, false, List, refl, ap, ap₂, sym, subst, ◌∙◌}
use Rattle.std.specs.Prelude.{◌==◌}
use Rattle.crsm_base.specs.Order.{ballot_eq}
use Rattle.crsm_base.specs.Spelling.{FitsBallot}
use Rattle.crsm_spec.specs.Choice.{when◌then◌otherwise◌}
use Rattle.crsm_spec.specs.Clock.{u64_max}
use Rattle.crsm_mpspec.specs.Deciding.{refuse, submit, take_request}
use Rattle.crsm_mpspec.specs.Draft.{Draft, noting}
use Rattle.crsm_mpspec.specs.Log.{Log, promised}
use Rattle.crsm_mpspec.specs.Replica.{Note as NoteOnPaper, Report}
use Rattle.crsm_mpspec.specs.Types.{Ballot, Command}
use Rattle.crsm_mpreplica.specs.declared.note.Leading.{Leading}
use Rattle.crsm_mpreplica.specs.declared.note.Note.{Note}
use Rattle.crsm_mpreplica.specs.Notes.{NoteStands}

-- the stage of a leader in the definitions
pub record IsLead (l : Leading) (p : NoteOnPaper) : Type 0 where
  pub start : ℕ
  pub reports : List Report
  pub votes : List (ℕ × ℕ)
  pub leads : p ≡ NoteOnPaper.Leading l.ballot start l.next reports votes
  pub fits : FitsBallot l.ballot

pub lead-of : (l : Leading) (me : ℕ) (log : Log) (p : NoteOnPaper) → NoteStands (Note.Leading l) me log p → IsLead l p
lead-of l me log (NoteOnPaper.Leading b start next reports votes) s =
    record {
      start = start;
      reports = reports;
      votes = votes;
      leads = ap₂ (λ (a : Ballot) (n : ℕ). NoteOnPaper.Leading a start n reports votes) (sym s.ballot) (sym s.next_is);
      fits = subst FitsBallot (sym s.ballot) s.ballot_fits;
    }
lead-of l me log NoteOnPaper.Idle s = absurd s
lead-of l me log (NoteOnPaper.Asking b start reports) s = absurd s

pub refused-idle : (note : Note) (me : ℕ) (log : Log) (p : NoteOnPaper) (c : Command) (x : Draft) → ((l : Leading) → note ≡ Note.Leading l → ⊥) → NoteStands note me log p → take_request c p x ≡ refuse 1 c x
unfolding take_request
refused-idle (Note.Leading l) me log p c x other s = absurd (other l refl)
refused-idle Note.Idle me log NoteOnPaper.Idle c x other s = refl
refused-idle (Note.Asking a) me log (NoteOnPaper.Asking b start reports) c x other s = refl
refused-idle _ me log _ c x other s = absurd s

module _ (l : Leading) (p : NoteOnPaper) (lead : IsLead l p) (c : Command) (x : Draft) where
  -- a leader in a ballot that it has not promised last refuses
  pub refused-lesser : ballot_eq l.ballot (promised x.replica.log) ≡ false → take_request c p x ≡ refuse 1 c x
  unfolding take_request when◌then◌otherwise◌
  refused-lesser other = ap (λ (note : NoteOnPaper). take_request c note x) lead.leads ∙ rw (other) refl

  -- so does one with no slot left
  pub refused-full : ballot_eq l.ballot (promised x.replica.log) ≡ true → (l.next == u64_max) ≡ true → take_request c p x ≡ refuse 5 c x
  unfolding take_request when◌then◌otherwise◌
  refused-full same full = ap (λ (note : NoteOnPaper). take_request c note x) lead.leads ∙ rw (same, full) refl

-- a leader in the promised ballot takes the command
pub taken : (c : Command) (x : Draft) (p : NoteOnPaper) (b : Ballot) (start next : ℕ) (reports : List Report) (votes : List (ℕ × ℕ)) → p ≡ NoteOnPaper.Leading b start next reports votes
    → ballot_eq b (promised x.replica.log) ≡ true → (next == u64_max) ≡ false → take_request c p x ≡ submit b next c (noting (NoteOnPaper.Leading b start (next + 1) reports votes) x)
unfolding take_request when◌then◌otherwise◌
taken c x p b start next reports votes leads same last = ap (λ (note : NoteOnPaper). take_request c note x) leads ∙ rw (same, last) refl
