-- Stages that end.
use Rattle.std.proofs.Common.{◌≡◌, Bool, true, false, refl}
use Rattle.crsm_spec.specs.Choice.{when◌then◌otherwise◌}
use Rattle.crsm_mpspec.specs.Types.{Ballot}
use Rattle.crsm_mpspec.specs.Replica.{Note as NoteOnPaper, ended_by, refused_by, without_lead}
use Rattle.crsm_mpreplica.specs.Notes.{is_lead, is_lesser}

pub led-over : (p : NoteOnPaper) → is_lead p ≡ true → without_lead p ≡ NoteOnPaper.Idle
unfolding without_lead
led-over (NoteOnPaper.Leading b start next reports votes) e = refl
led-over NoteOnPaper.Idle e = refl
led-over (NoteOnPaper.Asking b start reports) e = absurd (no_lead e)
  where
    no_lead : ◌≡◌ {A = Bool} false true → ⊥
    no_lead w = cc

pub led-on : (p : NoteOnPaper) → is_lead p ≡ false → without_lead p ≡ p
unfolding without_lead
led-on (NoteOnPaper.Leading b start next reports votes) e = absurd (no_lead e)
  where
    no_lead : ◌≡◌ {A = Bool} true false → ⊥
    no_lead w = cc
led-on NoteOnPaper.Idle e = refl
led-on (NoteOnPaper.Asking b start reports) e = refl

pub ended : (b : Ballot) (p : NoteOnPaper) → is_lesser b p ≡ true → ended_by b p ≡ NoteOnPaper.Idle
unfolding ended_by when◌then◌otherwise◌
ended b NoteOnPaper.Idle e = refl
ended b (NoteOnPaper.Asking a start reports) e = rw (e) refl
ended b (NoteOnPaper.Leading a start next reports votes) e = rw (e) refl

pub ended-not : (b : Ballot) (p : NoteOnPaper) → is_lesser b p ≡ false → ended_by b p ≡ p
unfolding ended_by when◌then◌otherwise◌
ended-not b NoteOnPaper.Idle e = refl
ended-not b (NoteOnPaper.Asking a start reports) e = rw (e) refl
ended-not b (NoteOnPaper.Leading a start next reports votes) e = rw (e) refl

pub refused-lead : (b : Ballot) (p : NoteOnPaper) → is_lead p ≡ true → refused_by b p ≡ ended_by b p
unfolding refused_by
refused-lead b (NoteOnPaper.Leading a start next reports votes) e = refl
refused-lead b NoteOnPaper.Idle e = absurd (no_lead e)
  where
    no_lead : ◌≡◌ {A = Bool} false true → ⊥
    no_lead w = cc
refused-lead b (NoteOnPaper.Asking a start reports) e = absurd (no_lead e)
  where
    no_lead : ◌≡◌ {A = Bool} false true → ⊥
    no_lead w = cc

pub refused-none : (b : Ballot) (p : NoteOnPaper) → is_lead p ≡ false → refused_by b p ≡ p
unfolding refused_by
refused-none b (NoteOnPaper.Leading a start next reports votes) e = absurd (no_lead e)
  where
    no_lead : ◌≡◌ {A = Bool} true false → ⊥
    no_lead w = cc
refused-none b NoteOnPaper.Idle e = refl
refused-none b (NoteOnPaper.Asking a start reports) e = refl
