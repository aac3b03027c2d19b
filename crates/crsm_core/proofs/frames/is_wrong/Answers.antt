use Rattle.std.proofs.Common.{◌∙◌, ap, sym}
use Rattle.std.specs.Prelude.{◌≢◌, not}
use Rattle.crsm_spec.specs.Log.{known}
use Rattle.crsm_spec.specs.Frames.{is_wrong}
use Rattle.crsm_core.proofs.FrameLemmas.{wrong_epoch, wrong_origin, wrong_ok, wrong_time}
use Rattle.crsm_core.proofs.frames.is_wrong.Goals as goal

pub returns-then-entry-known : goal.returns-then-entry-known
returns-then-entry-known c = λ x s.
    let e : c.in-Prepare.entry.epoch ≢ known x.replica.log = λ h. c.if-entry-known.true (h ∙ sym (c.known.ensures x s)) in
    wrong_epoch x.replica c.args.k c.in-Prepare.entry e ∙ ap (λ p. is_wrong x.replica c.args.k p) (sym c.in-Prepare.is)

pub returns-else-entry-known : goal.returns-else-entry-known
returns-else-entry-known c = λ x s.
    wrong_origin x.replica c.args.k c.in-Prepare.entry (c.if-entry-known.false ∙ c.known.ensures x s)
    ∙ ap (λ p. is_wrong x.replica c.args.k p) (sym c.in-Prepare.is)

pub returns-in-PrepareOk : goal.returns-in-PrepareOk
returns-in-PrepareOk c = λ x s.
    ap (λ b. not b) (c.is_member.ensures x s) ∙ wrong_ok x.replica c.args.k c.in-PrepareOk.stamp c.in-PrepareOk.at
    ∙ ap (λ p. is_wrong x.replica c.args.k p) (sym c.in-PrepareOk.is)

pub returns-in-ClockTime : goal.returns-in-ClockTime
returns-in-ClockTime c = λ x s.
    wrong_time x.replica c.args.k c.in-ClockTime.at ∙ ap (λ p. is_wrong x.replica c.args.k p) (sym c.in-ClockTime.is)
