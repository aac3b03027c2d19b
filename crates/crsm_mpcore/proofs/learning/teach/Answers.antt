use Rattle.std.proofs.Common.{◌≡◌, ◌∙◌, sym, subst, ap}
use Rattle.std.specs.Prelude.{Some, None, Option}
use Rattle.std.specs.Option.{option_copied}
use Rattle.crsm_mpspec.specs.declared.message.MpMessage.{MpMessage}
use Rattle.crsm_mpspec.specs.Types.{Value}
use Rattle.crsm_mpspec.specs.Draft.{send}
use Rattle.crsm_mpreplica.specs.Fitting.{FitsValue}
use Rattle.crsm_mpreplica.specs.State.{MpReplicaStands}
use Rattle.crsm_mpcore.proofs.SoundLemmas.{executed-fits}
use Rattle.crsm_mpcore.proofs.learning.teach.Goals as goal

inside : (v w : Value) → ◌≡◌ {A = Option Value} (Some v) (Some w) → w ≡ v
inside v w e = cc

none : (v : Value) → ◌≡◌ {A = Option Value} (Some v) None → ⊥
none v e = cc

pub returns-in_default : goal.returns-in_default
returns-in_default c v x s at = absurd (none v (sym at ∙ sym (c.executed.ensures x.replica.log (c.ledger.ensures x s)) ∙ ap option_copied c.in_default.is))

pub returns : goal.returns
returns c v x s at =
    let log = c.ledger.ensures x s in
    let found : Some v ≡ Some c.in-Some.executed.now = sym at ∙ sym (c.executed.ensures x.replica.log log) ∙ ap option_copied c.in-Some.is in
    let same : c.in_ok-value.value ≡ v = c.in_ok-value.ensures ∙ inside v c.in-Some.executed.now found in
    let fits = executed-fits x.replica.log c.args.slot v log.sound at in
    subst (λ (w : Value). MpReplicaStands c.send.new.self (send (MpMessage.Learn c.args.slot w) x c.args.to)) same
    (c.in_ok-send.ensures x s (fits.0, subst (λ (w : Value). FitsValue w) (sym same) fits.1))
