use Rattle.std.proofs.Common.{◌≡◌, ◌∷◌, [], ℕ, length, subst}
use Rattle.crsm_mpspec.specs.declared.message.MpMessage.{MpMessage}
use Rattle.crsm_mpspec.specs.declared.rec.MpRec.{MpRec}
use Rattle.crsm_mpspec.specs.Log.{executed}
use Rattle.crsm_mpspec.specs.Replica.{Note}
use Rattle.crsm_mpspec.specs.Draft.{keep, noting, send_to_others}
use Rattle.crsm_mpspec.specs.Electing.{ask, report, lead_at_majority}
use Rattle.crsm_mpreplica.specs.State.{MpReplicaStands}
use Rattle.crsm_mpcore.proofs.electing.ask.Goals as goal

pub returns : goal.returns
unfolding ask
returns c x s fits =
    let b = c.args.ballot in
    let y = keep (MpRec.Promise b) x in
    let promised = c.in_ok-promise.ensures x s fits in
    let start : c.executed_len-start.result ≡ length (executed y.replica.log) = c.executed_len-start.ensures.value y.replica.log (c.ledger.ensures y promised) in
    let z = noting (Note.Asking b c.executed_len-start.result (report c.executed_len-start.result y.replica ∷ [])) y in
    subst (λ (k : ℕ). MpReplicaStands c.lead_at_majority.new.state (lead_at_majority (send_to_others (MpMessage.Prep b k) (noting (Note.Asking b k (report k y.replica ∷ [])) y)))) start
    (c.in_ok-lead_at_majority.ensures (send_to_others (MpMessage.Prep b c.executed_len-start.result) z) (c.in_ok-send_to_others.ensures z (c.in_ok-begin_asking.ensures y promised fits) fits))
