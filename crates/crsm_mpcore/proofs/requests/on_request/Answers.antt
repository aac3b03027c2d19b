use Rattle.std.proofs.Common.{◌+◌, sym, subst, arith}
use Rattle.std.proofs.lemmas.Bool.Decides.{nat_tests}
use Rattle.crsm_mpspec.specs.Deciding.{on_request}
use Rattle.crsm_mpspec.specs.Draft.{noting}
use Rattle.crsm_mpspec.specs.Replica.{Note}
use Rattle.crsm_mpreplica.specs.State.{MpReplicaStands}
use Rattle.crsm_mpcore.proofs.RequestLemmas.{taken}
use Rattle.crsm_mpcore.proofs.requests.on_request.Goals as goal

pub returns-in_ok-submit-in-Ok : goal.returns-in_ok-submit-in-Ok
unfolding on_request
returns-in_ok-submit-in-Ok c x s fits =
    let b = c.in-Ok.ballot in
    let slot = c.in-Ok.slot in
    let next = c.in-Ok.ensures.ok x s in
    let passed = c.pass_slot.ensures x b next.start slot next.reports next.votes s next.leads next.below in
    let y = noting (Note.Leading b next.start (slot + 1) next.reports next.votes) x in
    subst (MpReplicaStands c.submit.new.state)
    (sym (taken c.args.command.now x x.replica.note b next.start slot next.reports next.votes next.leads next.promised (grind (arith, nat_tests, next.below))))
    (c.in_ok-submit-in-Ok.ensures y passed (next.below, next.fits, fits))
