use Rattle.std.proofs.Common.{◌≡◌, ◌∙◌, sym, subst}
use Rattle.crsm_spec.specs.Choice.{when◌then◌otherwise◌}
use Rattle.crsm_mpspec.specs.Types.{Value}
use Rattle.crsm_mpspec.specs.Deciding.{propose}
use Rattle.crsm_mpspec.specs.Electing.{propose_reported, reported_at}
use Rattle.crsm_mpreplica.specs.Fitting.{FitsValue}
use Rattle.crsm_mpreplica.specs.State.{MpReplicaStands}
use Rattle.crsm_mpcore.proofs.ElectionLemmas.{reported-fits}
use Rattle.crsm_mpcore.proofs.electing.propose_reported.Goals as goal

pub returns-then-is_chosen : goal.returns-then-is_chosen
unfolding propose_reported when◌then◌otherwise◌
returns-then-is_chosen c below x s reports e = rw (sym (c.is_chosen.ensures x.replica.log (c.ledger.ensures x s)) ∙ c.if-is_chosen.true) s

pub returns : goal.returns
unfolding propose_reported when◌then◌otherwise◌
returns c below x s reports e =
    let slot = c.args.slot in
    let unchosen = sym (c.is_chosen.ensures x.replica.log (c.ledger.ensures x s)) ∙ c.if-is_chosen.false in
    let is : c.in_ok-value.value ≡ reported_at slot reports = c.in_ok-value.ensures c.args.election.now.start reports e.findings in
    rw (unchosen)
    (subst (λ (v : Value). MpReplicaStands c.propose.new.state (propose c.args.election.now.ballot slot v x)) is
    (c.in_ok-propose.ensures x s (below, e.ballot_fits, subst FitsValue (sym is) (reported-fits slot reports e.findings.fit))))
