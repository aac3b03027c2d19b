use Rattle.std.proofs.Common.{subst, ◌≡◌, ◌∙◌}
use Rattle.std.specs.Prelude.{ℕ, fold, []}
use Rattle.crsm_mpspec.specs.Draft.{noting}
use Rattle.crsm_mpspec.specs.Replica.{Note}
use Rattle.crsm_mpspec.specs.Electing.{lead, choose_reported, chosen_among, next_slot}
use Rattle.crsm_mpreplica.specs.State.{MpReplicaStands}
use Rattle.crsm_mpcore.proofs.electing.lead.Goals as goal

pub returns : goal.returns
unfolding lead
returns c x s reports e =
    let b = c.args.election.now.ballot in
    let start = c.args.election.now.start in
    let y = fold choose_reported x (chosen_among reports) in
    let next : c.next.result ≡ next_slot start reports = c.next.ensures ∙ e.findings.next in
    c.in_ok-propose_all.ensures (noting (Note.Leading b start (next_slot start reports) reports []) y)
    (subst (λ (n : ℕ). MpReplicaStands c.lead.new.self (noting (Note.Leading b start n reports []) y)) next
    (c.lead.ensures y (c.in_ok-choose_all.ensures x s reports e) start reports e.ballot_fits)) reports e
