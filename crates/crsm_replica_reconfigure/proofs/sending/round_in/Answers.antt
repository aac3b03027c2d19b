use Rattle.std.proofs.Common.{◌≡◌, ◌∙◌, ℕ, ◌<◌, ◌^◌, subst, ap, refl, arith}
use Rattle.std.specs.Prelude.{Option, Some, None}
use Rattle.crsm_spec.specs.Types.{Ballot, Decision}
use Rattle.crsm_replica_coordinator.specs.Coordinator.{CoordinatorStands}
use Rattle.crsm_replica_coordinator.proofs.Coordinators.{proposer_cases, other_cases}
use Rattle.crsm_replica_reconfigure.specs.Stages.{round_of}
use Rattle.crsm_replica_reconfigure.proofs.sending.round_in.Goals as goal

abbrev instance : ℕ → Ballot → Option (ℕ × Ballot)
instance i b = Some (i, b)

abbrev round : Decision → Ballot → Option (ℕ × Ballot)
round own b = Some (own.epoch, b)

pub returns-in-Proposing-clause-value : goal.returns-in-Proposing-clause-value
unfolding round_of
returns-in-Proposing-clause-value c = λ me n known m s.
    let p = c.in-Proposing.proposer in
    let stands = subst (λ z. CoordinatorStands z me n known m) c.in-Proposing.is s in
    ap (λ (i : ℕ). instance i c.ballot.result) c.instance_of.ensures ∙ ap (λ (d : Decision). round d c.ballot.result) c.own.ensures ∙ ap (round p.own) c.ballot.ensures.value
    ∙ proposer_cases me n known (λ x. round p.own p.ballot ≡ round_of x) p m stands (λ b own answers q. ap (λ (d : Decision). round d p.ballot) q.own_is ∙ ap (round own) q.ballot)
    (λ b own value acceptors q. ap (λ (d : Decision). round d p.ballot) q.own_is ∙ ap (round own) q.ballot)

pub returns-in_default : goal.returns-in_default
unfolding round_of
returns-in_default c = record {
  value = λ me n known m s. other_cases me n known (λ x. None ≡ round_of x) c.args.coordinator.now m s c.in_default.not-Proposing refl (λ ms pages. refl) (λ own seen. refl);
  fits = tt;
}

pub returns-in-Proposing-clause-fits : goal.returns-in-Proposing-clause-fits
returns-in-Proposing-clause-fits c =
    let small : c.instance_of.result < 2 ^ 64 = omega (arith, c.instance_of.type_inv) in
    (small, c.ballot.ensures.fits)
