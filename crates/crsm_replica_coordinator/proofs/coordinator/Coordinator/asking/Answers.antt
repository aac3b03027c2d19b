use Rattle.std.proofs.Common.{◌<◌, ◌^◌, ◌∙◌, sym, subst, ap, refl}
use Rattle.crsm_spec.specs.Proposing.{after_p1b, start_proposing}
use Rattle.crsm_replica_coordinator.proofs.Coordinators.{asking_stands}
use Rattle.crsm_replica_coordinator.proofs.coordinator.Coordinator.asking.Goals as goal

pub returns : goal.returns
returns c = λ n round known i e r.
    asking_stands c.args.me n known c.start-proposer.result c.on_p1b.new.self c.args.own (record { round = round; by = c.args.me }) c.args.spec.now c.count-size.result
    (record { replica = c.args.me; accepted = c.args.accepted }) refl i (record { round = subst (λ k. k < 2 ^ 64) (sym r) c.requires.next; by = c.requires.me }) e c.count-size.ensures.members c.count-size.ensures.value c.requires.accepted
    (c.start-proposer.ensures ∙ ap (λ x. start_proposing (record { round = x; by = c.args.me }) c.args.own c.count-size.result) (sym r))
    (c.in-Ok.ensures.state ∙ ap (λ x. after_p1b c.start-proposer.result c.args.me x c.args.accepted) c.ballot-ballot.ensures.value)
