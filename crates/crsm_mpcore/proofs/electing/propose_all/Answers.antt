use Rattle.std.proofs.Common.{◌≡◌, ◌-◌, ◌<◌, ℕ, List, sym, subst, arith}
use Rattle.std.specs.Prelude.{fold}
use Rattle.std.specs.List.{range_with_len}
use Rattle.crsm_spec.specs.Clock.{u64_max}
use Rattle.crsm_mpspec.specs.Electing.{propose_reported, next_slot}
use Rattle.crsm_mpreplica.specs.State.{MpReplicaStands}
use Rattle.crsm_mpcore.proofs.ElectionLemmas.{range-none, range-more, next-above, fold-more}
use Rattle.crsm_mpcore.proofs.electing.propose_all.Goals as goal

pub loop-slot-init : goal.loop-slot-init
loop-slot-init c x s reports e =
    let a = c.args.election.now.start in
    subst (λ (ks : List ℕ). MpReplicaStands c.args.state.now (fold (propose_reported c.args.election.now.ballot reports) x ks)) (sym (range-none a)) s

pub loop-slot-preserved : goal.loop-slot-preserved
loop-slot-preserved c x s reports e =
    let a = c.args.election.now.start in
    let k = c.loop-slot.slot in
    let step = propose_reported c.args.election.now.ballot reports in
    let before = range_with_len a (k - a) in
    let below : k < u64_max = omega arith in
    subst (MpReplicaStands c.propose_reported.new.state) (sym (fold-more step x before _ k (range-more a k (omega (arith, c.loop-slot.auto.slot)))))
    (c.in_ok-propose_reported.ensures below (fold step x before) (c.loop-slot.invariant x s reports e) reports e)

pub returns : goal.returns
returns c x s reports e =
    let a = c.args.election.now.start in
    let least = next-above a reports in
    let last : c.loop-slot.slot - a ≡ next_slot a reports - a = omega (arith, least, e.findings.next, c.next-slot-end.ensures, c.loop-slot-test.false, c.loop-slot.auto.slot-end, c.loop-slot.auto.slot) in
    subst (λ (n : ℕ). MpReplicaStands c.loop-slot.state (fold (propose_reported c.args.election.now.ballot reports) x (range_with_len a n))) last (c.loop-slot.invariant x s reports e)
