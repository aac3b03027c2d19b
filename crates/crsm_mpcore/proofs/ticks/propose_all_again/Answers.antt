use Rattle.std.proofs.Common.{get_or, ◌≡◌, ◌∙◌, ℕ, List, length, sym, subst, arith}
use Rattle.std.specs.Prelude.{fold, take}
use Rattle.std.specs.List.{AllByRecursion}
use Rattle.crsm_fact_log.proofs.Lists.{all_got, take-all}
use Rattle.crsm_mpspec.specs.Replica.{Replica}
use Rattle.crsm_mpreplica.specs.State.{MpReplicaStands}
use Rattle.crsm_mpcore.specs.Ticks.{IsOpen, propose_slot, propose_all_again, slots_again}
use Rattle.crsm_mpcore.proofs.TickLemmas.{slots-open, slots-replica, take-got}
use Rattle.crsm_mpcore.proofs.ElectionLemmas.{fold-more}
use Rattle.crsm_mpcore.proofs.ticks.propose_all_again.Goals as goal

pub loop-slot-init : goal.loop-slot-init
loop-slot-init c x s = s

pub loop-slot-preserved : goal.loop-slot-preserved
loop-slot-preserved c x s =
    let xs = c.deref-slot-items.result.now in
    let i = c.loop-slot.slot-index in
    let are : xs ≡ slots_again x.replica x.replica.note = c.deref-slot-items.ensures.value ∙ c.in_ok-slots.ensures x s in
    let before = take i xs in
    let y = fold (λ y slot. propose_slot slot y) x before in
    let same = slots-replica before x in
    let all = subst (AllByRecursion (λ s. IsOpen s x.replica x.replica.note)) (sym are) (slots-open x.replica x.replica.note) in
    let is_open = all_got (λ s. IsOpen s x.replica x.replica.note) xs i 0 all c.loop-slot-test.true in
    subst (MpReplicaStands c.propose_again.new.state) (sym (fold-more (λ y slot. propose_slot slot y) x before _ (get_or xs i 0) (take-got xs i 0 c.loop-slot-test.true)))
    (c.in_ok-propose_again.ensures y (c.loop-slot.invariant x s) (subst (λ (r : Replica). IsOpen (get_or xs i 0) r r.note) (sym same) is_open))

pub returns : goal.returns
unfolding propose_all_again
returns c x s =
    let xs = c.deref-slot-items.result.now in
    let are : xs ≡ slots_again x.replica x.replica.note = c.deref-slot-items.ensures.value ∙ c.in_ok-slots.ensures x s in
    let last : c.loop-slot.slot-index ≡ length xs = omega (arith, c.loop-slot-test.false, c.loop-slot.auto.slot-index-end) in
    subst (λ (ss : List ℕ). MpReplicaStands c.loop-slot.state (fold (λ y slot. propose_slot slot y) x ss)) (take-all xs c.loop-slot.slot-index last ∙ are) (c.loop-slot.invariant x s)
