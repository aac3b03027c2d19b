use Rattle.std.proofs.Common.{◌≡◌, ◌+◌, ◌-◌, ◌<◌, Some, ℕ, List, length, sym, subst, arith}
use Rattle.std.specs.Prelude.{drop, fold, slice_get, take}
use Rattle.std.specs.List.{enumerate_from}
use Rattle.crsm_base.specs.Limits.{most_again}
use Rattle.crsm_mpspec.specs.Types.{Value}
use Rattle.crsm_mpspec.specs.Log.{executed}
use Rattle.crsm_mpspec.specs.Replica.{Replica}
use Rattle.crsm_mpspec.specs.Step.{teach, on_ask}
use Rattle.crsm_mpreplica.specs.State.{MpReplicaStands}
use Rattle.crsm_mpcore.proofs.LearnLemmas.{take-behind, take-least, settled, numbered, numbered-len, dropped-len, some-at, none-taken, taught-replica}
use Rattle.crsm_mpcore.proofs.ElectionLemmas.{fold-more}
use Rattle.crsm_mpcore.proofs.learning.on_ask.Goals as goal

pub loop-slot-init : goal.loop-slot-init
loop-slot-init c x s =
    let a = c.args.start in
    subst (λ (vs : List (ℕ × Value)). MpReplicaStands c.args.state.now (fold (teach c.args.from) x vs)) (sym (none-taken a (drop a (enumerate_from 0 (executed x.replica.log))))) s

pub loop-slot-preserved : goal.loop-slot-preserved
unfolding teach
loop-slot-preserved c x s =
    let a = c.args.start in
    let k = c.loop-slot.slot in
    let vs = executed x.replica.log in
    let len = c.executed_len.ensures.value x.replica.log (c.ledger.ensures x s) in
    let below : k < length vs = omega (arith, len, c.min-end.ensures, c.loop-slot-test.true) in
    let v = some-at vs k below in
    let before = take (k - a) (drop a (enumerate_from 0 vs)) in
    let y = fold (teach c.args.from) x before in
    let same = taught-replica c.args.from before x in
    let more = take-behind a k (enumerate_from 0 vs) (0 + k, v.0) (omega (arith, c.loop-slot.auto.slot)) (numbered 0 vs k v.0 v.1) in
    let number : 0 + k ≡ k = omega arith in
    subst (MpReplicaStands c.teach.new.state) (sym (fold-more (teach c.args.from) x before _ (0 + k, v.0) more))
    (subst (λ (j : ℕ). MpReplicaStands c.teach.new.state (teach c.args.from y (j, v.0))) (sym number)
    (c.in_ok-teach.ensures v.0 y (c.loop-slot.invariant x s) (subst (λ (r : Replica). slice_get (executed r.log) k ≡ Some v.0) (sym same) v.1)))

pub returns : goal.returns
unfolding on_ask
returns c x s =
    let a = c.args.start in
    let vs = executed x.replica.log in
    let len = c.executed_len.ensures.value x.replica.log (c.ledger.ensures x s) in
    let rest = drop a (enumerate_from 0 vs) in
    let count = dropped-len a (enumerate_from 0 vs) in
    let all = numbered-len 0 vs in
    let least = settled a c.loop-slot.slot c.saturating_add.result (length vs) c.min-end.result (length rest) (omega (arith, len, c.executed_len.type_inv)) (omega (arith, c.from.ensures, c.saturating_add.ensures))
    (omega (arith, len, c.min-end.ensures)) (omega (arith, count, all)) c.loop-slot.auto.slot c.loop-slot.auto.slot-end c.loop-slot-test.false in
    subst (λ (ts : List (ℕ × Value)). MpReplicaStands c.loop-slot.state (fold (teach c.args.from) x ts)) (take-least rest (c.loop-slot.slot - a) most_again least) (c.loop-slot.invariant x s)
