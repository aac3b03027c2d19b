use Rattle.std.proofs.Common.{ℕ, List, subst, sym, arith, take}
use Rattle.std.proofs.lemmas.List.{nil_from_length, take_all}
use Rattle.crsm_spec.specs.Draft.{Draft, send_to_each}
use Rattle.crsm_replica_output.specs.Spellings.{IsSpellingOf}
use Rattle.crsm_replica.specs.Replica.{ReplicaStands}
use Rattle.crsm_replica.proofs.SendingControls.{send_control-more, send_control-none}
use Rattle.crsm_replica.proofs.state.ReplicaState.send_to_each.Goals as goal

pub loop-k-init : goal.loop-k-init
loop-k-init c x s = subst (λ (y : Draft). ReplicaStands c.args.self.now y) (sym (send_control-none c.args.control.now x)) s

pub loop-k-preserved : goal.loop-k-preserved
loop-k-preserved c x s =
    subst (λ (y : Draft). ReplicaStands c.send_spelt.new.self y) (send_control-more c.args.control.now x c.args.replicas.now c.loop-k.k-index 0 c.loop-k-test.true)
    (c.in_ok-send_spelt.ensures (send_to_each (take c.loop-k.k-index c.args.replicas.now) c.args.control.now x) c.args.control.now (c.loop-k.invariant x s)
    (subst (λ (bytes : List ℕ). IsSpellingOf bytes c.args.control.now) (sym c.as_slice.ensures) c.in_ok-spelling.ensures))

pub returns : goal.returns
returns c x s =
    subst (λ ks. ReplicaStands c.loop-k.self (send_to_each ks c.args.control.now x)) (take_all c.loop-k.k-index c.args.replicas.now (omega arith)) (c.loop-k.invariant x s)

pub returns-then-is_empty : goal.returns-then-is_empty
returns-then-is_empty c x s =
    subst (λ ks. ReplicaStands c.args.self.now (send_to_each ks c.args.control.now x)) (sym (nil_from_length c.args.replicas.now (grind (arith, c.is_empty.ensures, c.if-is_empty.true)))) (subst (λ (y : Draft). ReplicaStands c.args.self.now y) (sym (send_control-none c.args.control.now x)) s)
