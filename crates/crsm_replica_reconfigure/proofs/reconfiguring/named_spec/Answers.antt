use Rattle.std.proofs.Common.{◌≤◌, ◌∙◌, sym, subst, ap}
use Rattle.std.specs.Prelude.{bytes_eq}
use Rattle.crsm_spec.specs.Lists.{numbers_below}
use Rattle.crsm_replica_reconfigure.proofs.ReconfigureLemmas.{first_named, next_named}
use Rattle.crsm_replica_reconfigure.proofs.reconfiguring.named_spec.Goals as goal

pub returns-then-is_first : goal.returns-then-is_first
returns-then-is_first c = λ x ms s e.
    let n = c.n.ensures x.replica.me x.replica.n x.replica.log (c.ledger.ensures.stands x s) in
    let first = c.first_replicas-first.ensures (subst (λ m. m ≤ 15) (sym n) (c.states_are_sound.ensures c.args.state.now x s).few) ∙ ap numbers_below n in
    first_named x ms c.args.next c.first_replicas-first.result.now e first (ap (λ ks. bytes_eq ks c.first_replicas-first.result.now) (sym c.as_slice.ensures.value) ∙ sym c.eq-is_first.ensures ∙ c.if-is_first.true)

pub returns : goal.returns
returns c = λ x ms s e.
    let n = c.n.ensures x.replica.me x.replica.n x.replica.log (c.ledger.ensures.stands x s) in
    let first = c.first_replicas-first.ensures (subst (λ m. m ≤ 15) (sym n) (c.states_are_sound.ensures c.args.state.now x s).few) ∙ ap numbers_below n in
    next_named x ms c.args.next c.first_replicas-first.result.now e first (ap (λ ks. bytes_eq ks c.first_replicas-first.result.now) (sym c.as_slice.ensures.value) ∙ sym c.eq-is_first.ensures ∙ c.if-is_first.false)
