use Rattle.std.proofs.Common.{◌≡◌, ◌≤◌, ◌∙◌, ap, sym, subst, arith, rules}
use Rattle.std.proofs.lemmas.Bool.{false≢true}
use Rattle.std.proofs.lemmas.Grind.{not_there}
use Rattle.crsm_spec.specs.Fits.{fits}
use Rattle.crsm_spec.specs.Types.{Rec}
use Rattle.crsm_replica_output.specs.Made.{nothing}
use Rattle.crsm_replica.specs.Recorded.{InBoth}
use Rattle.crsm_replica.specs.Replica.{ReplicaStands, AwaitsBoot}
use Rattle.crsm_replica.proofs.Booting.{boot_fits, stands_booted, same_boot}
use Rattle.crsm_replica.proofs.Rebuilt.{it_does_not, it_fits}
use Rattle.crsm_replica.proofs.state.ReplicaState.boot_again.Goals as goal

pub put-requires : goal.put-requires
put-requires c =
    let a = c.min-me.ensures in
    let b = c.min-n.ensures in
    (omega (arith, a), omega (arith, b))

pub unreachable-requires : goal.unreachable-requires
unfolding AwaitsBoot
unreachable-requires c =
    not_there c.requires (λ k.
    let s = k.awaits in
    let few : k.n ≤ 15 = s.ledger.says.few in
    let number : c.min-me.result ≡ k.me = (let a = c.min-me.ensures in let b = s.mine in let d = s.number in omega (arith, a, b, d)) in
    let count : c.min-n.result ≡ k.n = (let a = c.min-n.ensures in let b = c.n.ensures k.me k.n k.log s.ledger in omega (arith, a, b, few)) in
    let same : Rec.Boot c.min-me.result c.min-n.result ≡ Rec.Boot k.me k.n = same_boot c.min-me.result c.min-n.result k.me k.n number count in
    let no = it_does_not c.in_ok-fit.fit k.me k.n k.log (Rec.Boot c.min-me.result c.min-n.result) nothing c.put.new.ledger c.put.new.output (search rules)
    (c.in_ok-fit.ensures.kept k.me k.n k.log nothing s.ledger s.output) in
    false≢true (sym no.0 ∙ ap (fits k.me k.n k.log) same ∙ boot_fits k.me k.n k.log k.room))

pub returns : goal.returns
unfolding ReplicaStands AwaitsBoot
returns c me n log s l =
    let few : n ≤ 15 = s.ledger.says.few in
    let number : c.min-me.result ≡ me = (let a = c.min-me.ensures in let b = s.mine in let d = s.number in omega (arith, a, b, d)) in
    let count : c.min-n.result ≡ n = (let a = c.min-n.ensures in let b = c.n.ensures me n log s.ledger in omega (arith, a, b, few)) in
    let same : Rec.Boot c.min-me.result c.min-n.result ≡ Rec.Boot me n = same_boot c.min-me.result c.min-n.result me n number count in
    let f = it_fits c.in_ok-fit.fit me n log (Rec.Boot c.min-me.result c.min-n.result) nothing c.put.new.ledger c.put.new.output c.if-not-fit.false
    (c.in_ok-fit.ensures.kept me n log nothing s.ledger s.output) in
    stands_booted c.args.self.now me n log c.put.new.ledger c.put.new.output c.forget.new.epoch_state s l
    (subst (λ (rec : Rec). InBoth me n log rec nothing c.put.new.ledger c.put.new.output) same f.1) c.forget.ensures.inactive
