use Rattle.std.proofs.Common.{◌≡◌, ◌<◌, ℕ, ◌+◌, sym, ap, ◌∙◌, subst, arith}
use Rattle.crsm_replica.specs.Replica.{ReplicaStands}
use Rattle.crsm_replica_output.specs.Made.{made_of}
use Rattle.crsm_spec.specs.Log.{boots}
use Rattle.crsm_spec.specs.Draft.{Draft, send_control, parts_to}
use Rattle.crsm_replica.proofs.Rebuilt.{sent_one, chosen_x, other_x, is_last, not_last}
use Rattle.crsm_replica.proofs.state.ReplicaState.send_spelt.Goals as goal

pub returns-then-self : goal.returns-then-self
unfolding ReplicaStands send_control
returns-then-self c x control s is =
    subst (λ (y : Draft). ReplicaStands c.args.self.now y) (sym (chosen_x _ x _ (is_last x.replica.made (sym s.made ∙ c.if-self.true)))) s

pub returns : goal.returns
unfolding ReplicaStands send_control
returns c x control s is =
    let r = x.replica in
    let few : c.boot-boot.result < 18446744073709551616 = c.boot-boot.type_inv in
    let boot : c.boot-boot.result ≡ boots r.log = c.boot-boot.ensures x.replica.me x.replica.n x.replica.log s.ledger in
    let few_boots : boots r.log < 18446744073709551616 = subst (λ (n : ℕ). n < 18446744073709551616) boot few in
    let other = c.if-self.false in
    let made = s.made in
    let less = s.sound.made in
    subst (λ (y : Draft). ReplicaStands (record c.args.self.now { made = c.args.self.now.made + 1; output = c.send_parts.new.output }) y) (sym (other_x _ x _ (not_last r.made (omega (arith, other, made)))))
    (sent_one c.args.self.now x c.send_parts.new.output (parts_to r c.args.k control) (c.args.self.now.made + 1) s
    (c.in_ok-send_parts.ensures r (made_of x) control s.output s.me boot s.made is)
    (c.parts_are_spelt.ensures r c.args.k control s.sound.number c.requires.below few_boots s.sound.made is.fits)
    (ap (λ (n : ℕ). n + 1) s.made) (omega (arith, other, made, less)))
