use Rattle.std.proofs.Common.{◌≡◌, ◌∙◌, ℕ, List, ap, arith, subst, sym, Some}
use Rattle.std.proofs.lemmas.Result.{IfOk-weaker}
use Rattle.crsm_replica_output.specs.Spellings.{IsSpellingOf}
use Rattle.crsm_spec.specs.Types.{Decision, Control}
use Rattle.crsm_spec.specs.Log.{decision}
use Rattle.crsm_spec.specs.Draft.{Draft}
use Rattle.crsm_replica.specs.Replica.{ReplicaStands}
use Rattle.crsm_replica.proofs.Known.{none-known, some-known}
use Rattle.crsm_replica.proofs.SendingControls.{send_control-known, send_control-unknown}
use Rattle.crsm_replica.proofs.state.ReplicaState.send_decision.Goals as goal

pub returns-then-known-eq0 : goal.returns-then-known-eq0
unfolding ReplicaStands
returns-then-known-eq0 c x s =
    let none = none-known x.replica.n x.replica.log s.sound.later (ap (λ d. d.epoch) (sym (c.known-known.ensures.value x.replica.me x.replica.n x.replica.log s.ledger)) ∙ c.if-known-eq0.true) in
    subst (λ (y : Draft). ReplicaStands c.args.self.now y) (sym (send_control-unknown c.args.k x (λ d is. absurd (cc (none, is))))) s

pub spell_decision-requires : goal.spell_decision-requires
spell_decision-requires c = let other = c.if-known-eq0.false in c.known-known.ensures.fits (omega (arith, other))

pub returns : goal.returns
unfolding ReplicaStands
returns c =
    IfOk-weaker c.send_spelt.result _ _ (λ _ said x s.
    let same = c.known-known.ensures.value x.replica.me x.replica.n x.replica.log s.ledger in
    let known : Decision = c.known-known.result.now in
    let is : decision x.replica.log ≡ Some known = sym (ap (λ (d : Decision). Some d) same ∙ some-known x.replica.n x.replica.log
    (λ zero.
    let epochs = ap (λ (d : Decision). d.epoch) same in
    let other = c.if-known-eq0.false in
    omega (arith, epochs, other, zero))) in
    subst (λ (y : Draft). ReplicaStands c.send_spelt.new.self y) (sym (send_control-known c.args.k x known is))
    (said x (Control.Decide known) s (subst (λ (bytes : List ℕ). IsSpellingOf bytes (Control.Decide known)) (sym c.as_slice.ensures) c.in_ok-spelling.ensures))) c.send_spelt.ensures
