use Rattle.std.proofs.Common.{◌≡◌, ◌∙◌, ◌<◌, ◌≤◌, sym, true, false}
use Rattle.std.specs.Prelude.{◌≢◌, nat_lt}
use Rattle.std.proofs.Common.{subst}
use Rattle.crsm_spec.specs.Draft.{Draft}
use Rattle.crsm_spec.specs.Log.{boots}
use Rattle.crsm_spec.specs.Step.{boot_again}
use Rattle.crsm_replica.specs.Replica.{ReplicaStands, AwaitsBoot}
use Rattle.crsm_replica.proofs.Founding.{founds, later_boot, no_founder, is_below, is_not_below, not_both, not_zero}
use Rattle.crsm_replica.proofs.state.ReplicaState.begin.Goals.{then-boot-eq0, else-boot-eq0}
use Rattle.crsm_replica.proofs.state.ReplicaState.begin.Goals as goal

pub returns-in_ok-enter : goal.returns-in_ok-enter
unfolding AwaitsBoot
returns-in_ok-enter c me n log s l =
    let entered = c.in_ok-enter.ensures (boot_again me n log) (c.in_ok-boot_again.ensures me n log s l) in
    elim c.if-boot-eq0.branch [
      | then-boot-eq0 w ↦ (
          let none : boots log ≡ 0 = sym (c.boot.ensures me n log s.ledger) ∙ w.if-boot-eq0.true in
          let test : nat_lt c.args.self.now.me w.n.result ≡ true = sym w.is_founding-is ∙ c.if-is_founding.true in
          let below : me < n = is_below c.args.self.now.me w.n.result me n test s.mine (w.n.ensures me n log s.ledger) in
          subst (λ (x : Draft). ReplicaStands c.enter.new.self x) (founds me n log s.each none below) entered)
      | else-boot-eq0 w ↦ absurd (not_both c.if-boot-eq0.is_founding (w.is_founding-is ∙ not_zero c.boot.result w.if-boot-eq0.false) c.if-is_founding.true)
    ]

pub returns-else-is_founding : goal.returns-else-is_founding
unfolding AwaitsBoot
returns-else-is_founding c me n log s l =
    let booted = c.in_ok-boot_again.ensures me n log s l in
    elim c.if-boot-eq0.branch [
      | then-boot-eq0 w ↦ (
          let test : nat_lt c.args.self.now.me w.n.result ≡ false = sym w.is_founding-is ∙ c.if-is_founding.false in
          let above : n ≤ me = is_not_below c.args.self.now.me w.n.result me n test s.mine (w.n.ensures me n log s.ledger) in
          subst (λ (x : Draft). ReplicaStands c.boot_again.new.self x) (no_founder me n log above) booted)
      | else-boot-eq0 w ↦ (
          let some : boots log ≢ 0 = λ e. w.if-boot-eq0.false (c.boot.ensures me n log s.ledger ∙ e) in
          subst (λ (x : Draft). ReplicaStands c.boot_again.new.self x) (later_boot me n log s.each some) booted)
    ]
