use Rattle.std.proofs.Common.{List, refl, subst, sym}
use Rattle.crsm_audit.specs.State.{StageStands}
use Rattle.crsm_audit.specs.Taking.{AllDone}
use Rattle.crsm_audit.specs.declared.account.Account.{Account}
use Rattle.crsm_audit.specs.declared.line.Progress.{Progress}
use Rattle.crsm_audit.specs.declared.state.Stage.{Stage}
use Rattle.crsm_audit.specs.declared.state.Stage.TheVariants as stages
use Rattle.crsm_audit.proofs.Places.{running_is_whole}
use Rattle.crsm_audit.proofs.Taking.{done_at_hand, not_begun, not_whole, not_whole_bad, opened_runs, whole_bad}
use Rattle.crsm_audit.proofs.state.Audit.conclude.Goals as goal

pub returns-in-Before-clause-err : goal.returns-in-Before-clause-err
returns-in-Before-clause-err c = λ ls s. not_begun c.args.self.now.n ls (subst (λ (x : Stage). StageStands c.args.self.now.n x ls) c.in-Before.is s)

pub returns-then-not-has_opened-clause-err : goal.returns-then-not-has_opened-clause-err
returns-then-not-has_opened-clause-err c = λ ls s.
    not_whole c.args.self.now.n c.in-Replaying.sheets ls (subst (λ (x : Stage). StageStands c.args.self.now.n x ls) c.in-Replaying.is s) (c.if-not-has_opened.ensures.no refl)

pub returns-in_ok-push_judged-in-Replaying-clause-ok : goal.returns-in_ok-push_judged-in-Replaying-clause-ok
returns-in_ok-push_judged-in-Replaying-clause-ok c = λ ls s.
    let n = c.args.self.now.n in
    let sheets = c.in-Replaying.sheets in
    let here = subst (λ (x : Stage). StageStands n x ls) c.in-Replaying.is s in
    let runs = opened_runs n sheets ls here (c.if-not-has_opened.ensures.yes refl) in
    c.in_ok-push_judged-in-Replaying.ensures n ls
    (subst (λ (accounts : List Account). AllDone n accounts ls) (sym c.as_slice.ensures.value) (done_at_hand n sheets ls here.known runs)) (running_is_whole ls runs)

pub returns-in_default : goal.returns-in_default
returns-in_default c = record {
  ok = λ ls s. tt;
  err = λ ls s. not_whole_bad c.args.self.now.n ls c.in-Refusing.bad c.in-Refusing.progress (subst (λ (x : Stage). StageStands c.args.self.now.n x ls) c.in-Refusing.is s) c.in_default.not-Running;
}

pub returns-in-Running-clause-err : goal.returns-in-Running-clause-err
returns-in-Running-clause-err c = λ ls s.
    let n = c.args.self.now.n in
    whole_bad n ls c.in-Refusing.bad
    (subst (λ (p : Progress). StageStands n (stages.Refusing c.in-Refusing.bad p) ls) c.in-Running.is (subst (λ (x : Stage). StageStands n x ls) c.in-Refusing.is s))
