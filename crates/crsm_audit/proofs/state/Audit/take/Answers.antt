use Rattle.std.proofs.Common.{◌++◌, ◌∷◌, [], refl, sym, ◌∙◌, subst}
use Rattle.std.specs.Prelude.{Option}
use Rattle.crsm_audit.specs.State.{StageStands}
use Rattle.crsm_audit.specs.Taking.{stage_after}
use Rattle.crsm_audit.specs.declared.line.AuditLine.{AuditLine}
use Rattle.crsm_audit.specs.declared.state.BadLog.{BadLog}
use Rattle.crsm_audit.specs.declared.state.Stage.{Stage}
use Rattle.crsm_audit.specs.declared.state.Stage.TheVariants as stages
use Rattle.crsm_audit.proofs.Taking.{none_done, not_behind_bad, not_first, stays_bad, taken}
use Rattle.crsm_audit.proofs.state.Audit.take.Goals as goal

pub returns-in_default-clause-err : goal.returns-in_default-clause-err
returns-in_default-clause-err c = λ ls s.
    (refl, not_first c.args.self.now.n ls c.args.line.now (subst (λ (x : Stage). StageStands c.args.self.now.n x ls) c.in-Before.is s) c.in_default.not-Node)

pub returns-in_default-follows-clause-err : goal.returns-in_default-follows-clause-err
returns-in_default-follows-clause-err c = λ ls s. (
  refl,
  not_behind_bad c.args.self.now.n ls c.args.line.now c.in-Refusing.bad c.in-Refusing.progress (subst (λ (x : Stage). StageStands c.args.self.now.n x ls) c.in-Refusing.is s)
      (sym c.follows.ensures ∙ c.in_default-follows.is),
)

pub returns-in_ok-sheets-in-Before-clause-ok : goal.returns-in_ok-sheets-in-Before-clause-ok
returns-in_ok-sheets-in-Before-clause-ok c = λ ls at s.
    let n = c.args.self.now.n in
    let sheets = c.in_ok-sheets-in-Before.sheets in
    let before = subst (λ (x : Stage). StageStands n x ls) c.in-Before.is s in
    taken n (stages.Replaying sheets) ls c.args.line.now
    (subst (λ (l : AuditLine). StageStands n (stages.Replaying sheets) (ls ++ l ∷ [])) (sym c.in-Node.is) (c.in_ok-sheets-in-Before.ensures ls at (none_done n ls before.known)))

pub returns-in-Some-clause-ok : goal.returns-in-Some-clause-ok
returns-in-Some-clause-ok c = λ ls at s.
    let n = c.args.self.now.n in
    let line = c.args.line.now in
    taken n _ ls line (subst (λ (o : Option BadLog). StageStands n (stage_after c.replayed.new.sheets o) (ls ++ line ∷ [])) c.in-Some.is
    (c.in_ok-bad-in-Replaying.ensures.ok ls at (subst (λ (x : Stage). StageStands n x ls) c.in-Replaying.is s)))

pub returns-in_default-2-clause-ok : goal.returns-in_default-2-clause-ok
returns-in_default-2-clause-ok c = λ ls at s.
    let n = c.args.self.now.n in
    let line = c.args.line.now in
    taken n _ ls line (subst (λ (o : Option BadLog). StageStands n (stage_after c.replayed.new.sheets o) (ls ++ line ∷ [])) c.in_default-2.is
    (c.in_ok-bad-in-Replaying.ensures.ok ls at (subst (λ (x : Stage). StageStands n x ls) c.in-Replaying.is s)))

pub returns-in-Some-follows-clause-ok : goal.returns-in-Some-follows-clause-ok
returns-in-Some-follows-clause-ok c = λ ls at s.
    let n = c.args.self.now.n in
    taken n _ ls c.args.line.now
    (stays_bad n ls c.args.line.now c.in-Refusing.bad c.in-Refusing.progress c.in-Some-follows.next (subst (λ (x : Stage). StageStands n x ls) c.in-Refusing.is s)
    (sym c.follows.ensures ∙ c.in-Some-follows.is))
