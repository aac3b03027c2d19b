use Rattle.std.proofs.Common.{◌≡◌, ◌++◌, ◌∷◌, [], refl, sym, subst}
use Rattle.crsm_replica_rerun.specs.declared.error.RerunError.{RerunError}
use Rattle.crsm_audit.specs.Lines.{BeginAnAudit}
use Rattle.crsm_audit.specs.State.{StageStands}
use Rattle.crsm_audit.specs.Taking.{Refuses}
use Rattle.crsm_audit.specs.declared.line.AuditLine.{AuditLine}
use Rattle.crsm_audit.specs.declared.line.Progress.TheVariants.{Running}
use Rattle.crsm_audit.specs.declared.state.BadLog.{BadLog}
use Rattle.crsm_audit.specs.declared.state.Stage.TheVariants as stages
use Rattle.crsm_audit.proofs.Taking.{at_err, done_at_hand, not_ended, opened_runs, replays_on, turns_bad}
use Rattle.crsm_audit.proofs.handling.replayed.Goals as goal

pub returns-then-not-has_opened-clause-err : goal.returns-then-not-has_opened-clause-err
returns-then-not-has_opened-clause-err c = λ ls s. (
  refl,
  λ begun. not_ended c.args.n c.args.sheets.now ls c.in-Node.me s (c.if-not-has_opened.ensures.no refl) (subst (λ (l : AuditLine). BeginAnAudit (ls ++ l ∷ [])) c.in-Node.is begun),
)

pub returns-in_ok-begin-in-Node-clause-ok : goal.returns-in_ok-begin-in-Node-clause-ok
returns-in_ok-begin-in-Node-clause-ok c = λ ls at s.
    subst (λ (l : AuditLine). StageStands c.args.n (stages.Replaying c.begin.new.self) (ls ++ l ∷ [])) (sym c.in-Node.is)
    (c.in_ok-begin-in-Node.ensures ls at (done_at_hand c.args.n c.args.sheets.now ls s.known (opened_runs c.args.n c.args.sheets.now ls s (c.if-not-has_opened.ensures.yes refl))))

pub returns-in-Ok-clause-ok : goal.returns-in-Ok-clause-ok
returns-in-Ok-clause-ok c = λ ls at s.
    subst (λ (l : AuditLine). StageStands c.args.n (stages.Replaying c.replay.new.self) (ls ++ l ∷ [])) (sym c.in-Sheet.is)
    (replays_on c.args.n c.args.sheets.now c.replay.new.self ls c.in-Sheet.line s c.in-Ok.ensures.leads (c.in-Ok.ensures.ok c.args.n ls s.known))

pub returns-in-Err-BadLog-clause-ok : goal.returns-in-Err-BadLog-clause-ok
returns-in-Err-BadLog-clause-ok c = λ ls at s.
    let why : c.in-Err-BadLog.field-0 ≡ RerunError.BadLog c.in-Err-BadLog.entry c.in-Err-BadLog.why = c.in-Err-BadLog.field-0-is in
    let bad : BadLog = record { entry = c.in-Err-BadLog.entry; why = c.in-Err-BadLog.why } in
    subst (λ (l : AuditLine). StageStands c.args.n (stages.Refusing bad Running) (ls ++ l ∷ [])) (sym c.in-Sheet.is)
    (turns_bad c.args.n c.args.sheets.now ls c.in-Sheet.line bad s
    (at_err (Refuses c.args.n ls c.args.sheets.now c.in-Sheet.line) c.replay.result _ _ c.in-Err-BadLog.is why (c.replay.ensures.err c.args.n ls s.known)))

pub returns-in-Err-Misplaced-clause-err : goal.returns-in-Err-Misplaced-clause-err
returns-in-Err-Misplaced-clause-err c = λ ls s.
    let why : c.in-Err-Misplaced.field-0 ≡ RerunError.Misplaced = c.in-Err-Misplaced.field-0-is in (
      refl,
      λ begun. at_err (Refuses c.args.n ls c.args.sheets.now c.in-Sheet.line) c.replay.result _ _ c.in-Err-Misplaced.is why (c.replay.ensures.err c.args.n ls s.known)
          (subst (λ (l : AuditLine). BeginAnAudit (ls ++ l ∷ [])) c.in-Sheet.is begun),
    )
