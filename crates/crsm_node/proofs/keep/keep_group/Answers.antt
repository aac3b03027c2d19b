use Rattle.std.proofs.Common.{◌≡◌, ◌∙◌, Bool, true, false, Err, refl, sym, ap, subst}
use Rattle.std.proofs.lemmas.Result.{err_from_is_err_and}
use Rattle.std.specs.Prelude.{Result}
use Rattle.crsm_shell.specs.Shell.{ShellStands}
use Rattle.crsm_shell.specs.Words.{disk_of, has_failed}
use Rattle.crsm_shell.specs.declared.errors.TurnError.{TurnError}
use Rattle.crsm_shell.specs.declared.errors.TurnError.TheVariants as errors
use Rattle.crsm_shell.specs.declared.shell.Shell.{Shell}
use Rattle.crsm_node.specs.Steps.{KeepsGroup}
use Rattle.crsm_node.specs.declared.errors.NodeError.{NodeError}
use Rattle.crsm_node.proofs.Keepings.{flush_fails}
use Rattle.crsm_node.proofs.keep.keep_group.Goals as goal

both : (b : Bool) → b ≡ true → b ≡ false → ⊥
both b is other = cc

abbrev failing : TurnError → Result (Unit {0}) TurnError
failing why = Err why

abbrev stopping : NodeError → Result (Unit {0}) NodeError
stopping why = Err why

same_failing : (a b : TurnError) → failing a ≡ failing b → a ≡ b
same_failing a b is = cc

not_failed : {D : Type 0} {g : _} (shell : Shell D g) (m : _) (kept : _) (r : _) (steps : _) → ShellStands shell m kept r steps → has_failed shell ≡ false
unfolding ShellStands
not_failed shell m kept r steps s = s.well

pub returns-in_err-flush-clause-keeps : goal.returns-in_err-flush-clause-keeps
returns-in_err-flush-clause-keeps g c kept r steps s =
    let p = err_from_is_err_and c.from_residual.result c.from_residual.ensures.1 in
    let why = c.in_err-flush.field-0.0 in
    let e = c.in_err-flush.ensures in
    let before = c.args.shell.now in
    let meaning = g.D.Disk.meaning in
    let old = g.P.Port.meaning c.args.port.now in
    let new = g.P.Port.meaning c.flush.new.port in
    let had = g.O.Sink.written c.args.sheet.now in
    let faults = g.O.Sink.faults c.args.sheet.now in
    let lines = c.args.pending.now.lines in
    subst (λ (x : Result (Unit {0}) NodeError). KeepsGroup meaning before c.flush.new.self old new had had faults faults lines r steps x) (sym (p.1 ∙ ap stopping p.2))
    (flush_fails meaning before c.flush.new.self old new had faults lines r steps why (record {
      no_port_fault = λ is. e.no_port_fault (ap failing is);
      not_failed = λ is. both (has_failed before) (e.failed.0 (ap failing is)) (not_failed before (meaning (disk_of before)) kept r steps s);
      unsent = e.unsent;
      fault = λ is. e.fault (ap failing is);
      unwritten = λ other. e.unwritten (refl {a = true}) (λ is. other (same_failing why errors.DiskFault is));
      left = e.left kept r steps s;
      full = λ honest is. e.full kept r steps s honest (ap failing is);
      not_full = λ honest is full. (e.not_full kept r steps s honest full).1 (ap failing is);
    }))
