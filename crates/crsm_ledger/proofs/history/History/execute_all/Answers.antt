use Rattle.std.proofs.Common.{◌≡◌, ◌+◌, [], ◌∷◌, ◌++◌, List, ◌∙◌, ap, subst, sym, arith, refl, take, append_assoc}
use Rattle.std.proofs.lemmas.Grind.{common_steps}
use Rattle.crsm_spec.specs.Types.{Entry, Line}
use Rattle.crsm_spec.specs.Lines.{exec_line, exec_lines}
use Rattle.crsm_ledger.specs.Executed.{HistoryStands}
use Rattle.crsm_fact_log.proofs.Lists.{append-none}
use Rattle.crsm_ledger.proofs.ExecutedLemmas.{exec_lines-none, grows-none, grows-trans, lines-push}
use Rattle.crsm_ledger.proofs.history.History.execute_all.Goals as goal

pub loop-entry-init : goal.loop-entry-init
loop-entry-init c = (
  (λ x es has. (
    subst (λ (done : List Entry). HistoryStands c.args.self.now x done) (sym (append-none es)) has,
    sym (ap (λ (ls : List Line). c.args.lines.now ++ ls) (exec_lines-none c.args.me es) ∙ append-none c.args.lines.now),
  )),
  grows-none c.args.self.now c.args.self.now refl refl,
)

pub loop-entry-preserved : goal.loop-entry-preserved
loop-entry-preserved c =
    let before : List Entry = take c.loop-entry.entry-index c.args.entries.now in
    let more : take (c.loop-entry.entry-index + 1) c.args.entries.now ≡ before ++ c.entry-item.result ∷ [] = grind (arith, common_steps) in (
      (λ x es has.
          let so_far = c.loop-entry.invariant.0 x es has in
          let step = c.in_ok-execute.ensures.executed x (es ++ before) so_far.0 in (
            subst (λ (done : List Entry). HistoryStands c.execute.new.self x done)
                (append_assoc es before (c.entry-item.result ∷ []) ∙ ap (λ (prefix : List Entry). es ++ prefix) (sym more)) step.0,
            step.1
                ∙ ap (λ (ls : List Line). ls ++ exec_line c.args.me (es ++ before) c.entry-item.result ∷ []) so_far.1
                ∙ lines-push c.args.me es before c.entry-item.result c.args.lines.now
                ∙ ap (λ (prefix : List Entry). c.args.lines.now ++ exec_lines c.args.me es prefix) (sym more),
          )),
      grows-trans c.args.self.now c.loop-entry.self c.execute.new.self c.loop-entry.invariant.1 c.execute.ensures.grows,
    )

pub returns-in_err-execute-clause-grows : goal.returns-in_err-execute-clause-grows
returns-in_err-execute-clause-grows c = grows-trans c.args.self.now c.loop-entry.self c.execute.new.self c.loop-entry.invariant.1 c.execute.ensures.grows

pub returns-clause-grows : goal.returns-clause-grows
returns-clause-grows c = c.loop-entry.invariant.1
