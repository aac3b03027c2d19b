use Rattle.std.proofs.Common.{◌≡◌, ◌+◌, [], ◌∷◌, ◌++◌, List, ◌∙◌, ap, subst, sym, arith, refl, take, append_assoc}
use Rattle.std.proofs.lemmas.Grind.{common_steps}
use Rattle.crsm_spec.specs.Types.{Entry}
use Rattle.crsm_ledger.specs.Executed.{HistoryStands}
use Rattle.crsm_fact_log.proofs.Lists.{append-none}
use Rattle.crsm_ledger.proofs.ExecutedLemmas.{grows-none, grows-trans}
use Rattle.crsm_ledger.proofs.history.History.run_all.Goals as goal

pub loop-entry-init : goal.loop-entry-init
loop-entry-init c = (
  (λ x es has. subst (λ (done : List Entry). HistoryStands c.args.self.now x done) (sym (append-none es)) has),
  grows-none c.args.self.now c.args.self.now refl refl,
)

pub loop-entry-preserved : goal.loop-entry-preserved
loop-entry-preserved c =
    let before : List Entry = take c.loop-entry.entry-index c.args.entries.now in
    let more : take (c.loop-entry.entry-index + 1) c.args.entries.now ≡ before ++ c.entry-item.result ∷ [] = grind (arith, common_steps) in (
      (λ x es has.
          subst (λ (done : List Entry). HistoryStands c.run.new.self x done)
          (append_assoc es before (c.entry-item.result ∷ []) ∙ ap (λ (prefix : List Entry). es ++ prefix) (sym more))
          (c.in_ok-answer.ensures.executed x (es ++ before) (c.loop-entry.invariant.0 x es has))),
      grows-trans c.args.self.now c.loop-entry.self c.run.new.self c.loop-entry.invariant.1 c.run.ensures.grows,
    )

pub returns-in_err-answer-clause-grows : goal.returns-in_err-answer-clause-grows
returns-in_err-answer-clause-grows c = grows-trans c.args.self.now c.loop-entry.self c.run.new.self c.loop-entry.invariant.1 c.run.ensures.grows

pub returns-clause-grows : goal.returns-clause-grows
returns-clause-grows c = c.loop-entry.invariant.1
