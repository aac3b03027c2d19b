use Rattle.std.proofs.Common.{◌≡◌, [], ◌∷◌, ◌++◌, ◌∙◌, subst, sym, refl, ap, ℕ, List, Bool, false, arith}
use Rattle.std.specs.Prelude.{Some, ◌==◌, if◌then◌else◌}
use Rattle.std.proofs.lemmas.Bool.Decides.{nat_tests, Decides-eqb}
use Rattle.crsm_base.specs.Spelling.{entry_bytes}
use Rattle.crsm_base.specs.Store.{Rows, apply}
use Rattle.crsm_spec.specs.Types.{Answer}
use Rattle.crsm_ledger.specs.declared.history.History.{History}
use Rattle.crsm_ledger.specs.Executed.{Grows, HistoryStands}
use Rattle.crsm_ledger.proofs.ExecutedLemmas.{executes, grows-one}
use Rattle.crsm_ledger.proofs.history.History.run.Goals.{then-entry-self, else-entry-self}
use Rattle.crsm_ledger.proofs.history.History.run.Goals as goal

pub push-requires : goal.push-requires
push-requires c = record {
  entry = c.args.entry.now;
  fits = c.requires;
  is = c.as_slice.ensures ∙ c.in_ok-put_entry.ensures ∙ ap (λ (bytes : List ℕ). bytes ++ entry_bytes c.args.entry.now) c.clear.ensures;
}

pub returns-clause-executed : goal.returns-clause-executed
returns-clause-executed c = λ x es has.
    let h = c.args.self.now in
    let e = c.args.entry.now in
    let spelt : c.push.new.self ≡ h.spelt ++ entry_bytes e ∷ [] =
    c.in_ok-push.ensures.ok
    ∙ ap (λ (bytes : List ℕ). h.spelt ++ bytes ∷ []) (c.as_slice.ensures ∙ c.in_ok-put_entry.ensures ∙ ap (λ (bytes : List ℕ). bytes ++ entry_bytes e) c.clear.ensures) in
    let rows : c.apply.new.self ≡ (apply h.store e.command).0 = ap (λ (r : Rows × Answer). r.0) c.in_ok-answer.ensures.done in
    elim c.if-entry-self.branch [
      | then-entry-self w ↦
          subst (λ (after : History). HistoryStands after x (es ++ e ∷ [])) (sym w.self-is)
          (executes h x es e c.push.new.self c.put_entry.new.out c.apply.new.self _ _ has c.requires spelt rows refl
          (ap (λ (same : Bool). if same then Some e.stamp else h.last_stamp) (sym ((Decides-eqb e.epoch h.epoch).1 w.if-entry-self.true))))
      | else-entry-self w ↦
          subst (λ (after : History). HistoryStands after x (es ++ e ∷ [])) (sym w.self-is)
          (executes h x es e c.push.new.self c.put_entry.new.out c.apply.new.self _ _ has c.requires spelt rows refl
          (let other : (e.epoch == h.epoch) ≡ false = grind (arith, nat_tests, w.if-entry-self.false) in
          ap (λ (same : Bool). if same then Some e.stamp else h.last_stamp) (sym other)))
    ]

pub returns-in_err-answer-clause-grows : goal.returns-in_err-answer-clause-grows
returns-in_err-answer-clause-grows c =
    let h = c.args.self.now in
    let e = c.args.entry.now in
    let spelt : c.push.new.self ≡ h.spelt ++ entry_bytes e ∷ [] =
    c.in_ok-push.ensures.ok
    ∙ ap (λ (bytes : List ℕ). h.spelt ++ bytes ∷ []) (c.as_slice.ensures ∙ c.in_ok-put_entry.ensures ∙ ap (λ (bytes : List ℕ). bytes ++ entry_bytes e) c.clear.ensures) in
    grows-one h _ e c.requires spelt refl

pub returns-clause-grows : goal.returns-clause-grows
returns-clause-grows c =
    let h = c.args.self.now in
    let e = c.args.entry.now in
    let spelt : c.push.new.self ≡ h.spelt ++ entry_bytes e ∷ [] =
    c.in_ok-push.ensures.ok
    ∙ ap (λ (bytes : List ℕ). h.spelt ++ bytes ∷ []) (c.as_slice.ensures ∙ c.in_ok-put_entry.ensures ∙ ap (λ (bytes : List ℕ). bytes ++ entry_bytes e) c.clear.ensures) in
    elim c.if-entry-self.branch [
      | then-entry-self w ↦ subst (λ (after : History). Grows h after) (sym w.self-is) (grows-one h _ e c.requires spelt refl)
      | else-entry-self w ↦ subst (λ (after : History). Grows h after) (sym w.self-is) (grows-one h _ e c.requires spelt refl)
    ]
