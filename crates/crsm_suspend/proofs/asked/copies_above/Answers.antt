use Rattle.std.proofs.Common.{◌∙◌, ◌+◌, ap, sym, subst, arith, drop, [], ◌∷◌, ◌++◌, List, append_assoc}
use Rattle.std.specs.List.{AllByRecursion}
use Rattle.std.proofs.lemmas.List.{append-nil, drop_all}
use Rattle.crsm_base.specs.Spelling.{FitsEntry}
use Rattle.crsm_spec.specs.Types.{Entry}
use Rattle.crsm_fact_log.proofs.Lists.{all-push}
use Rattle.crsm_suspend.proofs.FitLemmas.{of_the_epoch}
use Rattle.crsm_suspend.proofs.FrozenLemmas.{left}
use Rattle.crsm_suspend.proofs.asked.copies_above.Goals as goal

pub loop-index-init : goal.loop-index-init
loop-index-init c = (
  λ all h. ap (λ (es : List Entry). es ++ drop c.first_above-index.result all) c.new-copies.ensures ∙ c.first_above-index.ensures.holds all h,
  subst (λ (es : List Entry). AllByRecursion FitsEntry es) (sym c.new-copies.ensures) tt,
)

pub logged_at-requires : goal.logged_at-requires
logged_at-requires c = omega (arith, c.loop-index-test.true, c.logged_len-index-end.ensures.count)

pub loop-index-preserved : goal.loop-index-preserved
loop-index-preserved c =
    let copies = c.loop-index.copies in
    let index = c.loop-index.index in
    let entry = c.in-Ok.entry in (
      λ all h.
          ap (λ (es : List Entry). es ++ drop (index + 1) all) c.in-Ok-push.ensures.ok
          ∙ append_assoc copies (entry ∷ []) (drop (index + 1) all)
          ∙ ap (λ (es : List Entry). copies ++ es) (sym (left all index entry (c.in-Ok.ensures.holds all h)))
          ∙ c.loop-index.invariant.0 all h,
      subst (λ (es : List Entry). AllByRecursion FitsEntry es) (sym c.in-Ok-push.ensures.ok)
          (all-push FitsEntry copies entry c.loop-index.invariant.1 c.in-Ok.ensures.fit),
    )

pub returns-clause-value : goal.returns-clause-value
returns-clause-value c = λ all h.
    let copies = c.loop-index.copies in
    let none = drop_all c.loop-index.index all (omega (arith, c.loop-index-test.false, c.logged_len-index-end.ensures.holds all h)) in
    sym (append-nil copies) ∙ ap (λ (es : List Entry). copies ++ es) (sym none) ∙ c.loop-index.invariant.0 all h

pub returns-clause-epoch : goal.returns-clause-epoch
returns-clause-epoch c = of_the_epoch c.args.ledger.now c.args.floor c.loop-index.copies (returns-clause-value c) c.logged_len-index-end.ensures.some
