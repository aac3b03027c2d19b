use Rattle.std.proofs.Common.{◌≡◌, [], ◌∷◌, ◌++◌, length, ap, sym, ◌∙◌, append-nil, arith}
use Rattle.std.specs.Vec.Iter.{into_iter_items}
use Rattle.crsm_replica_output.proofs.Iterated.{nothing_left, one_more}
use Rattle.crsm_replica_output.proofs.output.add.Goals as goal

pub loop-line-preserved : goal.loop-line-preserved
loop-line-preserved c =
    let at = c.loop-line in
    let steps : into_iter_items at.line-iterator ≡ c.in-Some.line ∷ into_iter_items c.next.new.self = c.in-Some.ensures.steps.0 in (
      ap (λ ls. ls ++ into_iter_items c.next.new.self) c.in_ok-push.ensures.ok
          ∙ one_more at.lines c.in-Some.line _
          ∙ ap (λ ls. at.lines ++ ls) (sym steps)
          ∙ at.invariant.0,
      let was = at.invariant.1 in
          let gone = c.in-Some.ensures.steps.1 in
          let short = ap length steps in
          omega arith,
    )

pub returns : goal.returns
returns c =
    let at = c.loop-line in
    let none = c.in-None.ensures.steps in
    let empty : into_iter_items at.line-iterator ≡ [] = nothing_left _ (sym at.invariant.1 ∙ none.0) in
    sym (append-nil at.lines) ∙ ap (λ ls. at.lines ++ ls) (sym empty) ∙ at.invariant.0
