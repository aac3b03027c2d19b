use Rattle.std.proofs.Common.{◌≡◌, [], ◌∷◌, ◌++◌, length, map, ap, sym, ◌∙◌, append-nil, arith}
use Rattle.std.specs.Vec.Iter.{into_iter_items}
use Rattle.crsm_replica_output.specs.Made.{on_paper, to_address, line_of}
use Rattle.crsm_replica_output.proofs.Iterated.{nothing_left, one_more}
use Rattle.crsm_replica_output.proofs.output.hand_out.Goals as goal

pub loop-reply-preserved : goal.loop-reply-preserved
unfolding to_address line_of on_paper
loop-reply-preserved c =
    let at = c.loop-reply in
    let steps : into_iter_items at.reply-iterator ≡ c.in-Some.reply ∷ into_iter_items c.next.new.self = c.in-Some.ensures.steps.0 in (
      ap (λ ls. ls ++ map to_address (map on_paper (into_iter_items c.next.new.self))) c.in_ok-push.ensures.ok
          ∙ one_more at.sends _ _
          ∙ ap (λ ls. at.sends ++ map to_address (map on_paper ls)) (sym steps)
          ∙ at.invariant.0,
      ap (λ ls. ls ++ map line_of (map on_paper (into_iter_items c.next.new.self))) c.in_ok-push-2.ensures.ok
          ∙ one_more at.lines _ _
          ∙ ap (λ ls. at.lines ++ map line_of (map on_paper ls)) (sym steps)
          ∙ at.invariant.1,
      let was = at.invariant.2 in
          let gone = c.in-Some.ensures.steps.1 in
          let short = ap length steps in
          omega arith,
    )

pub returns-clause-sends : goal.returns-clause-sends
returns-clause-sends c =
    let at = c.loop-reply in
    let empty : into_iter_items at.reply-iterator ≡ [] = nothing_left _ (sym at.invariant.2 ∙ c.in-None.ensures.steps.0) in
    sym (append-nil at.sends) ∙ ap (λ ls. at.sends ++ map to_address (map on_paper ls)) (sym empty) ∙ at.invariant.0

pub returns-clause-lines : goal.returns-clause-lines
returns-clause-lines c =
    let at = c.loop-reply in
    let empty : into_iter_items at.reply-iterator ≡ [] = nothing_left _ (sym at.invariant.2 ∙ c.in-None.ensures.steps.0) in
    sym (append-nil at.lines) ∙ ap (λ ls. at.lines ++ map line_of (map on_paper ls)) (sym empty) ∙ at.invariant.1
