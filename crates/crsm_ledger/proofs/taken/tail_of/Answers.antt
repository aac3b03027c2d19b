use Rattle.std.proofs.Common.{◌≤◌, ◌-◌, ◌∙◌, ap, arith, drop, length, subst, sym, List, ℕ}
use Rattle.std.proofs.lemmas.List.{length-drop, take_all}
use Rattle.crsm_ledger.proofs.TakenRecords.{tail_last}
use Rattle.crsm_ledger.proofs.taken.tail_of.Goals as goal

pub slice_bounds-result-count : goal.slice_bounds-result-count
slice_bounds-result-count c =
    subst (λ (bytes : List ℕ). c.head_of.result ≤ length bytes) (sym c.requires) (tail_last c.args.decision.now c.head_of.result c.head_of.ensures).0

pub slice_bounds-result-start : goal.slice_bounds-result-start
slice_bounds-result-start c =
    subst (λ (bytes : List ℕ). c.head_of.result ≤ length bytes) (sym c.requires) (tail_last c.args.decision.now c.head_of.result c.head_of.ensures).0

pub returns : goal.returns
returns c =
    let bytes = c.args.bytes.now in
    let k = c.head_of.result in
    take_all (length bytes - k) (drop k bytes) (omega (arith, length-drop k bytes)) ∙ ap (drop k) c.requires ∙ (tail_last c.args.decision.now k c.head_of.ensures).1
