use Rattle.std.proofs.Common.{◌≡◌, ℕ, List, ◌++◌, sym, subst, arith}
use Rattle.std.proofs.lemmas.List.{append-nil}
use Rattle.crsm_node.specs.Running.{entries_text}
use Rattle.crsm_node.proofs.Openings.{entries_one_more}
use Rattle.crsm_node.proofs.opening.lines_from.Goals as goal

pub loop-index-init : goal.loop-index-init
loop-index-init c = subst (λ (x : List ℕ). entries_text c.args.bodies.now c.args.first ≡ entries_text c.args.bodies.now c.args.first ++ x) (sym c.new-lines.ensures) (sym (append-nil (entries_text c.args.bodies.now c.args.first)))

pub returns-then-as_slice-ge-GATHERED_BYTES-clause-between : goal.returns-then-as_slice-ge-GATHERED_BYTES-clause-between
returns-then-as_slice-ge-GATHERED_BYTES-clause-between c =
    entries_one_more c.args.bodies.now c.args.first c.loop-index.index c.in-Some.body.now c.loop-index.lines c.push_entry.new.out c.in-Some.ensures c.loop-index.invariant c.in_ok-push_entry.ensures

pub loop-index-preserved : goal.loop-index-preserved
loop-index-preserved c =
    entries_one_more c.args.bodies.now c.args.first c.loop-index.index c.in-Some.body.now c.loop-index.lines c.push_entry.new.out c.in-Some.ensures c.loop-index.invariant c.in_ok-push_entry.ensures

pub returns-clause-between : goal.returns-clause-between
returns-clause-between c =
    let inside = c.loop-index.auto.index-end in
    let out = c.loop-index-test.false in
    let all : c.loop-index.index ≡ c.len-count.result = omega (arith, inside, out) in
    subst (λ (i : ℕ). entries_text c.args.bodies.now i ≡ entries_text c.args.bodies.now c.args.first ++ c.loop-index.lines) all c.loop-index.invariant
