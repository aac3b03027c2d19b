use Rattle.std.proofs.Common.{◌≡◌, ◌<◌, ◌≤◌, ◌∙◌, arith, ap, sym, subst, length, true, true≢false}
use Rattle.std.proofs.lemmas.Result.{err_from_is_err_and}
use Rattle.crsm_text_words.specs.declared.order.NodeTask.{NodeTask}
use Rattle.crsm_text_words.specs.Orders.{IsNode}
use Rattle.crsm_text_words.proofs.Asking.{node_same}
use Rattle.crsm_text_words.proofs.tasks.node_of.Goals as goal

me_below : (t : NodeTask) → IsNode t → t.me < 15
me_below t is = let me = is.me in let most = is.most in omega (arith, me, most)

pub returns-in_default-clause-only : goal.returns-in_default-clause-only
returns-in_default-clause-only c = λ t is e. absurd (c.in_default.ensures.only t.me t.n t.turns _ (me_below t is) is.size is.turns e)

pub returns-in_err-peers-clause-only : goal.returns-in_err-peers-clause-only
returns-in_err-peers-clause-only c = λ t is e.
    let w = c.in-Some.ensures.only t.me t.n t.turns _ (me_below t is) is.size is.turns e in
    let k = c.in_err-peers.ensures.only t.peers is.peers w.3 in
    let r = err_from_is_err_and c.from_residual.result c.from_residual.ensures.1 in rw (r.1, r.2) k

pub returns-else-are_enough-clause-only : goal.returns-else-are_enough-clause-only
returns-else-are_enough-clause-only c = λ t is e.
    let w = c.in-Some.ensures.only t.me t.n t.turns _ (me_below t is) is.size is.turns e in
    let same : c.in_ok-peers.peers ≡ t.peers = c.in_ok-peers.ensures.only t.peers is.peers w.3 in
    let len : length c.as_slice.result.now ≡ length t.peers = ap length (c.as_slice.ensures ∙ same) in
    let me = is.me in
    let most = is.most in
    let enough = is.enough in
    let me_is = w.0 in
    let n_is = w.1 in
    let some : c.are_enough.result ≡ true = c.are_enough.ensures.1 (omega (arith, len, enough, n_is), omega (arith, len, most), omega (arith, len, me, me_is)) in absurd (true≢false (sym some ∙ c.if-are_enough.false))

pub returns-then-are_enough-clause-only : goal.returns-then-are_enough-clause-only
returns-then-are_enough-clause-only c = λ t is e.
    let w = c.in-Some.ensures.only t.me t.n t.turns _ (me_below t is) is.size is.turns e in
    let same : c.in_ok-peers.peers ≡ t.peers = c.in_ok-peers.ensures.only t.peers is.peers w.3 in
    node_same _ t w.0 w.1 w.2 same
