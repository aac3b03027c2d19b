use Rattle.std.proofs.Common.{◌≡◌, true, not, cond, ℕ, ◌+◌, drop, ap, sym, ◌∙◌, arith}
use Rattle.std.specs.HashSet.{contains}
use Rattle.std.specs.List.{list_any}
use Rattle.std.specs.Prelude.{nat_eq}
use Rattle.crsm_base.specs.Store.{Client}
use Rattle.crsm_state.specs.Rows.{clients_differ}
use Rattle.crsm_state.proofs.Differ.{beside_none, beside_step, beside_stop, drop_row}
use Rattle.crsm_state.proofs.client_rows.clients_differ.Goals as goal

pub loop-row-init : goal.loop-row-init
loop-row-init c = beside_none (contains nat_eq c.in_ok-seen.seen) c.args.rows.now (λ q. ap (list_any (nat_eq q)) c.in_ok-seen.ensures.empty)

pub loop-row-preserved : goal.loop-row-preserved
loop-row-preserved c =
    let i = c.loop-row.row-index in
    let at = drop_row c.args.rows.now i (i + 1) c.row-item.result c.row-item.result c.loop-row-test.true (omega arith) c.row-item.is in
    let client : c.row.inside.client ≡ c.row-item.result.client = ap (λ (r : Client). r.client) c.row.view_is in
    let new : not (contains nat_eq c.loop-row.seen c.row-item.result.client) ≡ true = ap (λ (k : ℕ). not (contains nat_eq c.loop-row.seen k)) (sym client) ∙ sym c.in_ok-insert.ensures.added ∙ c.if-not-branch.false in
    beside_step (contains nat_eq c.loop-row.seen) (contains nat_eq c.insert.new.self) c.row-item.result (drop i c.args.rows.now) (drop (i + 1) c.args.rows.now) (clients_differ c.args.rows.now) at new
    (λ q. c.in_ok-insert.ensures.updates.0 q ∙ ap (λ (k : ℕ). cond (nat_eq k q) true (contains nat_eq c.loop-row.seen q)) client) c.loop-row.invariant

pub returns-then-not-branch : goal.returns-then-not-branch
returns-then-not-branch c =
    let i = c.loop-row.row-index in
    let at = drop_row c.args.rows.now i (i + 1) c.row-item.result c.row-item.result c.loop-row-test.true (omega arith) c.row-item.is in
    let client : c.row.inside.client ≡ c.row-item.result.client = ap (λ (r : Client). r.client) c.row.view_is in
    beside_stop (contains nat_eq c.loop-row.seen) c.row-item.result (drop i c.args.rows.now) (drop (i + 1) c.args.rows.now) (clients_differ c.args.rows.now) at
    (ap (λ (k : ℕ). not (contains nat_eq c.loop-row.seen k)) (sym client) ∙ sym c.in_ok-insert.ensures.added ∙ c.if-not-branch.true) c.loop-row.invariant
