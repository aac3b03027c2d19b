use Rattle.std.proofs.Common.{◌+◌, sym, subst, arith, drop, List}
use Rattle.std.proofs.lemmas.List.{drop_all}
use Rattle.crsm_spec.specs.Types.{Entry}
use Rattle.crsm_spec.specs.Log.{above}
use Rattle.crsm_suspend.proofs.FitLemmas.{first_page_fits}
use Rattle.crsm_suspend.proofs.FrozenLemmas.{IsPaging, left, begins, goes_in, is_full, is_all}
use Rattle.crsm_suspend.proofs.frozen.page_above.Goals as goal

pub loop-index-init : goal.loop-index-init
loop-index-init c = λ es h.
    let all = above c.args.floor es in
    subst (λ (rest : List Entry). IsPaging c.new-page.result 65536 rest all) (sym (c.first_above-index.ensures.holds es h)) (begins all c.new-page.result c.new-page.ensures)

pub logged_at-requires : goal.logged_at-requires
logged_at-requires c = omega (arith, c.loop-index-test.true, c.logged_len-index-end.ensures.count)

pub loop-index-preserved : goal.loop-index-preserved
loop-index-preserved c = λ es h.
    let all = above c.args.floor es in
    let index = c.loop-index.index in
    let entry = c.in-Ok.entry in
    let so_far = subst (λ (rest : List Entry). IsPaging c.loop-index.page c.loop-index.room rest all) (left es index entry (c.in-Ok.ensures.holds es h)) (c.loop-index.invariant es h) in
    goes_in c.loop-index.page all (drop (index + 1) es) c.loop-index.room entry so_far
    c.push.new.self c.entry_size-size.result c.entry_size-size.ensures.value (omega (arith, c.if-size-room.false)) c.in-Ok-push.ensures.ok

pub returns-then-size-room-clause-value : goal.returns-then-size-room-clause-value
returns-then-size-room-clause-value c = λ es h.
    let all = above c.args.floor es in
    let index = c.loop-index.index in
    let entry = c.in-Ok.entry in
    let so_far = subst (λ (rest : List Entry). IsPaging c.loop-index.page c.loop-index.room rest all) (left es index entry (c.in-Ok.ensures.holds es h)) (c.loop-index.invariant es h) in
    is_full c.loop-index.page all (drop (index + 1) es) c.loop-index.room entry so_far
    c.entry_size-size.result c.entry_size-size.ensures.value (omega (arith, c.if-size-room.true))

pub returns-then-size-room-clause-fits : goal.returns-then-size-room-clause-fits
returns-then-size-room-clause-fits c =
    first_page_fits c.args.ledger.now c.args.floor c.first_above-index.result c.loop-index.page c.first_above-index.ensures.holds
    (λ es h. (returns-then-size-room-clause-value c es h).entries) c.logged_len-index-end.ensures.some

pub returns-clause-value : goal.returns-clause-value
returns-clause-value c = λ es h.
    let none = drop_all c.loop-index.index es (omega (arith, c.loop-index-test.false, c.logged_len-index-end.ensures.holds es h)) in
    is_all (above c.args.floor es) c.loop-index.page (drop c.loop-index.index es) c.loop-index.room none (c.loop-index.invariant es h)

pub returns-clause-fits : goal.returns-clause-fits
returns-clause-fits c =
    first_page_fits c.args.ledger.now c.args.floor c.first_above-index.result c.loop-index.page c.first_above-index.ensures.holds
    (λ es h. (returns-clause-value c es h).entries) c.logged_len-index-end.ensures.some
