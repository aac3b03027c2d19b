use Rattle.std.proofs.Common.{map, string_bytes, ◌≡◌, None}
use Rattle.std.proofs.lemmas.Result.{err_from_is_err_and}
use Rattle.crsm_text_words.proofs.Clusters.{any_in, found_in, no_number, only_in, refused_in}
use Rattle.crsm_text_words.proofs.read.order_in.Goals as goal

pub returns-in_default-clause-any : goal.returns-in_default-clause-any
returns-in_default-clause-any c = no_number c.args.number.now (map string_bytes c.args.rest.now) (λ n above below is. let read = c.in_default.ensures.only n above below is in cc read)

pub returns-in_err-task-clause-any : goal.returns-in_err-task-clause-any
returns-in_err-task-clause-any c =
    let r = err_from_is_err_and c.from_residual.result c.from_residual.ensures.1 in
    rw (r.1, r.2) (refused_in c.args.number.now (map string_bytes c.args.rest.now) _ c.in_err-task.ensures.any)

pub returns-clause-found : goal.returns-clause-found
returns-clause-found c = λ plain.
    let n = c.in-Some.ensures.found in
    found_in c.order_of.result c.in-Some.cluster c.args.number.now c.in_ok-task.task (map string_bytes c.args.rest.now) n.0 n.1 n.2 (c.in_ok-task.ensures.found plain) c.order_of.ensures.ok

pub returns-clause-only : goal.returns-clause-only
returns-clause-only c = λ plain.
    let n = c.in-Some.ensures.found in
    only_in c.order_of.result c.in-Some.cluster c.args.number.now c.in_ok-task.task (map string_bytes c.args.rest.now) n.1 n.2 (λ other asks. c.in_ok-task.ensures.only plain other asks)
    c.order_of.ensures.ok c.order_of.ensures.err

pub returns-clause-any : goal.returns-clause-any
returns-clause-any c =
    let n = c.in-Some.ensures.found in
    any_in c.order_of.result c.in-Some.cluster c.args.number.now c.in_ok-task.task (map string_bytes c.args.rest.now) n.0 n.1 n.2 c.in_ok-task.ensures.any c.order_of.ensures.ok c.order_of.ensures.err
