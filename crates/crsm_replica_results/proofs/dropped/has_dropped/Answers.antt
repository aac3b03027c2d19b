use Rattle.std.proofs.Common.{◌≡◌, ◌∙◌, true, false, ap, sym, arith, length}
use Rattle.std.specs.Prelude.{◌&&◌, nat_le, nat_lt}
use Rattle.std.proofs.lemmas.Bool.Decides.{nat_tests}
use Rattle.crsm_spec.specs.Log.{known, start, executed}
use Rattle.crsm_spec.specs.Clients.{is_dropped}
use Rattle.crsm_fact_log.proofs.Known.{known-epoch}
use Rattle.crsm_replica_results.proofs.dropped.has_dropped.Goals as goal

pub returns-then-start-executed_len : goal.returns-then-start-executed_len
unfolding is_dropped
returns-then-start-executed_len c r s =
    let now : c.known.result.now.epoch ≡ known r.log = ap (λ d. d.epoch) (c.known.ensures.value r.me r.n r.log s) ∙ known-epoch r.n r.log in
    let begun = c.start.ensures r.me r.n r.log s in
    let done = c.executed_len.ensures.value r.me r.n r.log s in
    let test : nat_le (start r.log) (length (executed r.log)) ≡ true = grind (arith, nat_tests, begun, done, c.if-start-executed_len.true) in
    ap (nat_lt c.args.entry.now.epoch) now ∙ sym (ap (λ b. b && nat_lt c.args.entry.now.epoch (known r.log)) test)

pub returns-else-start-executed_len : goal.returns-else-start-executed_len
unfolding is_dropped
returns-else-start-executed_len c r s =
    let begun = c.start.ensures r.me r.n r.log s in
    let done = c.executed_len.ensures.value r.me r.n r.log s in
    let test : nat_le (start r.log) (length (executed r.log)) ≡ false = grind (arith, nat_tests, begun, done, c.if-start-executed_len.false) in
    let here : nat_le c.start.result c.executed_len.result ≡ false = grind (arith, nat_tests, c.if-start-executed_len.false) in
    here ∙ sym (ap (λ b. b && nat_lt c.args.entry.now.epoch (known r.log)) test)
