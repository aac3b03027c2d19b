use Rattle.std.proofs.Common.{◌≡◌, ◌∙◌, List, ap, length, drop, arith}
use Rattle.std.specs.Prelude.{Option}
use Rattle.std.proofs.lemmas.List.{length-drop}
use Rattle.crsm_spec.specs.Types.{Entry, Stamp}
use Rattle.crsm_spec.specs.Log.{known, executed, above, last_stamp, logged, unexecuted}
use Rattle.crsm_ledger.proofs.ExecutedLemmas.{last_stamp-in}
use Rattle.crsm_ledger.proofs.LoggedLemmas.{length-kept}
use Rattle.crsm_ledger.proofs.ledger.Ledger.unexecuted_len.Goals as goal

pub returns : goal.returns
unfolding unexecuted
returns c = λ me n log s.
    let count : c.len.result ≡ length (logged log) = c.len.ensures ∙ length-kept (executed log) c.args.self.now.held.logged (logged log) s.says.kept in
    let last = c.last_stamp.ensures.value (known log) (executed log) s.says.executed ∙ last_stamp-in log in
    let rest : drop c.first_above-first.result (logged log) ≡ above (last_stamp log) (logged log) =
    c.first_above-first.ensures.value (executed log) (logged log) s.says.kept ∙ ap (λ (o : Option Stamp). above o (logged log)) last in
    let long : length (drop c.first_above-first.result (logged log)) ≡ length (above (last_stamp log) (logged log)) = ap (λ (es : List Entry). length es) rest in
    omega (arith, count, long, length-drop c.first_above-first.result (logged log))
