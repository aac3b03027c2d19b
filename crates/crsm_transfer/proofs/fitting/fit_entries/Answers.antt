use Rattle.std.proofs.Common.{◌≡◌, ◌∙◌, sym, subst, ap, arith, length, true, false}
use Rattle.std.specs.Prelude.{◌==◌}
use Rattle.crsm_base.specs.Spelling.{FitsEntries}
use Rattle.crsm_spec.specs.Types.{Decision}
use Rattle.crsm_spec.specs.Log.{known, active}
use Rattle.crsm_fact_log.proofs.Known.{known-epoch}
use Rattle.crsm_transfer.proofs.NewLemmas.{fit_ahead, fit_gap, fit_active, fit_nothing, fit_adopt, new_as}
use Rattle.crsm_transfer.proofs.fitting.fit_entries.Goals as goal

pub returns-then-known-decision-clause-value : goal.returns-then-known-decision-clause-value
returns-then-known-decision-clause-value c = λ me n log s.
    let epoch : c.known-decision.result.now.epoch ≡ known log = ap (λ (d : Decision). d.epoch) (c.known-decision.ensures.value me n log s) ∙ known-epoch n log in
    fit_ahead log c.args.known c.args.from c.args.entries.now (omega (arith, epoch))

pub returns-then-from-done-clause-value : goal.returns-then-from-done-clause-value
returns-then-from-done-clause-value c = λ me n log s.
    let epoch : c.known-decision.result.now.epoch ≡ known log = ap (λ (d : Decision). d.epoch) (c.known-decision.ensures.value me n log s) ∙ known-epoch n log in
    let long = c.executed_len-done.ensures.value me n log s in
    fit_gap log c.args.known c.args.from c.args.entries.now (omega (arith, epoch)) (omega (arith, long))

pub returns-then-takes_part-clause-value : goal.returns-then-takes_part-clause-value
returns-then-takes_part-clause-value c = λ me n log s.
    let epoch : c.known-decision.result.now.epoch ≡ known log = ap (λ (d : Decision). d.epoch) (c.known-decision.ensures.value me n log s) ∙ known-epoch n log in
    let long = c.executed_len-done.ensures.value me n log s in
    let part : active log ≡ true = cc (c.takes_part.ensures me n log s) in
    fit_active log c.args.known c.args.from c.args.entries.now (omega (arith, epoch)) (omega (arith, long)) part

pub returns-then-is_empty-clause-value : goal.returns-then-is_empty-clause-value
returns-then-is_empty-clause-value c = λ me n log s.
    let epoch : c.known-decision.result.now.epoch ≡ known log = ap (λ (d : Decision). d.epoch) (c.known-decision.ensures.value me n log s) ∙ known-epoch n log in
    let long = c.executed_len-done.ensures.value me n log s in
    let new = new_as n log c.executed_len-done.result c.known-decision.result.now.base_len c.args.from c.args.entries.now c.new_entries-new.result.now long
    (ap (λ (d : Decision). d.base_len) (c.known-decision.ensures.value me n log s)) c.new_entries-new.ensures.value in
    let none : (length c.new_entries-new.result.now == 0) ≡ true = cc (c.is_empty.ensures) in
    fit_nothing log c.args.known c.args.from c.args.entries.now c.new_entries-new.result.now (omega (arith, epoch)) (omega (arith, long)) new none

pub returns-clause-value : goal.returns-clause-value
returns-clause-value c = λ me n log s.
    let epoch : c.known-decision.result.now.epoch ≡ known log = ap (λ (d : Decision). d.epoch) (c.known-decision.ensures.value me n log s) ∙ known-epoch n log in
    let long = c.executed_len-done.ensures.value me n log s in
    let part : active log ≡ false = cc (c.takes_part.ensures me n log s) in
    let copy : c.in_ok-copied.field-0 ≡ c.new_entries-new.result.now = c.in_ok-copied.ensures in
    let new = new_as n log c.executed_len-done.result c.known-decision.result.now.base_len c.args.from c.args.entries.now c.new_entries-new.result.now long
    (ap (λ (d : Decision). d.base_len) (c.known-decision.ensures.value me n log s)) c.new_entries-new.ensures.value in
    let some : (length c.new_entries-new.result.now == 0) ≡ false = cc (c.is_empty.ensures) in
    fit_adopt log c.args.known c.args.from c.args.entries.now c.in_ok-copied.field-0 c.new_entries-new.result.now (omega (arith, epoch)) (omega (arith, long)) part copy new some

pub returns-clause-fits : goal.returns-clause-fits
returns-clause-fits c = λ f. subst FitsEntries (sym c.in_ok-copied.ensures) (c.new_entries-new.ensures.fits f)
