use Rattle.std.proofs.Common.{◌∙◌, sym, subst, arith}
use Rattle.std.specs.Prelude.{◌-◌}
use Rattle.crsm_base.specs.Spelling.{FitsEntries}
use Rattle.crsm_fact_log.proofs.EntriesFit.{drop_fits, take_fits}
use Rattle.crsm_transfer.proofs.NewLemmas.{below_base, from_base}
use Rattle.crsm_transfer.proofs.fitting.new_entries.Goals as goal

pub returns-then-done-base-clause-value : goal.returns-then-done-base-clause-value
returns-then-done-base-clause-value c =
    c.up_to.ensures ∙ below_base c.args.done c.args.base c.args.from c.args.entries.now c.behind-new.result.now c.behind-new.ensures (omega arith)

pub returns-else-done-base-clause-value : goal.returns-else-done-base-clause-value
returns-else-done-base-clause-value c = from_base c.args.done c.args.base c.args.from c.args.entries.now c.behind-new.result.now c.behind-new.ensures (omega arith)

pub returns-then-done-base-clause-fits : goal.returns-then-done-base-clause-fits
returns-then-done-base-clause-fits c = λ f.
    subst FitsEntries (sym c.up_to.ensures)
    (take_fits (c.args.base - c.args.done) c.behind-new.result.now (subst FitsEntries (sym c.behind-new.ensures) (drop_fits (c.args.done - c.args.from) c.args.entries.now f)))

pub returns-else-done-base-clause-fits : goal.returns-else-done-base-clause-fits
returns-else-done-base-clause-fits c = λ f. subst FitsEntries (sym c.behind-new.ensures) (drop_fits (c.args.done - c.args.from) c.args.entries.now f)
