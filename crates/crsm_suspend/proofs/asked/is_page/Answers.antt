use Rattle.std.proofs.Common.{◌≡◌, ◌∙◌, ap, List, length}
use Rattle.std.specs.Prelude.{◌==◌}
use Rattle.crsm_spec.specs.Types.{Entry}
use Rattle.crsm_spec.specs.Controls.{are_above}
use Rattle.crsm_suspend.specs.Pages.{asked_stamp}
use Rattle.crsm_suspend.proofs.CollectLemmas.{page_is}
use Rattle.crsm_suspend.proofs.asked.is_page.Goals as goal

pub returns : goal.returns
returns c = λ k.
    let behind : c.are_above-are_behind.result ≡ are_above c.args.epoch (asked_stamp c.args.after c.args.page.now.last) c.args.page.now.entries =
    c.are_above-are_behind.ensures ∙ ap (λ o. are_above c.args.epoch o c.as_slice-entries.result.now) c.asked.ensures
    ∙ ap (λ es. are_above c.args.epoch (asked_stamp c.args.after c.args.page.now.last) es) c.as_slice-entries.ensures in
    let empty : c.is_empty.result ≡ (length c.args.page.now.entries == 0) = c.is_empty.ensures ∙ ap (λ (es : List Entry). length es == 0) c.as_slice-entries.ensures in
    page_is c.args.known c.args.epoch c.args.cursor c.args.after c.args.page.now k c.is_same.result c.are_above-are_behind.result c.is_empty.result c.is_same.ensures behind empty
