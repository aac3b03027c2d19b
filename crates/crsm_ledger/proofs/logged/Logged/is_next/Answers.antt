use Rattle.std.proofs.Common.{◌∙◌, ap, arith, false, length, List}
use Rattle.std.specs.Prelude.{slice_get}
use Rattle.std.proofs.lemmas.List.{length-drop}
use Rattle.std.specs.Option.{option_map_or}
use Rattle.crsm_base.specs.Order.{stamp_eq}
use Rattle.crsm_spec.specs.Types.{Entry}
use Rattle.crsm_spec.specs.Lists.{first_of}
use Rattle.crsm_ledger.specs.declared.kept.LoggedItem.{LoggedItem}
use Rattle.crsm_ledger.proofs.LoggedLemmas.{stamp-at}
use Rattle.crsm_ledger.proofs.logged.Logged.is_next.Goals as goal

pub returns-clause-value : goal.returns-clause-value
returns-clause-value c = λ done es all.
    c.has_stamp_at.ensures.value
    ∙ ap (λ (is : List LoggedItem). option_map_or (λ i. stamp_eq i.stamp c.args.stamp) (slice_get is c.first_above.result) false) (c.as_slice.ensures.value ∙ c.self.view_is)
    ∙ stamp-at done c.args.self.now es c.first_above.result c.args.stamp all
    ∙ ap (λ (rest : List Entry). option_map_or (λ e. stamp_eq e.stamp c.args.stamp) (first_of rest) false) (c.first_above.ensures.value done es all)

pub returns-clause-some : goal.returns-clause-some
returns-clause-some c = λ found.
    let items = c.args.self.now in
    let index = c.first_above.result in
    omega (arith, c.has_stamp_at.ensures.within found, ap length (c.as_slice.ensures.value ∙ c.self.view_is), ap length c.first_above.ensures.items, length-drop index items)
