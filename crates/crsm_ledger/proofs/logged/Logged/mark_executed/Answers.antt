use Rattle.std.proofs.Common.{◌≡◌, ◌∙◌, List, ap, arith, length, subst, sym}
use Rattle.std.specs.Prelude.{Some, set, slice_get}
use Rattle.std.proofs.lemmas.Option.{get_or_from_slice_get}
use Rattle.crsm_fact_log.proofs.Lists.{get_some}
use Rattle.crsm_ledger.specs.declared.kept.LoggedItem.{LoggedItem}
use Rattle.crsm_ledger.specs.Sorted.{IsLogged, marked}
use Rattle.crsm_ledger.proofs.LoggedLemmas.{marked-logged}
use Rattle.crsm_ledger.proofs.logged.Logged.mark_executed.Goals as goal

pub invariant_of-self : goal.invariant_of-self
invariant_of-self c =
    let is = c.self.inside.items.items in
    let there = get_some is c.args.index (omega (arith, c.requires, ap length c.self.view_is)) in
    let new : c.mark_at.new.items.items ≡ set is c.args.index (marked there.0 c.args.place) =
    c.mark_at.ensures there.0 ∙ ap (λ (i : LoggedItem). set is c.args.index (marked i c.args.place)) (get_or_from_slice_get is c.args.index there.0 there.0 there.1) in
    subst (λ (xs : List LoggedItem). IsLogged xs) (sym new) (marked-logged is c.args.index c.args.place there.0 there.1 c.self.invariant)

pub returns : goal.returns
returns c = λ item there.
    let is = c.self.inside.items.items in
    let here : slice_get is c.args.index ≡ Some item = ap (λ (xs : List LoggedItem). slice_get xs c.args.index) c.self.view_is ∙ there in
    c.mark_at.ensures item
    ∙ ap (λ (i : LoggedItem). set is c.args.index (marked i c.args.place)) (get_or_from_slice_get is c.args.index item item here)
    ∙ ap (λ (xs : List LoggedItem). set xs c.args.index (marked item c.args.place)) c.self.view_is
