use Rattle.std.proofs.Common.{◌≡◌, ◌∙◌, List, ap, refl, slice_index_or, subst, sym}
use Rattle.std.proofs.lemmas.Bool.{true≢false}
use Rattle.crsm_port_flow.specs.Turns.{IsOver}
use Rattle.crsm_port_flow.specs.declared.requests.Waiting.{Waiting}
use Rattle.crsm_port_flow.proofs.requests.Requests.take_expired.Goals as goal

pub returns-clause-first : goal.returns-clause-first
returns-clause-first c =
    let oldest = c.in_ok-oldest.oldest.now in
    let e = c.in_ok-expired.expired in
    let same : oldest ≡ e = c.in_ok-oldest.ensures.lookup ∙ ap (λ (rs : List Waiting). slice_index_or rs 0 oldest) c.in_ok-expired.ensures.items in
    let over : IsOver c.args.now oldest = λ recent. true≢false (sym (c.is_recent.ensures.1 recent) ∙ c.if-is_recent.false) in
    (e, c.in_ok-expired.ensures.items, refl, subst (λ (w : Waiting). IsOver c.args.now w) same over)
