use Rattle.std.proofs.Common.{◌≡◌, ◌∙◌, ◌<◌, Some, ap, arith, length, refl, subst, sym}
use Rattle.std.proofs.lemmas.Bool.{true≢false}
use Rattle.std.specs.Prelude.{slice_get}
use Rattle.crsm_port_flow.proofs.Earlies.{got_same, got_within, set_get}
use Rattle.crsm_port_flow.specs.Early.{after}
use Rattle.crsm_port_flow.specs.declared.early.Link.{Link}
use Rattle.crsm_port_flow.proofs.early.Early.note_handed_up.Goals as goal
use Rattle.crsm_port_flow.proofs.early.Early.note_handed_up.Goals.{else-link-frame-via-then-link-frame+else-link-frame-2, else-link-frame-via-else-link-frame}

pub returns-then-link-frame-2-clause-next : goal.returns-then-link-frame-2-clause-next
returns-then-link-frame-2-clause-next c = λ expects.
    let links = c.args.self.now.links.items in
    let moved_on : Link = record { epoch = c.in-Some.link.now.epoch; next = c.saturating_add-link.result; told_at = c.in-Some.link.now.told_at } in
    let within : c.from.result < length links = omega (arith, c.in-Some.ensures.variant.0 refl, c.args.self.now.links.ok) in
    (moved_on, set_get links c.from.result c.args.frame.from moved_on c.from.ensures within, c.if-link-frame.true, c.saturating_add-link.ensures ∙ ap after c.if-link-frame-2.true)

pub returns-else-link-frame-clause-next : goal.returns-else-link-frame-clause-next
returns-else-link-frame-clause-next c = λ (l, at, in_epoch, is).
    let links = c.args.self.now.links.items in
    let link = c.in-Some.link.now in
    let here = subst (λ k. slice_get links k ≡ Some l) (sym c.from.ensures) at in
    let same : link ≡ l = got_same links c.from.result l link here c.in-Some.ensures.value in
    elim c.else-link-frame.branch [
      | else-link-frame-via-then-link-frame+else-link-frame-2 w ↦ absurd (w.if-link-frame-2.false (ap (λ (x : Link). x.next) same ∙ is))
      | else-link-frame-via-else-link-frame w ↦ absurd (w.if-link-frame.false (ap (λ (x : Link). x.epoch) same ∙ in_epoch))
    ]

pub returns-in_default-clause-next : goal.returns-in_default-clause-next
returns-in_default-clause-next c = λ (l, at, _, _).
    let links = c.args.self.now.links.items in
    let here = subst (λ k. slice_get links k ≡ Some l) (sym c.from.ensures) at in
    let within : c.from.result < length links = got_within links c.from.result l here in
    absurd (true≢false (sym (c.in_default.ensures.variant.1 (omega (arith, within, c.args.self.now.links.ok)))))
