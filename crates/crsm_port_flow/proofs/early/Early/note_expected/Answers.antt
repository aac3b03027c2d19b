use Rattle.std.proofs.Common.{◌≡◌, ◌∙◌, ◌<◌, ◌≤◌, Some, ap, arith, inl, length, refl, subst, sym}
use Rattle.std.specs.Prelude.{slice_get}
use Rattle.crsm_port_flow.proofs.Earlies.{get_is, got_same, set_same}
use Rattle.crsm_port_flow.proofs.Pasts.{is_news}
use Rattle.crsm_port_flow.specs.declared.early.Link.{Link}
use Rattle.crsm_port_flow.proofs.early.Early.note_expected.Goals as goal

pub returns-then-next-expected-clause-learns : goal.returns-then-next-expected-clause-learns
returns-then-next-expected-clause-learns c =
    let links = c.args.self.now.links.items in
    let link = c.in-Some.link.now in
    inl (
      λ l at.
          let here = subst (λ k. slice_get links k ≡ Some l) (sym c.from.ensures) at in
          let same : link ≡ l = got_same links c.from.result l link here c.in-Some.ensures.value in (
            ap (λ (x : Link). x.epoch) (sym same) ∙ c.if-known-epoch.true,
            subst (λ (x : Link). c.args.next ≤ x.next) same c.if-next-expected.true,
          ),
      set_same links c.from.result link c.in-Some.ensures.value,
      refl,
    )

pub returns-clause-learns : goal.returns-clause-learns
returns-clause-learns c =
    let links = c.args.self.now.links.items in
    let frames = c.args.self.now.frames.items in
    let link = c.in-Some.link.now in
    let within : c.from.result < length links = omega (arith, c.in-Some.ensures.variant.0 refl, c.args.self.now.links.ok) in
    let there = get_is links c.from.result c.args.of link c.from.ensures within c.in-Some.ensures.value in
    is_news c.args.of c.args.epoch c.args.next c.least_kept.result c.from.result link links _ frames c.forget.new.self.frames.items there c.from.ensures c.least_kept.ensures (ap (λ v. v.items) c.forget.ensures.links)
    c.forget.ensures.lost c.forget.ensures.gone
