use Rattle.std.proofs.Common.{◌≡◌, ◌∙◌, ◌<◌, ℕ, Some, ap, arith, length, refl, set, subst, sym}
use Rattle.std.specs.Prelude.{slice_get}
use Rattle.crsm_port_flow.proofs.Earlies.{get_is, got_same, set_same}
use Rattle.crsm_port_flow.specs.Early.{Waits, after}
use Rattle.crsm_port_flow.specs.declared.early.Link.{Link}
use Rattle.crsm_port_flow.proofs.early.Early.take_next.Goals as goal

pub returns-in_err-datagram-clause-none : goal.returns-in_err-datagram-clause-none
returns-in_err-datagram-clause-none c = λ _.
    let links = c.args.self.now.links.items in
    let frames = c.args.self.now.frames.items in
    let link = c.in_ok-link.link.now in
    let (same, none) = c.in_err-datagram.ensures.none refl in (
      λ l at waits.
          let here = subst (λ (k : ℕ). slice_get links k ≡ Some l) (sym c.from.ensures) at in
          let is : link ≡ l = got_same links c.from.result l link here c.in_ok-link.ensures.value in
          none (subst (λ (x : Link). Waits c.args.from x.next frames) (sym is) waits),
      set_same links c.from.result link c.in_ok-link.ensures.value,
      same,
    )

pub returns-clause-next : goal.returns-clause-next
returns-clause-next c =
    let links = c.args.self.now.links.items in
    let link = c.in_ok-link.link.now in
    let k = c.from.result in
    let within : k < length links = omega (arith, c.in_ok-link.ensures.variant.0 refl, c.args.self.now.links.ok) in
    let moved_on : Link = record link { next = after link.next } in (
      link,
      get_is links k c.args.from link c.from.ensures within c.in_ok-link.ensures.value,
      c.in_ok-datagram.ensures.was,
      ap (λ (n : ℕ). let moved : Link = record link { next = n } in set links k moved) c.saturating_add-link.ensures ∙ ap (λ (i : ℕ). set links i moved_on) c.from.ensures,
      c.in_ok-datagram.ensures.gone refl,
    )
