use Rattle.std.proofs.Common.{◌∙◌, ◌<◌, ◌≤◌, ℕ, ap, inl, set, subst}
use Rattle.std.specs.Prelude.{◌==◌, if◌then◌else◌}
use Rattle.crsm_port_flow.specs.Early.{after}
use Rattle.crsm_port_flow.specs.Windows.{link_of, under_way}
use Rattle.crsm_port_flow.specs.declared.window.Window.{Window}
use Rattle.crsm_port_flow.proofs.window.Window.note_next.Goals as goal

-- the window, by the values that are put in it
abbrev put : Window → (place used since sent : ℕ) → Window
put w place used since sent = record w { links = set w.links place (record { sent = sent; acknowledged = (link_of w place).acknowledged }); used = used; since = since }

pub returns : goal.returns
returns c =
    let w = c.args.self.now in
    let at = c.from-place.ensures in
    let used = λ (k : ℕ). if (link_of w k).sent == 0 then after w.used else w.used in
    let since = λ (k : ℕ). if under_way (link_of w k) == 0 then c.args.now else w.since in
    inl (
      subst (λ (k : ℕ). k < 15) at c.if-place-ge-REPLICAS.false,
      subst (λ (k : ℕ). (link_of w k).sent ≤ c.args.number) at c.if-number-link.false,
      ap (λ (k : ℕ). put w k c.used_after-self.result c.since_after-self.result c.saturating_add.result) at
          ∙ ap (λ (u : ℕ). put w c.args.to u c.since_after-self.result c.saturating_add.result) (c.used_after-self.ensures ∙ ap used at)
          ∙ ap (λ (s : ℕ). put w c.args.to (used c.args.to) s c.saturating_add.result) (c.since_after-self.ensures ∙ ap since at)
          ∙ ap (λ (n : ℕ). put w c.args.to (used c.args.to) (since c.args.to) n) c.saturating_add.ensures,
    )
