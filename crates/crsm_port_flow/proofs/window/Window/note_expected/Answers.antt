use Rattle.std.proofs.Common.{◌<◌, ◌≤◌, ℕ, ap, inl, set, subst}
use Rattle.crsm_port_flow.specs.Windows.{link_of}
use Rattle.crsm_port_flow.specs.declared.window.Window.{Window}
use Rattle.crsm_port_flow.proofs.window.Window.note_expected.Goals as goal

pub returns : goal.returns
returns c =
    let w = c.args.self.now in
    let at = c.from-place.ensures in
    inl (
      c.if-epoch-self.false,
      subst (λ (k : ℕ). k < 15) at c.if-place-ge-REPLICAS.false,
      subst (λ (k : ℕ). (link_of w k).acknowledged < c.args.next) at c.if-next-link.false,
      subst (λ (k : ℕ). c.args.next ≤ (link_of w k).sent) at c.if-next-link-2.false,
      ap (λ (k : ℕ). let put : Window = record w { links = set w.links k (record { sent = (link_of w k).sent; acknowledged = c.args.next }); since = c.args.now } in put) at,
    )
