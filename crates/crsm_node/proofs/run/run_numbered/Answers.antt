use Rattle.std.proofs.Common.{◌≡◌, ◌∙◌, ℕ, inl, sym, ap, subst}
use Rattle.std.specs.Borrow.{MutBor}
use Rattle.std.specs.Prelude.{Option, Some}
use Rattle.crsm_node.specs.Running.{RunsNumbered, devices_of, unlent_disk, unlent_port}
use Rattle.crsm_node.proofs.Clustered.{over_port}
use Rattle.crsm_node.proofs.run.run_numbered.Goals as goal

abbrev name : ℕ → Option ℕ
name k = Some k

same_some : (a b : ℕ) → name a ≡ name b → a ≡ b
same_some a b is = cc

pub returns : goal.returns
returns g c =
    let order = c.args.order.now in
    let over = c.in-Ok.over in
    let after = c.run_over-end.new.port in
    let made = c.in-Ok.ensures.made in
    let e = c.run_over-end.ensures in
    let at = devices_of g.D.Disk.meaning g.P.Port.meaning g.C.Clock.readings g.O.Sink.written g.O.Sink.faults in
    let lender : over.inner.ghost_name ≡ c.new-arg-1.given = ap (λ (p : MutBor g.row.P.Denot). p.ghost_name) made.0 in
    let borrowed_as : over.inner.now ≡ c.args.port.now = ap (λ (p : MutBor g.row.P.Denot). p.now) made.0 in
    let home : c.port-2-1.given.0 ≡ after.inner.now =
    c.port-2-1.given.1 (sym lender ∙ sym (same_some after.inner.ghost_name over.inner.ghost_name e.borrowed_as) ∙ ap (λ (p : MutBor g.row.P.Denot). p.ghost_name) (sym c.into_inner-port.ensures))
    ∙ ap (λ (p : MutBor g.row.P.Denot). p.now) c.into_inner-port.ensures in
    let runs = over_port order c.run_over-end.result (unlent_disk (g.D.Disk.meaning c.args.disk.now)) (unlent_disk (g.D.Disk.meaning c.run_over-end.new.disk)) (g.C.Clock.readings c.args.clock.now) (g.C.Clock.readings c.run_over-end.new.clock)
    (g.O.Sink.written c.args.sheet.now) (g.O.Sink.written c.run_over-end.new.sheet) (g.O.Sink.faults c.args.sheet.now) (g.O.Sink.faults c.run_over-end.new.sheet)
    (unlent_port (g.P.Port.meaning over.inner.now)) (unlent_port (g.P.Port.meaning after.inner.now)) over.cluster after.cluster over.too_long after.too_long made.1 made.2 e.too_long e.framing e.runs in
    subst (λ (x : g.row.P.Denot). RunsNumbered order (at c.args.disk.now c.args.port.now c.args.clock.now c.args.sheet.now) (at c.run_over-end.new.disk x c.run_over-end.new.clock c.run_over-end.new.sheet) c.run_over-end.result) (sym home)
    (subst (λ (x : g.row.P.Denot). RunsNumbered order (at c.args.disk.now x c.args.clock.now c.args.sheet.now) (at c.run_over-end.new.disk after.inner.now c.run_over-end.new.clock c.run_over-end.new.sheet) c.run_over-end.result) borrowed_as
    (inl runs))
