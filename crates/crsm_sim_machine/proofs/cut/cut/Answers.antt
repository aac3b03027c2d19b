use Rattle.std.proofs.Common.{◌≡◌, [], ◌∷◌, Bool, true, false, cond, sym, ◌∙◌, ap, subst}
use Rattle.std.proofs.Math.Logic.{∥∥₁_map}
use Rattle.crsm_spec.specs.Node.{turn}
use Rattle.crsm_sim_machine.specs.Arriving.{turn_of}
use Rattle.crsm_sim_machine.specs.Outcomes.{is_cut_kept}
use Rattle.crsm_sim_machine.specs.States.{IsDisk}
use Rattle.crsm_sim_machine.proofs.cut.cut.Goals as goal

pub returns-then-is_kept_at-clause-stands : goal.returns-then-is_kept_at-clause-stands
returns-then-is_kept_at-clause-stands c me n r up =
    let x = turn r (turn_of c.args.arrival, c.args.reading) in
    let stop = c.args.stop in
    let made = c.in-Ok.ensures.stands me n r.log r [] up in
    let kept : is_cut_kept stop.calls stop.fill x ≡ true = sym (c.is_kept_at.ensures x made.0.batch.made.records) ∙ c.if-is_kept_at.true in
    let disk = c.in-Ok-stopped_disk.ensures.stands me n r.log x made.2 made.1 in (
      kept,
      made.0,
      record {
        left = subst (λ l. IsDisk me n c.in-Ok-stopped_disk.disk l) (ap (λ (b : Bool). cond b x.replica.log r.log) kept) disk;
        summary = c.summary_of-after.ensures x.replica.me x.replica.n x.replica.log (c.state-2.ensures r.log x.replica (x ∷ []) made.2.stands);
      },
    )

pub returns-clause-stands : goal.returns-clause-stands
returns-clause-stands c me n r up =
    let x = turn r (turn_of c.args.arrival, c.args.reading) in
    let stop = c.args.stop in
    let made = c.in-Ok.ensures.stands me n r.log r [] up in
    let lost : is_cut_kept stop.calls stop.fill x ≡ false = sym (c.is_kept_at.ensures x made.0.batch.made.records) ∙ c.if-is_kept_at.false in
    let disk = c.in-Ok-stopped_disk.ensures.stands me n r.log x made.2 made.1 in (
      lost,
      record {
        left = subst (λ l. IsDisk me n c.in-Ok-stopped_disk.disk l) (ap (λ (b : Bool). cond b x.replica.log r.log) lost) disk;
        summary = c.summary_of-before.ensures r.me r.n r.log (c.state.ensures r.log r [] up.stands);
      },
    )

-- ---- some log is on the disk, whatever pended

pub stopped_disk-requires-clause-up : goal.stopped_disk-requires-clause-up
stopped_disk-requires-clause-up c =
    ∥∥₁_map c.requires.up
    (λ up. (up.0, up.1, record { kept = up.2.kept; replica = _; steps = _; is = (c.in-Ok.ensures.stands up.0 up.1 up.2.kept up.2.replica up.2.steps up.2.is).2 }))

pub returns-then-is_kept_at-clause-some : goal.returns-then-is_kept_at-clause-some
returns-then-is_kept_at-clause-some c me n h =
    let some = c.in-Ok-stopped_disk.ensures.log me n (record { kept = h.kept; replica = _; steps = _; is = (c.in-Ok.ensures.stands me n h.kept h.replica h.steps h.is).2 }) in
    record { log = some.log; has = some.on_disk }

pub returns-clause-some : goal.returns-clause-some
returns-clause-some c me n h =
    let some = c.in-Ok-stopped_disk.ensures.log me n (record { kept = h.kept; replica = _; steps = _; is = (c.in-Ok.ensures.stands me n h.kept h.replica h.steps h.is).2 }) in
    record { log = some.log; has = some.on_disk }
