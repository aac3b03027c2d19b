use Rattle.std.proofs.Common.{◌≡◌, IsTrue, ℕ, List, refl, sym, ◌∙◌, ap, subst, Bool, true, false}
use Rattle.std.specs.Prelude.{Result, Ok, Err, OnOk}
use Rattle.std.proofs.lemmas.Result.{err_from_is_err_and}
use Rattle.crsm_base.specs.Records.{body_bytes}
use Rattle.crsm_disk.specs.Meaning.{LeavesOnly}
use Rattle.crsm_log.specs.Format.{bodies_of}
use Rattle.crsm_log.specs.Log.{Used, recorded}
use Rattle.crsm_log.specs.Words as logs
use Rattle.crsm_port.specs.Meaning.{Packet}
use Rattle.crsm_replica_io.specs.Outgoing.{packets_for}
use Rattle.crsm_shell.specs.declared.errors.TurnError.{TurnError}
use Rattle.crsm_shell.specs.declared.errors.TurnError.TheVariants as errors
use Rattle.crsm_shell.specs.Flushing.{Adds, IsLeft, SendsPackets, keep_calls, keep_count}
use Rattle.crsm_shell.specs.Shell.{ShellStands, records_of, sends_of}
use Rattle.crsm_shell.specs.Words.{disk_of, gate_of}
use Rattle.crsm_shell.proofs.Files.{no_body}
use Rattle.crsm_shell.proofs.Groups.{full_at, inside, kept_all, left_alone, left_bodies, left_one, past_at, stops_flush}
use Rattle.crsm_shell.proofs.Ports.{sends_packets}
use Rattle.crsm_shell.proofs.shell.Shell.flush.Goals as goal

-- what cannot be
both : (b : Bool) → b ≡ true → b ≡ false → ⊥
both b is other = cc

abbrev failing : TurnError → Result (Unit {0}) TurnError
failing why = Err why

same_err : (a b : TurnError) → failing a ≡ failing b → a ≡ b
same_err a b is = cc

no_err : (u : Unit {0}) (e : TurnError) → Ok u ≡ Err e → ⊥
no_err u e is = cc

pub returns-then-self-clause-any_moment : goal.returns-then-self-clause-any_moment
returns-then-self-clause-any_moment g c kept r steps s honest =
    absurd (both c.args.self.now.failed c.if-self.true (inside c.args.self.now (g.D.Disk.meaning (disk_of c.args.self.now)) kept r steps s).well)

pub returns-in_err-make_room-clause-any_moment : goal.returns-in_err-make_room-clause-any_moment
returns-in_err-make_room-clause-any_moment g c kept r steps s honest =
    let old = c.args.self.now in
    let m = g.D.Disk.meaning (disk_of old) in
    left_alone old m kept r steps s honest (gate_of old) (old.log.sound honest (old.well c.if-self.false))

pub returns-in_err-keep-clause-quiet : goal.returns-in_err-keep-clause-quiet
returns-in_err-keep-clause-quiet g c kept r steps s none =
    let old = c.args.self.now in
    let is = c.as_slice.ensures ∙ (inside old (g.D.Disk.meaning (disk_of old)) kept r steps s).body in
    ap (logs.disk_of {D = g.row.D.Denot} {g = g.D.Disk}) (c.in_err-keep.ensures.quiet (is ∙ no_body (records_of steps) none))

pub returns-in_err-keep-clause-any_moment : goal.returns-in_err-keep-clause-any_moment
returns-in_err-keep-clause-any_moment g c kept r steps s honest =
    let old = c.args.self.now in
    let m = g.D.Disk.meaning (disk_of old) in
    let is = c.as_slice.ensures ∙ (inside old m kept r steps s).body in
    left_one old m kept r steps s honest (g.D.Disk.meaning (logs.disk_of c.keep.new.log)) c.as_slice.result.now is (c.in_err-keep.ensures.not_kept.any_moment honest)

pub returns-in_err-keep-clause-stopped : goal.returns-in_err-keep-clause-stopped
returns-in_err-keep-clause-stopped g c kept r steps s fault =
    let old = c.args.self.now in
    let m = g.D.Disk.meaning (disk_of old) in
    let is = c.as_slice.ensures ∙ (inside old m kept r steps s).body in
    let p = err_from_is_err_and c.from_residual-in_err-keep.result c.from_residual-in_err-keep.ensures.1 in
    let why = sym p.2 ∙ same_err p.0 errors.DiskFault (sym p.1 ∙ fault) in
    let k = c.in_err-keep.ensures.not_kept in
    stops_flush old m kept r steps s (g.D.Disk.meaning (logs.disk_of c.keep.new.log)) (gate_of old) c.as_slice.result.now is k.some (k.stops why)

pub returns-in_err-keep-clause-full : goal.returns-in_err-keep-clause-full
returns-in_err-keep-clause-full g c kept r steps s honest fault =
    let old = c.args.self.now in
    let m = g.D.Disk.meaning (disk_of old) in
    let is = c.as_slice.ensures ∙ (inside old m kept r steps s).body in
    let p = err_from_is_err_and c.from_residual-in_err-keep.result c.from_residual-in_err-keep.ensures.1 in
    let why = sym p.2 ∙ same_err p.0 errors.LogFull (sym p.1 ∙ fault) in
    full_at m (gate_of old) c.as_slice.result.now (body_bytes (records_of steps)) (old.log.sound honest (old.well c.if-self.false)) is (c.in_err-keep.ensures.not_kept.full why)

pub returns-in_err-keep-clause-not_full : goal.returns-in_err-keep-clause-not_full
returns-in_err-keep-clause-not_full g c kept r steps s honest full =
    let old = c.args.self.now in
    let m = g.D.Disk.meaning (disk_of old) in
    let is = c.as_slice.ensures ∙ (inside old m kept r steps s).body in
    let past = past_at m (gate_of old) c.as_slice.result.now (body_bytes (records_of steps)) (old.log.sound honest (old.well c.if-self.false)) is full in
    let p = err_from_is_err_and c.from_residual-in_err-keep.result c.from_residual-in_err-keep.ensures.1 in (
      subst (λ (x : Result (Unit {0}) TurnError). OnOk x ⊥) (sym p.1) tt,
      λ fault. c.in_err-keep.ensures.not_kept.fits (sym p.2 ∙ same_err p.0 errors.DiskFault (sym p.1 ∙ fault)) past,
    )

pub returns-clause-stands : goal.returns-clause-stands
unfolding ShellStands records_of sends_of packets_for body_bytes
returns-clause-stands g c kept r steps s =
    let old = c.args.self.now in
    let m = g.D.Disk.meaning (disk_of old) in
    let m' = g.D.Disk.meaning (logs.disk_of c.keep.new.log) in
    let is = c.as_slice.ensures ∙ s.body in
    let k = c.in_ok-keep.ensures.kept in
    record {
      core = s.core;
      well = refl;
      body = c.clear.ensures;
      spelt = tt;
      outbox = c.clear-2.ensures;
      pending = refl;
      log = refl;
      file = λ honest. let was : IsTrue m.honest = sym k.goes.honest ∙ honest in kept_all old m kept r steps s was m'.seen c.as_slice.result.now is (k.added was);
    }

pub returns-clause-sent : goal.returns-clause-sent
returns-clause-sent g c kept r steps s =
    let old = c.args.self.now in
    let before = g.P.Port.meaning c.args.port.now in
    let ready = g.P.Port.meaning c.make_room.new.port in
    let after = g.P.Port.meaning c.send_all.new.port in
    subst (λ (packets : List Packet). SendsPackets packets before after) (inside old (g.D.Disk.meaning (disk_of old)) kept r steps s).outbox
    (sends_packets old.outbox before ready after c.make_room.ensures.same (λ p told. c.in_ok-make_room.ensures.plan.room p told) c.send_all.ensures)

pub returns-clause-calls : goal.returns-clause-calls
returns-clause-calls g c kept r steps s =
    let old = c.args.self.now in
    let m = g.D.Disk.meaning (disk_of old) in
    let is = c.as_slice.ensures ∙ (inside old m kept r steps s).body in
    c.in_ok-keep.ensures.kept.history ∙ ap (λ (b : List ℕ). recorded (keep_calls (gate_of old) b) m.history) is

pub returns-clause-plan : goal.returns-clause-plan
returns-clause-plan g c kept r steps s honest p told =
    let old = c.args.self.now in
    let m = g.D.Disk.meaning (disk_of old) in
    let m' = g.D.Disk.meaning (logs.disk_of c.keep.new.log) in
    let is = c.as_slice.ensures ∙ (inside old m kept r steps s).body in
    subst (λ (b : List ℕ). Used (keep_count b) p m'.plan) is (c.in_ok-keep.ensures.kept.plan p honest told)

pub returns-clause-quiet : goal.returns-clause-quiet
returns-clause-quiet g c kept r steps s none =
    let old = c.args.self.now in
    let is = c.as_slice.ensures ∙ (inside old (g.D.Disk.meaning (disk_of old)) kept r steps s).body in
    ap (logs.disk_of {D = g.row.D.Denot} {g = g.D.Disk}) (c.in_ok-keep.ensures.quiet (is ∙ no_body (records_of steps) none))

pub returns-clause-any_moment : goal.returns-clause-any_moment
returns-clause-any_moment g c kept r steps s honest =
    let old = c.args.self.now in
    let m = g.D.Disk.meaning (disk_of old) in
    let is = c.as_slice.ensures ∙ (inside old m kept r steps s).body in
    left_one old m kept r steps s honest (g.D.Disk.meaning (logs.disk_of c.keep.new.log)) c.as_slice.result.now is (c.in_ok-keep.ensures.kept.any_moment honest)

pub returns-clause-not_full : goal.returns-clause-not_full
returns-clause-not_full g c kept r steps s honest full =
    let old = c.args.self.now in
    let m = g.D.Disk.meaning (disk_of old) in
    let is = c.as_slice.ensures ∙ (inside old m kept r steps s).body in
    let past = past_at m (gate_of old) c.as_slice.result.now (body_bytes (records_of steps)) (old.log.sound honest (old.well c.if-self.false)) is full in
    (c.in_ok-keep.ensures.kept.fits past, λ fault. no_err tt errors.DiskFault fault)

pub returns-clause-added : goal.returns-clause-added
returns-clause-added g c kept r steps s honest =
    let old = c.args.self.now in
    let m = g.D.Disk.meaning (disk_of old) in
    let m' = g.D.Disk.meaning (logs.disk_of c.keep.new.log) in
    let is = c.as_slice.ensures ∙ (inside old m kept r steps s).body in
    subst (λ (b : List ℕ). Adds b m.seen m'.seen) is (c.in_ok-keep.ensures.kept.added honest)

pub returns-clause-left : goal.returns-clause-left
returns-clause-left g c kept r steps s honest =
    let old = c.args.self.now in
    let m = g.D.Disk.meaning (disk_of old) in
    let m' = g.D.Disk.meaning (logs.disk_of c.keep.new.log) in
    let is = c.as_slice.ensures ∙ (inside old m kept r steps s).body in
    subst (λ (b : List ℕ). LeavesOnly m m' (IsLeft (bodies_of m.seen) b)) is (c.in_ok-keep.ensures.kept.any_moment honest)

pub returns-in_err-keep-clause-left : goal.returns-in_err-keep-clause-left
returns-in_err-keep-clause-left g c kept r steps s honest =
    let old = c.args.self.now in
    let m = g.D.Disk.meaning (disk_of old) in
    let m' = g.D.Disk.meaning (logs.disk_of c.keep.new.log) in
    let is = c.as_slice.ensures ∙ (inside old m kept r steps s).body in
    subst (λ (b : List ℕ). LeavesOnly m m' (IsLeft (bodies_of m.seen) b)) is (c.in_err-keep.ensures.not_kept.any_moment honest)

pub returns-in_err-make_room-clause-left : goal.returns-in_err-make_room-clause-left
returns-in_err-make_room-clause-left g c kept r steps s honest =
    let old = c.args.self.now in
    let m = g.D.Disk.meaning (disk_of old) in
    left_bodies m (body_bytes (records_of steps)) (gate_of old) (old.log.sound honest (old.well c.if-self.false))

pub returns-then-self-clause-left : goal.returns-then-self-clause-left
returns-then-self-clause-left g c kept r steps s honest =
    absurd (both c.args.self.now.failed c.if-self.true (inside c.args.self.now (g.D.Disk.meaning (disk_of c.args.self.now)) kept r steps s).well)
