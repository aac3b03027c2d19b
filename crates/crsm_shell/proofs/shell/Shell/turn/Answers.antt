use Rattle.std.proofs.Common.{◌≡◌, ℕ, List, [], ◌∷◌, ◌++◌, refl, sym, ◌∙◌, ap, subst, Bool, true, false}
use Rattle.std.specs.Prelude.{Result, Ok, Err}
use Rattle.std.proofs.lemmas.Result.{err_from_is_err_and}
use Rattle.crsm_spec.specs.World.{body_size}
use Rattle.crsm_core.specs.Core.{Answers}
use Rattle.crsm_disk.specs.Meaning.{Same}
use Rattle.crsm_replica_io.specs.Input.{TakesInput}
use Rattle.crsm_replica_io.specs.Outgoing.{packets_for}
use Rattle.crsm_shell.specs.declared.errors.TurnError.{TurnError}
use Rattle.crsm_shell.specs.declared.errors.TurnError.TheVariants as errors
use Rattle.crsm_shell.specs.declared.turned.TurnResult.{TurnResult}
use Rattle.crsm_shell.specs.Flushing.{SendsPackets}
use Rattle.crsm_shell.specs.Shell.{ShellStands, sends_of}
use Rattle.crsm_shell.specs.Taking.{heard_in, most_received, step_of, turn_of}
use Rattle.crsm_shell.specs.Turning.{Loses}
use Rattle.crsm_shell.specs.Words.{buffer_of, disk_of, peers_of}
use Rattle.crsm_shell.proofs.Groups.{inside}
use Rattle.crsm_shell.proofs.Turns.{fails_to_flush, flush_read, flush_unsent, if_err, keeps_group, spared, take_loses, take_unsent, untouched}
use Rattle.crsm_shell.proofs.shell.Shell.turn.Goals as goal

abbrev failing : TurnError → Result (Unit {0}) TurnError
failing why = Err why

same_err : (a b : TurnError) → failing a ≡ failing b → a ≡ b
same_err a b is = cc

abbrev stopping : TurnError → Result TurnResult TurnError
stopping why = Err why

same_turn : (a b : TurnError) → stopping a ≡ stopping b → a ≡ b
same_turn a b is = cc

-- what cannot be
both : (b : Bool) → b ≡ true → b ≡ false → ⊥
both b is other = cc

-- ---- the flush leaves the buffer as the step was taken of it

pub returns-clause-stands : goal.returns-clause-stands
returns-clause-stands g c kept r steps s =
    let t = c.in_ok-turned.turned in
    let new = c.flush.new.self in
    let m = g.D.Disk.meaning (disk_of new) in
    let made = c.in_ok-turned.ensures.stands kept r steps s in
    let x = step_of (buffer_of c.take.new.self) r t in
    let same = sym c.flush.ensures.buffer in record {
      answers = subst (λ (b : List ℕ). Answers t.batch (step_of b r t)) same made.answers;
      stands = subst (λ (b : List ℕ). ShellStands new m (step_of b r t).replica.log (step_of b r t).replica []) same
          (c.in_ok-flush.ensures.stands kept x.replica (steps ++ x ∷ []) made.stands);
      size = subst (λ (b : List ℕ). t.size ≡ body_size (step_of b r t).batch) same made.size;
    }

pub returns-clause-kept : goal.returns-clause-kept
returns-clause-kept g c kept r steps s =
    let t = c.in_ok-turned.turned in
    let mid = c.take.new.self in
    let made = c.in_ok-turned.ensures.stands kept r steps s in
    let x = step_of (buffer_of mid) r t in
    let e = c.in_ok-flush.ensures in
    let all = steps ++ x ∷ [] in
    keeps_group g.D.Disk.meaning c.args.self.now mid c.flush.new.self c.take.ensures.gate c.take.ensures.disk c.flush.ensures.buffer kept r steps t (record {
      calls = e.calls kept x.replica all made.stands;
      quiet = e.quiet kept x.replica all made.stands;
      plan = e.plan kept x.replica all made.stands;
      fits = λ honest full. (e.not_full kept x.replica all made.stands honest full).0;
      added = e.added kept x.replica all made.stands;
      left = e.left kept x.replica all made.stands;
      any_moment = e.any_moment kept x.replica all made.stands;
    })

pub returns-clause-received : goal.returns-clause-received
returns-clause-received g c =
    let t = c.in_ok-turned.turned in
    subst (λ (b : List ℕ). t.received ≡ heard_in (turn_of b t.taken)) (sym c.flush.ensures.buffer) c.in_ok-turned.ensures.received

pub returns-clause-port : goal.returns-clause-port
returns-clause-port g c kept r steps s =
    let t = c.in_ok-turned.turned in
    let mid = c.take.new.self in
    let between = g.P.Port.meaning c.take.new.port in
    let after = g.P.Port.meaning c.flush.new.port in
    let made = c.in_ok-turned.ensures.stands kept r steps s in
    let x = step_of (buffer_of mid) r t in
    let same = sym c.flush.ensures.buffer in
    let sent = subst (λ (ps : List ℕ). SendsPackets (packets_for ps (sends_of (steps ++ x ∷ []))) between after) c.take.ensures.peers
    (c.in_ok-flush.ensures.sent kept x.replica (steps ++ x ∷ []) made.stands) in
    record {
      between = between;
      taken = subst (λ (b : List ℕ). TakesInput c.args.what most_received b (g.P.Port.meaning c.args.port.now) between (Ok t.taken)) same c.in_ok-turned.ensures.port;
      sent = subst (λ (b : List ℕ). SendsPackets (packets_for (peers_of c.args.self.now) (sends_of (steps ++ step_of b r t ∷ []))) between after) same sent;
    }

-- ---- the take failed

pub returns-in_err-turned-clause-unsent : goal.returns-in_err-turned-clause-unsent
returns-in_err-turned-clause-unsent g c =
    let p = err_from_is_err_and c.from_residual.result c.from_residual.ensures.1 in
    take_unsent c.args.what (buffer_of c.take.new.self) (g.P.Port.meaning c.args.port.now) (g.P.Port.meaning c.take.new.port) _ _ _ p.1 p.2 c.in_err-turned.ensures.port

pub returns-in_err-turned-clause-lost : goal.returns-in_err-turned-clause-lost
returns-in_err-turned-clause-lost g c =
    let p = err_from_is_err_and c.from_residual.result c.from_residual.ensures.1 in
    let old = c.args.self.now in
    let m = g.D.Disk.meaning (disk_of old) in
    let ahead = g.C.Clock.readings c.args.clock.now in
    let later = g.C.Clock.readings c.take.new.clock in
    let before = g.P.Port.meaning c.args.port.now in
    let after = g.P.Port.meaning c.take.new.port in
    if_err (Loses g.D.Disk.meaning old c.take.new.self c.args.what ahead later before after) _ p.0 _ p.1 p.2 (λ kind kept r steps s.
    take_loses g.D.Disk.meaning old c.take.new.self c.take.ensures.disk kept r steps s (λ honest. old.log.sound honest (old.well (inside old m kept r steps s).well))
    c.args.what ahead later before after _ c.in_err-turned.ensures.port c.in_err-turned.ensures.clock kind)

pub returns-in_err-turned-clause-usable : goal.returns-in_err-turned-clause-usable
returns-in_err-turned-clause-usable g c is kept r steps s =
    let p = err_from_is_err_and c.from_residual.result c.from_residual.ensures.1 in
    let old = c.args.self.now in
    let m = g.D.Disk.meaning (disk_of old) in
    record {
      stands = c.in_err-turned.ensures.usable (ap stopping (sym p.2 ∙ same_turn p.0 errors.PortFault (sym p.1 ∙ is))) kept r steps s;
      disk = c.take.ensures.disk;
      any_moment = spared g.D.Disk.meaning old c.take.new.self c.take.ensures.disk kept r steps s (λ honest. old.log.sound honest (old.well (inside old m kept r steps s).well));
    }

pub returns-in_err-turned-clause-unwritten : goal.returns-in_err-turned-clause-unwritten
returns-in_err-turned-clause-unwritten g c is other = untouched g.D.Disk.meaning c.args.self.now c.take.new.self c.take.ensures.disk

-- ---- the flush failed

pub returns-in_err-flush-clause-unsent : goal.returns-in_err-flush-clause-unsent
returns-in_err-flush-clause-unsent g c =
    let p = err_from_is_err_and c.from_residual-in_err-flush.result c.from_residual-in_err-flush.ensures.1 in
    let t = c.in_ok-turned.turned in
    let before = g.P.Port.meaning c.args.port.now in
    let between = g.P.Port.meaning c.take.new.port in
    flush_unsent c.args.what (buffer_of c.flush.new.self) before (g.P.Port.meaning c.flush.new.port) _ _ _ p.1 p.2 (λ is. c.in_err-flush.ensures.no_port_fault (ap failing is))
    (λ is. both c.take.new.self.failed (c.in_err-flush.ensures.failed.0 (ap failing is)) c.in_ok-turned.ensures.lasting) (record {
      input = t.taken;
      between = between;
      taken = subst (λ (b : List ℕ). TakesInput c.args.what most_received b before between (Ok t.taken)) (sym c.flush.ensures.buffer) c.in_ok-turned.ensures.port;
      unsent = c.in_err-flush.ensures.unsent;
    })

pub returns-in_err-flush-clause-clock : goal.returns-in_err-flush-clause-clock
returns-in_err-flush-clause-clock g c =
    let p = err_from_is_err_and c.from_residual-in_err-flush.result c.from_residual-in_err-flush.ensures.1 in
    flush_read (g.C.Clock.readings c.args.clock.now) (g.C.Clock.readings c.take.new.clock) c.in_ok-turned.turned _ _ _ p.1 p.2 (λ is. c.in_err-flush.ensures.no_port_fault (ap failing is))
    (λ is. both c.take.new.self.failed (c.in_err-flush.ensures.failed.0 (ap failing is)) c.in_ok-turned.ensures.lasting) c.in_ok-turned.ensures.clock

pub returns-in_err-flush-clause-lost : goal.returns-in_err-flush-clause-lost
returns-in_err-flush-clause-lost g c =
    let p = err_from_is_err_and c.from_residual-in_err-flush.result c.from_residual-in_err-flush.ensures.1 in
    let old = c.args.self.now in
    let t = c.in_ok-turned.turned in
    let mid = c.take.new.self in
    let ahead = g.C.Clock.readings c.args.clock.now in
    let later = g.C.Clock.readings c.take.new.clock in
    let before = g.P.Port.meaning c.args.port.now in
    let between = g.P.Port.meaning c.take.new.port in
    let after = g.P.Port.meaning c.flush.new.port in
    let e = c.in_err-flush.ensures in
    if_err (Loses g.D.Disk.meaning old c.flush.new.self c.args.what ahead later before after) _ p.0 _ p.1 p.2 (λ kind kept r steps s.
    let made = c.in_ok-turned.ensures.stands kept r steps s in
    let x = step_of (buffer_of mid) r t in
    let all = steps ++ x ∷ [] in
    record {
      reading = t.reading;
      gives = c.in_ok-turned.ensures.clock;
      took = record {
        input = t.taken;
        between = between;
        taken = subst (λ (b : List ℕ). TakesInput c.args.what most_received b before between (Ok t.taken)) (sym c.flush.ensures.buffer) c.in_ok-turned.ensures.port;
        unsent = e.unsent;
      };
      fails = fails_to_flush g.D.Disk.meaning old mid c.flush.new.self c.take.ensures.gate c.take.ensures.disk c.flush.ensures.buffer kept r steps t _ (record {
        stopped = λ is. e.stopped kept x.replica all made.stands (ap failing is);
        unwritten = λ other. e.unwritten refl (λ is. other (same_err _ errors.DiskFault is));
        full = λ honest is. e.full kept x.replica all made.stands honest (ap failing is);
        fits = λ honest is full. (e.not_full kept x.replica all made.stands honest full).1 (ap failing is);
        left = e.left kept x.replica all made.stands;
        any_moment = e.any_moment kept x.replica all made.stands;
      });
    })

pub returns-in_err-flush-clause-usable : goal.returns-in_err-flush-clause-usable
returns-in_err-flush-clause-usable g c is kept r steps s =
    let p = err_from_is_err_and c.from_residual-in_err-flush.result c.from_residual-in_err-flush.ensures.1 in
    absurd (c.in_err-flush.ensures.no_port_fault (ap failing (sym p.2 ∙ same_turn p.0 errors.PortFault (sym p.1 ∙ is))))

pub returns-in_err-flush-clause-unwritten : goal.returns-in_err-flush-clause-unwritten
returns-in_err-flush-clause-unwritten g c is other =
    let p = err_from_is_err_and c.from_residual-in_err-flush.result c.from_residual-in_err-flush.ensures.1 in
    let m' = g.D.Disk.meaning (disk_of c.flush.new.self) in
    subst (λ (d : g.row.D.Denot). Same (g.D.Disk.meaning d) m') c.take.ensures.disk
    (c.in_err-flush.ensures.unwritten refl (λ same. other (p.1 ∙ ap stopping (p.2 ∙ same_err _ errors.DiskFault same))))
