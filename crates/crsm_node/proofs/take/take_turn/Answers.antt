use Rattle.std.proofs.Common.{◌≡◌, ◌++◌, ◌∙◌, ℕ, List, Bool, true, false, IfErr, Err, sym, ap, subst, inr}
use Rattle.std.proofs.lemmas.Result.{err_from_is_err_and}
use Rattle.std.specs.Prelude.{Option, Result}
use Rattle.crsm_replica_detector.specs.Detector.{DetectorStands}
use Rattle.crsm_replica_detector.specs.Watching.{Watch, heard_at, watched}
use Rattle.crsm_replica_detector.specs.Wished.{chosen, with_turn}
use Rattle.crsm_shell.specs.Shell.{ShellStands}
use Rattle.crsm_shell.specs.Taking.{turn_of}
use Rattle.crsm_shell.specs.Words.{buffer_of, disk_of, has_failed}
use Rattle.crsm_shell.specs.declared.shell.Shell.{Shell}
use Rattle.crsm_shell.specs.declared.errors.TurnError.{TurnError}
use Rattle.crsm_shell.specs.declared.errors.TurnError.TheVariants as errors
use Rattle.crsm_shell.specs.declared.turned.TurnResult.{TurnResult}
use Rattle.crsm_node.specs.Errors.{turn_failure}
use Rattle.crsm_node.specs.Steps.{FailsToTake, turn_text}
use Rattle.crsm_node.specs.declared.errors.NodeError.{NodeError}
use Rattle.crsm_node.specs.declared.errors.NodeError.TheVariants as node_errors
use Rattle.crsm_shell.specs.Errors.{is_lasting}
use Rattle.crsm_node.proofs.Takings.{take_fails, took_as_wished}
use Rattle.crsm_node.proofs.take.take_turn.Goals as goal

both : (b : Bool) → b ≡ true → b ≡ false → ⊥
both b is other = cc

-- what is known of an error is known of the result that carries it
if_err : {A : Type 0} (P : NodeError → Type 0) (result : Result A NodeError) (e why : NodeError) → result ≡ Err e → e ≡ why → P why → IfErr result P
if_err {A = A} P result e why is same h = subst (λ (x : Result A NodeError). IfErr x P) (sym is) (subst P (sym same) h)

abbrev stopping : TurnError → Result TurnResult TurnError
stopping why = Err why

not_failed : {D : Type 0} {g : _} (shell : Shell D g) (m : _) (kept : _) (r : _) (steps : _) → ShellStands shell m kept r steps → has_failed shell ≡ false
unfolding ShellStands
not_failed shell m kept r steps s = s.well

pub returns-in_err-turned-clause-failed : goal.returns-in_err-turned-clause-failed
returns-in_err-turned-clause-failed g c kept r steps s me w watches same =
    let p = err_from_is_err_and c.from_residual-in_err-turned.result c.from_residual-in_err-turned.ensures.1 in
    let m = g.D.Disk.meaning (disk_of c.take.new.self) in
    let ahead = g.C.Clock.readings c.args.clock.now in
    let later = g.C.Clock.readings c.take.new.clock in
    let old = g.P.Port.meaning c.args.port.now in
    let between = g.P.Port.meaning c.poll_soon.new.port in
    let new = g.P.Port.meaning c.take.new.port in
    let lines = c.args.pending.now.lines in
    let wishes = c.in_ok-what.ensures.wished r.me w (subst (λ (k : ℕ). DetectorStands c.args.detector.now k w) same watches) r.n r.log (c.state.ensures kept r steps s) in
    if_err (FailsToTake c.take.new.self m c.next.new.self ahead later old new lines lines kept r steps w) _ p.0 _ p.1 p.2
    (take_fails c.take.new.self m c.next.new.self ahead later lines kept r steps w (buffer_of c.take.new.self) c.inputs_are_wished.ensures.fulfils
    c.in_ok-what.what wishes.wished old between new c.poll_soon.ensures c.in_err-turned.field-0.0 c.in_err-turned.ensures.port c.in_err-turned.ensures.clock c.in_err-turned.ensures.typed c.has_members.ensures
    (λ is. both (has_failed c.args.shell.now) (c.in_err-turned.ensures.failed.0 (ap stopping is)) (not_failed c.args.shell.now (g.D.Disk.meaning (disk_of c.args.shell.now)) kept r steps s))
    (λ is. c.in_err-turned.ensures.usable (ap stopping is) kept r steps s) wishes.stands)

pub returns-in_err-add-clause-failed : goal.returns-in_err-add-clause-failed
returns-in_err-add-clause-failed g c kept r steps s me w watches same =
    let p = err_from_is_err_and c.from_residual-in_err-add.result c.from_residual-in_err-add.ensures.1 in
    let t = c.in_ok-turned.turned in
    let m = g.D.Disk.meaning (disk_of c.take.new.self) in
    let ahead = g.C.Clock.readings c.args.clock.now in
    let later = g.C.Clock.readings c.take.new.clock in
    let old = g.P.Port.meaning c.args.port.now in
    let between = g.P.Port.meaning c.poll_soon.new.port in
    let new = g.P.Port.meaning c.take.new.port in
    let wishes = c.in_ok-what.ensures.wished r.me w (subst (λ (k : ℕ). DetectorStands c.args.detector.now k w) same watches) r.n r.log (c.state.ensures kept r steps s) in
    if_err (FailsToTake c.take.new.self m c.note.new.detector ahead later old new c.args.pending.now.lines c.add.new.self.lines kept r steps w) _ p.0 _ p.1 p.2
    (inr (
      (turn_of (buffer_of c.take.new.self) t.taken, t.reading),
      took_as_wished c.inputs_are_wished.ensures.fulfils r w c.in_ok-what.what wishes.wished (buffer_of c.take.new.self) ahead later old between new c.poll_soon.ensures
          t.taken t.reading c.in_ok-turned.ensures.typed.1 c.has_members.ensures c.in_ok-turned.ensures.typed.0 c.in_ok-turned.ensures.port c.in_ok-turned.ensures.clock,
    ))

pub returns-clause-took : goal.returns-clause-took
returns-clause-took g c kept r steps s me w watches same =
    let t = c.in_ok-turned.turned in
    let shell = c.take.new.self in
    let buffer : List ℕ = buffer_of shell in
    let ahead = g.C.Clock.readings c.args.clock.now in
    let later = g.C.Clock.readings c.take.new.clock in
    let old = g.P.Port.meaning c.args.port.now in
    let between = g.P.Port.meaning c.poll_soon.new.port in
    let new = g.P.Port.meaning c.take.new.port in
    let what = c.in_ok-what.what in
    let wishes = c.in_ok-what.ensures.wished r.me w (subst (λ (k : ℕ). DetectorStands c.args.detector.now k w) same watches) r.n r.log (c.state.ensures kept r steps s) in
    let made = c.in_ok-turned.ensures.stands kept r steps s in
    let took = took_as_wished c.inputs_are_wished.ensures.fulfils r w what wishes.wished buffer ahead later old between new c.poll_soon.ensures t.taken t.reading c.in_ok-turned.ensures.typed.1 c.has_members.ensures c.in_ok-turned.ensures.typed.0 c.in_ok-turned.ensures.port c.in_ok-turned.ensures.clock in
    let noted : DetectorStands c.note.new.detector r.me (with_turn (turn_of buffer t.taken) (heard_at t.received t.reading (chosen what w))) = c.note.ensures r.me (chosen what w) wishes.stands buffer in
    let heard : DetectorStands c.note.new.detector r.me (watched w (turn_of buffer t.taken, t.reading)) =
    subst (λ (v : Watch). DetectorStands c.note.new.detector r.me v) (c.turns_are_watched.ensures w what (turn_of buffer t.taken) t.reading (c.inputs_are_wished.ensures.fulfils what _ buffer between new t.taken c.in_ok-turned.ensures.port))
    (subst (λ (from : Option ℕ). DetectorStands c.note.new.detector r.me (with_turn (turn_of buffer t.taken) (heard_at from t.reading (chosen what w)))) c.in_ok-turned.ensures.received noted) in
    record {
      t = (turn_of buffer t.taken, t.reading);
      took = took;
      stands = made.stands;
      watches = subst (λ (k : ℕ). DetectorStands c.note.new.detector k (watched w (turn_of buffer t.taken, t.reading))) (sym made.me) heard;
      prints = c.in_ok-add.ensures ∙ ap (λ (b : List ℕ). c.args.pending.now.lines ++ turn_text (turn_of b t.taken, t.reading)) c.buffer-buffer.ensures.value;
      kind = c.is_datagram-took_datagram.ensures buffer t.reading;
    }

abbrev ending : NodeError → Result Bool NodeError
ending why = Err why

same_end : (a b : NodeError) → ending a ≡ ending b → a ≡ b
same_end a b is = cc

-- only a fault of the port spares the shell
spares : (why : TurnError) (f : Bool) → f ≡ is_lasting why → turn_failure why ≡ node_errors.PortFault → f ≡ false
spares errors.PortFault f is same = is
spares errors.DiskFault f is same = cc
spares errors.LogFull f is same = cc
spares errors.Failed f is same = cc
spares errors.NoMemory f is same = cc

pub returns-in_err-turned-clause-spared : goal.returns-in_err-turned-clause-spared
returns-in_err-turned-clause-spared g c is =
    let p = err_from_is_err_and c.from_residual-in_err-turned.result c.from_residual-in_err-turned.ensures.1 in
    spares c.in_err-turned.field-0.0 (has_failed c.take.new.self) c.in_err-turned.ensures.lasting (sym p.2 ∙ same_end p.0 node_errors.PortFault (sym p.1 ∙ is))
