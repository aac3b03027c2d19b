use Rattle.std.proofs.Common.{◌≡◌, ◌≢◌, ◌⊎◌, ◌↔◌, ◌+◌, ◌-◌, ◌<◌, ◌≤◌, ◌++◌, ◌∷◌, [], ◌∙◌, inl, inr, IsTrue, ℕ, List, Bool, true, false, refl, sym, ap, subst, arith, length, Err, append_assoc}
use Rattle.std.proofs.lemmas.List.{append-nil}
use Rattle.std.proofs.lemmas.Result.{err_from_is_err_and}
use Rattle.std.specs.Prelude.{Result, Ok}
use Rattle.crsm_disk.specs.Meaning.{Meaning as DiskMeaning}
use Rattle.crsm_spec_process.specs.Groups.{IsDatagram}
use Rattle.crsm_spec_process.specs.Lives.{kept_turns}
use Rattle.crsm_log.specs.Format.{bodies_of, found}
use Rattle.crsm_spec.specs.Draft.{Draft}
use Rattle.crsm_spec.specs.Log.{Log}
use Rattle.crsm_spec.specs.Node.{Turn, outputs_from}
use Rattle.crsm_spec.specs.Replica.{Replica}
use Rattle.crsm_replica_detector.specs.Watching.{Watch}
use Rattle.crsm_spec_process.specs.Turns.{replica_after}
use Rattle.crsm_replica_detector.specs.Wished.{watch_after}
use Rattle.crsm_shell.specs.Shell.{HasLog, ShellStands}
use Rattle.crsm_shell.specs.Words.{disk_of, has_failed, pending_of}
use Rattle.crsm_shell.specs.declared.shell.Shell.{Shell}
use Rattle.crsm_node.specs.Devices.{node_of}
use Rattle.crsm_node.specs.Kept.{HasBehind, HasLogOf}
use Rattle.crsm_node.specs.Serving.{Serves}
use Rattle.crsm_node.specs.Steps.{FailsToTake}
use Rattle.crsm_node.specs.declared.pending.PendingTurns.{PendingTurns}
use Rattle.crsm_node.specs.declared.errors.NodeError.{NodeError}
use Rattle.crsm_node.specs.declared.errors.NodeError.TheVariants as errors
use Rattle.crsm_node.proofs.Ends.{group_if, groups_with}
use Rattle.crsm_node.proofs.Groups.{group_of}
use Rattle.crsm_node.proofs.Serves.{Stage, begins, keep_ends, kept_well, port_ends, port_ends_kept, port_failed, port_rose, stage_ends, stage_goes_on, stage_keeps, serves_err, take_ends, turn_taken}
use Rattle.crsm_node.proofs.Turns.{count_more, count_outputs}
use Rattle.crsm_node.proofs.serving.serve.Goals as goal
use Rattle.crsm_node.proofs.serving.serve.Goals.{then-ends_group+in_ok-keep_group-in-Ok, else-ends_group, then-is_port_fault+then-pending-gt0+in_ok-keep_group-in-Err, else-is_port_fault, else-is_port_fault-via-then-is_port_fault+else-pending-gt0, else-is_port_fault-via-else-is_port_fault}

file_has : {D : Type 0} {g : _} (shell : Shell D g) (m : DiskMeaning) (kept : Log) (r : Replica) (steps : List Draft) → ShellStands shell m kept r steps → IsTrue m.honest → HasBehind m.seen [] m.seen
unfolding ShellStands HasLog
file_has shell m kept r steps s honest = (s.file honest).whole ∙ ap found (sym (append-nil (bodies_of m.seen)))

log_has : {D : Type 0} {g : _} (shell : Shell D g) (m : DiskMeaning) (r : Replica) → ShellStands shell m r.log r [] → IsTrue m.honest → HasLogOf r m.seen
unfolding ShellStands
log_has shell m r s honest = s.file honest

some_last : (ts : List (Turn × ℕ)) (t : Turn × ℕ) → ts ++ t ∷ [] ≢ []
some_last [] t none = cc
some_last (x ∷ ts) t none = cc

count_with : (kept ts : List (Turn × ℕ)) (t : Turn × ℕ) (most : ℕ) → length (kept ++ ts) < most → length (kept ++ (ts ++ t ∷ [])) ≤ most
count_with kept ts t most few =
    let one = count_more (kept ++ ts) t in
    subst (λ (us : List (Turn × ℕ)). length us ≤ most) (append_assoc kept ts (t ∷ [])) (omega (arith, few, one))

abbrev ok : Result (Unit {0}) NodeError
ok = Ok tt

abbrev stopping : NodeError → Result Bool NodeError
stopping why = Err why

abbrev failing : NodeError → Result (Unit {0}) NodeError
failing why = Err why

not_ok : (why : NodeError) → failing why ≡ ok → ⊥
not_ok why is = cc

both : (b : Bool) → b ≡ true → b ≡ false → ⊥
both b is other = cc

pub loop-turn-init : goal.loop-turn-init
loop-turn-init g c =
    let shell = c.args.shell.now in
    let m = g.D.Disk.meaning (disk_of shell) in
    let well : has_failed shell ≡ false = sym c.failed.ensures.value ∙ c.if-failed.false in
    record {
      well = well;
      few = let none = c.requires in omega (arith, none);
      stage = λ r w stands watches.
          begins g.D.Disk.meaning g.P.Port.meaning g.C.Clock.readings g.O.Sink.written g.O.Sink.faults r w shell c.args.detector.now c.args.port.now c.args.clock.now c.args.sheet.now c.new-pending.result.lines c.args.turns
          (file_has shell m r.log r [] stands) (λ honest. (shell.log.sound honest (shell.well well)).durable) (log_has shell m r stands) stands watches c.new-pending.ensures;
    }

pub returns-in_err-keep_group-in-Ok-clause-serves : goal.returns-in_err-keep_group-in-Ok-clause-serves
returns-in_err-keep_group-in-Ok-clause-serves g c r w stands watches =
    let p = err_from_is_err_and c.from_residual.result c.from_residual.ensures.1 in
    let s = c.loop-turn.invariant.stage r w stands watches in
    let all = kept_turns s.groups ++ s.ts in
    let k = c.in-Ok.ensures.took (replica_after r (kept_turns s.groups)).log (replica_after r all) (outputs_from (replica_after r (kept_turns s.groups)) s.ts) s.pends.stands (replica_after r all).me (watch_after w all) s.pends.watches refl in
    let h = turn_taken g.D.Disk.meaning g.P.Port.meaning g.C.Clock.readings g.O.Sink.written g.O.Sink.faults r w _ c.loop-turn.shell c.take_turn.new.shell c.loop-turn.detector c.take_turn.new.detector
    c.loop-turn.port c.take_turn.new.port c.loop-turn.clock c.take_turn.new.clock c.loop-turn.sheet c.loop-turn.pending.lines c.take_turn.new.pending.lines s.groups s.ts s.pends c.take_turn.ensures.disk c.take_turn.ensures.peers
    c.in-Ok.took_datagram k in
    let e = c.in_err-keep_group-in-Ok.ensures.keeps _ _ _ h.stands in
    let below = c.loop-turn-test.true in
    let count = s.count in
    let few : length all < c.args.turns = omega (arith, count, below) in
    serves_err r w c.args.turns _ _ c.from_residual.result p.0 c.in_err-keep_group-in-Ok.field-0.0 p.1 p.2
    (keep_ends g.D.Disk.meaning g.P.Port.meaning g.C.Clock.readings g.O.Sink.written g.O.Sink.faults r w _ c.take_turn.new.shell c.keep_group.new.shell c.take_turn.new.detector c.take_turn.new.port c.keep_group.new.port
    c.take_turn.new.clock c.loop-turn.sheet c.keep_group.new.sheet c.take_turn.new.pending.lines s.groups (s.ts ++ k.t ∷ []) h c.keep_group.ensures.goes c.keep_group.ensures.peers c.keep_group.ensures.later
    (λ well honest. (c.keep_group.new.shell.log.sound honest (c.keep_group.new.shell.well well)).durable)
    c.args.turns (some_last s.ts k.t) (groups_with s.groups (s.ts ++ k.t ∷ []) (s.shut below) (λ _. group_of s.ts k.t s.is_open)) (count_with (kept_turns s.groups) s.ts k.t c.args.turns few)
    (Err c.in_err-keep_group-in-Ok.field-0.0) (not_ok c.in_err-keep_group-in-Ok.field-0.0) e)

-- where branches join
joined : {A B C E : Type 0} (Q : A → B → C → E → Type 0) (a a' : A) (b b' : B) (x x' : C) (e e' : E) → a ≡ a' → b ≡ b' → x ≡ x' → e ≡ e' → Q a' b' x' e' → Q a b x e
joined Q a a' b b' x x' e e' one two three four h =
    subst (λ y. Q y b x e) (sym one) (subst (λ y. Q a' y x e) (sym two) (subst (λ y. Q a' b' y e) (sym three) (subst (λ y. Q a' b' x' y) (sym four) h)))

-- why a group ends
reason : (ts : List (Turn × ℕ)) (t : Turn × ℕ) (took : Bool) (left pending : ℕ) → (IsTrue took ↔ IsDatagram t) → pending ≡ length (ts ++ t ∷ []) → (took ≡ false) ⊎ ((left ≡ 0) ⊎ (256 ≤ pending)) →
    (IsDatagram t → ⊥) ⊎ ((left ≡ 0) ⊎ (256 ≤ length (ts ++ t ∷ [])))
reason ts t took left pending kind are (inl none) = inl (λ is. both took (kind.1 is) none)
reason ts t took left pending kind are (inr (inl last)) = inr (inl last)
reason ts t took left pending kind are (inr (inr many)) = inr (inr (subst (λ n. 256 ≤ n) are many))

pub loop-turn-preserved : goal.loop-turn-preserved
loop-turn-preserved g c =
    let start = node_of g.D.Disk.meaning g.P.Port.meaning g.C.Clock.readings g.O.Sink.written g.O.Sink.faults c.args.shell.now c.args.detector.now c.args.port.now c.args.clock.now c.args.sheet.now in
    let now = node_of g.D.Disk.meaning g.P.Port.meaning g.C.Clock.readings g.O.Sink.written g.O.Sink.faults c.loop-turn.shell c.loop-turn.detector c.loop-turn.port c.loop-turn.clock c.loop-turn.sheet in
    let turn = c.loop-turn.turn in
    let below = c.loop-turn-test.true in
    let Next : Replica → Watch → Shell g.row.D.Denot g.D.Disk → g.row.P.Denot → g.row.O.Denot → PendingTurns → Type 0 = λ r w shell port sheet pending.
    Stage r w start (node_of g.D.Disk.meaning g.P.Port.meaning g.C.Clock.readings g.O.Sink.written g.O.Sink.faults shell c.take_turn.new.detector port c.take_turn.new.clock sheet) pending.lines (turn + 1) c.args.turns in
    elim c.if-ends_group.branch [
      | then-ends_group+in_ok-keep_group-in-Ok v ↦ record {
        well = ap has_failed v.shell-is ∙ v.in_ok-keep_group-in-Ok.ensures.usable;
        few = let none = ap pending_of v.shell-is ∙ v.in_ok-keep_group-in-Ok.ensures.none_left in omega (arith, none);
        stage = λ r w stands watches.
            let s = c.loop-turn.invariant.stage r w stands watches in
            let all = kept_turns s.groups ++ s.ts in
            let q = replica_after r (kept_turns s.groups) in
            let k = c.in-Ok.ensures.took q.log (replica_after r all) (outputs_from q s.ts) s.pends.stands (replica_after r all).me (watch_after w all) s.pends.watches refl in
            let h = turn_taken g.D.Disk.meaning g.P.Port.meaning g.C.Clock.readings g.O.Sink.written g.O.Sink.faults r w start c.loop-turn.shell c.take_turn.new.shell c.loop-turn.detector c.take_turn.new.detector
            c.loop-turn.port c.take_turn.new.port c.loop-turn.clock c.take_turn.new.clock c.loop-turn.sheet c.loop-turn.pending.lines c.take_turn.new.pending.lines s.groups s.ts s.pends c.take_turn.ensures.disk c.take_turn.ensures.peers
            c.in-Ok.took_datagram k in
            let after = kept_turns s.groups ++ (s.ts ++ k.t ∷ []) in
            let steps = outputs_from q (s.ts ++ k.t ∷ []) in
            let e = v.in_ok-keep_group-in-Ok.ensures.keeps q.log (replica_after r after) steps h.stands in
            let many = c.pending.ensures.steps q.log (replica_after r after) steps h.stands ∙ count_outputs q (s.ts ++ k.t ∷ []) in
            let kept = kept_well g.D.Disk.meaning g.P.Port.meaning g.C.Clock.readings g.O.Sink.written g.O.Sink.faults r w start c.take_turn.new.shell v.keep_group.new.shell c.take_turn.new.detector c.take_turn.new.port v.keep_group.new.port
            c.take_turn.new.clock c.loop-turn.sheet v.keep_group.new.sheet c.take_turn.new.pending.lines s.groups (s.ts ++ k.t ∷ []) h v.keep_group.ensures.goes v.keep_group.ensures.peers v.keep_group.ensures.later
            (λ well honest. (v.keep_group.new.shell.log.sound honest (v.keep_group.new.shell.well well)).durable)
            v.keep_group.new.pending.lines v.in_ok-keep_group-in-Ok.ensures.cleared e.0 e.1 in
            joined (Next r w) _ _ _ _ _ _ _ _ v.shell-is v.port-is v.sheet-is v.pending-is
            (stage_keeps r w start now _ c.loop-turn.pending.lines v.keep_group.new.pending.lines turn c.args.turns s below k.t kept.0 kept.1
            (reason s.ts k.t c.in-Ok.took_datagram (c.args.turns - turn - 1) c.pending.result k.kind many (c.ends_group.ensures.yes v.if-ends_group.true)));
      }
      | else-ends_group v ↦ record {
        well = ap has_failed v.shell-is ∙ c.in-Ok.ensures.usable;
        few =
            let is = ap pending_of v.shell-is in
            let count = c.pending.ensures.value in
            let few = (c.ends_group.ensures.no v.if-ends_group.false).2 in
            omega (arith, is, count, few);
        stage = λ r w stands watches.
            let s = c.loop-turn.invariant.stage r w stands watches in
            let all = kept_turns s.groups ++ s.ts in
            let q = replica_after r (kept_turns s.groups) in
            let k = c.in-Ok.ensures.took q.log (replica_after r all) (outputs_from q s.ts) s.pends.stands (replica_after r all).me (watch_after w all) s.pends.watches refl in
            let h = turn_taken g.D.Disk.meaning g.P.Port.meaning g.C.Clock.readings g.O.Sink.written g.O.Sink.faults r w start c.loop-turn.shell c.take_turn.new.shell c.loop-turn.detector c.take_turn.new.detector
            c.loop-turn.port c.take_turn.new.port c.loop-turn.clock c.take_turn.new.clock c.loop-turn.sheet c.loop-turn.pending.lines c.take_turn.new.pending.lines s.groups s.ts s.pends c.take_turn.ensures.disk c.take_turn.ensures.peers
            c.in-Ok.took_datagram k in
            let after = kept_turns s.groups ++ (s.ts ++ k.t ∷ []) in
            let steps = outputs_from q (s.ts ++ k.t ∷ []) in
            let many = c.pending.ensures.steps q.log (replica_after r after) steps h.stands ∙ count_outputs q (s.ts ++ k.t ∷ []) in
            let open_ = c.ends_group.ensures.no v.if-ends_group.false in
            joined (Next r w) _ _ _ _ _ _ _ _ v.shell-is v.port-is v.sheet-is v.pending-is
            (stage_goes_on r w start now _ c.loop-turn.pending.lines c.take_turn.new.pending.lines turn c.args.turns s below k.t h (k.kind.0 open_.0) (subst (λ n. n < 256) many open_.2) open_.1);
      }
    ]

-- ---- a turn was not taken

none_of_length : (ts : List (Turn × ℕ)) → length ts ≤ 0 → ts ≡ []
none_of_length [] le = refl
none_of_length (t ∷ ts) le = absurd (omega (arith, le))

some_of_length : (ts : List (Turn × ℕ)) → 0 < length ts → ts ≢ []
some_of_length [] lt none = absurd (omega (arith, lt))
some_of_length (t ∷ ts) lt none = cc

same_failure : (a b : NodeError) → failing a ≡ failing b → a ≡ b
same_failure a b is = cc

pub returns-in_err-keep_group-in-Err-clause-failed : goal.returns-in_err-keep_group-in-Err-clause-failed
returns-in_err-keep_group-in-Err-clause-failed g c =
    let p = err_from_is_err_and c.from_residual-in_err-keep_group-in-Err.result c.from_residual-in_err-keep_group-in-Err.ensures.1 in
    let well : has_failed c.args.shell.now ≡ false = sym c.failed.ensures.value ∙ c.if-failed.false in
    let spared = c.in-Err.ensures.spared (ap stopping (c.is_port_fault.ensures.yes c.if-is_port_fault.true)) in (
      λ is. absurd (both (has_failed c.take_turn.new.shell) (c.in_err-keep_group-in-Err.ensures.had_failed (ap failing (sym p.2 ∙ same_failure p.0 errors.Failed (sym p.1 ∙ is)))) spared),
      λ had. absurd (both (has_failed c.args.shell.now) had well),
    )

pub returns-in_err-keep_group-in-Err-clause-serves : goal.returns-in_err-keep_group-in-Err-clause-serves
returns-in_err-keep_group-in-Err-clause-serves g c r w stands watches =
    let p = err_from_is_err_and c.from_residual-in_err-keep_group-in-Err.result c.from_residual-in_err-keep_group-in-Err.ensures.1 in
    let start = node_of g.D.Disk.meaning g.P.Port.meaning g.C.Clock.readings g.O.Sink.written g.O.Sink.faults c.args.shell.now c.args.detector.now c.args.port.now c.args.clock.now c.args.sheet.now in
    let s = c.loop-turn.invariant.stage r w stands watches in
    let all = kept_turns s.groups ++ s.ts in
    let q = replica_after r (kept_turns s.groups) in
    let steps = outputs_from q s.ts in
    let shell = c.take_turn.new.shell in
    let f = subst (λ (why : NodeError). FailsToTake shell (g.D.Disk.meaning (disk_of shell)) c.take_turn.new.detector (g.C.Clock.readings c.loop-turn.clock) (g.C.Clock.readings c.take_turn.new.clock) (g.P.Port.meaning c.loop-turn.port) (g.P.Port.meaning c.take_turn.new.port)
    c.loop-turn.pending.lines c.take_turn.new.pending.lines q.log (replica_after r all) steps (watch_after w all) why) (c.is_port_fault.ensures.yes c.if-is_port_fault.true)
    (c.in-Err.ensures.failed q.log (replica_after r all) steps s.pends.stands (replica_after r all).me (watch_after w all) s.pends.watches refl) in
    let h = port_failed g.D.Disk.meaning g.P.Port.meaning g.C.Clock.readings g.O.Sink.written g.O.Sink.faults r w start c.loop-turn.shell shell c.loop-turn.detector c.take_turn.new.detector
    c.loop-turn.port c.take_turn.new.port c.loop-turn.clock c.take_turn.new.clock c.loop-turn.sheet c.loop-turn.pending.lines c.take_turn.new.pending.lines s.groups s.ts s.pends c.take_turn.ensures.disk c.take_turn.ensures.peers f in
    let many = c.pending-then-is_port_fault.ensures.steps q.log (replica_after r all) steps h.stands ∙ count_outputs q s.ts in
    let some = some_of_length s.ts (subst (λ n. 0 < n) many c.if-pending-gt0.true) in
    let below = c.loop-turn-test.true in
    let count = s.count in
    let e = c.in_err-keep_group-in-Err.ensures.keeps q.log (replica_after r all) steps h.stands in
    serves_err r w c.args.turns start _ c.from_residual-in_err-keep_group-in-Err.result p.0 c.in_err-keep_group-in-Err.field-0.0 p.1 p.2
    (keep_ends g.D.Disk.meaning g.P.Port.meaning g.C.Clock.readings g.O.Sink.written g.O.Sink.faults r w start shell c.keep_group-then-pending-gt0.new.shell c.take_turn.new.detector c.take_turn.new.port c.keep_group-then-pending-gt0.new.port
    c.take_turn.new.clock c.loop-turn.sheet c.keep_group-then-pending-gt0.new.sheet c.take_turn.new.pending.lines s.groups s.ts h c.keep_group-then-pending-gt0.ensures.goes c.keep_group-then-pending-gt0.ensures.peers c.keep_group-then-pending-gt0.ensures.later
    (λ well honest. (c.keep_group-then-pending-gt0.new.shell.log.sound honest (c.keep_group-then-pending-gt0.new.shell.well well)).durable)
    c.args.turns some (groups_with s.groups s.ts (s.shut below) (group_if s.ts s.is_open)) (omega (arith, count, below)) (Err c.in_err-keep_group-in-Err.field-0.0) (not_ok c.in_err-keep_group-in-Err.field-0.0) e)

pub returns-in-Err-clause-serves : goal.returns-in-Err-clause-serves
returns-in-Err-clause-serves g c r w stands watches =
    let start = node_of g.D.Disk.meaning g.P.Port.meaning g.C.Clock.readings g.O.Sink.written g.O.Sink.faults c.args.shell.now c.args.detector.now c.args.port.now c.args.clock.now c.args.sheet.now in
    let s = c.loop-turn.invariant.stage r w stands watches in
    let all = kept_turns s.groups ++ s.ts in
    let q = replica_after r (kept_turns s.groups) in
    let steps = outputs_from q s.ts in
    let shell = c.take_turn.new.shell in
    let below = c.loop-turn-test.true in
    let count = s.count in
    let few : length all ≤ c.args.turns = omega (arith, count, below) in
    let fewer : length all < c.args.turns = omega (arith, count, below) in
    let Fails : NodeError → Type 0 = λ why. FailsToTake shell (g.D.Disk.meaning (disk_of shell)) c.take_turn.new.detector (g.C.Clock.readings c.loop-turn.clock) (g.C.Clock.readings c.take_turn.new.clock) (g.P.Port.meaning c.loop-turn.port) (g.P.Port.meaning c.take_turn.new.port)
    c.loop-turn.pending.lines c.take_turn.new.pending.lines q.log (replica_after r all) steps (watch_after w all) why in
    let fails : Fails c.in-Err.why = c.in-Err.ensures.failed q.log (replica_after r all) steps s.pends.stands (replica_after r all).me (watch_after w all) s.pends.watches refl in
    let Ends : Shell g.row.D.Denot g.D.Disk → g.row.P.Denot → g.row.O.Denot → PendingTurns → Type 0 = λ sh po sheet pending.
    Serves r w c.args.turns start (node_of g.D.Disk.meaning g.P.Port.meaning g.C.Clock.readings g.O.Sink.written g.O.Sink.faults sh c.take_turn.new.detector po c.take_turn.new.clock sheet) (Err c.in-Err.why) in
    let failed = port_failed g.D.Disk.meaning g.P.Port.meaning g.C.Clock.readings g.O.Sink.written g.O.Sink.faults r w start c.loop-turn.shell shell c.loop-turn.detector c.take_turn.new.detector
    c.loop-turn.port c.take_turn.new.port c.loop-turn.clock c.take_turn.new.clock c.loop-turn.sheet c.loop-turn.pending.lines c.take_turn.new.pending.lines s.groups s.ts s.pends c.take_turn.ensures.disk c.take_turn.ensures.peers in
    let rose = port_rose g.D.Disk.meaning g.P.Port.meaning g.C.Clock.readings g.O.Sink.written g.O.Sink.faults r w start c.loop-turn.shell shell c.loop-turn.detector c.take_turn.new.detector
    c.loop-turn.port c.take_turn.new.port c.loop-turn.clock c.take_turn.new.clock c.loop-turn.sheet c.loop-turn.pending.lines c.take_turn.new.pending.lines s.groups s.ts s.pends c.take_turn.ensures.disk c.take_turn.ensures.peers in
    elim c.if-is_port_fault.branch [
      | then-is_port_fault+then-pending-gt0+in_ok-keep_group-in-Err v ↦
          let is = c.is_port_fault.ensures.yes v.if-is_port_fault.true in
          let f = subst Fails is fails in
          let h = failed f in
          let many = v.pending-then-is_port_fault.ensures.steps q.log (replica_after r all) steps h.stands ∙ count_outputs q s.ts in
          let some = some_of_length s.ts (subst (λ n. 0 < n) many v.if-pending-gt0.true) in
          let e = v.in_ok-keep_group-in-Err.ensures.keeps q.log (replica_after r all) steps h.stands in
          joined Ends _ _ _ _ _ _ _ _ v.shell-is v.port-is v.sheet-is v.pending-is
          (serves_err r w c.args.turns start _ (Err c.in-Err.why) c.in-Err.why errors.PortFault refl is
          (port_ends_kept g.D.Disk.meaning g.P.Port.meaning g.C.Clock.readings g.O.Sink.written g.O.Sink.faults r w start shell v.keep_group-then-pending-gt0.new.shell c.take_turn.new.detector c.take_turn.new.port v.keep_group-then-pending-gt0.new.port
          c.take_turn.new.clock c.loop-turn.sheet v.keep_group-then-pending-gt0.new.sheet c.take_turn.new.pending.lines s.groups s.ts h v.keep_group-then-pending-gt0.ensures.goes v.keep_group-then-pending-gt0.ensures.peers v.keep_group-then-pending-gt0.ensures.later
          (λ well honest. (v.keep_group-then-pending-gt0.new.shell.log.sound honest (v.keep_group-then-pending-gt0.new.shell.well well)).durable)
          c.args.turns some (groups_with s.groups s.ts (s.shut below) (group_if s.ts s.is_open)) few (rose f) e.0 e.1))
      | else-is_port_fault v ↦
          joined Ends _ _ _ _ _ _ _ _ v.shell-is v.port-is v.sheet-is v.pending-is
          (elim v.else-is_port_fault.branch [
            | else-is_port_fault-via-then-is_port_fault+else-pending-gt0 u ↦
                let is = c.is_port_fault.ensures.yes u.if-is_port_fault.true in
                let f = subst Fails is fails in
                let h = failed f in
                let many = u.pending-then-is_port_fault.ensures.steps q.log (replica_after r all) steps h.stands ∙ count_outputs q s.ts in
                serves_err r w c.args.turns start _ (Err c.in-Err.why) c.in-Err.why errors.PortFault refl is
                (port_ends r w start _ c.take_turn.new.pending.lines s.groups s.ts c.args.turns h (none_of_length s.ts (subst (λ n. n ≤ 0) many u.if-pending-gt0.false)) s.are_groups few (rose f))
            | else-is_port_fault-via-else-is_port_fault u ↦
                take_ends g.D.Disk.meaning g.P.Port.meaning g.C.Clock.readings g.O.Sink.written g.O.Sink.faults r w start c.loop-turn.shell shell c.loop-turn.detector c.take_turn.new.detector
                c.loop-turn.port c.take_turn.new.port c.loop-turn.clock c.take_turn.new.clock c.loop-turn.sheet c.loop-turn.pending.lines c.take_turn.new.pending.lines s.groups s.ts s.pends c.take_turn.ensures.disk c.take_turn.ensures.peers
                c.args.turns s.is_open (s.shut below) fewer c.in-Err.why (c.is_port_fault.ensures.no u.if-is_port_fault.false) fails
          ])
    ]

pub returns-clause-serves : goal.returns-clause-serves
returns-clause-serves g c r w stands watches =
    let below = c.loop-turn.auto.turn-end in
    let out = c.loop-turn-test.false in
    let turn = c.loop-turn.turn in
    let is : turn ≡ c.args.turns = omega (arith, below, out) in
    stage_ends r w _ _ c.loop-turn.pending.lines turn c.args.turns (c.loop-turn.invariant.stage r w stands watches) is
