use Rattle.std.proofs.Common.{◌≡◌, ◌⊎◌, inl, inr, ◌≤◌, ℕ, List, length, refl, sym, ap, subst, arith, Ok, Err, IfErr, OnOk}
use Rattle.std.proofs.lemmas.Result.{err_from_is_err_and}
use Rattle.std.specs.Prelude.{Option, Result}
use Rattle.crsm_port_faults.specs.Counts.{Rose}
use Rattle.crsm_io.specs.Streams.{Puts, PutsPrefix}
use Rattle.crsm_node.specs.Running.{FailsToOpen, opening_text}
use Rattle.crsm_node.specs.declared.errors.NodeError.{NodeError}
use Rattle.crsm_node.specs.declared.errors.NodeError.TheVariants as errors
use Rattle.crsm_node.proofs.Openings.{entries_put, opening_put, stops_at_open, stops_between, stops_in_entries}
use Rattle.crsm_node.proofs.Ports.{rose_later}
use Rattle.crsm_node.proofs.opening.write_opening.Goals as goal

abbrev failing : NodeError → Result (Unit {0}) NodeError
failing why = Err why

-- what is known of an error is known of the result that carries it
if_err : (P : NodeError → Type 0) (result : Result (Unit {0}) NodeError) (e why : NodeError) → result ≡ Err e → e ≡ why → P why → IfErr result P
if_err P result e why is same h = subst (λ (x : Result (Unit {0}) NodeError). IfErr x P) (sym is) (subst P (sym same) h)

-- why a line was not written
why_not : (had has : Option (List ℕ)) (bodies : List (List ℕ)) (start before after : ℕ) (why : NodeError) → start ≤ before → PutsPrefix had has (opening_text bodies) →
    ((why ≡ errors.WriteFault) × Rose before after) ⊎ (why ≡ errors.NoMemory) → FailsToOpen bodies had has start after (failing why)
why_not had has bodies start before after why later wrote (inl h) = record { wrote = wrote; why = inl (ap failing h.0, rose_later start before after after later h.1 (omega arith)) }
why_not had has bodies start before after why later wrote (inr h) = record { wrote = wrote; why = inr (ap failing h) }

pub returns-in_err-lines-clause-failed : goal.returns-in_err-lines-clause-failed
returns-in_err-lines-clause-failed g c =
    let p = err_from_is_err_and c.from_residual.result c.from_residual.ensures.1 in
    if_err (λ why. FailsToOpen c.args.bodies.now (g.O.Sink.written c.args.sheet.now) (g.O.Sink.written c.loop-index.sheet) (g.O.Sink.faults c.args.sheet.now) (g.O.Sink.faults c.loop-index.sheet) (Err why)) c.from_residual.result p.0 errors.NoMemory p.1 p.2
    (record { wrote = stops_between c.args.bodies.now c.loop-index.index _ _ c.loop-index.invariant.put; why = inr refl })

pub returns-in_err-write_lines-clause-failed : goal.returns-in_err-write_lines-clause-failed
returns-in_err-write_lines-clause-failed g c =
    let p = err_from_is_err_and c.from_residual-in_err-write_lines.result c.from_residual-in_err-write_lines.ensures.1 in
    let had = g.O.Sink.written c.args.sheet.now in
    let between = g.O.Sink.written c.loop-index.sheet in
    let has = g.O.Sink.written c.write_lines.new.sheet in
    if_err (λ why. FailsToOpen c.args.bodies.now had has (g.O.Sink.faults c.args.sheet.now) (g.O.Sink.faults c.write_lines.new.sheet) (Err why)) c.from_residual-in_err-write_lines.result p.0 c.in_err-write_lines.field-0.0 p.1 p.2
    (why_not had has c.args.bodies.now (g.O.Sink.faults c.args.sheet.now) (g.O.Sink.faults c.loop-index.sheet) (g.O.Sink.faults c.write_lines.new.sheet) c.in_err-write_lines.field-0.0 c.loop-index.invariant.later
    (stops_in_entries c.args.bodies.now c.loop-index.index c.in_ok-lines.end c.in_ok-lines.lines had between has c.in_ok-lines.ensures.between c.loop-index.invariant.put c.in_err-write_lines.ensures.prefix) (inl c.in_err-write_lines.ensures.why))

pub returns-in_err-last-clause-failed : goal.returns-in_err-last-clause-failed
returns-in_err-last-clause-failed g c =
    let p = err_from_is_err_and c.from_residual-in_err-last.result c.from_residual-in_err-last.ensures.1 in
    if_err (λ why. FailsToOpen c.args.bodies.now (g.O.Sink.written c.args.sheet.now) (g.O.Sink.written c.loop-index.sheet) (g.O.Sink.faults c.args.sheet.now) (g.O.Sink.faults c.loop-index.sheet) (Err why)) c.from_residual-in_err-last.result p.0 errors.NoMemory p.1 p.2
    (record { wrote = stops_between c.args.bodies.now c.loop-index.index _ _ c.loop-index.invariant.put; why = inr refl })

pub loop-index-preserved : goal.loop-index-preserved
loop-index-preserved g c =
    let before = c.loop-index.invariant.later in
    let after = c.in_ok-write_lines.ensures.later in
    record {
      within = c.in_ok-lines.ensures.within;
      put = entries_put c.args.bodies.now c.loop-index.index c.in_ok-lines.end c.in_ok-lines.lines _ _ _ c.in_ok-lines.ensures.between c.loop-index.invariant.put c.in_ok-write_lines.ensures.put;
      later = omega (arith, before, after);
    }

map_ok : (result : Result (Unit {0}) NodeError) (P Q : Type 0) → (P → Q) → OnOk result P → OnOk result Q
map_ok (Ok x) P Q implies h = implies h
map_ok (Err why) P Q implies h = h

map_err : (result : Result (Unit {0}) NodeError) (P Q : NodeError → Type 0) → ((why : NodeError) → P why → Q why) → IfErr result P → IfErr result Q
map_err (Ok x) P Q implies h = h
map_err (Err why) P Q implies h = implies why h

pub returns-clause-opened : goal.returns-clause-opened
returns-clause-opened g c =
    let between = g.O.Sink.written c.loop-index.sheet in
    let has = g.O.Sink.written c.write_lines-2.new.sheet in
    let inside = c.loop-index.invariant.within in
    let out = c.loop-index-test.false in
    let count = c.len-count.ensures in
    let all : c.loop-index.index ≡ length c.args.bodies.now = omega (arith, inside, out, count) in
    map_ok c.write_lines-2.result _ _
    (λ put. opening_put c.args.bodies.now c.loop-index.index (g.O.Sink.written c.args.sheet.now) between has all c.loop-index.invariant.put (subst (λ (x : List ℕ). Puts between has x) c.in_ok-last.ensures put))
    c.write_lines-2.ensures.put

pub returns-clause-failed : goal.returns-clause-failed
returns-clause-failed g c =
    let between = g.O.Sink.written c.loop-index.sheet in
    let has = g.O.Sink.written c.write_lines-2.new.sheet in
    let inside = c.loop-index.invariant.within in
    let out = c.loop-index-test.false in
    let count = c.len-count.ensures in
    let all : c.loop-index.index ≡ length c.args.bodies.now = omega (arith, inside, out, count) in
    let prefix = subst (λ (x : List ℕ). PutsPrefix between has x) c.in_ok-last.ensures c.write_lines-2.ensures.prefix in
    map_err c.write_lines-2.result _ _ (λ why h. why_not (g.O.Sink.written c.args.sheet.now) has c.args.bodies.now (g.O.Sink.faults c.args.sheet.now) (g.O.Sink.faults c.loop-index.sheet) (g.O.Sink.faults c.write_lines-2.new.sheet) why c.loop-index.invariant.later
    (stops_at_open c.args.bodies.now c.loop-index.index (g.O.Sink.written c.args.sheet.now) between has all c.loop-index.invariant.put prefix) (inl h)) c.write_lines-2.ensures.why
