use Rattle.std.proofs.Common.{◌++◌, refl, subst, arith}
use Rattle.crsm_port_lines.specs.Handling.{StopsAt}
use Rattle.crsm_port_lines.specs.State.{state_of}
use Rattle.crsm_port_lines.proofs.Pieces.{line_carries, line_refused, line_out_of_memory, whole_halts}
use Rattle.crsm_port_lines.proofs.lines.LineReader.end_line.Goals as goal

pub returns-then-saturating_add-gt-MAX_LINE_BYTES-clause-err : goal.returns-then-saturating_add-gt-MAX_LINE_BYTES-clause-err
returns-then-saturating_add-gt-MAX_LINE_BYTES-clause-err g c = λ first has.
    let is = c.len.ensures in
    let sum = c.saturating_add.ensures in
    let long = c.if-saturating_add-gt-MAX_LINE_BYTES.true in
    whole_halts (g.H.Handler.handling first) has (state_of c.args.self.now) (state_of c.args.self.now) c.args.tail.now c.requires.lacks (omega (arith, is, sum, long)) refl

pub returns-in-Err-Refused-clause-err : goal.returns-in-Err-Refused-clause-err
returns-in-Err-Refused-clause-err g c = λ first has.
    line_refused (g.H.Handler.handling first) has (state_of c.args.self.now) (state_of c.advance.new.self) c.args.tail.now c.in-Err-Refused.why c.requires.lacks
    (λ lines shown number after.
    subst (λ stop. StopsAt (g.H.Handler.handling first) lines shown (c.args.self.now.part.items ++ c.args.tail.now) c.args.self.now.pending c.advance.new.self.pending stop) c.in-Err-Refused.field-0-is
    (c.in-Err-Refused.ensures.err first lines shown number after))

pub returns-in-Err-NoMemory-clause-err : goal.returns-in-Err-NoMemory-clause-err
returns-in-Err-NoMemory-clause-err g c = λ first has.
    line_out_of_memory (g.H.Handler.handling first) has (state_of c.args.self.now) (state_of c.advance.new.self) c.args.tail.now
    (λ lines shown number after.
    subst (λ stop. StopsAt (g.H.Handler.handling first) lines shown (c.args.self.now.part.items ++ c.args.tail.now) c.args.self.now.pending c.advance.new.self.pending stop) c.in-Err-NoMemory.field-0-is
    (c.in-Err-NoMemory.ensures.err first lines shown number after))

pub returns-clause-ok : goal.returns-clause-ok
returns-clause-ok g c = λ first has.
    let is = c.len.ensures in
    let sum = c.saturating_add.ensures in
    let short = c.if-saturating_add-gt-MAX_LINE_BYTES.false in
    line_carries (g.H.Handler.handling first) has (state_of c.args.self.now) _ c.args.tail.now (λ lines shown number after. c.in-Ok.ensures.ok first lines shown number after) c.requires.lacks
    (omega (arith, is, sum, short)) refl c.clear.ensures.items
