use Rattle.std.proofs.Common.{◌≡◌, [], length, ap, subst, arith}
use Rattle.std.proofs.lemmas.List.{nil_from_length}
use Rattle.crsm_io.specs.Streams.{Puts, PutsPrefix}
use Rattle.crsm_port_lines.specs.Handling.{EndsWell, StopsAtEnd}
use Rattle.crsm_port_lines.specs.State.{state_of}
use Rattle.crsm_port_lines.proofs.Pieces.{cut_finishes, refused_finishes, no_memory_finishes, partly_finishes, well_finishes}
use Rattle.crsm_port_lines.proofs.lines.LineReader.finish.Goals as goal

pub returns-then-not-is_empty-clause-err : goal.returns-then-not-is_empty-clause-err
returns-then-not-is_empty-clause-err g c = λ first.
    cut_finishes (g.H.Handler.handling first) (g.O.Sink.written c.args.output.now) (state_of c.args.self.now) c.requires.pending (λ none. let len : length c.args.self.now.part.items ≡ 0 = ap length none in grind (arith, len, c.is_empty.ensures))

pub returns-in-Err-Refused-clause-err : goal.returns-in-Err-Refused-clause-err
returns-in-Err-Refused-clause-err g c = λ first.
    let none : c.args.self.now.part.items ≡ [] = nil_from_length c.args.self.now.part.items (grind (arith, c.is_empty.ensures)) in
    refused_finishes (g.H.Handler.handling first) (g.O.Sink.written c.args.output.now) (state_of c.args.self.now) c.in-Err-Refused.why c.requires.pending none
    (λ lines shown after. subst (λ stop. StopsAtEnd (g.H.Handler.handling first) lines shown stop) c.in-Err-Refused.field-0-is (c.in-Err-Refused.ensures.err first lines shown after))

pub returns-in-Err-NoMemory-clause-err : goal.returns-in-Err-NoMemory-clause-err
returns-in-Err-NoMemory-clause-err g c = λ first. no_memory_finishes (g.H.Handler.handling first) (g.O.Sink.written c.args.output.now) (state_of c.args.self.now)

pub returns-in-Ok-put_all-clause-ok : goal.returns-in-Ok-put_all-clause-ok
returns-in-Ok-put_all-clause-ok g c = λ first.
    let none : c.args.self.now.part.items ≡ [] = nil_from_length c.args.self.now.part.items (grind (arith, c.is_empty.ensures)) in
    well_finishes (g.H.Handler.handling first) (g.O.Sink.written c.args.output.now) (g.O.Sink.written c.put_all.new.sink) (state_of c.args.self.now) c.end.new.text c.requires.pending none
    (λ lines shown after. subst (λ text. EndsWell (g.H.Handler.handling first) lines shown text c.end.new.text) c.new-text.ensures (c.in-Ok.ensures.ok first lines shown after))
    (subst (λ y. Puts (g.O.Sink.written c.args.output.now) (g.O.Sink.written c.put_all.new.sink) y) c.as_slice.ensures c.in-Ok-put_all.ensures.ok)

pub returns-clause-err : goal.returns-clause-err
returns-clause-err g c = λ first.
    let none : c.args.self.now.part.items ≡ [] = nil_from_length c.args.self.now.part.items (grind (arith, c.is_empty.ensures)) in
    partly_finishes (g.H.Handler.handling first) (g.O.Sink.written c.args.output.now) (g.O.Sink.written c.put_all.new.sink) (state_of c.args.self.now) c.end.new.text c.requires.pending none
    (λ lines shown after. subst (λ text. EndsWell (g.H.Handler.handling first) lines shown text c.end.new.text) c.new-text.ensures (c.in-Ok.ensures.ok first lines shown after))
    (subst (λ y. PutsPrefix (g.O.Sink.written c.args.output.now) (g.O.Sink.written c.put_all.new.sink) y) c.as_slice.ensures c.in-Err.ensures.prefix)
