use Rattle.std.proofs.Common.{◌≡◌, ◌+◌, ◌∷◌, length, length-append, ap, ◌∙◌, arith}
use Rattle.std.proofs.lemmas.Result.{err_from_is_err_and}
use Rattle.crsm_port_lines.specs.Run.{ending_of}
use Rattle.crsm_port_lines.specs.State.{state_of}
use Rattle.crsm_port_lines.proofs.Texts.{no_split, none_such}
use Rattle.crsm_port_lines.proofs.Stream.{past_line, past_flush, at_line, at_flush}
use Rattle.crsm_port_lines.proofs.Pieces.{nothing_carries, halts_if, carries_if}
use Rattle.crsm_port_lines.proofs.lines.LineReader.take_lines.Goals as goal

pub loop-tail-init : goal.loop-tail-init
loop-tail-init g c = record {
  carries = λ first. nothing_carries (g.H.Handler.handling first) (g.O.Sink.written c.args.output.now) (state_of c.args.self.now) c.args.piece.now;
  number = omega arith;
  later = omega arith;
}

pub returns-in_err-end_line-clause-err : goal.returns-in_err-end_line-clause-err
returns-in_err-end_line-clause-err g c = λ first.
    let r = err_from_is_err_and c.from_residual.result c.from_residual.ensures.1 in
    let had = g.O.Sink.written c.args.output.now in
    let has = g.O.Sink.written c.loop-tail.output in
    rw (r.1, r.2) (at_line (g.H.Handler.handling first) (ending_of c.in_err-end_line.field-0.0) had has (state_of c.args.self.now) (state_of c.loop-tail.self) (state_of c.end_line.new.self) c.args.piece.now c.loop-tail.rest.now c.in-Some.tail.now c.in-Some.behind.now
    c.in-Some.ensures.found (c.loop-tail.invariant.carries first) (c.in_err-end_line.ensures.err first has))

pub returns-in_err-flush_full-clause-err : goal.returns-in_err-flush_full-clause-err
returns-in_err-flush_full-clause-err g c = λ first.
    let r = err_from_is_err_and c.from_residual-in_err-flush_full.result c.from_residual-in_err-flush_full.ensures.1 in
    let had = g.O.Sink.written c.args.output.now in
    let has = g.O.Sink.written c.loop-tail.output in
    let on = past_line (g.H.Handler.handling first) had has (state_of c.args.self.now) (state_of c.loop-tail.self) (state_of c.end_line.new.self) c.args.piece.now c.loop-tail.rest.now c.in-Some.tail.now c.in-Some.behind.now
    c.in-Some.ensures.found (c.loop-tail.invariant.carries first) (c.in_ok-end_line.ensures.ok first has) in
    rw (r.1, r.2) (at_flush (g.H.Handler.handling first) (ending_of c.in_err-flush_full.field-0.0) had has (g.O.Sink.written c.flush_full.new.output) (state_of c.args.self.now) (state_of c.end_line.new.self) (state_of c.flush_full.new.self) c.args.piece.now c.in-Some.behind.now
    on (c.in_err-flush_full.ensures.err first))

pub loop-tail-preserved : goal.loop-tail-preserved
loop-tail-preserved g c =
    let had = g.O.Sink.written c.args.output.now in
    let has = g.O.Sink.written c.loop-tail.output in
    let number = c.loop-tail.invariant.number in
    let later = c.loop-tail.invariant.later in
    let next = c.in_ok-end_line.ensures.number in
    let same = c.in_ok-flush_full.ensures.number in
    let more = c.in_ok-flush_full.ensures.later in
    let len : length c.loop-tail.rest.now ≡ length c.in-Some.tail.now + length (10 ∷ c.in-Some.behind.now) =
    ap length c.in-Some.ensures.found ∙ length-append c.in-Some.tail.now (10 ∷ c.in-Some.behind.now) in
    record {
      carries = λ first.
          let on = past_line (g.H.Handler.handling first) had has (state_of c.args.self.now) (state_of c.loop-tail.self) (state_of c.end_line.new.self) c.args.piece.now c.loop-tail.rest.now c.in-Some.tail.now c.in-Some.behind.now
          c.in-Some.ensures.found (c.loop-tail.invariant.carries first) (c.in_ok-end_line.ensures.ok first has) in
          past_flush (g.H.Handler.handling first) had has (g.O.Sink.written c.flush_full.new.output) (state_of c.args.self.now) (state_of c.end_line.new.self) (state_of c.flush_full.new.self) c.args.piece.now c.in-Some.behind.now
          on (c.in_ok-flush_full.ensures.ok first);
      number = omega (arith, number, next, same, len);
      later = omega (arith, later, more);
    }

pub keep-requires : goal.keep-requires
keep-requires g c =
    let number = c.loop-tail.invariant.number in
    let below = c.requires in
    record {
      number = omega (arith, number, below);
      lacks = no_split 10 c.loop-tail.rest.now (λ word rest lacks is. none_such c.split_field.result _ c.in_default.is (c.split_field.ensures.only word rest lacks is));
    }

pub returns-clause-ok : goal.returns-clause-ok
returns-clause-ok g c = λ first.
    let had = g.O.Sink.written c.args.output.now in
    let has = g.O.Sink.written c.loop-tail.output in
    carries_if (g.H.Handler.handling first) c.keep.result had has (state_of c.args.self.now) (state_of c.loop-tail.self) (state_of c.keep.new.self) c.args.piece.now c.loop-tail.rest.now (c.loop-tail.invariant.carries first) (c.keep.ensures.ok first has)

pub returns-clause-err : goal.returns-clause-err
returns-clause-err g c = λ first.
    let had = g.O.Sink.written c.args.output.now in
    let has = g.O.Sink.written c.loop-tail.output in
    halts_if (g.H.Handler.handling first) c.keep.result had has (state_of c.args.self.now) (state_of c.loop-tail.self) (state_of c.keep.new.self) c.args.piece.now c.loop-tail.rest.now (c.loop-tail.invariant.carries first) (c.keep.ensures.err first has)
