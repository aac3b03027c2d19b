use Rattle.std.proofs.lemmas.Result.{err_from_is_err_and}
use Rattle.crsm_port_lines.specs.Handling.{Handles, StopsAt}
use Rattle.crsm_replica_rerun.specs.Replaying.{AddsText}
use Rattle.crsm_cmd_replay_node.specs.Handled.{StopsLine, sheet_of_node}
use Rattle.crsm_cmd_replay_node.proofs.Handled.{handles, if_err, on_ok, stops, unread}
use Rattle.crsm_cmd_replay_node.proofs.handling.SheetReplayHandler.line.Goals as goal

pub returns-in_err-line-clause-err : goal.returns-in_err-line-clause-err
returns-in_err-line-clause-err c = λ first texts shown at after.
    let r = err_from_is_err_and c.from_residual.result c.from_residual.ensures.1 in
    rw (r.1, r.2) (unread first.me first.n texts shown _ c.args.line.now c.args.text.now c.in_err-line.ensures.err after.spells)

pub returns-clause-ok : goal.returns-clause-ok
returns-clause-ok c = λ first texts shown at after.
    let s = after.spells in
    on_ok c.advance-advanced.result (AddsText first.me first.n 1 c.advance-advanced.new.self.rerun s.lines s.is.steps c.in_ok-line.line c.args.text.now c.advance-advanced.new.text)
    (Handles (sheet_of_node first.me first.n) c.advance-advanced.new.self texts shown c.args.line.now c.args.text.now c.advance-advanced.new.text)
    (handles first.me first.n texts shown c.args.self.now c.advance-advanced.new.self c.in_ok-line.line c.args.line.now c.args.text.now c.advance-advanced.new.text after
    c.in_ok-line.ensures.found.0 c.in_ok-line.ensures.found.1) (c.advance-advanced.ensures.ok first.me first.n 1 s.lines s.is.steps after.stands)

pub returns-clause-err : goal.returns-clause-err
returns-clause-err c = λ first texts shown at after.
    let s = after.spells in
    if_err c.advance-advanced.result (λ stop. StopsLine first.me first.n s.lines c.in_ok-line.line c.args.text.now c.advance-advanced.new.text stop)
    (λ stop. StopsAt (sheet_of_node first.me first.n) texts shown c.args.line.now c.args.text.now c.advance-advanced.new.text stop)
    (λ stop. stops first.me first.n texts shown stop c.in_ok-line.line c.args.line.now c.args.text.now c.advance-advanced.new.text s c.in_ok-line.ensures.found.1
    (λ l fits is. c.in_ok-line.ensures.one l fits is)) (c.advance-advanced.ensures.err first.me first.n 1 s.lines s.is.steps after.stands)
