use Rattle.crsm_replica_rerun.specs.Replaying.{IsNoSheet}
use Rattle.crsm_cmd_replay_node.proofs.Handled.{ends, no_end}
use Rattle.crsm_cmd_replay_node.proofs.handling.SheetReplayHandler.end.Goals as goal

pub returns-in_default-clause-err : goal.returns-in_default-clause-err
returns-in_default-clause-err c = λ first texts shown after.
    let s = after.spells in
    let says = c.final_line.ensures first.me first.n 1 s.lines s.is.steps after.stands in
    let none : IsNoSheet s.lines = rw c.in_default.is at says in
    no_end first.me first.n texts shown s none

pub returns-clause-ok : goal.returns-clause-ok
returns-clause-ok c = λ first texts shown after.
    let s = after.spells in
    ends first.me first.n texts shown c.in-Some.line c.args.text.now c.push_line-pushed.new.out s (c.in-Some.ensures first.me first.n 1 s.lines s.is.steps after.stands) c.in-Ok.ensures
