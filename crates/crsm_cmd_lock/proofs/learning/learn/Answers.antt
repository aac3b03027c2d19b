use Rattle.std.proofs.Common.{Ok, subst}
use Rattle.crsm_base.specs.declared.Command.{Command}
use Rattle.crsm_cmd_lock.specs.Learning.{AsksFor}
use Rattle.crsm_cmd_lock.proofs.Following.{learns, of_key}
use Rattle.crsm_cmd_lock.proofs.learning.learn.Goals as goal

pub follow-requires-clause-cas : goal.follow-requires-clause-cas
follow-requires-clause-cas g c = of_key c.args.order.now c.in-Ask.op c.in_ok-found.found (rw c.in-Ask.is at c.in_ok-told.ensures.follows)

pub returns : goal.returns
returns g c =
    let old = g.P.Port.meaning c.args.port.now in
    let between = g.P.Port.meaning c.request.new.port in
    learns c.args.order.now c.in-Ask.op c.in_ok-found.found old between (g.P.Port.meaning c.follow.new.port)
    (subst (λ (command : Command). AsksFor c.args.order.now command old between (Ok c.in_ok-found.found)) c.in_ok-look.ensures.look c.in_ok-found.ensures)
    (rw c.in-Ask.is at c.in_ok-told.ensures.follows) c.follow.result c.follow.ensures
