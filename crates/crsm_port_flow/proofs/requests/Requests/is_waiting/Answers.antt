use Rattle.std.proofs.Common.{arith, refl, sym}
use Rattle.crsm_port_flow.proofs.Turns.{same_command}
use Rattle.crsm_port_flow.proofs.requests.Requests.is_waiting.Goals as goal

pub returns-then-is_recent : goal.returns-then-is_recent
returns-then-is_recent c = λ _.
    let r = c.in-Some.request.now in (
      r,
      (c.loop-index.index, omega (arith, c.in-Some.ensures.variant.0 refl, c.args.self.now.waiting.ok), sym c.in-Some.ensures.lookup),
      same_command r.command c.args.command c.if-eq.ensures,
      c.is_recent.ensures.0 c.if-is_recent.true,
    )
