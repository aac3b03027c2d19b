use Rattle.std.proofs.Common.{rules, arith}
use Rattle.crsm_mpspec.specs.Log.{executed}
use Rattle.crsm_mpledger.proofs.ledger.MpLedger.answer.Goals as goal

pub returns-then-keeps : goal.returns-then-keeps
returns-then-keeps c log s v found = c.in_ok-answer.ensures (executed log) s.executed (search rules) v found

pub returns : goal.returns
returns c log s v found =
    c.in_ok-answer-2.ensures (executed log) (c.in_ok-all.ensures.stands log s) (omega (arith, c.in_ok-all.ensures.first)) v found
