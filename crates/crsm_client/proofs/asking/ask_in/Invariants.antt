use Rattle.std.proofs.Common.{◌≡◌, Err}
use Rattle.crsm_client.specs.Asking.{Asks}
use Rattle.crsm_client.specs.declared.error.AskError.TheVariants.{NoAnswer}
use Rattle.crsm_client.proofs.asking.ask_in.Given as goal

abbrev pub invariant-loop-turn : goal.invariant-loop-turn
invariant-loop-turn g l = record {
  so_far : Asks l.cluster l.to l.command l.turn l.resend (g.P.Port.meaning l.fn.port) (g.P.Port.meaning l.port) (Err NoAnswer);
  cluster : l.inbox.cluster ≡ l.cluster;
}
