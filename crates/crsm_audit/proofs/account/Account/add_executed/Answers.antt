use Rattle.std.proofs.Math.Logic.{∥∥₁_elim, ∥∥₁_map}
use Rattle.std.proofs.Props.{props}
use Rattle.crsm_audit.proofs.Executed.{executed_entry, executed_there}
use Rattle.crsm_audit.proofs.account.Account.add_executed.Goals as goal

pub execute-requires : goal.execute-requires
execute-requires c = ∥∥₁_map c.requires.ledger (λ o. executed_entry c.args.ledger.now c.args.place c.in-Some.bytes.now o c.in-Some.ensures)

pub unreachable-requires : goal.unreachable-requires
unreachable-requires c = ∥∥₁_elim c.requires.ledger (hlevel props) (λ o. executed_there c.args.ledger.now c.args.place o c.requires.place c.in-None.ensures)
