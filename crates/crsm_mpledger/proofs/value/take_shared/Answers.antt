use Rattle.std.proofs.Common.{◌≡◌, Some, arith, sym}
use Rattle.crsm_base.specs.Reading.{command_at}
use Rattle.crsm_base.proofs.Fields.{command_parses}
use Rattle.crsm_mpledger.proofs.value.take_shared.Goals as goal

-- the command was read, so it has an encoding
pub share_command-requires : goal.share_command-requires
share_command-requires c =
    let read : Some (c.in-Some.command, c.in-Some.rest.now) ≡ command_at c.args.bytes.now = rw c.in-Some.is at c.in_ok-command.ensures in
    (command_parses.takes c.args.bytes.now c.in-Some.command c.in-Some.rest.now (λ i. omega (arith, c.type_inv.bytes i)) (sym read)).0
