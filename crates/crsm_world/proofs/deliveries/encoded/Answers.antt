use Rattle.std.proofs.Common.{◌∙◌, ◌++◌, ap}
use Rattle.crsm_base.specs.Messages.{datagram_bytes}
use Rattle.crsm_world.proofs.deliveries.encoded.Goals as goal

pub returns : goal.returns
returns c = c.in_ok-write_datagram.ensures.ok ∙ ap (λ xs. xs ++ datagram_bytes c.args.datagram.now) c.new-bytes.ensures
