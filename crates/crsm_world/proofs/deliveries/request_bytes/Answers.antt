use Rattle.std.proofs.Common.{◌∙◌, ap}
use Rattle.std.proofs.lemmas.Result.{IfOk-weaker}
use Rattle.crsm_base.specs.Messages.{datagram_bytes}
use Rattle.crsm_spec.specs.Types.{Datagram}
use Rattle.crsm_world.proofs.deliveries.request_bytes.Goals as goal

pub returns : goal.returns
returns c = IfOk-weaker c.encoded-bytes.result _ _ (λ bytes is. is ∙ ap (λ a. datagram_bytes (Datagram.Request a)) c.in_ok-copy.ensures) c.encoded-bytes.ensures
