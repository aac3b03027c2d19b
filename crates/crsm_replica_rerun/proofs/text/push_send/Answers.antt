use Rattle.std.proofs.Common.{◌≡◌, ◌++◌, ℕ, List, ap, ◌∙◌}
use Rattle.crsm_base.specs.declared.Line.{Line}
use Rattle.crsm_base.specs.Messages.{datagram_bytes}
use Rattle.crsm_schedule.specs.Transcript.{line_text}
use Rattle.crsm_replica_rerun.specs.Batches.{line_to, send_line}
use Rattle.crsm_replica_rerun.proofs.text.push_send.Goals as goal

pub returns : goal.returns
returns c =
    let send = c.args.send.now in
    let bytes : c.put_datagram.new.out ≡ datagram_bytes send.datagram =
    c.in_ok-put_datagram.ensures ∙ ap (λ (b : List ℕ). b ++ datagram_bytes send.datagram) c.new-bytes.ensures in
    let line : c.line_to-line.result ≡ send_line send = c.line_to-line.ensures ∙ ap (line_to send.to) bytes in
    c.in_ok-push_line.ensures ∙ ap (λ (l : Line). c.args.out.now ++ line_text c.args.at l) line
