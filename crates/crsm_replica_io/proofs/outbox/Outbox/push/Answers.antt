use Rattle.std.proofs.Common.{◌≡◌, ◌≤◌, List, ◌∙◌, ◌∷◌, [], ◌++◌, ap, arith}
use Rattle.crsm_port.specs.Meaning.{Packet}
use Rattle.crsm_base.specs.Messages.{datagram_bytes}
use Rattle.crsm_replica_io.specs.declared.outbox.Header.{Header}
use Rattle.crsm_replica_io.proofs.Headers.{added, added_short, added_size}
use Rattle.crsm_replica_io.proofs.Lengths.{datagram_short}
use Rattle.crsm_replica_io.proofs.outbox.Outbox.push.Goals as goal

pub invariant_of-self-in-Ok : goal.invariant_of-self-in-Ok
invariant_of-self-in-Ok c =
    let l : Header = record { to = c.args.to; len = c.in-Ok.len } in
    let headers = c.self.inside.headers.items in
    let more : c.push_reserved.new.self.items ≡ headers ++ l ∷ [] = c.push_reserved.ensures.items ∙ ap (λ (ls : List Header). ls ++ l ∷ []) c.in_ok-reserve.ensures.items in
    let few : c.in-Ok.len ≤ 8183 = omega (arith, c.in-Ok.ensures.1, datagram_short c.args.datagram.now c.requires) in
    record {
      size = added_size headers c.push_reserved.new.self.items l c.self.inside.text c.write.new.text (datagram_bytes c.args.datagram.now) c.self.invariant.size more c.in-Ok.ensures.0 c.in-Ok.ensures.1;
      short = added_short headers c.push_reserved.new.self.items l c.self.invariant.short more few;
    }

pub returns-in-Ok : goal.returns-in-Ok
returns-in-Ok c =
    let l : Header = record { to = c.args.to; len = c.in-Ok.len } in
    let d : Packet = record { address = c.args.to; bytes = datagram_bytes c.args.datagram.now } in
    added c.self.inside.headers.items c.push_reserved.new.self.items l c.self.inside.text c.write.new.text (datagram_bytes c.args.datagram.now) c.self.invariant.size
    (c.push_reserved.ensures.items ∙ ap (λ (ls : List Header). ls ++ l ∷ []) c.in_ok-reserve.ensures.items) c.in-Ok.ensures.0 c.in-Ok.ensures.1
    ∙ ap (λ (ps : List Packet). ps ++ d ∷ []) c.self.view_is
