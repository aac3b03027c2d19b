use Rattle.std.proofs.Common.{◌≡◌, ◌∙◌, ℕ, length, sym, ap, subst, arith}
use Rattle.crsm_port.specs.Meaning.{Meaning, Reserves}
use Rattle.crsm_replica_io.specs.Outgoing.{bytes_in}
use Rattle.crsm_replica_io.specs.Headers.{packets_of}
use Rattle.crsm_replica_io.proofs.Headers.{count, size_in}
use Rattle.crsm_replica_io.proofs.outbox.Outbox.make_room.Goals as goal

pub returns : goal.returns
returns g c =
    let headers = c.self.inside.headers.items in
    let text = c.self.inside.text in
    let old : Meaning = g.P.Port.meaning c.args.port.now in
    let new : Meaning = g.P.Port.meaning c.reserve.new.self in
    let many : c.len.result ≡ length (packets_of headers text) = omega (arith, c.len.ensures, c.self.inside.headers.ok, count headers text) in
    let bytes : length c.as_slice.result.now ≡ bytes_in (packets_of headers text) = ap length c.as_slice.ensures ∙ sym (size_in headers text c.self.invariant.size) in
    let inside : Reserves (length (packets_of headers text)) (bytes_in (packets_of headers text)) old new c.reserve.result =
    subst (λ (n : ℕ). Reserves n (bytes_in (packets_of headers text)) old new c.reserve.result) many
    (subst (λ (n : ℕ). Reserves c.len.result n old new c.reserve.result) bytes c.reserve.ensures.reserves) in
    subst (λ ps. Reserves (length ps) (bytes_in ps) old new c.reserve.result) c.self.view_is inside
