use Rattle.std.proofs.Common.{◌<◌, ◌^◌, arith, refl}
use Rattle.crsm_port_flow.proofs.Hearings.{bits_of, peer_within, two_of}
use Rattle.crsm_port_flow.proofs.hearing.Hearing.saying.Goals as goal

pub returns : goal.returns
returns c =
    let mask = c.loop-replica.mask in
    let fits : mask < 2 ^ 16 = omega (arith, c.loop-replica.invariant.fits) in (
      _,
      _,
      refl,
      λ k p lt at.
          let seen : k < c.loop-replica.replica = omega (arith, peer_within c.args.self.now.peers.items k p at, c.loop-replica-test.false, c.deref-peer-items.ensures.len, c.args.self.now.peers.ok) in
          let known = c.loop-replica.invariant.heard k p lt seen at in
          let bits = bits_of mask k _ _ c.to_be_bytes.result fits c.to_be_bytes.ensures (two_of c.to_be_bytes.result _ _ c.to_be_bytes.ensures) in
          ((λ set. known.0 (bits.1 set)), λ heard. bits.0 (known.1 heard)),
    )
