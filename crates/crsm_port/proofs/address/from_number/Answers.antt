use Rattle.std.proofs.Common.{◌≡◌, ◌∙◌, ◌<◌, ◌^◌, ℕ, ◌/◌, ap, arith, w32}
use Rattle.std.specs.Int.{from_be_bytes}
use Rattle.std.specs.Net.Addr.{ipv4_bits, IsIpv4OfBits}
use Rattle.std.specs.Net.Socket.{v4_ip}
use Rattle.std.specs.declared.net.Ipv4Addr.{Ipv4Addr}
use Rattle.std.proofs.lemmas.Nat.{from_be_bytes-to_be_bytes_4}
use Rattle.crsm_port.proofs.address.from_number.Goals as goal

bits_are : (a : Ipv4Addr) (n : ℕ) → n < 2 ^ 32 → IsIpv4OfBits a n → ipv4_bits a ≡ n
unfolding ipv4_bits IsIpv4OfBits
bits_are a n small is = ap (from_be_bytes w32) is ∙ from_be_bytes-to_be_bytes_4 n small

pub returns : goal.returns
returns c =
    let small : c.args.number / 65_536 < 2 ^ 32 = omega (arith, c.requires) in
    let b = bits_are c.from_bits.result (c.args.number / 65_536) small c.from_bits.ensures in
    let i : ipv4_bits (v4_ip c.new.result) ≡ c.args.number / 65_536 = ap ipv4_bits c.new.ensures.ip ∙ b in
    omega (arith, i, c.new.ensures.port)
