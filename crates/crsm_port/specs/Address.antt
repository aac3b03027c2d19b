-- Addresses as numbers: IPv4 x 65,536 + port.
use Rattle.std.specs.Prelude.{ℕ, ◌+◌, ◌*◌}
use Rattle.std.specs.Net.Addr.{ipv4_bits}
use Rattle.std.specs.Net.Socket.{v4_ip, v4_port}
use Rattle.std.specs.declared.net.SocketAddrV4.{SocketAddrV4}

-- the number of an address
abbrev pub number_of : SocketAddrV4 → ℕ
number_of a = ipv4_bits (v4_ip a) * 65_536 + v4_port a
