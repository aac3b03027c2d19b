-- Network addresses as numbers, IPv4 x 65,536 + port, and their texts.
use Rattle.std.specs.Prelude.{ℕ, ◌<◌, ◌≤◌, ◌^◌, ◌+◌, ◌*◌, ◌/◌, ◌%◌, List, ◌∷◌, ◌++◌, length, map, decimal, nat_eq}
use Rattle.std.specs.List.{AllByRecursion, IsDistinct, join_with_byte}
use Rattle.crsm_text_words.specs.declared.address.AddressParts.{AddressParts}

-- the four octets and the port of an address
abbrev pub parts_of : ℕ → AddressParts
parts_of a = record {
  first = a / 2 ^ 40;
  second = a / 2 ^ 32 % 256;
  third = a / 2 ^ 24 % 256;
  fourth = a / 2 ^ 16 % 256;
  port = a % 65536;
}

pub record AreParts (p : AddressParts) : Type 0 where
  pub first : p.first < 256
  pub second : p.second < 256
  pub third : p.third < 256
  pub fourth : p.fourth < 256
  pub port : p.port < 65536

abbrev pub joined : AddressParts → ℕ
joined p = (((p.first * 256 + p.second) * 256 + p.third) * 256 + p.fourth) * 65536 + p.port

-- A.B.C.D:PORT
abbrev pub parts_text : AddressParts → List ℕ
parts_text p = decimal p.first ++ 46 ∷ (decimal p.second ++ 46 ∷ (decimal p.third ++ 46 ∷ (decimal p.fourth ++ 58 ∷ decimal p.port)))

abbrev pub address_text : ℕ → List ℕ
address_text a = parts_text (parts_of a)

-- addresses, separated by commas
abbrev pub addresses_text : List ℕ → List ℕ
addresses_text all = join_with_byte 44 (map address_text all)

-- one address or more, all distinct
pub record AreAddresses (all : List ℕ) : Type 0 where
  pub below : AllByRecursion (λ a. a < 2 ^ 48) all
  pub some : 1 ≤ length all
  pub distinct : IsDistinct nat_eq all
