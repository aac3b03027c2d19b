-- The datagrams of a bundle, one after another.
use Rattle.std.proofs.Common.{◌≡◌, ◌∙◌, ◌++◌, ◌≤◌, ℕ, List, length, take, drop, Some, sym, ap, subst, take-append-drop}
use Rattle.std.proofs.lemmas.List.{length-take-le, take_at}
use Rattle.crsm_port.specs.Passing.{Cut, Datagrams, IsOf, NoMore, Only}
use Rattle.crsm_port.specs.declared.port.Recv.{Recv}
use Rattle.crsm_port.specs.declared.port.Recv.TheVariants.{Nothing, Datagram}
use Rattle.crsm_port_packets.specs.Format.{StandsIn, entry_at, first, later}

-- ---- datagrams of more

pub cut_more : (D E : Datagrams) → NoMore D E → NoMore (Cut D) (Cut E)
cut_more D E more a b (rest, is) = (rest, more a (b ++ rest) is)

pub of_more : (D E : Datagrams) (buffer : List ℕ) (got : Recv) → NoMore D E → IsOf E buffer got → IsOf D buffer got
of_more D E buffer Nothing more is = tt
of_more D E buffer (Datagram from len) more is = more from (take len buffer) is

-- ---- taking the first

-- those that stand in these entries, from this address
abbrev standing : ℕ → List ℕ → Datagrams
standing from entries address d = (address ≡ from) × StandsIn d entries

pub stands_first : (from : ℕ) (entries bytes behind : List ℕ) → entry_at entries ≡ Some (bytes, behind) → NoMore (standing from entries) (Only from bytes)
stands_first from entries bytes behind is a b (at, same) = (at, subst (λ (d : List ℕ). StandsIn d entries) (sym same) (first is))

pub stand_later : (from : ℕ) (entries bytes behind after : List ℕ) → entry_at entries ≡ Some (bytes, behind) → after ≡ behind → NoMore (standing from entries) (standing from after)
stand_later from entries bytes behind after is same a d (at, stands) = (at, later is (subst (λ (e : List ℕ). StandsIn d e) same stands))

-- what a buffer holds of a datagram, and the rest of it
pub cut_and_rest : (len : ℕ) (bytes copied rest : List ℕ) → len ≤ length bytes → copied ≡ take len bytes → take len (copied ++ rest) ++ drop len bytes ≡ bytes
cut_and_rest len bytes copied rest le is =
    let long : length copied ≡ len = ap length is ∙ length-take-le len bytes le in
    ap (λ (b : List ℕ). b ++ drop len bytes) (take_at copied rest len long ∙ is) ∙ take-append-drop len bytes
