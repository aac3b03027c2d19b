-- The datagrams that lines name.
use Rattle.std.specs.Prelude.{◌≡◌, ℕ, ◌+◌, List, [], ◌∷◌, ◌++◌, length, drop}
use Rattle.crsm_spec.specs.Types.{Line}
use Rattle.crsm_spec.specs.World.{Packet, World}
use Rattle.crsm_spec.specs.Acts.{Single, Act}
use Rattle.crsm_spec.specs.Moments.{act}

-- a datagram that was sent: its number, sender and receiver
pub record Post : Type 0 where
  pub number : ℕ
  pub from : ℕ
  pub to : ℕ

-- the datagram that a line names, if it names one
unfoldable pub post_of : Line → List Post
post_of (Line.Send i from to kind bytes) = record { number = i; from = from; to = to } ∷ []
post_of _ = []

-- the datagrams that lines name, in order
unfoldable pub posts : List Line → List Post
posts [] = []
posts (l ∷ ls) = post_of l ++ posts ls

-- datagrams numbered from this number on
unfoldable pub posts_from : ℕ → List Packet → List Post
posts_from i [] = []
posts_from i (m ∷ ms) = record { number = i; from = m.from; to = m.to } ∷ posts_from (i + 1) ms

-- the datagrams that an act adds
unfoldable pub new_packets : World → Act → List Packet
new_packets w a = drop (length w.packets) (act w a).after.packets

-- The lines of a step name each datagram that it sends, in order, with its number, and no others.
abbrev pub SendsAreTold : Type 0
SendsAreTold = (w : World) (s : Single) → posts (act w (Act.One s)).lines ≡ posts_from (length w.packets) (new_packets w (Act.One s))
