-- Parts as they arrive, and what they are of.
use Rattle.std.specs.Prelude.{◌≡◌, ◌<◌, ℕ, List, [], ◌∷◌, length, Contains, slice_index_or}
use Rattle.std.specs.List.{concat}
use Rattle.crsm_spec.specs.Parts.{Piece}
use Rattle.crsm_segment.specs.Pieces.{send_of, sends_of}
use Rattle.crsm_segment.specs.Taking.{piece, after_part, taken_of}
use Rattle.crsm_segment.specs.declared.message.PartOutcome.TheVariants.{Whole}

-- the parts taken once these have arrived, in order
abbrev pub taken_from : List Piece → List Piece → List Piece
taken_from parts [] = parts
taken_from parts (p ∷ rest) = taken_from (after_part p parts) rest

-- with the last one, behind those before it, this message is whole
abbrev pub MakeWhole : List Piece → Piece → List ℕ → Type 0
MakeWhole before last message = taken_of last (taken_from [] before) ≡ Whole message

-- the message is all parts of one sender, boot and number, in the order of their indices
pub record IsWholeOf (arrived : List Piece) (last : Piece) (message : List ℕ) : Type 0 where
  pub pieces : List (List ℕ)
  pub count : length pieces ≡ last.count
  pub parts : (i : ℕ) → i < length pieces → Contains arrived (piece last.from last.boot last.number i last.count (slice_index_or pieces i []))
  pub is : message ≡ concat pieces

-- a message that was cut
pub record Cut : Type 0 where
  pub from : ℕ
  pub boot : ℕ
  pub number : ℕ
  pub message : List ℕ

-- no two of these had the same sender, boot and number
abbrev pub AreApart : List Cut → Type 0
AreApart cuts =
    (c e : Cut) → Contains cuts c → Contains cuts e → c.from ≡ e.from → c.boot ≡ e.boot → c.number ≡ e.number → c.message ≡ e.message

-- the part is in one of the datagrams that carry one of these messages to some replica
pub record IsOf (cuts : List Cut) (p : Piece) : Type 0 where
  pub cut : Cut
  pub was_cut : Contains cuts cut
  pub to : ℕ
  pub sent : Contains (sends_of cut.from to cut.boot cut.number cut.message) (send_of to p)

-- so are all parts
abbrev pub AreOf : List Cut → List Piece → Type 0
AreOf cuts arrived = (p : Piece) → Contains arrived p → IsOf cuts p

-- this one was cut
abbrev pub IsOneOf : List Cut → List ℕ → Type 0
IsOneOf cuts message = (c : Cut) × Contains cuts c × (message ≡ c.message)
