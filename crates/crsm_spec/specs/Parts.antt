-- Control messages in parts: how they are cut, and how received parts are put together.
use Rattle.std.specs.Prelude.{ℕ, zero, suc, ◌+◌, ◌-◌, ◌/◌, Bool, ◌==◌, ◌&&◌, ◌||◌, not, nat_lt, if◌then◌else◌, List, [], ◌∷◌, ◌++◌, length, take, drop, filter, flat_map, Option, None, Some}
use Rattle.std.specs.List.{list_any, list_all}
use Rattle.crsm_base.specs.Limits.{part_bytes}
use Rattle.crsm_spec.specs.Lists.{numbers_below}

-- A received part of a control message.
pub record Piece : Type 0 where
  pub from : ℕ
  pub boot : ℕ
  pub number : ℕ
  pub index : ℕ
  pub count : ℕ
  pub bytes : List ℕ

-- the number of parts of a message of this many bytes
unfoldable pub part_count : ℕ → ℕ
part_count n = (n + (part_bytes - 1)) / part_bytes

-- the bytes cut into this many parts
unfoldable pub cut_into : ℕ → List ℕ → List (List ℕ)
cut_into zero bytes = []
cut_into (suc k) bytes = take part_bytes bytes ∷ cut_into k (drop part_bytes bytes)

-- the parts of a message, in order
unfoldable pub cut : List ℕ → List (List ℕ)
cut bytes = cut_into (part_count (length bytes)) bytes

-- ---- gathering

-- whether one message of a sender is older than another
unfoldable pub is_older : Piece → Piece → Bool
is_older p q = p.from == q.from && (nat_lt p.boot q.boot || (p.boot == q.boot && nat_lt p.number q.number))

-- whether they are parts of one message
unfoldable pub is_same_message : Piece → Piece → Bool
is_same_message p q = p.from == q.from && (p.boot == q.boot && p.number == q.number)

-- the received parts of this part's message
unfoldable pub kept_of : Piece → List Piece → List Piece
kept_of p parts = filter (is_same_message p) parts

-- whether the part with this index was received
unfoldable pub has_index : List Piece → ℕ → Bool
has_index kept i = list_any (λ q. q.index == i) kept

-- whether all parts of the message were received
unfoldable pub is_complete : Piece → List Piece → Bool
is_complete p kept = list_all (has_index kept) (numbers_below p.count)

-- Whether the part is of a message older than one that is being received, or of one that is complete.
unfoldable pub is_old : Piece → List Piece → Bool
is_old p parts = list_any (λ q. is_older p q || (is_same_message p q && is_complete q (kept_of p parts))) parts

-- Whether the part names another number of parts than those of its message received before.
unfoldable pub is_odd : Piece → List Piece → Bool
is_odd p parts = not (list_all (λ q. q.count == p.count) (kept_of p parts))

-- the bytes of the kept parts, in the order of their indices
unfoldable pub joined : ℕ → List Piece → List ℕ
joined count kept = flat_map (λ i. flat_map (λ q. if q.index == i then q.bytes else []) kept) (numbers_below count)

-- The received parts after one more.
unfoldable pub with_part : Piece → List Piece → List Piece
with_part p parts =
    if (is_old p parts || is_odd p parts) || has_index (kept_of p parts) p.index then parts else parts ++ p ∷ []

-- The message that is complete with this part, if any.
unfoldable pub whole_with : Piece → List Piece → Option (List ℕ)
whole_with p parts =
    let kept = kept_of p (with_part p parts) in
    if (is_old p parts || is_odd p parts) || not (is_complete p kept) then None else Some (joined p.count kept)
