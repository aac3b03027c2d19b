-- The outcome of a part, by the parts that were taken before it.
use Rattle.std.specs.Prelude.{ℕ, Bool, ◌&&◌, ◌||◌, not, nat_lt, nat_le, if◌then◌else◌, List, length, Option, None, Some}
use Rattle.crsm_base.specs.Limits.{most_parts}
use Rattle.crsm_base.specs.Messages.{part_least, part_most}
use Rattle.crsm_spec.specs.Parts.{Piece, is_old, is_odd, with_part, whole_with}
use Rattle.crsm_segment.specs.declared.message.PartOutcome.{PartOutcome}
use Rattle.crsm_segment.specs.declared.message.PartOutcome.TheVariants.{Whole, More, Old, Odd}

-- the part with these fields
abbrev pub piece : ℕ → ℕ → ℕ → ℕ → ℕ → List ℕ → Piece
piece from boot number index count bytes =
    record { from = from; boot = boot; number = number; index = index; count = count; bytes = bytes }

-- the part is of its message's count, and as long as a part at its index is
unfoldable pub is_sized : Piece → Bool
is_sized p =
    (nat_lt p.index p.count && nat_le p.count most_parts)
    && (nat_le (part_least p.index p.count) (length p.bytes) && nat_le (length p.bytes) (part_most p.index p.count))

-- the parts taken once this one has come
unfoldable pub after_part : Piece → List Piece → List Piece
after_part p parts = if is_sized p then with_part p parts else parts

unfoldable pub taken_whole : Option (List ℕ) → PartOutcome
taken_whole None = More
taken_whole (Some message) = Whole message

-- the answer to this part
unfoldable pub taken_of : Piece → List Piece → PartOutcome
taken_of p parts =
    if is_old p parts then Old
    else (if is_odd p parts || not (is_sized p) then Odd else taken_whole (whole_with p parts))

-- the message that an answer gives
unfoldable pub whole_of : PartOutcome → Option (List ℕ)
whole_of (Whole message) = Some message
whole_of More = None
whole_of Old = None
whole_of Odd = None
