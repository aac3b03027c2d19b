-- The state of the newest message of a peer: a slot for each of its parts.
use Rattle.std.specs.Prelude.{ℕ, Bool, true, false, ◌==◌, ◌||◌, ◌&&◌, not, nat_lt, if◌then◌else◌, List, [], replicate, Option, Some, None, is_some, unwrap_or, slice_index_or, slice_set}
use Rattle.std.specs.List.{list_all, flat_map}
use Rattle.crsm_spec.specs.Parts.{Piece}
use Rattle.crsm_segment.specs.Taking.{is_sized}
use Rattle.crsm_segment.specs.declared.message.Heading.{Heading}

-- its parts by index, until it is returned
pub record Gathering : Type 0 where
  pub boot : ℕ
  pub number : ℕ
  pub count : ℕ
  pub slots : List (Option (List ℕ))
  pub given : Bool

abbrev pub heading : ℕ → ℕ → ℕ → ℕ → Heading
heading boot number index count = record { boot = boot; number = number; index = index; count = count }

-- a part of a peer, by what it says of itself
abbrev pub part_of : ℕ → Heading → List ℕ → Piece
part_of from h bytes = record { from = from; boot = h.boot; number = h.number; index = h.index; count = h.count; bytes = bytes }

-- the part's message is older, or is this one
abbrev pub is_before : Heading → Gathering → Bool
is_before h g = nat_lt h.boot g.boot || (h.boot == g.boot && nat_lt h.number g.number)

abbrev pub is_same : Heading → Gathering → Bool
is_same h g = h.boot == g.boot && h.number == g.number

abbrev pub has_passed : Option Gathering → Heading → Bool
has_passed None h = false
has_passed (Some g) h = is_before h g || (is_same h g && g.given)

abbrev pub has_other_count : Option Gathering → Heading → Bool
has_other_count None h = false
has_other_count (Some g) h = is_same h g && not (g.count == h.count)

abbrev pub fits : Heading → List ℕ → Bool
fits h bytes = is_sized (part_of 0 h bytes)

abbrev pub is_refused : Option Gathering → Heading → List ℕ → Bool
is_refused peer h bytes = has_other_count peer h || not (fits h bytes)

-- a message without parts
abbrev pub empty_gathering : Heading → Gathering
empty_gathering h = record { boot = h.boot; number = h.number; count = h.count; slots = replicate h.count None; given = false }

-- a message that was returned
abbrev pub given_gathering : Heading → Gathering
given_gathering h = record { boot = h.boot; number = h.number; count = h.count; slots = []; given = true }

-- where a part goes that is neither passed nor refused
abbrev pub gathering_for : Option Gathering → Heading → Gathering
gathering_for None h = empty_gathering h
gathering_for (Some g) h = if is_same h g then g else empty_gathering h

abbrev pub is_filled : List (Option (List ℕ)) → Bool
is_filled slots = list_all is_some slots

abbrev pub all_bytes : List (Option (List ℕ)) → List ℕ
all_bytes slots = flat_map (λ o. unwrap_or o []) slots

abbrev pub has_slot : Gathering → ℕ → Bool
has_slot g i = is_some (slice_index_or g.slots i None)

abbrev pub with_slot : Gathering → ℕ → List ℕ → List (Option (List ℕ))
with_slot g i bytes = slice_set g.slots i (Some bytes)

abbrev pub after_add : Gathering → ℕ → List ℕ → Gathering
after_add g i bytes =
    if has_slot g i then g
    else (if is_filled (with_slot g i bytes)
    then record g { slots = []; given = true }
    else record g { slots = with_slot g i bytes })

abbrev pub after_heading : Option Gathering → Heading → List ℕ → Option Gathering
after_heading peer h bytes =
    if has_passed peer h || is_refused peer h bytes then peer else Some (after_add (gathering_for peer h) h.index bytes)
