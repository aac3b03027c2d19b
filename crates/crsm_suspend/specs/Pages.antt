-- Which entries a page is to have, and lists of pages.
use Rattle.std.specs.Prelude.{◌≡◌, ◌==◌, Bool, true, ◌-◌, List, length, take, Option, None, Some}
use Rattle.std.specs.Option.{option_map_or}
use Rattle.crsm_base.specs.Order.{stamp_lt}
use Rattle.crsm_spec.specs.Types.{Stamp, Entry}
use Rattle.crsm_spec.specs.Collect.{first_page}

-- the stamp is above the other one, if there is one
unfoldable pub is_over : Option Stamp → Stamp → Bool
is_over floor s = option_map_or (λ t. stamp_lt t s) floor true

-- the stamp that was asked for, and the other one where none was
abbrev pub asked_stamp : Option Stamp → Option Stamp → Option Stamp
asked_stamp None last = last
asked_stamp (Some after) last = Some after

-- a list without its last element
unfoldable pub without_last : {A : Type 0} → List A → List A
without_last xs = take (length xs - 1) xs

-- the entries are the first page of these, and the mark says whether they are all of them
pub record IsPageOf (all page : List Entry) (whole : Bool) : Type 0 where
  pub entries : page ≡ first_page all
  pub mark : whole ≡ (length page == length all)
