-- Lists of entries that rise by stamp.
use Rattle.std.specs.Prelude.{IsTrue, List, [], ◌∷◌, Some, Option, None}
use Rattle.std.specs.List.{AllByRecursion}
use Rattle.crsm_spec.specs.Types.{Stamp, Entry}
use Rattle.crsm_base.specs.Order.{stamp_lt}

-- strictly ascending by stamp
abbrev pub Rises : List Entry → Type 0
Rises [] = Unit {0}
Rises (x ∷ xs) = AllByRecursion (λ y. IsTrue (stamp_lt x.stamp y.stamp)) xs × Rises xs

-- z is above the stamp, if there is one
abbrev pub IsAbove : Option Stamp → Entry → Type 0
IsAbove None z = Unit {0}
IsAbove (Some s) z = IsTrue (stamp_lt s z.stamp)
