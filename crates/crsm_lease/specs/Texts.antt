-- The line that a client is shown.
use Rattle.std.specs.Prelude.{ℕ, List, [], ◌∷◌, codes}
use Rattle.crsm_text.specs.Words.{named}
use Rattle.crsm_lease.specs.declared.told.Told.{Told}

-- without its line feed
abbrev pub told_text : Told → List ℕ
told_text (Told.Granted fence) = named (codes "granted") (fence ∷ [])
told_text (Told.Released fence) = named (codes "released") (fence ∷ [])
told_text (Told.Held owner fence) = named (codes "held") (owner ∷ fence ∷ [])
told_text (Told.Free fence) = named (codes "free") (fence ∷ [])
told_text Told.NotALock = codes "notalock"
told_text Told.Odd = codes "odd"
told_text Told.Spent = codes "spent"
told_text Told.Raced = codes "raced"
told_text (Told.Stale number) = named (codes "stale") (number ∷ [])
told_text Told.NoRoom = codes "noroom"
told_text (Told.Refused code) = named (codes "no") (code ∷ [])
