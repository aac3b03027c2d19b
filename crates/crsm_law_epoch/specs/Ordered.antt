-- Recorded decisions whose members rise.
use Rattle.std.specs.Prelude.{[], ◌∷◌}
use Rattle.crsm_base.specs.Members.{IsMembers}
use Rattle.crsm_spec.specs.Types.{Decision, Rec}
use Rattle.crsm_spec.specs.Log.{Log}

-- the members of the decision rise strictly, each below 15
abbrev pub IsOrdered : Decision → Type 0
IsOrdered d = IsMembers d.members

-- the decision in a record, if any, has such members
abbrev pub IsOrderedRec : Rec → Type 0
IsOrderedRec (Rec.Decide d) = IsOrdered d
IsOrderedRec (Rec.Accept i b d) = IsOrdered d
IsOrderedRec _ = Unit {0}

-- so do those of all records of a log
abbrev pub AreOrdered : Log → Type 0
AreOrdered [] = Unit {0}
AreOrdered (rec ∷ log) = IsOrderedRec rec × AreOrdered log
