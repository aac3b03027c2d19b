-- The relation of a verdict to the sheets.
use Rattle.std.specs.Prelude.{◌≡◌, ℕ, List, length}
use Rattle.crsm_law_sheets.specs.Sheets.{Sheet, one_list}
use Rattle.crsm_law_sheets.specs.Verdicts.{Agree, AreInOne, IsDropped, IsOddList, IsStranger, NoStranger}
use Rattle.crsm_audit.specs.declared.verdict.Verdict.{Verdict}

-- The verdict is the first that holds of the sheets, which are of a cluster that began with n replicas.
abbrev pub IsVerdict : ℕ → List Sheet → Verdict → Type 0
IsVerdict n sheets (Verdict.List sheet place) = IsOddList n sheets sheet place
IsVerdict n sheets (Verdict.Stranger place) = AreInOne n sheets sheets × IsStranger n sheets place
IsVerdict n sheets (Verdict.Dropped sheet line) = AreInOne n sheets sheets × NoStranger n sheets × IsDropped n sheets sheet line
IsVerdict n sheets (Verdict.Agree count) = Agree n sheets × (count ≡ length (one_list n sheets))
