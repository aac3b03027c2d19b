-- The verdict on sheets that have none of the faults.
use Rattle.std.proofs.Common.{◌≡◌, ℕ, List, subst}
use Rattle.std.specs.Prelude.{Some, slice_get}
use Rattle.crsm_spec.specs.Lists.{IsPrefixOf}
use Rattle.crsm_fact_log.proofs.Lists.{all_at, get_left}
use Rattle.crsm_law_lives.proofs.Laws.{got_among}
use Rattle.crsm_law_sheets.specs.Sheets.{Sheet, list_of, one_list}
use Rattle.crsm_law_sheets.specs.Verdicts.{Agree, DropsExecuted, IsOddList}
use Rattle.crsm_law_honest.specs.Laws.{HonestSheetsAgree, WholeSheetsAreComplete}
use Rattle.crsm_text_sheet.specs.Laws.{SheetsTellTurns}
use Rattle.crsm_audit.specs.Sheets.{sheets_in}
use Rattle.crsm_audit.specs.Verdict.{IsVerdict}
use Rattle.crsm_audit.specs.declared.verdict.Verdict.{Verdict}
use Rattle.crsm_law_alarms.specs.Laws.{AuditsOfWholeSheetsAgree, AuditsRaiseNoFalseAlarm, SaysAgree}
use Rattle.crsm_law_alarms.proofs.Whole.{end_whole}
use Rattle.crsm_law_alarms.proofs.Written.{BodiesHaveOne, are_written}

module _ (n : ℕ) (sheets : List Sheet) (agree : Agree n sheets) where
  -- no list differs from the one list
  none_odd : (i p : ℕ) → IsOddList n sheets i p → ⊥
  none_odd i p odd =
      let s = odd.0 in
      let differs = odd.2 in
      let prefix = all_at (λ t. IsPrefixOf (list_of n t) (one_list n sheets)) sheets s agree.lists (got_among sheets i s odd.1) in
      differs.2 (subst (λ es. slice_get es p ≡ Some differs.0) prefix.1 (get_left (list_of n s) prefix.0 p differs.0 differs.1))

  pub says_agree : (v : Verdict) → IsVerdict n sheets v → SaysAgree v
  says_agree (Verdict.List sheet place) is = none_odd sheet place is
  says_agree (Verdict.Stranger place) is = agree.stranger place is.1.0
  says_agree (Verdict.Dropped sheet line) is =
      all_at (λ t. (l : ℕ) → DropsExecuted n sheets t l → ⊥) sheets is.2.0 agree.dropped (got_among sheets sheet is.2.0 is.2.1) line is.2.2
  says_agree (Verdict.Agree places) is = tt

pub no_false_alarm : BodiesHaveOne → SheetsTellTurns → HonestSheetsAgree → AuditsRaiseNoFalseAlarm
no_false_alarm one tell honest n ls h few r short lines text x of_them complete =
    let written = are_written one tell n ls (sheets_in lines) x.sheets x.are of_them in
    says_agree n x.sheets (honest n ls h few r short x.sheets written complete) x.verdict x.is

pub whole_sheets_agree : BodiesHaveOne → SheetsTellTurns → WholeSheetsAreComplete → AuditsRaiseNoFalseAlarm → AuditsOfWholeSheetsAgree
whole_sheets_agree one tell whole no_alarm n ls h few r short lines text x of_them ends =
    no_alarm n ls h few r short lines text x of_them
    (whole n ls h r x.sheets (end_whole one tell n ls (sheets_in lines) x.sheets x.are ends))
