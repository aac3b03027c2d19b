-- A history of two nodes whose sheets agree if they are whole; if one lacks its last line they do not.
use Rattle.std.specs.Prelude.{◌≡◌, List, [], ◌∷◌}
use Rattle.crsm_spec.specs.Types.{Entry}
use Rattle.crsm_spec_process.specs.Lives.{Life}
use Rattle.crsm_law_cluster.specs.Clusters.{Event}
use Rattle.crsm_law_cluster.specs.Histories.{last_cluster}
use Rattle.crsm_law_cluster.specs.HistoryLaws.{HasShortLogs}
use Rattle.crsm_law_lives.specs.Premises.{Ran}
use Rattle.crsm_law_sheets.specs.Sheets.{Sheet, one_list}
use Rattle.crsm_law_sheets.specs.Verdicts.{AreInOne, IsStranger}
use Rattle.crsm_law_honest.specs.Honest.{AreWrittenBy, EndComplete}

-- Node 0 logs a client's command, sends it to node 1 and is killed before the line of that turn is written; node 1
-- executes the command. Without that line the entry is a stranger; with it the sheets are complete, and the list is not
-- empty.
pub record CutSheetsRaiseAlarms : Type 0 where
  pub ls : List Life
  pub h : List Event
  pub ran : Ran 2 ls h
  pub short : HasShortLogs (last_cluster 2 h)
  pub cut : List Sheet
  pub cut_written : AreWrittenBy ls cut
  pub cut_lists : AreInOne 2 cut cut
  pub stranger : IsStranger 2 cut 0
  pub whole : List Sheet
  pub whole_written : AreWrittenBy ls whole
  pub complete : EndComplete 2 h whole
  pub entry : Entry
  pub list : one_list 2 whole ≡ entry ∷ []
