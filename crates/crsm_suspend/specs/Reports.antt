-- The reports of replicas, by their pages.
use Rattle.std.specs.Prelude.{◌≡◌, ℕ, ◌<◌, Bool, ◌==◌, ◌||◌, if◌then◌else◌, List, [], ◌∷◌, ◌++◌, length, map, flat_map, Option, None, Some, option_map, slice_index_or}
use Rattle.std.specs.List.{list_any}
use Rattle.std.specs.Option.{option_map_or}
use Rattle.crsm_spec.specs.Types.{Stamp, Entry}
use Rattle.crsm_spec.specs.Lists.{first_of, last_of}
use Rattle.crsm_spec.specs.Replica.{LogPage}
use Rattle.crsm_spec.specs.Collect.{pages_of}
use Rattle.crsm_suspend.specs.declared.report.ReportHead.{ReportHead}
use Rattle.crsm_suspend.specs.declared.report.Page.{Page}
use Rattle.crsm_suspend.specs.declared.report.Report.{Report}

-- the heading of a replica's report: the executed length and the last stamp of the first page, the stamp of the last
-- entry, and whether one is the last page
unfoldable pub head_of : List LogPage → ReportHead
head_of pages =
    record {
      executed = option_map_or (λ p. p.executed) (first_of pages) 0;
      last = option_map_or (λ p. p.last) (first_of pages) None;
      cursor = option_map (λ e. e.stamp) (last_of (flat_map (λ p. p.entries) pages));
      is_whole = list_any (λ p. p.whole) pages;
    }

-- the report of replica k
unfoldable pub report_of : List LogPage → ℕ → Report
report_of pages k = record { head = head_of (pages_of pages k); pages = map (λ p. p.entries) (pages_of pages k) }

-- a page of replica k
abbrev pub page_from : ℕ → Page → LogPage
page_from k p = record { from = k; executed = p.executed; last = p.last; whole = p.is_whole; entries = p.entries }

-- the stamp of the last entry, the other one where there is no entry
unfoldable pub last_stamp_or : Option Stamp → List Entry → Option Stamp
last_stamp_or stamp es = option_map_or (λ e. Some e.stamp) (last_of es) stamp

-- the heading after a further page, or the first one
abbrev pub head_with : Bool → ReportHead → Page → ReportHead
head_with is_first h p =
    record {
      executed = if is_first then p.executed else h.executed;
      last = if is_first then p.last else h.last;
      cursor = last_stamp_or h.cursor p.entries;
      is_whole = h.is_whole || p.is_whole;
    }

abbrev pub with_page : Report → Page → Report
with_page r p = record { head = head_with (length r.pages == 0) r.head p; pages = r.pages ++ p.entries ∷ [] }

-- nothing has come
abbrev pub no_report : Report
no_report = record { head = head_of []; pages = [] }

-- there is a report of each replica, and they say what these pages say
pub record ReportsStand (reports : List Report) (pages : List LogPage) : Type 0 where
  pub long : length reports ≡ 15
  pub each : (k : ℕ) → k < 15 → slice_index_or reports k no_report ≡ report_of pages k
