-- The collection of suspended logs: pages, reports, and the decision that is made of them.
use Rattle.std.specs.Prelude.{ℕ, ◌+◌, ◌-◌, Bool, true, ◌==◌, ◌&&◌, nat_le, if◌then◌else◌, List, [], ◌∷◌, length, map, filter, find, flat_map, fold, sum_by, max, Option, None, Some, option_map}
use Rattle.std.specs.List.{list_any}
use Rattle.std.specs.Option.{option_map_or}
use Rattle.crsm_spec.specs.Types.{Stamp, Entry, Decision, Control}
use Rattle.crsm_base.specs.Order.{stamp_lt, stamp_eq}
use Rattle.crsm_spec.specs.Lists.{last_of, first_of, greatest}
use Rattle.crsm_spec.specs.Log.{Log, known, start, logged, executed, last_stamp, above}
use Rattle.crsm_base.specs.Limits.{most_entries, most_bytes, page_bytes}
use Rattle.crsm_base.specs.Spelling.{entry_bytes}
use Rattle.crsm_spec.specs.Replica.{LogPage}

-- ---- pages

-- the logged entries of the known epoch above a stamp, or all of them
unfoldable pub frozen : Log → Option Stamp → List Entry
frozen log after = above after (logged log)

-- the longest prefix of the entries whose encodings fit in `room` bytes
unfoldable pub run_within : ℕ → List Entry → List Entry
run_within room [] = []
run_within room (e ∷ es) =
    let size = length (entry_bytes e) in
    if nat_le size room then e ∷ run_within (room - size) es else []

-- the longest prefix of the entries that fits in a page
unfoldable pub first_page : List Entry → List Entry
first_page es = run_within page_bytes es

-- the entries that a SUSPEND asks for: those above its stamp, or above the last executed one
unfoldable pub asked_of : Log → Option Stamp → List Entry
asked_of log None = frozen log (last_stamp log)
asked_of log (Some s) = frozen log (Some s)

-- The answer to a SUSPEND.
unfoldable pub suspend_ok : Log → Option Stamp → Control
suspend_ok log after =
    let es = asked_of log after in
    let page = first_page es in
    Control.SuspendOk (known log) (length (executed log)) (last_stamp log) after (length page == length es) page

-- the replica's own report, as one page
unfoldable pub own_page : ℕ → Log → LogPage
own_page me log =
    record {
      from = me;
      executed = length (executed log);
      last = last_stamp log;
      whole = true;
      entries = frozen log (last_stamp log);
    }

-- ---- pages of one replica

-- the pages of replica k
unfoldable pub pages_of : List LogPage → ℕ → List LogPage
pages_of pages k = filter (λ p. p.from == k) pages

-- whether the last page of k was received
unfoldable pub is_whole : List LogPage → ℕ → Bool
is_whole pages k = list_any (λ p. p.whole) (pages_of pages k)

-- the stamp of the last entry received from k, above which the next page is requested
unfoldable pub cursor : List LogPage → ℕ → Option Stamp
cursor pages k = option_map (λ e. e.stamp) (last_of (flat_map (λ p. p.entries) (pages_of pages k)))

-- the replicas of which all pages were received, ascending
unfoldable pub whole_ones : List ℕ → List LogPage → List ℕ
whole_ones spec pages = filter (is_whole pages) spec

-- ---- the decision of complete reports

-- the entries of the reports, by ascending replica
unfoldable pub all_entries : List ℕ → List LogPage → List Entry
all_entries ks pages = flat_map (λ k. flat_map (λ p. p.entries) (pages_of pages k)) ks

-- the first page of each report, by ascending replica
unfoldable pub first_pages : List ℕ → List LogPage → List LogPage
first_pages [] pages = []
first_pages (k ∷ ks) pages = option_map_or (λ p. p ∷ first_pages ks pages) (first_of (pages_of pages k)) (first_pages ks pages)

-- the greatest executed length of the reports, and at least the start
unfoldable pub base_of : ℕ → List LogPage → ℕ
base_of start firsts = max start (greatest (map (λ p. p.executed) firsts))

-- the last stamp of the first report with this executed length
unfoldable pub floor_of : ℕ → List LogPage → Option Stamp
floor_of base firsts = option_map_or (λ p. p.last) (find (λ p. p.executed == base) firsts) None

-- the entries with e inserted by ascending stamp, unless an entry has its stamp
unfoldable pub with_new : List Entry → Entry → List Entry
with_new [] e = e ∷ []
with_new (f ∷ es) e =
    if stamp_lt e.stamp f.stamp then e ∷ f ∷ es
    else if stamp_eq e.stamp f.stamp then f ∷ es
    else f ∷ with_new es e

-- the entries of all reports by ascending stamp: of entries with one stamp the first is kept
unfoldable pub union : List Entry → List Entry
union es = fold with_new [] es

-- The decision for the epoch after the known one, made of the complete reports.
unfoldable pub collected : List ℕ → Option (List ℕ) → Log → List ℕ → List LogPage → Decision
collected spec named log members pages =
    let ks = whole_ones spec pages in
    let firsts = first_pages ks pages in
    let base = base_of (start log) firsts in
    record {
      epoch = known log + 1;
      spec = named;
      members = members;
      base_len = base;
      tail = above (floor_of base firsts) (union (all_entries ks pages));
    }

-- the encoded length of the entries in bytes
unfoldable pub size_of : List Entry → ℕ
size_of es = sum_by (λ e. length (entry_bytes e)) es

-- whether the tail is within the limits of a decision
unfoldable pub is_within : List Entry → Bool
is_within es = nat_le (length es) most_entries && nat_le (size_of es) most_bytes
