-- Pages received one after another make complete reports.
use Rattle.std.specs.Prelude.{◌≡◌, ◌==◌, ◌||◌, ◌⊎◌, nat_lt, ℕ, ◌<◌, false, IsTrue, List, [], ◌∷◌, ◌++◌, length, flat_map, Option, Some}
use Rattle.std.specs.List.{list_any}
use Rattle.crsm_spec.specs.Types.{Stamp, Entry, Control}
use Rattle.crsm_spec.specs.Lists.{first_of}
use Rattle.crsm_spec.specs.Log.{Log, known, executed, last_stamp, suspended}
use Rattle.crsm_spec.specs.Replica.{LogPage}
use Rattle.crsm_spec.specs.Collect.{frozen, asked_of, first_page, suspend_ok, own_page, pages_of, is_whole, cursor, whole_ones}
use Rattle.crsm_fact_log.specs.Logs.{Extends, AllFit}
use Rattle.crsm_law_collection.specs.Collecting.{Reports}

-- the page that the receiver reads in k's answer
unfoldable pub answer_page : ℕ → Log → Option Stamp → LogPage
answer_page k log after =
    let es = asked_of log after in
    let page = first_page es in
    record {
      from = k;
      executed = length (executed log);
      last = last_stamp log;
      whole = length page == length es;
      entries = page;
    }

-- it is the page that the answer carries
abbrev pub AnswersArePages : Type 0
AnswersArePages =
    (k : ℕ) (log : Log) (after : Option Stamp) →
    let p = answer_page k log after in
    suspend_ok log after ≡ Control.SuspendOk (known log) p.executed p.last after p.whole p.entries

-- The pages received from one replica begin its report, made by the log at its first page, and are all of it if one of
-- them is the last.
pub record IsPart (log : Log) (pages : List LogPage) : Type 0 where
  pub page : LogPage
  pub first : first_of pages ≡ Some page
  pub length_is : page.executed ≡ length (executed log)
  pub last_is : page.last ≡ last_stamp log
  pub rest : List Entry
  pub entries : flat_map (λ p. p.entries) pages ++ rest ≡ frozen log (last_stamp log)
  pub whole : IsTrue (list_any (λ p. p.whole) pages) → rest ≡ []
  pub some : list_any (λ p. p.whole) pages ≡ false → 0 < length (flat_map (λ p. p.entries) pages)

-- an earlier or present log of k that is suspended in epoch e
abbrev pub IsFrozen : ℕ → (ℕ → Log) → ℕ → Log → Type 0
IsFrozen e logs k log = Extends log (logs k) × (known log ≡ e) × IsTrue (suspended log)

-- from each replica nothing was received, or a part of its report
abbrev pub AreParts : ℕ → (ℕ → Log) → List LogPage → Type 0
AreParts e logs pages = (k : ℕ) → (pages_of pages k ≡ []) ⊎ ((log : Log) × IsFrozen e logs k log × IsPart log (pages_of pages k))

-- a collector begins with its own page
abbrev pub PagesBegin : Type 0
PagesBegin = (e me : ℕ) (logs : ℕ → Log) (log : Log) → IsFrozen e logs me log → AreParts e logs (own_page me log ∷ [])

-- and accepts answers to its requests
abbrev pub PagesGoOn : Type 0
PagesGoOn =
    (e n : ℕ) (logs : ℕ → Log) (pages : List LogPage) (k : ℕ) (log : Log) → ((j : ℕ) → AllFit j n (logs j)) →
    AreParts e logs pages → IsFrozen e logs k log → is_whole pages k ≡ false →
    let p = answer_page k log (cursor pages k) in
    IsTrue (nat_lt 0 (length p.entries) || p.whole) → AreParts e logs (pages ++ p ∷ [])

-- complete parts are then reports
abbrev pub PagesReport : Type 0
PagesReport =
    (e : ℕ) (spec : List ℕ) (logs : ℕ → Log) (pages : List LogPage) → AreParts e logs pages → Reports e logs (whole_ones spec pages) pages

-- parts stay parts while logs grow
abbrev pub PagesStay : Type 0
PagesStay =
    (e : ℕ) (logs later : ℕ → Log) (pages : List LogPage) → ((k : ℕ) → Extends (logs k) (later k)) →
    AreParts e logs pages → AreParts e later pages
