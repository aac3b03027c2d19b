-- The joint content of reports, in memory.
use Rattle.std.specs.Prelude.{◌≡◌, ℕ, suc, List, [], ◌∷◌, ◌++◌, map, None}
use Rattle.std.specs.BTreeMap.{get}
use Rattle.std.specs.List.{AllByRecursion, flat_map}
use Rattle.std.specs.Option.{option_map_or}
use Rattle.std.specs.Ordering.{nat_cmp}
use Rattle.crsm_spec.specs.Lists.{greatest}
use Rattle.crsm_spec.specs.Paxos.{Held}
use Rattle.crsm_mpspec.specs.declared.accepts.MpAccepted.{MpAccepted}
use Rattle.crsm_mpspec.specs.declared.choices.MpChosen.{MpChosen}
use Rattle.crsm_mpspec.specs.Types.{Ballot, Value}
use Rattle.crsm_mpspec.specs.Log.{by_slot}
use Rattle.crsm_mpspec.specs.Replica.{Report}
use Rattle.crsm_mpspec.specs.Electing.{held_at, chosen_among, reported_at, next_slot}
use Rattle.crsm_mpreplica.specs.declared.note.MpReport.{MpReport as ReportInMemory}
use Rattle.crsm_mpreplica.specs.Fitting.{FitsAccepted, FitsChosen, FitsReport}
use Rattle.crsm_mpcore.specs.declared.findings.Findings.{Findings}

-- ---- the findings before a report

-- the joint content of reports on the slots from one on
pub record Found : Type 0 where
  pub start : ℕ
  pub accepted : List MpAccepted
  pub chosen : List MpChosen

-- nothing yet
abbrev pub none_found : ℕ → Found
none_found start = record { start = start; accepted = []; chosen = [] }

abbrev pub and_chosen : Found → List MpChosen → Found
and_chosen found chosen = record found { chosen = found.chosen ++ chosen }

abbrev pub and_accepted : Found → List MpAccepted → Found
and_accepted found accepted = record found { accepted = found.accepted ++ accepted }

-- and what one report says
abbrev pub and_report : Found → ReportInMemory → Found
and_report found r = and_accepted (and_chosen found r.chosen) r.accepted

abbrev pub FitsInside : ReportInMemory → Type 0
FitsInside r = AllByRecursion FitsAccepted r.accepted × AllByRecursion FitsChosen r.chosen

-- the joint content of all these reports
abbrev pub found_in : ℕ → List Report → Found
found_in start reports =
    record { start = start; accepted = flat_map (λ r. r.accepted) reports; chosen = flat_map (λ r. r.chosen) reports }

-- the slot behind all of these, or the first one
unfoldable pub next_of : Found → ℕ
next_of found = greatest (found.start ∷ (map (λ a. suc a.slot) found.accepted ++ map (λ c. suc c.slot) found.chosen))

-- the values by slot
unfoldable pub by_slots : List MpChosen → List (ℕ × Value)
by_slots chosen = by_slot (map (λ c. (c.slot, c.value)) chosen)

-- the accepted value, behind its ballot
abbrev pub as_held : MpAccepted → Ballot × Value
as_held a = (a.ballot, a.value)

-- the accepted value of the greatest ballot that was found at the slot
abbrev pub best_at : Findings → ℕ → Held Value
best_at findings slot = get nat_cmp findings.best slot

-- This is what was found.
pub record FindingsStand (findings : Findings) (found : Found) : Type 0 where
  pub next : findings.next ≡ next_of found
  pub chosen : findings.chosen.entries ≡ by_slots found.chosen
  pub best : (slot : ℕ) → best_at findings slot ≡ held_at slot found.accepted

-- ---- reports

-- These reports, which were asked for from a slot on, leave this.
pub record AreFindings (findings : Findings) (start : ℕ) (reports : List Report) : Type 0 where
  pub next : findings.next ≡ next_slot start reports
  pub chosen : findings.chosen.entries ≡ chosen_among reports
  pub best : (slot : ℕ) → option_map_or (λ b. b.1) (best_at findings slot) None ≡ reported_at slot reports
  pub fit : AllByRecursion FitsReport reports
