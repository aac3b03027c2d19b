-- A collected decision can be sent.
use Rattle.std.proofs.Common.{◌≡◌, ℕ, ◌≤◌, Bool, true, false, refl, sym, subst, List, drop, length, Option}
use Rattle.std.specs.Prelude.{IsTrue}
use Rattle.std.specs.List.{AllByRecursion}
use Rattle.std.proofs.Math.Logic.{∥∥₁_elim}
use Rattle.std.proofs.Props.{props}
use Rattle.crsm_base.specs.Members.{IsMembers}
use Rattle.crsm_base.specs.Spelling.{FitsEntries, FitsEntry, FitsOption, FitsDecision, Rises}
use Rattle.crsm_spec.specs.Types.{Stamp, Entry, Decision}
use Rattle.crsm_spec.specs.Choice.{when◌then◌otherwise◌}
use Rattle.crsm_spec.specs.Log.{Log, known, start, logged, logged_in, last_stamp, above}
use Rattle.crsm_spec.specs.Replica.{LogPage}
use Rattle.crsm_spec.specs.Collect.{collected, first_page, size_of, is_within}
use Rattle.crsm_spec.specs.Coordinate.{most_collected}
use Rattle.crsm_fact_log.specs.Pages.{FitPages}
use Rattle.crsm_fact_log.proofs.Lists.{all_at, all_from}
use Rattle.crsm_fact_log.proofs.Sorted.{above_from}
use Rattle.crsm_fact_log.proofs.Logged.{logged_epoch}
use Rattle.crsm_fact_log.proofs.DecisionsFit.{collected_fits}
use Rattle.crsm_fact_log.proofs.EntriesFit.{drop_rises, page_fits}
use Rattle.crsm_ledger.specs.declared.ledger.Ledger.{Ledger}
use Rattle.crsm_ledger.specs.Ledger.{HasLogged, HoldsLogged, epoch_of}
use Rattle.crsm_suspend.specs.Collecting.{CanSend, FitsGot, got_decided}
use Rattle.crsm_suspend.specs.declared.got.PageOutcome.TheVariants as PageOutcome
use Rattle.crsm_suspend.proofs.Propositions.{all_prop, entries_prop}

-- ---- the decision

pub pages_fit : (epoch : ℕ) (pages : List LogPage) → AllByRecursion (CanSend epoch) pages → FitPages epoch pages
pages_fit epoch pages told p m =
    let t = all_at (CanSend epoch) pages p told m in
    record { executed = t.low; entries = λ z n. (all_at FitsEntry p.entries z t.fit n, all_at (λ e. e.epoch ≡ epoch) p.entries z t.of_epoch n) }

module _ (log : Log) (spec : List ℕ) (named : Option (List ℕ)) (members : List ℕ) (pages : List LogPage) (told : AllByRecursion (CanSend (known log)) pages) (d : Decision) (is : d ≡ collected spec named log members pages) where
  pub fits_collected : known log ≤ most_collected → start log ≤ most_collected → IsMembers d.members → FitsOption IsMembers d.spec → is_within d.tail ≡ true → FitsDecision d
  unfolding collected
  fits_collected low begins ms naming within =
      subst FitsDecision (sym is)
      (collected_fits spec named log members pages
      (subst (λ (e : Decision). FitsOption IsMembers e.spec) is naming)
      (subst (λ (e : Decision). IsMembers e.members) is ms) low begins
      (pages_fit (known log) pages told)
      (subst (λ (e : Decision). IsTrue (is_within e.tail)) is within))

  pub fits_got : known log ≤ most_collected → start log ≤ most_collected → IsMembers d.members → FitsOption IsMembers d.spec → FitsGot (got_decided d)
  unfolding got_decided when◌then◌otherwise◌
  fits_got low begins ms naming = go (is_within d.tail) refl
    where
      go : (b : Bool) → is_within d.tail ≡ b → FitsGot (when b then PageOutcome.Complete d otherwise PageOutcome.TooMany (length d.tail) (size_of d.tail))
      go true e = fits_collected low begins ms naming e
      go false e = tt

-- ---- the replica's own page

pub own_epoch : (log : Log) → AllByRecursion (λ e. e.epoch ≡ known log) (above (last_stamp log) (logged log))
unfolding logged
own_epoch log = all_from (λ e. e.epoch ≡ known log) (above (last_stamp log) (logged_in (known log) log))
    (λ z m. logged_epoch (known log) log z (above_from (last_stamp log) (logged_in (known log) log) z m).0)

-- the entries above a stamp have encodings
own_fit : (o : Option Stamp) (es : List Entry) → AllByRecursion FitsEntry es → AllByRecursion FitsEntry (above o es)
own_fit o es h = all_from FitsEntry (above o es) (λ z m. all_at FitsEntry es z h (above_from o es z m).0)

-- ---- the page of a suspended replica

-- the first page of the logged entries above a stamp has an encoding
pub first_page_fits : (l : Ledger) (floor : Option Stamp) (k : ℕ) (page : List Entry) → ((es : List Entry) → HoldsLogged l es → drop k es ≡ above floor es) → ((es : List Entry) → HoldsLogged l es → page ≡ first_page (above floor es)) → ∥ HasLogged l ∥₁ → FitsEntries page
first_page_fits l floor k page from is some = ∥∥₁_elim some (entries_prop page) (λ h.
    let rise = subst (λ (es : List Entry). Rises es) (from h.entries h.holds) (drop_rises k h.entries h.rise) in
    subst FitsEntries (sym (is h.entries h.holds)) (page_fits (above floor h.entries) (own_fit floor h.entries h.fit) rise))

-- the logged entries above a stamp are of the ledger's epoch
pub of_the_epoch : (l : Ledger) (floor : Option Stamp) (copies : List Entry) → ((es : List Entry) → HoldsLogged l es → copies ≡ above floor es) → ∥ HasLogged l ∥₁ → AllByRecursion (λ e. e.epoch ≡ epoch_of l) copies
of_the_epoch l floor copies is some = ∥∥₁_elim some (all_prop (λ (e : Entry). e.epoch ≡ epoch_of l) (λ e. hlevel props) copies) (λ h.
    subst (λ (es : List Entry). AllByRecursion (λ e. e.epoch ≡ epoch_of l) es) (sym (is h.entries h.holds))
    (all_from (λ e. e.epoch ≡ epoch_of l) (above floor h.entries) (λ z m. all_at (λ e. e.epoch ≡ epoch_of l) h.entries z h.of_epoch (above_from floor h.entries z m).0)))
