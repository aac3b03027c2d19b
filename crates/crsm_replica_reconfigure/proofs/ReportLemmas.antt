-- The outcomes of pages of frozen logs.
use Rattle.std.proofs.Common.{◌≡◌, ℕ, zero, suc, ◌+◌, ◌<◌, ◌≤◌, List, [], ◌∷◌, ◌++◌, refl, sym, ◌∙◌, ap, subst, arith, Bool, true, false, length, take, get_or}
use Rattle.std.specs.Prelude.{◌≢◌, ◌==◌, ◌||◌, ◌/◌, not, nat_le, fold, filter, Option, Some, None, count_by, unwrap_or}
use Rattle.std.specs.List.{range_with_len}
use Rattle.std.proofs.lemmas.Bool.{false≢true, eqb-true}
use Rattle.std.proofs.lemmas.Bool.Decides.{nat_tests}
use Rattle.std.proofs.lemmas.List.{take_more, take_all}
use Rattle.std.proofs.lemmas.List.Sums.{count_by-le-length}
use Rattle.std.proofs.lemmas.Grind.{fold-append}
use Rattle.crsm_base.specs.Members.{RisesWithin, IsMembers}
use Rattle.crsm_base.specs.Spelling.{FitsOption, FitsDecision}
use Rattle.crsm_spec.specs.Types.{Stamp, Decision, Control, Line}
use Rattle.crsm_spec.specs.Choice.{when◌then◌otherwise◌}
use Rattle.crsm_spec.specs.Lists.{has, numbers_below}
use Rattle.crsm_spec.specs.Log.{Log, known, decision, spec, no_ballot}
use Rattle.crsm_spec.specs.Paxos.{majority}
use Rattle.crsm_spec.specs.Quorum.{spec_decided, has_majority}
use Rattle.crsm_spec.specs.Replica.{LogPage, Coordinator, spec_of, next_spec, named_spec, others}
use Rattle.crsm_spec.specs.Collect.{cursor, is_whole, whole_ones, collected, is_within, size_of}
use Rattle.crsm_spec.specs.Draft.{Draft, keep, noting, send_control}
use Rattle.crsm_spec.specs.Coordinate.{instance, begin_proposing, ask}
use Rattle.crsm_spec.specs.Controls.{on_control, on_suspend_ok, if_spec}
use Rattle.crsm_spec.specs.Step.{ask_page, missing, send_collect}
use Rattle.crsm_suspend.specs.Collecting.{FitsGot, is_asked, got_decided, got_whole, got_more, got_page, page_in, got_of, pages_after}
use Rattle.crsm_suspend.specs.Coordinating.{on_got, PagesAreTaken}
use Rattle.crsm_suspend.specs.declared.got.PageOutcome.{PageOutcome}
use Rattle.crsm_suspend.proofs.CollectLemmas.{more_from}
use Rattle.crsm_fact_log.proofs.LogsFit.{decision_fits, no_fits}
use Rattle.crsm_replica_coordinator.specs.Coordinator.{epoch_of, next_in, named_in}
use Rattle.crsm_replica_coordinator.proofs.Counting.{none_counted, push_counted}
use Rattle.crsm_replica.specs.Sound.{IsSound}
use Rattle.crsm_replica_reconfigure.specs.Rules.{CanPropose}
use Rattle.crsm_replica_reconfigure.specs.Reports.{IsReport, CanBegin, AsksOn, CanGoOn, ask_missing, begins_fitting, is_collecting}
use Rattle.crsm_replica_reconfigure.proofs.BeginLemmas.{begins_shared}
use Rattle.crsm_replica_reconfigure.proofs.DraftLemmas.{when_yes, when_no, when_same, and_none, send_fitting}

-- ---- a coordinator that collects

pub collecting_as : (m : Coordinator) → is_collecting m ≡ true → (ms : List ℕ) × (pages : List LogPage) × (m ≡ Coordinator.Collecting ms pages)
unfolding is_collecting
collecting_as Coordinator.Idle h = absurd (false≢true h)
collecting_as (Coordinator.Collecting ms pages) h = (ms, pages, refl)
collecting_as (Coordinator.Preparing b own answers) h = absurd (false≢true h)
collecting_as (Coordinator.Proposing b own value acceptors) h = absurd (false≢true h)
collecting_as (Coordinator.Preempted own seen) h = absurd (false≢true h)

-- ---- a page is asked for

pub ask_as : (pages : List LogPage) (x : Draft) (k epoch : ℕ) (after : Option Stamp) → epoch ≡ known x.replica.log → after ≡ cursor pages k → send_control (Control.Suspend epoch after) x k ≡ ask_page pages x k
unfolding ask_page
ask_as pages x k epoch after e a = ap (λ i. send_control (Control.Suspend i after) x k) e ∙ ap (λ o. send_control (Control.Suspend (known x.replica.log) o) x k) a

pub missing_whole : (pages : List LogPage) (x : Draft) (k : ℕ) → is_whole pages k ≡ true → x ≡ ask_missing pages x k
unfolding ask_missing
missing_whole pages x k h = sym (when_yes _ x _ h)

pub missing_asked : (pages : List LogPage) (x : Draft) (k : ℕ) → is_whole pages k ≡ false → ask_page pages x k ≡ ask_missing pages x k
unfolding ask_missing
missing_asked pages x k h = sym (when_no _ x _ h)

ask_coordinator : (pages : List LogPage) (x : Draft) (k : ℕ) → (ask_page pages x k).replica.coordinator ≡ x.replica.coordinator
unfolding ask_page send_control
ask_coordinator pages x k = when_same (λ y. y.replica.coordinator) _ _ _ x.replica.coordinator refl refl

missing_coordinator : (pages : List LogPage) (x : Draft) (k : ℕ) → (ask_missing pages x k).replica.coordinator ≡ x.replica.coordinator
unfolding ask_missing
missing_coordinator pages x k = when_same (λ y. y.replica.coordinator) _ _ _ x.replica.coordinator refl (ask_coordinator pages x k)

pub asks_coordinator : (pages : List LogPage) (x : Draft) (ks : List ℕ) → (fold (ask_missing pages) x ks).replica.coordinator ≡ x.replica.coordinator
asks_coordinator pages x [] = refl
asks_coordinator pages x (k ∷ ks) = asks_coordinator pages (ask_missing pages x k) ks ∙ missing_coordinator pages x k

pub asks_more : (pages : List LogPage) (x : Draft) (ks : List ℕ) (i d : ℕ) → i < length ks → ask_missing pages (fold (ask_missing pages) x (take i ks)) (get_or ks i d) ≡ fold (ask_missing pages) x (take (i + 1) ks)
asks_more pages x ks i d within = sym (ap (λ js. fold (ask_missing pages) x js) (take_more ks i d within) ∙ fold-append (ask_missing pages) x (take i ks) (get_or ks i d ∷ []))

asks_those : (pages : List LogPage) (ks : List ℕ) (x : Draft) → fold (ask_missing pages) x ks ≡ fold (ask_page pages) x (filter (λ k. not (is_whole pages k)) ks)
unfolding ask_missing when◌then◌otherwise◌
asks_those pages [] x = refl
asks_those pages (k ∷ ks) x = go (is_whole pages k) refl (λ y. asks_those pages ks y)
  where
    go : (b : Bool) → is_whole pages k ≡ b → ((y : Draft) → fold (ask_missing pages) y ks ≡ fold (ask_page pages) y (filter (λ k. not (is_whole pages k)) ks)) →
        fold (ask_missing pages) (ask_missing pages x k) ks ≡ fold (ask_page pages) x (filter (λ k. not (is_whole pages k)) (k ∷ ks))
    go true e more = rw e (more x)
    go false e more = rw e (more (ask_page pages x k))

pub asks_all : (pages : List LogPage) (x : Draft) (ks : List ℕ) (i : ℕ) → length ks ≤ i → ks ≡ others x.replica → fold (ask_missing pages) x (take i ks) ≡ send_collect pages x
unfolding send_collect missing
asks_all pages x ks i many is = ap (λ js. fold (ask_missing pages) x js) (take_all i ks many ∙ is) ∙ asks_those pages (others x.replica) x

-- ---- what is done

-- whatever the coordinator is
begins_anyhow : (d : Decision) (m : Coordinator) (y : Draft) → begin_proposing d no_ballot y ≡ begin_proposing d no_ballot (noting m y)
unfolding noting begin_proposing ask keep instance
begins_anyhow d m y = refl

module _ (ms : List ℕ) (pages : List LogPage) (x : Draft) where
  pub does_more : (k j : ℕ) (after : Stamp) → j ≡ k → cursor pages k ≡ Some after →
      ask_page pages (noting (Coordinator.Collecting ms pages) x) k ≡ on_got ms pages (PageOutcome.More j after) (noting (Coordinator.Collecting ms pages) x)
  unfolding on_got ask_page noting
  does_more k j after same at =
      ap (λ o. send_control (Control.Suspend (known x.replica.log) o) (noting (Coordinator.Collecting ms pages) x) k) at
      ∙ ap (λ i. send_control (Control.Suspend (known x.replica.log) (Some after)) (noting (Coordinator.Collecting ms pages) x) i) (sym same)

  pub does_nothing_more : noting (Coordinator.Collecting ms pages) x ≡ on_got ms pages PageOutcome.Stranger (noting (Coordinator.Collecting ms pages) x)
  unfolding on_got
  does_nothing_more = refl

  pub does_wait : noting (Coordinator.Collecting ms pages) x ≡ on_got ms pages PageOutcome.Kept (noting (Coordinator.Collecting ms pages) x)
  unfolding on_got noting
  does_wait = refl

  pub does_begin : (d : Decision) → begin_proposing d no_ballot x ≡ on_got ms pages (PageOutcome.Complete d) (noting (Coordinator.Collecting ms pages) x)
  unfolding on_got
  does_begin d = begins_anyhow d (Coordinator.Collecting ms pages) x ∙ begins_anyhow d (Coordinator.Collecting ms pages) _ ∙ begins_anyhow d (Coordinator.Preempted d no_ballot) _

  pub does_refuse : (count bytes : ℕ) →
      noting Coordinator.Idle (record x { excess = x.excess ++ Line.TooMany x.replica.me (known x.replica.log) count bytes ∷ [] }) ≡ on_got ms pages (PageOutcome.TooMany count bytes) (noting (Coordinator.Collecting ms pages) x)
  unfolding on_got noting
  does_refuse count bytes = refl

pub got_fitting : (ms : List ℕ) (pages : List LogPage) (got : PageOutcome) (x : Draft) → x.fitting ≡ true → (on_got ms pages got x).fitting ≡ begins_fitting got x
unfolding on_got begins_fitting noting
got_fitting ms pages PageOutcome.Stranger x h = h
got_fitting ms pages (PageOutcome.More k after) x h = send_fitting _ _ k ∙ h
got_fitting ms pages PageOutcome.Kept x h = h
got_fitting ms pages (PageOutcome.Complete d) x h = ap (λ y. y.fitting) (sym (begins_anyhow d (Coordinator.Preempted d no_ballot) (noting (Coordinator.Collecting ms pages) x)) ∙ sym (begins_anyhow d (Coordinator.Collecting ms pages) x))
got_fitting ms pages (PageOutcome.TooMany count bytes) x h = h

-- whatever the coordinator is
pub fitting_anyhow : (got : PageOutcome) (m : Coordinator) (x : Draft) → begins_fitting got (noting m x) ≡ begins_fitting got x
unfolding begins_fitting noting begin_proposing ask keep instance
fitting_anyhow PageOutcome.Stranger m x = refl
fitting_anyhow (PageOutcome.More k after) m x = refl
fitting_anyhow PageOutcome.Kept m x = refl
fitting_anyhow (PageOutcome.Complete d) m x = refl
fitting_anyhow (PageOutcome.TooMany count bytes) m x = refl

-- ---- what is got

-- What the pages of epoch e have brought, the last of them of replica k; before there were these.
abbrev pub IsGot : ℕ → ℕ → List LogPage → List LogPage → PageOutcome → Type 0
IsGot k e before pages PageOutcome.Stranger = pages ≡ before
IsGot k e before pages (PageOutcome.More j after) = (j ≡ k) × (cursor pages k ≡ Some after)
IsGot k e before pages PageOutcome.Kept = Unit {0}
IsGot k e before pages (PageOutcome.Complete d) = d.epoch ≡ e + 1
IsGot k e before pages (PageOutcome.TooMany count bytes) = Unit {0}

decided_is : (k e : ℕ) (before pages : List LogPage) (d : Decision) → d.epoch ≡ e + 1 → IsGot k e before pages (got_decided d)
unfolding got_decided when◌then◌otherwise◌
decided_is k e before pages d h = go (is_within d.tail)
  where
    go : (b : Bool) → IsGot k e before pages (when b then PageOutcome.Complete d otherwise PageOutcome.TooMany (length d.tail) (size_of d.tail))
    go true = h
    go false = tt

collected_next : (spec : List ℕ) (named : Option (List ℕ)) (log : Log) (ms : List ℕ) (pages : List LogPage) → (collected spec named log ms pages).epoch ≡ known log + 1
unfolding collected
collected_next spec named log ms pages = refl

pub whole_is_got : (k : ℕ) (before : List LogPage) (log : Log) (spec : List ℕ) (named : Option (List ℕ)) (ms : List ℕ) (pages : List LogPage) → IsGot k (known log) before pages (got_whole log spec named ms pages)
unfolding got_whole when◌then◌otherwise◌
whole_is_got k before log spec named ms pages = go (has_majority spec (whole_ones spec pages))
  where
    go : (b : Bool) → IsGot k (known log) before pages (when b then got_decided (collected spec named log ms pages) otherwise PageOutcome.Kept)
    go true = decided_is k (known log) before pages (collected spec named log ms pages) (collected_next spec named log ms pages)
    go false = tt

page_is_got : (log : Log) (spec : List ℕ) (named : Option (List ℕ)) (ms : List ℕ) (pages : List LogPage) (e : ℕ) (after : Option Stamp) (p : LogPage) → is_asked log spec pages e after p ≡ true →
    IsGot p.from (known log) pages (pages ++ p ∷ []) (got_page log spec named ms (pages ++ p ∷ []) p)
unfolding got_page when◌then◌otherwise◌
page_is_got log spec named ms pages e after p h = go p.whole refl
  where
    all : List LogPage
    all = pages ++ p ∷ []

    go : (b : Bool) → p.whole ≡ b → IsGot p.from (known log) pages all (when b then got_whole log spec named ms all otherwise got_more p.from (cursor all p.from))
    go true w = whole_is_got p.from pages log spec named ms all
    go false w = let s = more_from log spec pages e after p h w in subst (λ o. IsGot p.from (known log) pages all (got_more p.from o)) (sym s.1) (refl, s.1)

pub taken_is_got : (log : Log) (spec : List ℕ) (named : Option (List ℕ)) (ms : List ℕ) (pages : List LogPage) (k : ℕ) (a : Control) → IsReport a →
    IsGot k (known log) pages (pages_after log spec pages k a) (got_of log spec named ms pages k a)
unfolding when◌then◌otherwise◌
taken_is_got log spec named ms pages k (Control.SuspendOk e executed last after whole es) r = go (is_asked log spec pages e after (page_in k executed last whole es)) refl
  where
    p : LogPage
    p = page_in k executed last whole es

    go : (b : Bool) → is_asked log spec pages e after p ≡ b →
        IsGot k (known log) pages (when b then pages ++ p ∷ [] otherwise pages) (when b then got_page log spec named ms (pages ++ p ∷ []) p otherwise PageOutcome.Stranger)
    go true h = page_is_got log spec named ms pages e after p h
    go false h = refl
taken_is_got log spec named ms pages k (Control.Suspend e after) r = absurd r
taken_is_got log spec named ms pages k (Control.P1a i b) r = absurd r
taken_is_got log spec named ms pages k (Control.P1b i b v) r = absurd r
taken_is_got log spec named ms pages k (Control.P1no i b top) r = absurd r
taken_is_got log spec named ms pages k (Control.P2a i b d) r = absurd r
taken_is_got log spec named ms pages k (Control.P2b i b) r = absurd r
taken_is_got log spec named ms pages k (Control.Decide d) r = absurd r
taken_is_got log spec named ms pages k (Control.Retrieve e from) r = absurd r
taken_is_got log spec named ms pages k (Control.Page e from es) r = absurd r

-- what is done by a page, where the coordinator was taken out for it
pub done_in : (ms : List ℕ) (before pages : List LogPage) (k e : ℕ) (got : PageOutcome) (x : Draft) → IsGot k e before pages got → x.replica.coordinator ≡ Coordinator.Collecting ms before →
    on_got ms pages got (noting (Coordinator.Collecting ms pages) (noting Coordinator.Idle x)) ≡ on_got ms pages got x
unfolding on_got noting
done_in ms before pages k e PageOutcome.Stranger x g coordinator =
    ap (λ ps. noting (Coordinator.Collecting ms ps) (noting Coordinator.Idle x)) g ∙ ap (λ m. noting m x) (sym coordinator)
done_in ms before pages k e (PageOutcome.More j after) x g coordinator = refl
done_in ms before pages k e PageOutcome.Kept x g coordinator = refl
done_in ms before pages k e (PageOutcome.Complete d) x g coordinator = refl
done_in ms before pages k e (PageOutcome.TooMany count bytes) x g coordinator = refl

-- ---- the rule of a page

module _ (k : ℕ) (a : Control) (ms : List ℕ) (pages : List LogPage) (x : Draft) where
  -- the pages after it, and what they have brought
  abbrev pub after_report : List LogPage
  after_report = pages_after x.replica.log (spec_decided x.replica.n (decision x.replica.log)) pages k a

  abbrev pub report_got : PageOutcome
  report_got = got_of x.replica.log (spec_decided x.replica.n (decision x.replica.log)) (named_in x.replica.n (decision x.replica.log) ms) ms pages k a

pub by_the_rules : PagesAreTaken → (k : ℕ) (a : Control) (ms : List ℕ) (pages : List LogPage) (x : Draft) → IsReport a → x.replica.coordinator ≡ Coordinator.Collecting ms pages →
    on_got ms (after_report k a ms pages x) (report_got k a ms pages x) x ≡ on_control k a x
unfolding spec_of spec named_spec next_spec named_in next_in
by_the_rules law k (Control.SuspendOk e executed last after whole es) ms pages x r coordinator = sym (law k e executed last after whole es ms pages x coordinator)
by_the_rules law k (Control.Suspend e after) ms pages x r coordinator = absurd r
by_the_rules law k (Control.P1a i b) ms pages x r coordinator = absurd r
by_the_rules law k (Control.P1b i b v) ms pages x r coordinator = absurd r
by_the_rules law k (Control.P1no i b top) ms pages x r coordinator = absurd r
by_the_rules law k (Control.P2a i b d) ms pages x r coordinator = absurd r
by_the_rules law k (Control.P2b i b) ms pages x r coordinator = absurd r
by_the_rules law k (Control.Decide d) ms pages x r coordinator = absurd r
by_the_rules law k (Control.Retrieve e from) ms pages x r coordinator = absurd r
by_the_rules law k (Control.Page e from es) ms pages x r coordinator = absurd r

page_ignored : (k e : ℕ) (after : Option Stamp) (p : LogPage) (m : Coordinator) (x : Draft) → is_collecting m ≡ false → if_spec k x (on_suspend_ok e after p m x) ≡ x
unfolding is_collecting if_spec on_suspend_ok
page_ignored k e after p Coordinator.Idle x h = when_same (λ y. y) _ x x x refl refl
page_ignored k e after p (Coordinator.Collecting ms pages) x h = absurd (false≢true (sym h))
page_ignored k e after p (Coordinator.Preparing b own answers) x h = when_same (λ y. y) _ x x x refl refl
page_ignored k e after p (Coordinator.Proposing b own value acceptors) x h = when_same (λ y. y) _ x x x refl refl
page_ignored k e after p (Coordinator.Preempted own seen) x h = when_same (λ y. y) _ x x x refl refl

pub report_ignored : (k : ℕ) (a : Control) (x : Draft) → IsReport a → is_collecting x.replica.coordinator ≡ false → on_control k a x ≡ x
unfolding on_control
report_ignored k (Control.SuspendOk e executed last after whole es) x r h = page_ignored k e after (page_in k executed last whole es) x.replica.coordinator x h
report_ignored k (Control.Suspend e after) x r h = absurd r
report_ignored k (Control.P1a i b) x r h = absurd r
report_ignored k (Control.P1b i b v) x r h = absurd r
report_ignored k (Control.P1no i b top) x r h = absurd r
report_ignored k (Control.P2a i b d) x r h = absurd r
report_ignored k (Control.P2b i b) x r h = absurd r
report_ignored k (Control.Decide d) x r h = absurd r
report_ignored k (Control.Retrieve e from) x r h = absurd r
report_ignored k (Control.Page e from es) x r h = absurd r

-- ---- a decision that is complete

pub can_begin : (k : ℕ) (before pages : List LogPage) (got : PageOutcome) (x : Draft) → IsGot k (known x.replica.log) before pages got → FitsGot got → has (spec_decided x.replica.n (decision x.replica.log)) x.replica.me ≡ true →
    CanBegin got x
unfolding known epoch_of
can_begin k before pages PageOutcome.Stranger x g f h = tt
can_begin k before pages (PageOutcome.More j after) x g f h = tt
can_begin k before pages PageOutcome.Kept x g f h = tt
can_begin k before pages (PageOutcome.Complete d) x g f h = (record { counted = h; next = g; spelt = f }, no_fits)
can_begin k before pages (PageOutcome.TooMany count bytes) x g f h = tt

pub asks_on : (k e : ℕ) (before pages : List LogPage) (got : PageOutcome) → IsGot k e before pages got → AsksOn k pages got
asks_on k e before pages PageOutcome.Stranger g = tt
asks_on k e before pages (PageOutcome.More j after) g = g
asks_on k e before pages PageOutcome.Kept g = tt
asks_on k e before pages (PageOutcome.Complete d) g = tt
asks_on k e before pages (PageOutcome.TooMany count bytes) g = tt

-- ---- of another replica

rises_from : (low n : ℕ) → low + n ≤ 15 → RisesWithin low 15 (range_with_len low n)
rises_from low zero h = tt
rises_from low (suc n) h = (omega arith, omega (arith, h), rises_from (low + 1) n (omega (arith, h)))

first_members : (n : ℕ) → 1 ≤ n → n ≤ 15 → IsMembers (numbers_below n)
unfolding numbers_below
first_members zero some few = absurd (omega (arith, some))
first_members (suc n) some few = rises_from 0 (suc n) (omega (arith, few))

spec_members : (n : ℕ) (d : Option Decision) → 1 ≤ n → n ≤ 15 → FitsOption FitsDecision d → IsMembers (spec_decided n d)
unfolding spec_decided
spec_members n None some few f = first_members n some few
spec_members n (Some d) some few f = go d.spec f.spec
  where
    go : (s : Option (List ℕ)) → FitsOption IsMembers s → IsMembers (unwrap_or s (numbers_below n))
    go None h = first_members n some few
    go (Some ks) h = h

-- of two replicas one alone is no majority
not_alone : (spec : List ℕ) (me k : ℕ) → IsMembers spec → has spec me ≡ true → has spec k ≡ true → (k ≢ me) → has_majority spec (me ∷ []) ≡ false
unfolding has_majority has
not_alone spec me k members mine other apart =
    let one = push_counted spec [] me (none_counted spec members) mine refl in
    let two = push_counted spec (me ∷ []) k one other (others (me == k) refl) in
    let many = count_by-le-length (has (me ∷ k ∷ [])) spec in
    few (length spec) (count_by (has (me ∷ [])) spec) one.once (subst (λ i. i ≤ length spec) two.once many)
  where
    others : (b : Bool) → (me == k) ≡ b → has (me ∷ []) k ≡ false
    others true e = absurd (apart (sym (eqb-true me k e)))
    others false e = ap (λ b. b || false) e

    few : (size votes : ℕ) → votes ≡ 1 → 2 ≤ size → nat_le (majority size) votes ≡ false
    few size votes v s = let half = div_two size s in grind (arith, nat_tests, v, half)
      where
        div_two : (size : ℕ) → 2 ≤ size → 1 ≤ size / 2
        div_two size s = omega (arith, s)

pub shared : (x : Draft) (k : ℕ) → IsSound x → has (spec_decided x.replica.n (decision x.replica.log)) x.replica.me ≡ true → has (spec_decided x.replica.n (decision x.replica.log)) k ≡ true → (k ≢ x.replica.me) →
    has_majority (spec_of x.replica) (x.replica.me ∷ []) ≡ false
unfolding spec_of spec
shared x k s mine other apart =
    not_alone (spec_decided x.replica.n (decision x.replica.log)) x.replica.me k (spec_members x.replica.n (decision x.replica.log) s.some s.few (decision_fits x.replica.log s.spelt)) mine other apart

fits_shared : (got : PageOutcome) (x : Draft) → IsSound x → CanBegin got x → has_majority (spec_of x.replica) (x.replica.me ∷ []) ≡ false → begins_fitting got x ≡ true
unfolding begins_fitting
fits_shared PageOutcome.Stranger x s c few = refl
fits_shared (PageOutcome.More k after) x s c few = refl
fits_shared PageOutcome.Kept x s c few = refl
fits_shared (PageOutcome.Complete d) x s c few = begins_shared d no_ballot x s c few
fits_shared (PageOutcome.TooMany count bytes) x s c few = refl

stranger_is : (log : Log) (spec : List ℕ) (named : Option (List ℕ)) (ms : List ℕ) (pages : List LogPage) (k : ℕ) (a : Control) → IsReport a → has spec k ≡ false → got_of log spec named ms pages k a ≡ PageOutcome.Stranger
unfolding is_asked
stranger_is log spec named ms pages k (Control.SuspendOk e executed last after whole es) r h = when_no _ _ _ (and_none (has spec k) _ h)
stranger_is log spec named ms pages k (Control.Suspend e after) r h = absurd r
stranger_is log spec named ms pages k (Control.P1a i b) r h = absurd r
stranger_is log spec named ms pages k (Control.P1b i b v) r h = absurd r
stranger_is log spec named ms pages k (Control.P1no i b top) r h = absurd r
stranger_is log spec named ms pages k (Control.P2a i b d) r h = absurd r
stranger_is log spec named ms pages k (Control.P2b i b) r h = absurd r
stranger_is log spec named ms pages k (Control.Decide d) r h = absurd r
stranger_is log spec named ms pages k (Control.Retrieve e from) r h = absurd r
stranger_is log spec named ms pages k (Control.Page e from es) r h = absurd r

nothing_begins : (x : Draft) → begins_fitting PageOutcome.Stranger x ≡ true
unfolding begins_fitting
nothing_begins x = refl

-- What another replica's page brings can be done, where the coordinator was taken out for it.
pub report_goes_on : (k : ℕ) (a : Control) (ms : List ℕ) (pages : List LogPage) (x : Draft) → IsSound x → IsReport a → (k ≢ x.replica.me) →
    has (spec_decided x.replica.n (decision x.replica.log)) x.replica.me ≡ true → FitsGot (report_got k a ms pages x) →
    CanGoOn k (after_report k a ms pages x) (report_got k a ms pages x) (noting Coordinator.Idle x)
unfolding noting
report_goes_on k a ms pages x s r apart mine f = record {
  begins = can_begin k pages after got (noting Coordinator.Idle x) is f mine;
  fits = fitting_anyhow got Coordinator.Idle x ∙ fit (has spec k) refl;
  next = asks_on k (known x.replica.log) pages after got is;
}
  where
    spec : List ℕ
    spec = spec_decided x.replica.n (decision x.replica.log)

    after : List LogPage
    after = after_report k a ms pages x

    got : PageOutcome
    got = report_got k a ms pages x

    is : IsGot k (known x.replica.log) pages after got
    is = taken_is_got x.replica.log spec (named_in x.replica.n (decision x.replica.log) ms) ms pages k a r

    fit : (b : Bool) → has spec k ≡ b → begins_fitting got x ≡ true
    fit true h = fits_shared got x s (can_begin k pages after got x is f mine) (shared x k s mine h apart)
    fit false h = ap (λ g. begins_fitting g x) (stranger_is x.replica.log spec (named_in x.replica.n (decision x.replica.log) ms) ms pages k a r h) ∙ nothing_begins x

-- its records fit
pub report_fitting : (ms : List ℕ) (pages : List LogPage) (got : PageOutcome) (m : Coordinator) (x : Draft) → x.fitting ≡ true → begins_fitting got (noting Coordinator.Idle x) ≡ true → (on_got ms pages got (noting m (noting Coordinator.Idle x))).fitting ≡ true
unfolding noting
report_fitting ms pages got m x fit begins = got_fitting ms pages got (noting m (noting Coordinator.Idle x)) fit ∙ fitting_anyhow got m (noting Coordinator.Idle x) ∙ begins

-- a decision that was got is begun to be proposed
pub completes : (d : Decision) (got : PageOutcome) (x : Draft) → got ≡ PageOutcome.Complete d → CanBegin got x → begins_fitting got x ≡ true → CanPropose d no_ballot x × ((begin_proposing d no_ballot x).fitting ≡ true)
unfolding begins_fitting
completes d got x is can fit = (subst (λ r. CanBegin r x) is can, ap (λ r. begins_fitting r x) (sym is) ∙ fit)
