-- The beginning of a collection.
use Rattle.std.proofs.Common.{◌≡◌, ℕ, ◌+◌, ◌<◌, ◌≤◌, List, [], ◌∷◌, refl, sym, ◌∙◌, ap, subst, arith, Bool, true, false, length, cond}
use Rattle.std.specs.Prelude.{◌==◌, ◌&&◌, nat_le, fold, Option, Some, None, bytes_eq}
use Rattle.std.specs.Option.{option_map_or}
use Rattle.std.proofs.lemmas.Bool.Decides.{nat_tests}
use Rattle.crsm_spec.specs.Types.{Decision, Rec, Control}
use Rattle.crsm_spec.specs.Choice.{when◌then◌otherwise◌}
use Rattle.crsm_spec.specs.Clock.{u64_max}
use Rattle.crsm_spec.specs.Lists.{has, numbers_below}
use Rattle.crsm_spec.specs.Log.{known, start, decision, spec, executed, logged, logged_in, last_stamp, suspended}
use Rattle.crsm_spec.specs.Fits.{can_be_members}
use Rattle.crsm_spec.specs.Quorum.{spec_decided, has_majority}
use Rattle.crsm_spec.specs.Replica.{Replica, LogPage, Coordinator, spec_of, next_spec, named_spec, others}
use Rattle.crsm_spec.specs.Collect.{own_page, frozen, whole_ones, first_pages, all_entries, base_of, floor_of, union, collected}
use Rattle.crsm_spec.specs.Log.{above}
use Rattle.crsm_spec.specs.Draft.{Draft, keep, noting, parts_to, send_control, send_to_each, send_to_all}
use Rattle.crsm_spec.specs.Coordinate.{most_collected, may_reconfigure, suspend_once, collect, on_suspect, on_whole}
use Rattle.crsm_suspend.specs.Collecting.{CollectStands, FitsGot, got_decided, got_whole}
use Rattle.crsm_suspend.specs.Coordinating.{on_got, ReportsAreCounted}
use Rattle.crsm_suspend.specs.declared.collect.Collect.{Collect}
use Rattle.crsm_suspend.specs.declared.got.PageOutcome.{PageOutcome}
use Rattle.crsm_replica_coordinator.specs.Coordinator.{IsOwn, IsGathering, next_in, named_in}
use Rattle.crsm_replica_coordinator.proofs.Coordinators.{gathers}
use Rattle.crsm_replica.specs.Sound.{IsSound}
use Rattle.crsm_replica_reconfigure.specs.Rules.{BeginsAlike}
use Rattle.crsm_replica_reconfigure.specs.Reports.{CanBegin, CanGoOn, begins_fitting}
use Rattle.crsm_replica_reconfigure.proofs.AlikeLemmas.{alike_noted, alike_sent, alike_suspended}
use Rattle.crsm_replica_reconfigure.proofs.ReportLemmas.{whole_is_got, can_begin, asks_on, got_fitting, fitting_anyhow}
use Rattle.crsm_replica_reconfigure.proofs.DraftLemmas.{when_yes, when_no, and_first, and_no, and_none}
use Rattle.crsm_replica_reconfigure.proofs.SuspendLemmas.{once_done, once_now}

-- ---- whether it may begin

pub epoch_spent : (x : Draft) (ms : List ℕ) (epoch : ℕ) → epoch ≡ known x.replica.log → most_collected < epoch → may_reconfigure x.replica ms ≡ false
unfolding may_reconfigure
epoch_spent x ms epoch e h = and_no _ _ (and_none _ _ (ap (λ i. nat_le i most_collected) (sym e) ∙ over))
  where
    over : nat_le epoch most_collected ≡ false
    over = grind (arith, nat_tests)

pub start_spent : (x : Draft) (ms : List ℕ) (begins : ℕ) → begins ≡ start x.replica.log → most_collected < begins → may_reconfigure x.replica ms ≡ false
unfolding may_reconfigure
start_spent x ms begins e h = and_no _ _ (and_no _ _ (ap (λ i. nat_le i most_collected) (sym e) ∙ over))
  where
    over : nat_le begins most_collected ≡ false
    over = grind (arith, nat_tests)

pub may_not : (x : Draft) (ms next : List ℕ) → next ≡ next_spec x.replica ms → (has (spec_of x.replica) x.replica.me && can_be_members next ms) ≡ false → may_reconfigure x.replica ms ≡ false
unfolding may_reconfigure
may_not x ms next e h = and_none _ _ (ap (λ ks. has (spec_of x.replica) x.replica.me && can_be_members ks ms) (sym e) ∙ h)

pub may_now : (x : Draft) (ms next : List ℕ) (epoch begins : ℕ) → next ≡ next_spec x.replica ms → (has (spec_of x.replica) x.replica.me && can_be_members next ms) ≡ true →
    epoch ≡ known x.replica.log → begins ≡ start x.replica.log → epoch ≤ most_collected → begins ≤ most_collected → may_reconfigure x.replica ms ≡ true
unfolding may_reconfigure
may_now x ms next epoch begins n h e b low early =
    and_first _ _ (ap (λ ks. has (spec_of x.replica) x.replica.me && can_be_members ks ms) (sym n) ∙ h)
    ∙ and_first _ _ (ap (λ i. nat_le i most_collected) (sym e) ∙ one) ∙ ap (λ i. nat_le i most_collected) (sym b) ∙ two
  where
    one : nat_le epoch most_collected ≡ true
    one = grind (arith, nat_tests)

    two : nat_le begins most_collected ≡ true
    two = grind (arith, nat_tests)

pub may_counts : (r : Replica) (ms : List ℕ) → may_reconfigure r ms ≡ true → has (spec_decided r.n (decision r.log)) r.me ≡ true
unfolding may_reconfigure spec_of spec
may_counts r ms h = first _ _ (first _ _ h)
  where
    first : (a b : Bool) → (a && b) ≡ true → a ≡ true
    first true b h = refl
    first false b h = h

pub first_named : (x : Draft) (ms next first : List ℕ) → next ≡ next_spec x.replica ms → first ≡ numbers_below x.replica.n → bytes_eq next first ≡ true → None ≡ named_spec x.replica ms
unfolding named_spec spec_decided
first_named x ms next first n f h =
    ap (λ b. cond b None (Some (next_spec x.replica ms))) (sym (ap (λ ks. bytes_eq ks (numbers_below x.replica.n)) (sym n) ∙ ap (λ ks. bytes_eq next ks) (sym f) ∙ h))

pub next_named : (x : Draft) (ms next first : List ℕ) → next ≡ next_spec x.replica ms → first ≡ numbers_below x.replica.n → bytes_eq next first ≡ false → Some next ≡ named_spec x.replica ms
unfolding named_spec spec_decided
next_named x ms next first n f h =
    ap (λ ks. Some ks) n
    ∙ ap (λ b. cond b None (Some (next_spec x.replica ms))) (sym (ap (λ ks. bytes_eq ks (numbers_below x.replica.n)) (sym n) ∙ ap (λ ks. bytes_eq next ks) (sym f) ∙ h))

pub begun_gathers : (x : Draft) (ms : List ℕ) (pages : List LogPage) (c : Collect) → may_reconfigure x.replica ms ≡ true → CollectStands x.replica.log (spec_of x.replica) (named_spec x.replica ms) ms pages c →
    IsGathering c x.replica.me x.replica.n (decision x.replica.log) ms pages
unfolding spec_of spec named_spec next_spec named_in next_in
begun_gathers x ms pages c may h = gathers x.replica.me x.replica.n x.replica.log ms pages c (may_counts x.replica ms may) h

-- ---- once the known epoch is suspended

own_kept : (e : ℕ) (x : Draft) → own_page ((keep (Rec.Suspend e) x).replica.me) ((keep (Rec.Suspend e) x).replica.log) ≡ own_page x.replica.me x.replica.log
unfolding keep own_page frozen logged logged_in known decision executed last_stamp
own_kept e x = refl

own_same : (x : Draft) → own_page (suspend_once x).replica.me (suspend_once x).replica.log ≡ own_page x.replica.me x.replica.log
own_same x = go (suspended x.replica.log) refl
  where
    go : (t : Bool) → suspended x.replica.log ≡ t → own_page (suspend_once x).replica.me (suspend_once x).replica.log ≡ own_page x.replica.me x.replica.log
    go true h = ap (λ y. own_page y.replica.me y.replica.log) (once_done x h)
    go false h = ap (λ y. own_page y.replica.me y.replica.log) (once_now x h) ∙ own_kept (known x.replica.log) x

-- what whole reports bring, by the known decision alone
unfoldable got_knowing : ℕ → Option Decision → List ℕ → List LogPage → PageOutcome
got_knowing n d ms pages =
    let ks = whole_ones (spec_decided n d) pages in
    let firsts = first_pages ks pages in
    let base = base_of (option_map_or (λ d. d.base_len + length d.tail) d 0) firsts in
    when has_majority (spec_decided n d) ks
    then got_decided (record {
      epoch = option_map_or (λ d. d.epoch) d 0 + 1;
      spec = named_in n d ms;
      members = ms;
      base_len = base;
      tail = above (floor_of base firsts) (union (all_entries ks pages));
    })
    otherwise PageOutcome.Kept

got_known : (r : Replica) (ms : List ℕ) (pages : List LogPage) → got_whole r.log (spec_of r) (named_spec r ms) ms pages ≡ got_knowing r.n (decision r.log) ms pages
unfolding got_whole got_knowing collected known start spec_of spec named_spec next_spec named_in next_in
got_known r ms pages = refl

got_same : (x y : Draft) (ms : List ℕ) (pages : List LogPage) → BeginsAlike x y →
    got_whole y.replica.log (spec_of y.replica) (named_spec y.replica ms) ms pages ≡ got_whole x.replica.log (spec_of x.replica) (named_spec x.replica ms) ms pages
got_same x y ms pages a =
    got_known y.replica ms pages ∙ ap (λ n. got_knowing n (decision y.replica.log) ms pages) a.n ∙ ap (λ d. got_knowing x.replica.n d ms pages) a.knows ∙ sym (got_known x.replica ms pages)

send_noted : (c : Control) (m : Coordinator) (x : Draft) (k : ℕ) → send_control c (noting m x) k ≡ noting m (send_control c x k)
unfolding send_control noting parts_to when◌then◌otherwise◌
send_noted c m x k = go (x.replica.made == u64_max) refl
  where
    go : (b : Bool) → (x.replica.made == u64_max) ≡ b → send_control c (noting m x) k ≡ noting m (send_control c x k)
    go true e = rw e refl
    go false e = rw e refl

each_noted : (ks : List ℕ) (c : Control) (m : Coordinator) (x : Draft) → send_to_each ks c (noting m x) ≡ noting m (send_to_each ks c x)
unfolding send_to_each
each_noted [] c m x = refl
each_noted (k ∷ ks) c m x = ap (λ y. fold (send_control c) y ks) (send_noted c m x k) ∙ each_noted ks c m (send_control c x k)

all_noted : (c : Control) (m : Coordinator) (x : Draft) → send_to_all c (noting m x) ≡ noting m (send_to_all c x)
unfolding send_to_all noting others spec_of
all_noted c m x = each_noted (others x.replica) c m x

gathering_alike : (x y : Draft) (c : Collect) (ms : List ℕ) (pages : List LogPage) → BeginsAlike x y → IsGathering c x.replica.me x.replica.n (decision x.replica.log) ms pages →
    IsGathering c y.replica.me y.replica.n (decision y.replica.log) ms pages
gathering_alike x y c ms pages a g =
    subst (λ d. IsGathering c y.replica.me y.replica.n d ms pages) (sym a.knows)
    (subst (λ n. IsGathering c y.replica.me n (decision x.replica.log) ms pages) (sym a.n) (subst (λ k. IsGathering c k x.replica.n (decision x.replica.log) ms pages) (sym a.me) g))

begin_alike : (got : PageOutcome) (x y : Draft) → BeginsAlike x y → CanBegin got x → CanBegin got y
begin_alike PageOutcome.Stranger x y a c = tt
begin_alike (PageOutcome.More k after) x y a c = tt
begin_alike PageOutcome.Kept x y a c = tt
begin_alike (PageOutcome.Complete d) x y a c =
    (subst (λ o. IsOwn y.replica.me y.replica.n o d) (sym a.knows) (subst (λ n. IsOwn y.replica.me n (decision x.replica.log) d) (sym a.n) (subst (λ k. IsOwn k x.replica.n (decision x.replica.log) d) (sym a.me) c.0)), c.1)
begin_alike (PageOutcome.TooMany count bytes) x y a c = tt

-- ---- a suspicion

pub suspect_ignored : (ms : List ℕ) (x : Draft) → may_reconfigure x.replica ms ≡ false → on_suspect ms x ≡ x
unfolding on_suspect
suspect_ignored ms x h = when_no _ _ x h

module _ (ms : List ℕ) (x : Draft) where
  -- its own frozen log
  abbrev pub own_pages : List LogPage
  own_pages = own_page x.replica.me x.replica.log ∷ []

  -- what that brings
  abbrev pub own_got : PageOutcome
  own_got = got_whole x.replica.log (spec_of x.replica) (named_spec x.replica ms) ms own_pages

  -- the epoch is suspended, and the others are asked for their frozen logs
  abbrev pub all_told : Draft
  all_told = send_to_all (Control.Suspend (known (suspend_once x).replica.log) None) (suspend_once x)

module _ (law : ReportsAreCounted) (ms : List ℕ) (x : Draft) (s : IsSound x) (may : may_reconfigure x.replica ms ≡ true) where
  pub sent_alike : BeginsAlike x (all_told ms x)
  sent_alike = alike_sent _ x (suspend_once x) (alike_suspended x s)

  begins : (pages : List LogPage) → pages ≡ own_pages ms x →
      on_whole ms pages (send_to_all (Control.Suspend (known (suspend_once x).replica.log) None) (noting (Coordinator.Collecting ms pages) (suspend_once x))) ≡ on_got ms (own_pages ms x) (own_got ms x) (noting (Coordinator.Collecting ms (own_pages ms x)) (all_told ms x))
  begins pages same =
      ap (λ ps. on_whole ms ps (send_to_all (Control.Suspend (known (suspend_once x).replica.log) None) (noting (Coordinator.Collecting ms ps) (suspend_once x)))) same
      ∙ ap (λ y. on_whole ms (own_pages ms x) y) (all_noted _ (Coordinator.Collecting ms (own_pages ms x)) (suspend_once x))
      ∙ law ms (own_pages ms x) (noting (Coordinator.Collecting ms (own_pages ms x)) (all_told ms x))
      ∙ ap (λ g. on_got ms (own_pages ms x) g (noting (Coordinator.Collecting ms (own_pages ms x)) (all_told ms x)))
      (got_same x (noting (Coordinator.Collecting ms (own_pages ms x)) (all_told ms x)) ms (own_pages ms x) (alike_noted (Coordinator.Collecting ms (own_pages ms x)) x (all_told ms x) sent_alike))

  collects : collect ms (suspend_once x) ≡ on_got ms (own_pages ms x) (own_got ms x) (noting (Coordinator.Collecting ms (own_pages ms x)) (all_told ms x))
  unfolding collect noting
  collects = begins (own_page (suspend_once x).replica.me (suspend_once x).replica.log ∷ []) (ap (λ p. p ∷ []) (own_same x))

  pub suspect_is : on_suspect ms x ≡ on_got ms (own_pages ms x) (own_got ms x) (noting (Coordinator.Collecting ms (own_pages ms x)) (all_told ms x))
  unfolding on_suspect
  suspect_is = when_yes _ _ x may ∙ collects

  pub suspect_fitting : (on_suspect ms x).fitting ≡ begins_fitting (own_got ms x) (all_told ms x)
  unfolding noting
  suspect_fitting =
      ap (λ y. y.fitting) suspect_is ∙ got_fitting ms (own_pages ms x) (own_got ms x) (noting (Coordinator.Collecting ms (own_pages ms x)) (all_told ms x)) sent_alike.fitting
      ∙ fitting_anyhow (own_got ms x) (Coordinator.Collecting ms (own_pages ms x)) (all_told ms x)

  pub suspect_can : FitsGot (own_got ms x) → CanBegin (own_got ms x) x
  suspect_can f = can_begin x.replica.me [] (own_pages ms x) (own_got ms x) x (whole_is_got x.replica.me [] x.replica.log (spec_of x.replica) (named_spec x.replica ms) ms (own_pages ms x)) f (may_counts x.replica ms may)

  pub suspect_goes_on : FitsGot (own_got ms x) → begins_fitting (own_got ms x) (all_told ms x) ≡ true → CanGoOn x.replica.me (own_pages ms x) (own_got ms x) (all_told ms x)
  suspect_goes_on f fit = record {
    begins = begin_alike (own_got ms x) x (all_told ms x) sent_alike (suspect_can f);
    fits = fit;
    next = asks_on x.replica.me (known x.replica.log) [] (own_pages ms x) (own_got ms x) (whole_is_got x.replica.me [] x.replica.log (spec_of x.replica) (named_spec x.replica ms) ms (own_pages ms x));
  }

  pub suspect_gathers : (c : Collect) → CollectStands x.replica.log (spec_of x.replica) (named_spec x.replica ms) ms (own_pages ms x) c →
      IsGathering c (all_told ms x).replica.me (all_told ms x).replica.n (decision ((all_told ms x).replica.log)) ms (own_pages ms x)
  suspect_gathers c h = gathering_alike x (all_told ms x) c ms (own_pages ms x) sent_alike (begun_gathers x ms (own_pages ms x) c may h)
