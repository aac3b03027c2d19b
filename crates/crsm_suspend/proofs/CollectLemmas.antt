-- The outcomes of a collection are those of the definitions for its pages.
use Rattle.std.proofs.Common.{◌≡◌, ◌∙◌, ℕ, zero, suc, ◌+◌, ◌<◌, ◌≤◌, Bool, true, false, cond, refl, sym, ap, subst, List, [], ◌∷◌, ◌++◌, length, get_or, Option, Some, None, inl, inr, arith}
use Rattle.std.specs.Prelude.{◌==◌, ◌&&◌, ◌||◌, not, nat_lt, nat_le, filter, count_by, IsTrue, Contains, ◌↔◌}
use Rattle.std.specs.List.{list_all, AllByRecursion}
use Rattle.std.specs.Option.{option_map_or, option_eq, is_some}
use Rattle.std.proofs.lemmas.Bool.{eqb-true, false≢true, and_parts, leb-true, ltb-true, not-true}
use Rattle.std.proofs.lemmas.List.Sums.{sum_by-cons, length-filter}
use Rattle.crsm_spec.specs.Types.{Stamp, Entry, Decision}
use Rattle.crsm_base.specs.Order.{stamp_eq, stamp_lt}
use Rattle.crsm_spec.specs.Choice.{when◌then◌otherwise◌}
use Rattle.crsm_spec.specs.Lists.{has, Among}
use Rattle.crsm_spec.specs.Log.{Log, known, start, above, logged, executed, last_stamp}
use Rattle.crsm_spec.specs.Replica.{LogPage}
use Rattle.crsm_spec.specs.Paxos.{majority}
use Rattle.crsm_spec.specs.Quorum.{has_majority}
use Rattle.crsm_spec.specs.Controls.{are_above, is_page_of}
use Rattle.crsm_spec.specs.Coordinate.{most_collected}
use Rattle.crsm_spec.specs.Collect.{own_page, frozen, pages_of, is_whole, cursor, whole_ones, first_pages, all_entries, base_of, floor_of, union, collected, size_of, is_within}
use Rattle.crsm_fact_log.proofs.Lists.{has_in, has_from, kept_from, kept_in, all-push}
use Rattle.crsm_fact_log.proofs.Merge.{union_goes_on}
use Rattle.crsm_suspend.specs.Pages.{asked_stamp}
use Rattle.crsm_suspend.specs.Reports.{head_of, report_of, page_from, ReportsStand}
use Rattle.crsm_suspend.specs.declared.report.Page.{Page}
use Rattle.crsm_suspend.specs.declared.report.Report.{Report}
use Rattle.crsm_base.specs.Spelling.{FitsEntry}
use Rattle.crsm_base.specs.declared.control.Control.TheVariants.{SuspendOk}
use Rattle.crsm_suspend.specs.Collecting.{CollectStands, CanSend, FitsGot, is_asked, got_decided, got_whole, got_more, got_page, got_from, page_in, got_of, pages_after}
use Rattle.crsm_suspend.specs.declared.collection.Collection.{Collection}
use Rattle.crsm_suspend.specs.declared.got.PageOutcome.TheVariants as PageOutcome
use Rattle.crsm_suspend.proofs.WholeLemmas.{report_at}
use Rattle.crsm_suspend.proofs.FitLemmas.{own_epoch}
use Rattle.crsm_suspend.proofs.GrowLemmas.{whole_more, or_none, cursor_more}

-- ---- reading

pub head_at : (reports : List Report) (pages : List LogPage) (k : ℕ) (r : Report) → ReportsStand reports pages → k < 15 → r ≡ get_or reports k r → (get_or reports k r).head ≡ head_of (pages_of pages k)
unfolding report_of
head_at reports pages k r h l e = ap (λ (s : Report). s.head) (sym e ∙ report_at reports pages k r h l e)

pub cursor_is : (pages : List LogPage) (k : ℕ) → (head_of (pages_of pages k)).cursor ≡ cursor pages k
unfolding head_of cursor
cursor_is pages k = refl

pub whole_is : (pages : List LogPage) (k : ℕ) → (head_of (pages_of pages k)).is_whole ≡ is_whole pages k
unfolding head_of is_whole
whole_is pages k = refl

-- ---- which pages are asked for

behind_is : (after last : Option Stamp) → asked_stamp after last ≡ (when is_some after then after otherwise last)
unfolding when◌then◌otherwise◌
behind_is None last = refl
behind_is (Some s) last = refl

some_is : (n : ℕ) (whole : Bool) → (not (n == 0) || whole) ≡ (nat_lt 0 n || whole)
some_is n whole = grind arith

pub page_is : (known e : ℕ) (cursor after : Option Stamp) (p : Page) (k : ℕ) (same behind empty : Bool) →
    same ≡ option_eq stamp_eq after cursor → behind ≡ are_above e (asked_stamp after p.last) p.entries → empty ≡ (length p.entries == 0) →
    ((((e == known) && same) && behind) && ((not empty || p.is_whole) && nat_le p.executed 18446744073709547519)) ≡ is_page_of known e cursor after (page_from k p)
unfolding is_page_of
page_is known e cursor after p k same behind empty s b n =
    ap (λ c. (((e == known) && c) && behind) && ((not empty || p.is_whole) && nat_le p.executed 18446744073709547519)) s
    ∙ ap (λ c. (((e == known) && option_eq stamp_eq after cursor) && c) && ((not empty || p.is_whole) && nat_le p.executed 18446744073709547519)) (b ∙ ap (λ o. are_above e o p.entries) (behind_is after p.last))
    ∙ ap (λ c. (((e == known) && option_eq stamp_eq after cursor) && are_above e (when is_some after then after otherwise p.last) p.entries) && (c && nat_le p.executed 18446744073709547519)) (ap (λ c. not c || p.is_whole) n ∙ some_is (length p.entries) p.is_whole)

-- ---- majorities

kept_has : (p : ℕ → Bool) (ks : List ℕ) (k : ℕ) → Among ks k → has (filter p ks) k ≡ p k
kept_has p ks k m = go (p k) (has (filter p ks) k) refl refl
  where
    go : (a b : Bool) → p k ≡ a → has (filter p ks) k ≡ b → b ≡ a
    go true true e f = refl
    go true false e f = absurd (false≢true (sym f ∙ has_in (filter p ks) k (kept_in p ks k m e)))
    go false true e f = absurd (false≢true (sym e ∙ (kept_from p ks k (has_from (filter p ks) k f)).1))
    go false false e f = refl

count_same : (f g : ℕ → Bool) (ks : List ℕ) → ((k : ℕ) → Among ks k → f k ≡ g k) → count_by f ks ≡ count_by g ks
count_same f g [] h = refl
count_same f g (k ∷ ks) h =
    sum_by-cons (λ y. cond (f y) 1 0) k ks ∙ ap (λ b. cond b 1 0 + count_by f ks) (h k (inl refl)) ∙ ap (λ n. cond (g k) 1 0 + n) (count_same f g ks (λ j m. h j (inr m)))
    ∙ sym (sum_by-cons (λ y. cond (g y) 1 0) k ks)

whole_are : (spec : List ℕ) (pages : List LogPage) → count_by (has (whole_ones spec pages)) spec ≡ length (whole_ones spec pages)
unfolding whole_ones
whole_are spec pages = count_same (has (filter (is_whole pages) spec)) (is_whole pages) spec (kept_has (is_whole pages) spec) ∙ sym (length-filter (is_whole pages) spec)

pub majority_is : (spec : List ℕ) (pages : List LogPage) (least count : ℕ) → least ≡ majority (length spec) → count ≡ length (whole_ones spec pages) → nat_le least count ≡ has_majority spec (whole_ones spec pages)
unfolding has_majority
majority_is spec pages least count l c = ap (λ n. nat_le n count) l ∙ ap (λ n. nat_le (majority (length spec)) n) (c ∙ sym (whole_are spec pages))

-- ---- the decision

pub decision_is : (log : Log) (spec : List ℕ) (named : Option (List ℕ)) (members : List ℕ) (pages : List LogPage) (next : ℕ) (naming : Option (List ℕ)) (ms : List ℕ) (base : ℕ) (floor : Option Stamp) (tail : List Entry) →
    next ≡ known log + 1 → naming ≡ named → ms ≡ members → base ≡ base_of (start log) (first_pages (whole_ones spec pages) pages) →
    floor ≡ floor_of base (first_pages (whole_ones spec pages) pages) → tail ≡ union (above floor (all_entries (whole_ones spec pages) pages)) →
    (let d : Decision = record { epoch = next; spec = naming; members = ms; base_len = base; tail = tail } in d) ≡ collected spec named log members pages
unfolding collected
decision_is log spec named members pages next naming ms base floor tail n m l b f t =
    let firsts : List LogPage = first_pages (whole_ones spec pages) pages in
    let es : List Entry = all_entries (whole_ones spec pages) pages in
    let low = f ∙ ap (λ x. floor_of x firsts) b in
    let whole : tail ≡ above (floor_of (base_of (start log) firsts) firsts) (union es) = t ∙ ap (λ o. union (above o es)) low ∙ sym (union_goes_on.1 (floor_of (base_of (start log) firsts) firsts) es) in
    λ i. record { epoch = n i; spec = m i; members = l i; base_len = b i; tail = whole i }

-- ---- members of the Spec

among_at : (ks : List ℕ) (i k : ℕ) → i < length ks → get_or ks i k ≡ k → Among ks k
among_at [] i k l e = absurd (omega arith)
among_at (j ∷ ks) zero k l e = inl e
among_at (j ∷ ks) (suc i) k l e = inr (among_at ks i k (omega arith) e)

at_among : (ks : List ℕ) (k : ℕ) → Among ks k → Contains ks k
at_among [] k m = absurd m
at_among (j ∷ ks) k (inl e) = (0, omega arith, e)
at_among (j ∷ ks) k (inr m) = let r = at_among ks k m in let l = r.1 in (suc r.0, omega (arith, l), r.2)

pub member_is : (ks : List ℕ) (k : ℕ) (b : Bool) → (IsTrue b ↔ Contains ks k) → b ≡ has ks k
member_is ks k b h = go b (has ks k) refl refl
  where
    go : (c d : Bool) → b ≡ c → has ks k ≡ d → b ≡ has ks k
    go true d e f = e ∙ sym (let r = h.0 e in has_in ks k (among_at ks r.0 k r.1 r.2))
    go false true e f = h.1 (at_among ks k (has_from ks k f)) ∙ sym f
    go false false e f = e ∙ sym f

pub asked_is : (log : Log) (spec : List ℕ) (pages : List LogPage) (e : ℕ) (after : Option Stamp) (p : LogPage) (member next whole : Bool) (epoch : ℕ) (at : Option Stamp) →
    member ≡ has spec p.from → next ≡ is_page_of epoch e at after p → epoch ≡ known log → at ≡ cursor pages p.from → whole ≡ is_whole pages p.from →
    (member && (next && not whole)) ≡ is_asked log spec pages e after p
unfolding is_asked
asked_is log spec pages e after p member next whole epoch at m n k c w =
    ap (λ b. b && (next && not whole)) m
    ∙ ap (λ b. has spec p.from && (b && not whole)) (n ∙ ap (λ x. is_page_of x e at after p) k ∙ ap (λ o. is_page_of (known log) e o after p) c)
    ∙ ap (λ b. has spec p.from && (is_page_of (known log) e (cursor pages p.from) after p && not b)) w

-- ---- the replica's own page

pub own_is : (log : Log) (me n : ℕ) (last : Option Stamp) (es : List Entry) → n ≡ length (executed log) → last ≡ last_stamp log → es ≡ above (last_stamp log) (logged log) →
    page_from me (record { executed = n; last = last; is_whole = true; entries = es }) ≡ own_page me log
unfolding own_page frozen
own_is log me n last es a b c = λ i. record { from = me; executed = a i; last = b i; whole = true; entries = c i }

pub own_told : (log : Log) (me n : ℕ) (last : Option Stamp) (es : List Entry) → n ≤ 18446744073709547519 → es ≡ above (last_stamp log) (logged log) → AllByRecursion FitsEntry es →
    CanSend (known log) (page_from me (record { executed = n; last = last; is_whole = true; entries = es }))
own_told log me n last es low e all = record {
  low = low;
  fit = all;
  of_epoch = subst (AllByRecursion (λ z. z.epoch ≡ known log)) (sym e) (own_epoch log);
}

-- ---- what is got

within_is : (d : Decision) (count bytes : ℕ) → count ≡ length d.tail → bytes ≡ size_of d.tail → (nat_le count 4096 && nat_le bytes 2097152) ≡ is_within d.tail
unfolding is_within
within_is d count bytes c b = ap (λ n. nat_le n 4096 && nat_le bytes 2097152) c ∙ ap (λ n. nat_le (length d.tail) 4096 && nat_le n 2097152) b

pub complete_is : (d : Decision) (count bytes : ℕ) → count ≡ length d.tail → bytes ≡ size_of d.tail → (nat_le count 4096 && nat_le bytes 2097152) ≡ true → PageOutcome.Complete d ≡ got_decided d
unfolding got_decided when◌then◌otherwise◌
complete_is d count bytes c b h = rw (sym (within_is d count bytes c b) ∙ h) refl

pub too_many_is : (d : Decision) (count bytes : ℕ) → count ≡ length d.tail → bytes ≡ size_of d.tail → (nat_le count 4096 && nat_le bytes 2097152) ≡ false → PageOutcome.TooMany count bytes ≡ got_decided d
unfolding got_decided when◌then◌otherwise◌
too_many_is d count bytes c b h = ap (λ n. PageOutcome.TooMany n bytes) c ∙ ap (λ n. PageOutcome.TooMany (length d.tail) n) b ∙ rw (sym (within_is d count bytes c b) ∙ h) refl

pub more_is : (log : Log) (spec : List ℕ) (named : Option (List ℕ)) (members : List ℕ) (pages : List LogPage) (k : ℕ) → is_whole pages k ≡ false → got_more k (cursor pages k) ≡ got_from log spec named members pages k
unfolding got_from when◌then◌otherwise◌
more_is log spec named members pages k h = rw h refl

pub whole_got : (log : Log) (spec : List ℕ) (named : Option (List ℕ)) (members : List ℕ) (pages : List LogPage) (k : ℕ) → is_whole pages k ≡ true → got_whole log spec named members pages ≡ got_from log spec named members pages k
unfolding got_from when◌then◌otherwise◌
whole_got log spec named members pages k h = rw h refl

pub kept_is : (log : Log) (spec : List ℕ) (named : Option (List ℕ)) (members : List ℕ) (pages : List LogPage) → has_majority spec (whole_ones spec pages) ≡ false → PageOutcome.Kept ≡ got_whole log spec named members pages
unfolding got_whole when◌then◌otherwise◌
kept_is log spec named members pages h = rw h refl

pub decided_is : (log : Log) (spec : List ℕ) (named : Option (List ℕ)) (members : List ℕ) (pages : List LogPage) → has_majority spec (whole_ones spec pages) ≡ true → got_decided (collected spec named log members pages) ≡ got_whole log spec named members pages
unfolding got_whole when◌then◌otherwise◌
decided_is log spec named members pages h = rw h refl

pub more_fits : (k : ℕ) (o : Option Stamp) → FitsGot (got_more k o)
more_fits k None = tt
more_fits k (Some s) = tt

-- ---- what is got of a page

pub page_got : (log : Log) (spec : List ℕ) (named : Option (List ℕ)) (members : List ℕ) (pages : List LogPage) (k : ℕ) (p : Page) → is_whole pages k ≡ false →
    got_from log spec named members (pages ++ page_from k p ∷ []) k ≡ got_page log spec named members (pages ++ page_from k p ∷ []) (page_from k p)
unfolding got_from got_page
page_got log spec named members pages k p h =
    ap (λ b. when b then got_whole log spec named members (pages ++ page_from k p ∷ []) otherwise got_more k (cursor (pages ++ page_from k p ∷ []) k))
    (whole_more pages k p ∙ ap (λ b. b || p.is_whole) h)

true_or : (b : Bool) → (b || true) ≡ true
true_or true = refl
true_or false = refl

pub own_got : (log : Log) (spec : List ℕ) (named : Option (List ℕ)) (members : List ℕ) (pages : List LogPage) (k : ℕ) (p : Page) → p.is_whole ≡ true →
    got_from log spec named members (pages ++ page_from k p ∷ []) k ≡ got_whole log spec named members (pages ++ page_from k p ∷ [])
own_got log spec named members pages k p h =
    sym (whole_got log spec named members (pages ++ page_from k p ∷ []) k (whole_more pages k p ∙ ap (λ b. is_whole pages k || b) h ∙ true_or (is_whole pages k)))

-- ---- a page that was asked for

pub asked_not_whole : (log : Log) (spec : List ℕ) (pages : List LogPage) (e : ℕ) (after : Option Stamp) (p : LogPage) → is_asked log spec pages e after p ≡ true → is_whole pages p.from ≡ false
unfolding is_asked
asked_not_whole log spec pages e after p h =
    let a = and_parts (has spec p.from) (is_page_of (known log) e (cursor pages p.from) after p && not (is_whole pages p.from)) h in
    not-true (is_whole pages p.from) (and_parts (is_page_of (known log) e (cursor pages p.from) after p) (not (is_whole pages p.from)) a.1).1

all_of_epoch : (e : ℕ) (s : Option Stamp) (es : List Entry) → are_above e s es ≡ true → AllByRecursion (λ z. z.epoch ≡ e) es
unfolding are_above
all_of_epoch e s [] h = tt
all_of_epoch e s (z ∷ es) h =
    let a = and_parts (z.epoch == e && option_map_or (λ t. stamp_lt t z.stamp) s true) (list_all (λ f. f.epoch == e && option_map_or (λ t. stamp_lt t f.stamp) s true) es) h in
    (eqb-true z.epoch e (and_parts (z.epoch == e) (option_map_or (λ t. stamp_lt t z.stamp) s true) a.0).0, all_of_epoch e s es a.1)

pub asked_told : (log : Log) (spec : List ℕ) (pages : List LogPage) (e : ℕ) (after : Option Stamp) (p : LogPage) → is_asked log spec pages e after p ≡ true → AllByRecursion FitsEntry p.entries → CanSend (known log) p
unfolding is_asked is_page_of
asked_told log spec pages e after p h fit =
    let behind : Option Stamp = when is_some after then after otherwise p.last in
    let next : Bool = (e == known log) && option_eq stamp_eq after (cursor pages p.from) in
    let right : Bool = next && are_above e behind p.entries in
    let more : Bool = (nat_lt 0 (length p.entries) || p.whole) && nat_le p.executed most_collected in
    let a = and_parts (has spec p.from) ((right && more) && not (is_whole pages p.from)) h in
    let b = and_parts (right && more) (not (is_whole pages p.from)) a.1 in
    let c = and_parts right more b.0 in
    let d = and_parts next (are_above e behind p.entries) c.0 in
    let same : e ≡ known log = eqb-true e (known log) (and_parts (e == known log) (option_eq stamp_eq after (cursor pages p.from)) d.0).0 in
    record {
      low = leb-true p.executed most_collected (and_parts (nat_lt 0 (length p.entries) || p.whole) (nat_le p.executed most_collected) c.1).1;
      fit = fit;
      of_epoch = subst (λ x. AllByRecursion (λ z. z.epoch ≡ x) p.entries) same (all_of_epoch e behind p.entries d.1);
    }

pub stranger_is : (log : Log) (spec : List ℕ) (named : Option (List ℕ)) (members : List ℕ) (pages : List LogPage) (k e executed : ℕ) (last after : Option Stamp) (whole : Bool) (es : List Entry) →
    is_asked log spec pages e after (page_in k executed last whole es) ≡ false → PageOutcome.Stranger ≡ got_of log spec named members pages k (SuspendOk e executed last after whole es)
unfolding when◌then◌otherwise◌
stranger_is log spec named members pages k e executed last after whole es h = rw h refl

pub taken_is : (log : Log) (spec : List ℕ) (named : Option (List ℕ)) (members : List ℕ) (pages : List LogPage) (k e executed : ℕ) (last after : Option Stamp) (whole : Bool) (es : List Entry) →
    is_asked log spec pages e after (page_in k executed last whole es) ≡ true →
    got_page log spec named members (pages ++ page_in k executed last whole es ∷ []) (page_in k executed last whole es) ≡ got_of log spec named members pages k (SuspendOk e executed last after whole es)
unfolding when◌then◌otherwise◌
taken_is log spec named members pages k e executed last after whole es h = rw h refl

pub none_after : (log : Log) (spec : List ℕ) (pages : List LogPage) (k e executed : ℕ) (last after : Option Stamp) (whole : Bool) (es : List Entry) →
    is_asked log spec pages e after (page_in k executed last whole es) ≡ false → pages ≡ pages_after log spec pages k (SuspendOk e executed last after whole es)
unfolding when◌then◌otherwise◌
none_after log spec pages k e executed last after whole es h = rw h refl

pub one_after : (log : Log) (spec : List ℕ) (pages : List LogPage) (k e executed : ℕ) (last after : Option Stamp) (whole : Bool) (es : List Entry) →
    is_asked log spec pages e after (page_in k executed last whole es) ≡ true → pages ++ page_in k executed last whole es ∷ [] ≡ pages_after log spec pages k (SuspendOk e executed last after whole es)
unfolding when◌then◌otherwise◌
one_after log spec pages k e executed last after whole es h = rw h refl

pub own_whole : (me : ℕ) (log : Log) → (own_page me log).whole ≡ true
unfolding own_page
own_whole me log = refl

-- ---- a page more

pub goes_on : (log : Log) (spec : List ℕ) (named : Option (List ℕ)) (members : List ℕ) (pages : List LogPage) (c : Collection) (reports : List Report) (p : LogPage) → CollectStands log spec named members pages c →
    CanSend (known log) p → ReportsStand reports (pages ++ p ∷ []) → CollectStands log spec named members (pages ++ p ∷ []) (record c { reports = reports })
goes_on log spec named members pages c reports p s t h = record {
  epoch = s.epoch;
  next = s.next;
  begins = s.begins;
  spec_is = s.spec_is;
  named_is = s.named_is;
  members_are = s.members_are;
  reports = h;
  low_epoch = s.low_epoch;
  low_start = s.low_start;
  told = all-push (CanSend (known log)) pages p s.told t;
}

-- ---- for the crates above

-- of the log a collection knows the epoch and its start alone
pub same_collecting : (a b : Log) (spec : List ℕ) (named : Option (List ℕ)) (members : List ℕ) (pages : List LogPage) (c : Collection) → known a ≡ known b → start a ≡ start b →
    CollectStands a spec named members pages c → CollectStands b spec named members pages c
same_collecting a b spec named members pages c k l s = record {
  epoch = s.epoch ∙ k;
  next = s.next ∙ ap (λ n. n + 1) k;
  begins = s.begins ∙ l;
  spec_is = s.spec_is;
  named_is = s.named_is;
  members_are = s.members_are;
  reports = s.reports;
  low_epoch = subst (λ n. n ≤ most_collected) k s.low_epoch;
  low_start = subst (λ n. n ≤ most_collected) l s.low_start;
  told = subst (λ n. AllByRecursion (CanSend n) pages) k s.told;
}

-- where a page that was asked for is not the last, there is a stamp to go on from
pub more_from : (log : Log) (spec : List ℕ) (pages : List LogPage) (e : ℕ) (after : Option Stamp) (p : LogPage) → is_asked log spec pages e after p ≡ true → p.whole ≡ false →
    (s : Stamp) × (cursor (pages ++ p ∷ []) p.from ≡ Some s)
unfolding is_asked is_page_of
more_from log spec pages e after p h w =
    let behind : Option Stamp = when is_some after then after otherwise p.last in
    let right : Bool = ((e == known log) && option_eq stamp_eq after (cursor pages p.from)) && are_above e behind p.entries in
    let more : Bool = (nat_lt 0 (length p.entries) || p.whole) && nat_le p.executed most_collected in
    let a = and_parts (has spec p.from) ((right && more) && not (is_whole pages p.from)) h in
    let b = and_parts (right && more) (not (is_whole pages p.from)) a.1 in
    let c = and_parts right more b.0 in
    let some = and_parts (nat_lt 0 (length p.entries) || p.whole) (nat_le p.executed most_collected) c.1 in
    cursor_more pages p (ltb-true 0 (length p.entries) (sym (ap (λ v. nat_lt 0 (length p.entries) || v) w ∙ or_none (nat_lt 0 (length p.entries))) ∙ some.0))
