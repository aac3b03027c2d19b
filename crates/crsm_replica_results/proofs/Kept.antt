-- The facts that one more record keeps: executed entries ascend, and lines are true of them.
use Rattle.std.proofs.Common.{◌≡◌, ◌<◌, ◌≤◌, ℕ, zero, suc, Bool, true, false, cond, List, [], ◌∷◌, ◌++◌, length, take, refl, sym, ap, ◌∙◌, subst, arith, inl, inr, append_assoc, append-nil}
use Rattle.std.specs.Prelude.{◌==◌, ◌&&◌, nat_eq, slice_get, Option, None, Some, filter, option_to_list}
use Rattle.std.specs.List.{AllByRecursion, last_or}
use Rattle.std.specs.Option.{option_map, option_map_or}
use Rattle.std.proofs.lemmas.Bool.Decides.{nat_tests}
use Rattle.crsm_base.specs.Records.{FitsRec}
use Rattle.crsm_base.specs.Order.{stamp_lt, entry_lt}
use Rattle.crsm_base.specs.Spelling.{FitsEntry, IsBefore, RisesAfter, Rises}
use Rattle.crsm_base.specs.Store.{answer_after}
use Rattle.crsm_spec.specs.Types.{Stamp, Entry, Line, Rec}
use Rattle.crsm_spec.specs.Lists.{first_of, last_of}
use Rattle.crsm_spec.specs.Log.{Log, known, with_entry, logged_in, above, last_stamp, logged, unexecuted, entry_of, executed}
use Rattle.crsm_spec.specs.Lines.{exec_line, exec_lines, lines_of}
use Rattle.crsm_spec.specs.Fits.{fits, goes_on}
use Rattle.crsm_fact_log.proofs.Lists.{all_more, all-append}
use Rattle.crsm_ledger.proofs.KeepLemmas.{commit-same, commit-some}
use Rattle.crsm_ledger.proofs.StepLemmas.{committed}
use Rattle.crsm_replica_results.specs.Answering.{IsTrueOf}
use Rattle.crsm_replica_results.specs.Rising.{RisesStrictly}

-- ---- orders

lt_trans : (a b c : Entry) → entry_lt a b ≡ true → entry_lt b c ≡ true → entry_lt a c ≡ true
unfolding entry_lt stamp_lt
lt_trans a b c p q = grind (arith, nat_tests, p, q)

of_before : (a b : Entry) → IsBefore a b → entry_lt a b ≡ true
unfolding entry_lt stamp_lt
of_before a b (inl p) = grind (arith, nat_tests, p)
of_before a b (inr (e, inl p)) = grind (arith, nat_tests, e, p)
of_before a b (inr (e, inr (f, p))) = grind (arith, nat_tests, e, f, p)

-- ---- a list that goes on

rises_push : (es : List Entry) (e : Entry) → RisesStrictly es → AllByRecursion (λ f. entry_lt f e ≡ true) es → RisesStrictly (es ++ e ∷ [])
rises_push [] e rises below = (tt, tt)
rises_push (f ∷ es) e rises below = (all-append _ es (e ∷ []) rises.0 (below.0, tt), rises_push es e rises.1 below.1)

after_all : (e : Entry) (es : List Entry) → RisesAfter e es → AllByRecursion (λ f. entry_lt e f ≡ true) es × RisesStrictly es
after_all e [] rises = (tt, tt)
after_all e (f ∷ es) rises =
    let rest = after_all f es rises.1 in
    let first = of_before e f rises.0 in
    ((first, all_more _ _ (λ g p. lt_trans e f g first p) es rest.0), (rest.0, rest.1))

strictly : (es : List Entry) → Rises es → RisesStrictly es
strictly [] rises = tt
strictly (e ∷ es) rises = after_all e es rises

-- all are below what is above the last
pub below_last : (done : List Entry) (e : Entry) → RisesStrictly done → option_map_or (λ f. entry_lt f e) (last_of done) true ≡ true → AllByRecursion (λ f. entry_lt f e ≡ true) done
unfolding last_of
below_last [] e rises last = tt
below_last (f ∷ []) e rises last = (last, tt)
below_last (f ∷ g ∷ es) e rises last =
    let rest = below_last (g ∷ es) e rises.1 last in
    (lt_trans f g e rises.0.0 rest.0, rest)

rises_append : (done es : List Entry) → RisesStrictly done → RisesStrictly es → AllByRecursion (λ f. AllByRecursion (λ g. entry_lt f g ≡ true) es) done → RisesStrictly (done ++ es)
rises_append [] es rises more between = more
rises_append (f ∷ done) es rises more between = (all-append _ done es rises.0 between.0, rises_append done es rises.1 more between.1)

rises_on : (done es : List Entry) → RisesStrictly done → Rises es → goes_on done es ≡ true → RisesStrictly (done ++ es)
unfolding goes_on
rises_on done [] rises more on = subst RisesStrictly (sym (append-nil done)) rises
rises_on done (e ∷ es) rises more on =
    let after = after_all e es more in
    rises_append done (e ∷ es) rises (strictly (e ∷ es) more)
    (all_more _ _ (λ f p. (p, all_more _ _ (λ g q. lt_trans f e g p q) es after.0)) done (below_last done e rises on))

-- ---- logged entries

by_order : (P : Entry → Type 0) (e f : Entry) (es more : List Entry) (b : Bool) → P e → P f × AllByRecursion P es → AllByRecursion P more →
    AllByRecursion P (cond b (e ∷ f ∷ es) (f ∷ more))
by_order P e f es more true here all rest = (here, all)
by_order P e f es more false here all rest = (all.0, rest)

with_one : (P : Entry → Type 0) (e : Entry) (es : List Entry) → P e → AllByRecursion P es → AllByRecursion P (with_entry e es)
unfolding with_entry
with_one P e [] here all = (here, tt)
with_one P e (f ∷ es) here all = by_order P e f es (with_entry e es) (stamp_lt e.stamp f.stamp) here all (with_one P e es here all.1)

with_known : (x : ℕ) (e : Entry) (b : Bool) (es : List Entry) → nat_eq e.epoch x ≡ b → FitsEntry e → AllByRecursion (λ f. (f.epoch ≡ x) × FitsEntry f) es →
    AllByRecursion (λ f. (f.epoch ≡ x) × FitsEntry f) (cond b (with_entry e es) es)
with_known x e true es is fits all = with_one (λ f. (f.epoch ≡ x) × FitsEntry f) e es (grind (arith, nat_tests, is), fits) all
with_known x e false es is fits all = all

-- the entries of an epoch are of that epoch, and have encodings
pub logged_fit : (x : ℕ) (log : Log) → AllByRecursion FitsRec log → AllByRecursion (λ f. (f.epoch ≡ x) × FitsEntry f) (logged_in x log)
unfolding logged_in
logged_fit x [] spelt = tt
logged_fit x (Rec.Prepare e ∷ log) spelt = with_known x e (nat_eq e.epoch x) (logged_in x log) refl spelt.0 (logged_fit x log spelt.1)
logged_fit x (Rec.Boot m k ∷ log) spelt = logged_fit x log spelt.1
logged_fit x (Rec.Commit t ∷ log) spelt = logged_fit x log spelt.1
logged_fit x (Rec.Adopt place es ∷ log) spelt = logged_fit x log spelt.1
logged_fit x (Rec.Suspend y ∷ log) spelt = logged_fit x log spelt.1
logged_fit x (Rec.Promise i b ∷ log) spelt = logged_fit x log spelt.1
logged_fit x (Rec.Accept i b d ∷ log) spelt = logged_fit x log spelt.1
logged_fit x (Rec.Decide d ∷ log) spelt = logged_fit x log spelt.1
logged_fit x (Rec.Enter y ∷ log) spelt = logged_fit x log spelt.1

-- ---- the next entry is above all that are executed

abbrev pub is_above : Option Stamp → Entry → Bool
is_above o e = option_map_or (λ s. stamp_lt s e.stamp) o true

older : (f e : Entry) (x : ℕ) → f.epoch < x → e.epoch ≡ x → entry_lt f e ≡ true
unfolding entry_lt
older f e x p q = grind (arith, nat_tests, p, q)

of_epoch : (f e : Entry) (x : ℕ) → f.epoch ≡ x → e.epoch ≡ x → stamp_lt f.stamp e.stamp ≡ true → entry_lt f e ≡ true
unfolding entry_lt
of_epoch f e x p q lt = grind (arith, nat_tests, p, q, lt)

single : (f e : Entry) (x : ℕ) (b : Bool) → nat_eq f.epoch x ≡ b → f.epoch ≤ x → e.epoch ≡ x →
    is_above (option_map (λ g. g.stamp) (last_or None (cond b (f ∷ []) []))) e ≡ true → entry_lt f e ≡ true
single f e x true is most of_x lt = of_epoch f e x (grind (arith, nat_tests, is)) of_x lt
single f e x false is most of_x lt = older f e x (grind (arith, nat_tests, is, most)) of_x

-- the last one of the rest is the last one, where the rest has one
rest_above : (f e : Entry) (b : Bool) (kept : List Entry) → is_above (option_map (λ g. g.stamp) (last_or None (cond b (f ∷ kept) kept))) e ≡ true →
    is_above (option_map (λ g. g.stamp) (last_or None kept)) e ≡ true
rest_above f e true [] lt = refl
rest_above f e true (g ∷ kept) lt = lt
rest_above f e false kept lt = lt

all_below : (x : ℕ) (done : List Entry) (e : Entry) → RisesStrictly done → AllByRecursion (λ f. f.epoch ≤ x) done → e.epoch ≡ x →
    is_above (option_map (λ g. g.stamp) (last_or None (filter (λ f. f.epoch == x) done))) e ≡ true → AllByRecursion (λ f. entry_lt f e ≡ true) done
all_below x [] e rises most of_x lt = tt
all_below x (f ∷ []) e rises most of_x lt = (single f e x (nat_eq f.epoch x) refl most.0 of_x lt, tt)
all_below x (f ∷ g ∷ done) e rises most of_x lt =
    let rest = all_below x (g ∷ done) e rises.1 most.1 of_x (rest_above f e (nat_eq f.epoch x) (filter (λ h. h.epoch == x) (g ∷ done)) lt) in
    (lt_trans f g e rises.0.0 rest.0, rest)

some_same : {X : Type 0} (x y : X) → Some x ≡ Some y → x ≡ y
some_same x y e = cc

first_by : (P : Entry → Type 0) (p : Entry → Bool) (f e : Entry) (b : Bool) (kept : List Entry) → p f ≡ b → P f → first_of (cond b (f ∷ kept) kept) ≡ Some e →
    (first_of kept ≡ Some e → (p e ≡ true) × P e) → (p e ≡ true) × P e
unfolding first_of
first_by P p f e true kept test here is later =
    let same : f ≡ e = some_same _ _ is in
    (subst (λ (g : Entry). p g ≡ true) same test, subst P same here)
first_by P p f e false kept test here is later = later is

none_first : (g : Entry) → first_of [] ≡ Some g → ⊥
unfolding first_of
none_first g h = cc

first_kept : (P : Entry → Type 0) (p : Entry → Bool) (es : List Entry) (e : Entry) → AllByRecursion P es → first_of (filter p es) ≡ Some e → (p e ≡ true) × P e
first_kept P p [] e all is = absurd (none_first e is)
first_kept P p (f ∷ es) e all is = first_by P p f e (p f) (filter p es) refl all.0 is (first_kept P p es e all.1)

first_all : (P : Entry → Type 0) (es : List Entry) (e : Entry) → AllByRecursion P es → first_of es ≡ Some e → P e
unfolding first_of
first_all P [] e all is = cc
first_all P (f ∷ es) e all is = subst P (some_same _ _ is) all.0

first_above : (o : Option Stamp) (P : Entry → Type 0) (es : List Entry) (e : Entry) → AllByRecursion P es → first_of (above o es) ≡ Some e → (is_above o e ≡ true) × P e
unfolding above
first_above None P es e all is = (refl, first_all P es e all is)
first_above (Some s) P es e all is = first_kept P (λ f. stamp_lt s f.stamp) es e all is

-- the entry that is executed next
pub next_is : (log : Log) (e : Entry) → AllByRecursion FitsRec log → first_of (unexecuted log) ≡ Some e → (is_above (last_stamp log) e ≡ true) × ((e.epoch ≡ known log) × FitsEntry e)
unfolding unexecuted logged
next_is log e spelt is =
    first_above (last_stamp log) (λ f. (f.epoch ≡ known log) × FitsEntry f) (logged_in (known log) log) e (logged_fit (known log) log spelt) is

-- what a commit executes
pub data Executes (log : Log) (s : Stamp) : Type 0 where
  The : (e : Entry) → first_of (unexecuted log) ≡ Some e → entry_of log s ≡ Some e → Executes log s

pub executes : (me n : ℕ) (log : Log) (s : Stamp) → fits me n log (Rec.Commit s) ≡ true → Executes log s
executes me n log s fit = by_first (first_of (unexecuted log)) refl
  where
    by_first : (o : Option Entry) → first_of (unexecuted log) ≡ o → Executes log s
    by_first None is = absurd (commit-some me n log s fit is)
    by_first (Some e) is = The e is (committed log s e is (commit-same me n log s e fit is))

rises_commit : (log : Log) (s : Stamp) → AllByRecursion FitsRec log → Executes log s → AllByRecursion (λ e. e.epoch ≤ known log) (executed log) → RisesStrictly (executed log) → RisesStrictly (executed (Rec.Commit s ∷ log))
unfolding executed last_stamp last_of
rises_commit log s spelt (The e next is) most rises =
    let at = next_is log e spelt next in
    subst (λ o. RisesStrictly (executed log ++ option_to_list o)) (sym is)
    (rises_push (executed log) e rises (all_below (known log) (executed log) e rises most at.1.0 at.0))

both : (a b : Bool) → (a && b) ≡ true → (a ≡ true) × (b ≡ true)
both true b is = (refl, is)
both false b is = cc

adopt_on : (me n : ℕ) (log : Log) (place : ℕ) (es : List Entry) → fits me n log (Rec.Adopt place es) ≡ true → goes_on (executed log) es ≡ true
unfolding fits
adopt_on me n log place es fit = (both _ _ (both _ _ fit).0).1

-- executed entries rise on
pub rises_kept : (me n : ℕ) (log : Log) (rec : Rec) → fits me n log rec ≡ true → FitsRec rec → AllByRecursion FitsRec log → AllByRecursion (λ e. e.epoch ≤ known log) (executed log) →
    RisesStrictly (executed log) → RisesStrictly (executed (rec ∷ log))
unfolding executed
rises_kept me n log (Rec.Boot m k) fit spelt before most rises = rises
rises_kept me n log (Rec.Prepare e) fit spelt before most rises = rises
rises_kept me n log (Rec.Commit s) fit spelt before most rises = rises_commit log s before (executes me n log s fit) most rises
rises_kept me n log (Rec.Adopt place es) fit spelt before most rises = rises_on (executed log) es rises spelt.1.rises (adopt_on me n log place es fit)
rises_kept me n log (Rec.Suspend x) fit spelt before most rises = rises
rises_kept me n log (Rec.Promise i b) fit spelt before most rises = rises
rises_kept me n log (Rec.Accept i b d) fit spelt before most rises = rises
rises_kept me n log (Rec.Decide d) fit spelt before most rises = rises
rises_kept me n log (Rec.Enter x) fit spelt before most rises = rises

-- ---- lines

get_grown : {X : Type 0} (xs ys : List X) (i : ℕ) (x : X) → slice_get xs i ≡ Some x → slice_get (xs ++ ys) i ≡ Some x
get_grown [] ys i x is = cc
get_grown (y ∷ xs) ys zero x is = is
get_grown (y ∷ xs) ys (suc i) x is = get_grown xs ys i x is

take_grown : {X : Type 0} (xs ys : List X) (i : ℕ) (x : X) → slice_get xs i ≡ Some x → take i (xs ++ ys) ≡ take i xs
take_grown [] ys i x is = cc
take_grown (y ∷ xs) ys zero x is = refl
take_grown (y ∷ xs) ys (suc i) x is = ap (λ rest. y ∷ rest) (take_grown xs ys i x is)

line_grown : (done more : List Entry) (line : Line) → IsTrueOf done line → IsTrueOf (done ++ more) line
line_grown done more (Line.Exec k place epoch stamp client number answer) t =
    record {
      entry = t.entry;
      there = get_grown done more place t.entry t.there;
      is = t.is ∙ ap (λ prefix. answer_after prefix t.entry) (sym (take_grown done more place t.entry t.there));
    }
line_grown done more (Line.Boot k count) t = tt
line_grown done more (Line.Submit k epoch time client number) t = tt
line_grown done more (Line.Log k epoch stamp) t = tt
line_grown done more (Line.Suspend k epoch) t = tt
line_grown done more (Line.Promise k i round by) t = tt
line_grown done more (Line.Accept k i round by) t = tt
line_grown done more (Line.Decide k epoch ms base count) t = tt
line_grown done more (Line.Enter k epoch) t = tt
line_grown done more (Line.TooMany k epoch count bytes) t = tt
line_grown done more (Line.Send i from to kind bytes) t = tt
line_grown done more (Line.ReplyOk k client number place answer) t = tt
line_grown done more (Line.ReplyNo k client number code) t = tt
line_grown done more (Line.ReplyDropped k client number epoch stamp) t = tt
line_grown done more (Line.Down k) t = tt
line_grown done more (Line.Final k state known executed) t = tt
line_grown done more (Line.Out to bytes) t = tt
line_grown done more (Line.Back address bytes) t = tt

get_last : {X : Type 0} (xs : List X) (x : X) (ys : List X) → slice_get (xs ++ x ∷ ys) (length xs) ≡ Some x
get_last [] x ys = refl
get_last (y ∷ xs) x ys = get_last xs x ys

take_prefix : {X : Type 0} (xs ys : List X) → take (length xs) (xs ++ ys) ≡ xs
take_prefix [] ys = refl
take_prefix (x ∷ xs) ys = ap (λ rest. x ∷ rest) (take_prefix xs ys)

executed_true : (me : ℕ) (done es : List Entry) → AllByRecursion (IsTrueOf (done ++ es)) (exec_lines me done es)
unfolding exec_lines exec_line
executed_true me done [] = tt
executed_true me done (e ∷ es) = (
  record {
    entry = e;
    there = get_last done e es;
    is = ap (λ prefix. answer_after prefix e) (sym (take_prefix done (e ∷ es)));
  },
  subst (λ (all : List Entry). AllByRecursion (IsTrueOf all) (exec_lines me (done ++ e ∷ []) es)) (append_assoc done (e ∷ []) es) (executed_true me (done ++ e ∷ []) es),
)

grown : (me : ℕ) (done es : List Entry) (lines : List Line) → AllByRecursion (IsTrueOf done) lines → AllByRecursion (IsTrueOf (done ++ es)) (lines ++ exec_lines me done es)
grown me done es lines all = all-append _ lines (exec_lines me done es) (all_more _ _ (line_grown done es) lines all) (executed_true me done es)

submit_line : (me : ℕ) (done : List Entry) (b : Bool) (e : Entry) →
    AllByRecursion (IsTrueOf done) (cond b (Line.Submit me e.epoch e.stamp.time e.command.client e.command.number) (Line.Log me e.epoch e.stamp) ∷ [])
submit_line me done true e = (tt, tt)
submit_line me done false e = (tt, tt)

-- lines stay true, and those of one more record are true
pub sent_kept : (me : ℕ) (log : Log) (rec : Rec) (lines : List Line) → AllByRecursion (IsTrueOf (executed log)) lines →
    AllByRecursion (IsTrueOf (executed (rec ∷ log))) (lines ++ lines_of me log rec)
unfolding executed lines_of
sent_kept me log (Rec.Boot m k) lines all = all-append _ lines _ all (tt, tt)
sent_kept me log (Rec.Prepare e) lines all = all-append _ lines _ all (submit_line me (executed log) (nat_eq e.stamp.origin me) e)
sent_kept me log (Rec.Commit s) lines all = grown me (executed log) (option_to_list (entry_of log s)) lines all
sent_kept me log (Rec.Adopt place es) lines all = grown me (executed log) es lines all
sent_kept me log (Rec.Suspend x) lines all = all-append _ lines _ all (tt, tt)
sent_kept me log (Rec.Promise i b) lines all = all-append _ lines _ all (tt, tt)
sent_kept me log (Rec.Accept i b d) lines all = all-append _ lines _ all (tt, tt)
sent_kept me log (Rec.Decide d) lines all = all-append _ lines _ all (tt, tt)
sent_kept me log (Rec.Enter x) lines all = all-append _ lines _ all (tt, tt)
