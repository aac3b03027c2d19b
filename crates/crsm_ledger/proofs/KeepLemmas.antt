-- The effect of a record that fits on the fields, and its lines.
use Rattle.std.proofs.Common.{◌≡◌, ℕ, Bool, true, false, ◌<◌, ◌≤◌, ◌+◌, List, [], ◌∷◌, ◌++◌, refl, ap, sym, subst, arith, length}
use Rattle.std.specs.Prelude.{◌==◌, ◌&&◌, nat_lt, nat_le, Option, None, Some, filter, if◌then◌else◌}
use Rattle.std.specs.List.{AllByRecursion, list_all}
use Rattle.std.specs.Option.{option_map_or}
use Rattle.std.proofs.lemmas.Bool.Decides.{nat_tests, Decides-eqb}
use Rattle.crsm_base.specs.Order.{stamp_lt, stamp_eq}
use Rattle.crsm_spec.specs.Types.{Stamp, Ballot, Entry, Decision, Rec, Line}
use Rattle.crsm_spec.specs.Clock.{u64_max}
use Rattle.crsm_spec.specs.Lists.{first_of}
use Rattle.crsm_spec.specs.Log.{Log, known, boots, active, with_entry, logged_in, logged, entry_of, executed, above, last_stamp, unexecuted, no_ballot}
use Rattle.crsm_spec.specs.Fits.{fits, booted}
use Rattle.crsm_spec.specs.Lines.{lines_of, exec_line, exec_lines}
use Rattle.crsm_ledger.specs.declared.ledger.Ledger.{Ledger}
use Rattle.crsm_ledger.specs.declared.held.HeldEntries.{HeldEntries}
use Rattle.crsm_ledger.specs.Executed.{HistoryStands, last_stamp_in}
use Rattle.crsm_ledger.specs.Held.{Holds}
use Rattle.crsm_ledger.specs.Ledger.{FieldsStand}
use Rattle.crsm_fact_log.proofs.Lists.{all_more}
use Rattle.crsm_ledger.proofs.LoggedLemmas.{with_entry-all}
use Rattle.crsm_ledger.proofs.ExecutedLemmas.{last_stamp-in}
use Rattle.crsm_ledger.proofs.ReadLemmas.{me-is, boots-is}
use Rattle.crsm_ledger.proofs.StepLemmas.{says-decide, says-prepare, says-commit, says-adopt, committed}

-- ---- what a condition says

both : (a b : Bool) → (a && b) ≡ true → (a ≡ true) × (b ≡ true)
both true b is = (refl, is)
both false b is = cc

pub boots-below : {me n : ℕ} {l : Ledger} {log : Log} (s : FieldsStand me n l log) (m k : ℕ) → fits me n log (Rec.Boot m k) ≡ true → l.boots < u64_max
unfolding fits
boots-below {me} {n} {l} {log} s m k fit =
    let few : nat_lt (boots log) u64_max ≡ true = (both (m == me && k == n) (nat_lt (boots log) u64_max) fit).1 in
    let below : boots log < u64_max = grind (arith, nat_tests, few) in
    omega (arith, below, boots-is s)

pub enter-known : (me n : ℕ) (log : Log) (x : ℕ) → fits me n log (Rec.Enter x) ≡ true → x ≡ known log
unfolding fits
enter-known me n log x fit =
    (Decides-eqb x (known log)).0 (both (booted log) (x == known log) (both _ _ (both _ _ (both _ _ fit).0).0).0).1

pub decide-later : (me n : ℕ) (log : Log) (d : Decision) → fits me n log (Rec.Decide d) ≡ true → known log < d.epoch
unfolding fits
decide-later me n log d fit =
    let later : nat_lt (known log) d.epoch ≡ true = (both (booted log) (nat_lt (known log) d.epoch) (both _ _ fit).0).1 in
    grind (arith, nat_tests, later)

pub prepare-known : (me n : ℕ) (log : Log) (e : Entry) → fits me n log (Rec.Prepare e) ≡ true → e.epoch ≡ known log
unfolding fits
prepare-known me n log e fit =
    (Decides-eqb e.epoch (known log)).0 (both (active log) (e.epoch == known log) (both _ _ (both _ _ fit).0).0).1

all_known : (x : ℕ) (es : List Entry) → list_all (λ e. nat_le e.epoch x) es ≡ true → AllByRecursion (λ e. e.epoch ≤ x) es
all_known x [] all = tt
all_known x (e ∷ es) all =
    let here : nat_le e.epoch x ≡ true = (both (nat_le e.epoch x) (list_all (λ f. nat_le f.epoch x) es) all).0 in
    (grind (arith, nat_tests, here), all_known x es (both (nat_le e.epoch x) (list_all (λ f. nat_le f.epoch x) es) all).1)

pub adopt-known : (me n : ℕ) (log : Log) (place : ℕ) (es : List Entry) → fits me n log (Rec.Adopt place es) ≡ true → AllByRecursion (λ e. e.epoch ≤ known log) es
unfolding fits
adopt-known me n log place es fit =
    all_known (known log) es (both _ _ (both _ _ (both _ _ fit).0).0).1

same_of_first : (o : Option Entry) (t : Stamp) (e : Entry) → option_map_or (λ f. stamp_eq f.stamp t) o false ≡ true → o ≡ Some e → stamp_eq e.stamp t ≡ true
same_of_first o t e same is = rw is at same

pub commit-same : (me n : ℕ) (log : Log) (t : Stamp) (e : Entry) → fits me n log (Rec.Commit t) ≡ true → first_of (unexecuted log) ≡ Some e → stamp_eq e.stamp t ≡ true
unfolding fits
commit-same me n log t e fit is = same_of_first (first_of (unexecuted log)) t e (both (active log) _ fit).1 is

pub commit-some : (me n : ℕ) (log : Log) (t : Stamp) → fits me n log (Rec.Commit t) ≡ true → first_of (unexecuted log) ≡ None → ⊥
unfolding fits
commit-some me n log t fit none =
    let false_is_true : false ≡ true = rw none at (both (active log) (option_map_or (λ e. stamp_eq e.stamp t) (first_of (unexecuted log)) false) fit).1 in cc

-- ---- the epoch of a logged entry

epoch_by_test : (x : ℕ) (e : Entry) (es : List Entry) (same : Bool) → same ≡ (e.epoch == x) → AllByRecursion (λ f. f.epoch ≡ x) es → AllByRecursion (λ f. f.epoch ≡ x) (if same then with_entry e es else es)
epoch_by_test x e es true is all = with_entry-all (λ f. f.epoch ≡ x) e es ((Decides-eqb e.epoch x).0 (sym is)) all
epoch_by_test x e es false is all = all

logged-epoch : (x : ℕ) (log : Log) → AllByRecursion (λ e. e.epoch ≡ x) (logged_in x log)
unfolding logged_in
logged-epoch x [] = tt
logged-epoch x (Rec.Prepare e ∷ log) = epoch_by_test x e (logged_in x log) (e.epoch == x) refl (logged-epoch x log)
logged-epoch x (Rec.Boot m k ∷ log) = logged-epoch x log
logged-epoch x (Rec.Commit t ∷ log) = logged-epoch x log
logged-epoch x (Rec.Adopt place es ∷ log) = logged-epoch x log
logged-epoch x (Rec.Suspend y ∷ log) = logged-epoch x log
logged-epoch x (Rec.Promise i b ∷ log) = logged-epoch x log
logged-epoch x (Rec.Accept i b d ∷ log) = logged-epoch x log
logged-epoch x (Rec.Decide d ∷ log) = logged-epoch x log
logged-epoch x (Rec.Enter y ∷ log) = logged-epoch x log

kept_by_test : (P : Entry → Type 0) (keep : Bool) (f : Entry) (kept : List Entry) (e : Entry) → P f → (first_of kept ≡ Some e → P e) → first_of (if keep then f ∷ kept else kept) ≡ Some e → P e
unfolding first_of
kept_by_test P true f kept e here later first = let same : f ≡ e = cc in subst P same here
kept_by_test P false f kept e here later first = later first

no_first : (P : Entry → Type 0) (e : Entry) → first_of {A = Entry} [] ≡ Some e → P e
unfolding first_of
no_first P e first = absurd (let no : ⊥ = cc in no)

first_kept : (P : Entry → Type 0) (p : Entry → Bool) (es : List Entry) (e : Entry) → AllByRecursion P es → first_of (filter p es) ≡ Some e → P e
first_kept P p [] e all first = no_first P e first
first_kept P p (f ∷ es) e all first = kept_by_test P (p f) f (filter p es) e all.0 (first_kept P p es e all.1) first

first_of_all : (P : Entry → Type 0) (es : List Entry) (e : Entry) → AllByRecursion P es → first_of es ≡ Some e → P e
unfolding first_of
first_of_all P [] e all first = absurd (let no : ⊥ = cc in no)
first_of_all P (f ∷ es) e all first = let same : f ≡ e = cc in subst P same all.0

first_above : (P : Entry → Type 0) (o : Option Stamp) (es : List Entry) (e : Entry) → AllByRecursion P es → first_of (above o es) ≡ Some e → P e
unfolding above
first_above P None es e all first = first_of_all P es e all first
first_above P (Some t) es e all first = first_kept P (λ f. stamp_lt t f.stamp) es e all first

pub unexecuted-epoch : (log : Log) (e : Entry) → first_of (unexecuted log) ≡ Some e → e.epoch ≡ known log
unfolding unexecuted logged
unexecuted-epoch log e first = first_above (λ f. f.epoch ≡ known log) (last_stamp log) (logged log) e (logged-epoch (known log) log) first

-- ---- lines

pub lines-boot : {me n : ℕ} {l : Ledger} {log : Log} (s : FieldsStand me n l log) (m k : ℕ) → Line.Boot l.me (l.boots + 1) ∷ [] ≡ lines_of me log (Rec.Boot m k)
unfolding lines_of
lines-boot s m k = rw (me-is s, boots-is s)

pub lines-suspend : {me n : ℕ} {l : Ledger} {log : Log} (s : FieldsStand me n l log) (x : ℕ) → Line.Suspend l.me x ∷ [] ≡ lines_of me log (Rec.Suspend x)
unfolding lines_of
lines-suspend s x = rw (me-is s)

pub lines-promise : {me n : ℕ} {l : Ledger} {log : Log} (s : FieldsStand me n l log) (i : ℕ) (b : Ballot) → Line.Promise l.me i b.round b.by ∷ [] ≡ lines_of me log (Rec.Promise i b)
unfolding lines_of
lines-promise s i b = rw (me-is s)

pub lines-accept : {me n : ℕ} {l : Ledger} {log : Log} (s : FieldsStand me n l log) (i : ℕ) (b : Ballot) (d : Decision) → Line.Accept l.me i b.round b.by ∷ [] ≡ lines_of me log (Rec.Accept i b d)
unfolding lines_of
lines-accept s i b d = rw (me-is s)

pub lines-enter : {me n : ℕ} {l : Ledger} {log : Log} (s : FieldsStand me n l log) (x : ℕ) → Line.Enter l.me x ∷ [] ≡ lines_of me log (Rec.Enter x)
unfolding lines_of
lines-enter s x = rw (me-is s)

pub lines-decide : {me n : ℕ} {l : Ledger} {log : Log} (s : FieldsStand me n l log) (d : Decision) (members : List ℕ) (count : ℕ) → members ≡ d.members → count ≡ length d.tail → Line.Decide l.me d.epoch members d.base_len count ∷ [] ≡ lines_of me log (Rec.Decide d)
unfolding lines_of
lines-decide s d members count is count_is = rw (me-is s, is, count_is)

pub lines-prepare : {me n : ℕ} {l : Ledger} {log : Log} (s : FieldsStand me n l log) (e : Entry) → lines_of l.me log (Rec.Prepare e) ≡ lines_of me log (Rec.Prepare e)
lines-prepare {log = log} s e = ap (λ (k : ℕ). lines_of k log (Rec.Prepare e)) (me-is s)

pub lines-commit : {me n : ℕ} {l : Ledger} {log : Log} (s : FieldsStand me n l log) (t : Stamp) (e : Entry) → entry_of log t ≡ Some e → exec_line l.me (executed log) e ∷ [] ≡ lines_of me log (Rec.Commit t)
unfolding lines_of exec_lines
lines-commit s t e is = rw (me-is s, is)

pub lines-adopt : {me n : ℕ} {l : Ledger} {log : Log} (s : FieldsStand me n l log) (place : ℕ) (es : List Entry) → exec_lines l.me (executed log) es ≡ lines_of me log (Rec.Adopt place es)
unfolding lines_of
lines-adopt {log = log} s place es = ap (λ (k : ℕ). exec_lines k (executed log) es) (me-is s)

-- ---- fields

pub decides : {me n : ℕ} {l : Ledger} {log : Log} (s : FieldsStand me n l log) (d known' : Decision) (start' : ℕ) (held : HeldEntries) → fits me n log (Rec.Decide d) ≡ true → known' ≡ d → start' ≡ d.base_len + length d.tail → Holds held.history held.logged d.epoch (executed log) [] → FieldsStand me n (record l { known = known'; start = start'; is_live = false; is_suspended = false; has_entered = false; promised = no_ballot; accepted = None; held = held }) (Rec.Decide d ∷ log)
decides {me} {n} {l} {log} s d known' start' held fit is start_is begun =
    rw (is, start_is) (says-decide s d held (decide-later me n log d fit) begun)

pub all_earlier : {me n : ℕ} {l : Ledger} {log : Log} (s : FieldsStand me n l log) (d : Decision) → fits me n log (Rec.Decide d) ≡ true → AllByRecursion (λ e. e.epoch < d.epoch) (executed log)
all_earlier {me} {n} {l} {log} s d fit =
    let later : known log < d.epoch = decide-later me n log d fit in
    all_more (λ e. e.epoch ≤ known log) (λ e. e.epoch < d.epoch) (λ e below. omega (arith, later, below)) (executed log) s.none_above.executed

pub prepares : {me n : ℕ} {l : Ledger} {log : Log} (s : FieldsStand me n l log) (e : Entry) (held : HeldEntries) → fits me n log (Rec.Prepare e) ≡ true → Holds held.history held.logged (known log) (executed log) (with_entry e (logged log)) → FieldsStand me n (record l { held = held }) (Rec.Prepare e ∷ log)
prepares {me} {n} {l} {log} s e held fit holds = says-prepare s e held (prepare-known me n log e fit) holds

pub commits : {me n : ℕ} {l : Ledger} {log : Log} (s : FieldsStand me n l log) (t : Stamp) (e : Entry) (held : HeldEntries) → fits me n log (Rec.Commit t) ≡ true → first_of (unexecuted log) ≡ Some e → Holds held.history held.logged (known log) (executed log ++ e ∷ []) (logged log) → FieldsStand me n (record l { held = held }) (Rec.Commit t ∷ log)
commits {me} {n} {l} {log} s t e held fit first holds =
    says-commit s t e held first (commit-same me n log t e fit first) (unexecuted-epoch log e first) holds

pub adopts : {me n : ℕ} {l : Ledger} {log : Log} (s : FieldsStand me n l log) (place : ℕ) (es : List Entry) (held : HeldEntries) → fits me n log (Rec.Adopt place es) ≡ true → HistoryStands held.history (known log) (executed log ++ es) → held.logged ≡ l.held.logged → FieldsStand me n (record l { held = held }) (Rec.Adopt place es ∷ log)
adopts {me} {n} {l} {log} s place es held fit done same = says-adopt s place es held (adopt-known me n log place es fit) done same

pub commit-entry : (me n : ℕ) (log : Log) (t : Stamp) (e : Entry) → fits me n log (Rec.Commit t) ≡ true → first_of (unexecuted log) ≡ Some e → entry_of log t ≡ Some e
commit-entry me n log t e fit first = committed log t e first (commit-same me n log t e fit first)

-- the first entry above the last executed one
pub next-is : (log : Log) → first_of (above (last_stamp_in (known log) (executed log)) (logged log)) ≡ first_of (unexecuted log)
unfolding unexecuted
next-is log = ap (λ (last : Option Stamp). first_of (above last (logged log))) (last_stamp-in log)
