-- Reports with promises: those of a log, and one more.
use Rattle.std.proofs.Common.{BTreeMap, ◌≡◌, ℕ, ◌<◌, Bool, true, false, List, [], ◌∷◌, Some, refl, ap, sym, subst, ◌∙◌}
use Rattle.std.specs.Prelude.{◌==◌, ◌&&◌, nat_le, nat_lt, not, cond, map, Option, is_some, if◌then◌else◌}
use Rattle.std.specs.List.{AllByRecursion}
use Rattle.std.specs.Map.{lookup}
use Rattle.std.specs.BTreeMap.{insert_entry, is_at}
use Rattle.std.specs.Ordering.{nat_cmp}
use Rattle.crsm_base.specs.Order.{ballot_eq}
use Rattle.crsm_base.specs.Spelling.{FitsBallot}
use Rattle.crsm_spec.specs.Clock.{u64_max}
use Rattle.crsm_spec.specs.Lists.{has}
use Rattle.crsm_mpspec.specs.declared.rec.MpRec.{MpRec}
use Rattle.crsm_mpspec.specs.declared.accepts.MpAccepted.{MpAccepted}
use Rattle.crsm_mpspec.specs.declared.choices.MpChosen.{MpChosen}
use Rattle.crsm_mpspec.specs.Log.{Log, accepted_from, accepts, by_slot, chosen_from, choices, from_slot}
use Rattle.crsm_mpspec.specs.Electing.{report}
use Rattle.crsm_mpspec.specs.Replica.{Replica, Note as NoteOnPaper, Report as ReportOnPaper, has_reported, with_report}
use Rattle.crsm_mpspec.specs.Types.{Ballot, Value}
use Rattle.crsm_mpledger.specs.Sound.{IsSound}
use Rattle.crsm_mpreplica.specs.declared.note.Asking.{Asking}
use Rattle.crsm_mpreplica.specs.declared.note.Note.{Note}
use Rattle.crsm_mpreplica.specs.declared.note.MpReport.{MpReport}
use Rattle.crsm_mpreplica.specs.Fitting.{FitsAccepted, FitsChosen, FitsReport, FitsValue}
use Rattle.crsm_mpreplica.specs.Notes.{NoteStands, awaits_report, note_report, report_of}
use Rattle.crsm_mpreplica.proofs.KeyLemmas.{Below, Same, Above, at-key, compared, eqb-sym, same_at, same_cmp}

-- ---- what a sound log reports fits

module _ {X : Type 0} (P : ℕ × X → Type 0) where
  all-inserted : (es : List (ℕ × X)) (k : ℕ) (v : X) → AllByRecursion P es → P (k, v) → AllByRecursion P (insert_entry nat_cmp es k v)
  all-inserted [] k v all here = (here, tt)
  all-inserted (e ∷ es) k v all here = elim (compared k e.0) [
    | Below l _ _ ↦ rw (l) (here, all)
    | Same s ↦ rw (same_cmp k e.0 s) (subst (λ j. P (j, v)) s here, all.1)
    | Above l _ _ ↦ rw (l) (all.0, all-inserted es k v all.1 here)
  ]

  all-by_slot : (es : List (ℕ × X)) → AllByRecursion P es → AllByRecursion P (by_slot es)
  unfolding by_slot
  all-by_slot [] all = tt
  all-by_slot (e ∷ es) all = all-inserted (by_slot es) e.0 e.1 (all-by_slot es all.1) all.0

  all-from_slot : (start : ℕ) (es : List (ℕ × X)) → AllByRecursion P es → AllByRecursion P (from_slot start es)
  unfolding from_slot
  all-from_slot start [] all = tt
  all-from_slot start (e ∷ es) all = by_test (nat_le start e.0) (from_slot start es) (all-from_slot start es all.1)
    where
      by_test : (b : Bool) (xs : List (ℕ × X)) → AllByRecursion P xs → AllByRecursion P (cond b (e ∷ xs) xs)
      by_test true xs more = (all.0, more)
      by_test false xs more = more

  all-mapped : {Y : Type 0} (Q : Y → Type 0) (f : ℕ × X → Y) → ((e : ℕ × X) → P e → Q (f e)) → (es : List (ℕ × X)) → AllByRecursion P es → AllByRecursion Q (map f es)
  all-mapped Q f gives [] all = tt
  all-mapped Q f gives (e ∷ es) all = (gives e all.0, all-mapped Q f gives es all.1)

abbrev FitsAcceptAt : ℕ × (Ballot × Value) → Type 0
FitsAcceptAt e = (e.0 < u64_max) × FitsBallot e.1.0 × FitsValue e.1.1

abbrev FitsChoiceAt : ℕ × Value → Type 0
FitsChoiceAt e = (e.0 < u64_max) × FitsValue e.1

accepts-fit : (log : Log) → IsSound log → AllByRecursion FitsAcceptAt (accepts log)
unfolding accepts
accepts-fit [] sound = tt
accepts-fit (MpRec.Boot ∷ log) sound = accepts-fit log sound.1
accepts-fit (MpRec.Promise b ∷ log) sound = accepts-fit log sound.1
accepts-fit (MpRec.Accept slot b v ∷ log) sound = (sound.0, accepts-fit log sound.1)
accepts-fit (MpRec.Choose slot v ∷ log) sound = accepts-fit log sound.1

choices-fit : (log : Log) → IsSound log → AllByRecursion FitsChoiceAt (choices log)
unfolding choices
choices-fit [] sound = tt
choices-fit (MpRec.Boot ∷ log) sound = choices-fit log sound.1
choices-fit (MpRec.Promise b ∷ log) sound = choices-fit log sound.1
choices-fit (MpRec.Accept slot b v ∷ log) sound = choices-fit log sound.1
choices-fit (MpRec.Choose slot v ∷ log) sound = ((sound.0.0, sound.0.1), choices-fit log sound.1)

pub accepted-fit : (log : Log) (start : ℕ) → IsSound log → AllByRecursion FitsAccepted (accepted_from start log)
unfolding accepted_from
accepted-fit log start sound =
    all-mapped FitsAcceptAt FitsAccepted (λ x. record { slot = x.0; ballot = x.1.0; value = x.1.1 }) (λ e fits. fits) (from_slot start (by_slot (accepts log)))
    (all-from_slot FitsAcceptAt start (by_slot (accepts log)) (all-by_slot FitsAcceptAt (accepts log) (accepts-fit log sound)))

pub chosen-fit : (log : Log) (start : ℕ) → IsSound log → AllByRecursion FitsChosen (chosen_from start log)
unfolding chosen_from
chosen-fit log start sound =
    all-mapped FitsChoiceAt FitsChosen (λ x. record { slot = x.0; value = x.1 }) (λ e fits. fits) (from_slot start (by_slot (choices log)))
    (all-from_slot FitsChoiceAt start (by_slot (choices log)) (all-by_slot FitsChoiceAt (choices log) (choices-fit log sound)))

-- ---- one report more

-- a replica has reported where the map has it
reported-is : (k : ℕ) (es : List (ℕ × MpReport)) → has_reported (map report_of es) k ≡ is_some (lookup (is_at (nat_cmp k)) es)
unfolding has_reported has report_of
reported-is k [] = refl
reported-is k (e ∷ es) = by_test (e.0 == k) refl (reported-is k es)
  where
    by_test : (b : Bool) → (e.0 == k) ≡ b → has_reported (map report_of es) k ≡ is_some (lookup (is_at (nat_cmp k)) es) → has_reported (map report_of (e ∷ es)) k ≡ is_some (lookup (is_at (nat_cmp k)) (e ∷ es))
    by_test true p same = rw (at-key k e.0, p) refl
    by_test false p same = rw (at-key k e.0, p) same

-- the note awaits a report where its map has none
pub awaits-is : (a : Asking) (b : Ballot) (k me : ℕ) (log : Log) (p : NoteOnPaper) → NoteStands (Note.Asking a) me log p
    → (ballot_eq a.ballot b && not (is_some (lookup (is_at (nat_cmp k)) a.reports.entries))) ≡ awaits_report b k p
unfolding awaits_report
awaits-is a b k me log (NoteOnPaper.Asking c start reports) s =
    ap (λ (d : Ballot). ballot_eq d b && not (is_some (lookup (is_at (nat_cmp k)) a.reports.entries))) s.ballot
    ∙ ap (λ (t : Bool). ballot_eq c b && not t) (sym (reported-is k a.reports.entries) ∙ ap (λ (rs : List ReportOnPaper). has_reported rs k) s.reports_are)
awaits-is a b k me log NoteOnPaper.Idle s = absurd s
awaits-is a b k me log (NoteOnPaper.Leading c start next reports votes) s = absurd s

-- a replica that does not ask awaits no report
pub awaits-none : (note : Note) (b : Ballot) (k me : ℕ) (log : Log) (p : NoteOnPaper) → ((a : Asking) → note ≡ Note.Asking a → ⊥) → NoteStands note me log p → false ≡ awaits_report b k p
unfolding awaits_report
awaits-none (Note.Asking a) b k me log p other s = absurd (other a refl)
awaits-none Note.Idle b k me log NoteOnPaper.Idle other s = refl
awaits-none (Note.Leading l) b k me log (NoteOnPaper.Leading c start next reports votes) other s = refl
awaits-none _ b k me log _ other s = absurd s

none_found : (b : Bool) (X : Type 0) (x : X) (o : Option X) → b ≡ true → is_some (cond b (Some x) o) ≡ false → ⊥
none_found true X x o p e = cc
none_found false X x o p e = cc

inserted-report : (es : List (ℕ × MpReport)) (k : ℕ) (r : MpReport) → is_some (lookup (is_at (nat_cmp k)) es) ≡ false
    → map report_of (insert_entry nat_cmp es k r) ≡ with_report (report_of (k, r)) (map report_of es)
unfolding with_report report_of
inserted-report [] k r none = refl
inserted-report (e ∷ es) k r none = elim (compared k e.0) [
  | Below l t _ ↦ rw (l, t) refl
  | Same s ↦ absurd (none_found (is_at (nat_cmp k) e.0) MpReport e.1 (lookup (is_at (nat_cmp k)) es) (same_at k e.0 s) none)
  | Above l t n ↦ rw (l, t) (ap (λ (rs : List ReportOnPaper). report_of e ∷ rs) (inserted-report es k r (subst (λ b. is_some (cond b (Some e.1) (lookup (is_at (nat_cmp k)) es)) ≡ false) (at-key k e.0 ∙ eqb-sym e.0 k ∙ n) none)))
]

all-with_report : (P : ReportOnPaper → Type 0) (r : ReportOnPaper) (rs : List ReportOnPaper) → AllByRecursion P rs → P r → AllByRecursion P (with_report r rs)
unfolding with_report
all-with_report P r [] all here = (here, tt)
all-with_report P r (s ∷ rs) all here = by_test (nat_lt r.from s.from) (with_report r rs) (all-with_report P r rs all.1 here)
  where
    by_test : (b : Bool) (ss : List ReportOnPaper) → AllByRecursion P ss → AllByRecursion P (if b then r ∷ s ∷ rs else s ∷ ss)
    by_test true ss more = (here, all)
    by_test false ss more = (all.0, more)

not_there : (t u : Bool) → (t && not u) ≡ true → u ≡ false
not_there true true e = sym e
not_there true false e = refl
not_there false u e = absurd cc

-- the note with one report more
pub reported : (a : Asking) (rest : BTreeMap ℕ MpReport) (r : MpReport) (b : Ballot) (k me : ℕ) (log : Log) (p : NoteOnPaper) → NoteStands (Note.Asking a) me log p
    → awaits_report b k p ≡ true → FitsReport (report_of (k, r)) → rest.entries ≡ insert_entry nat_cmp a.reports.entries k r
    → NoteStands (Note.Asking (record a { reports = rest })) me log (note_report (report_of (k, r)) p)
unfolding note_report
reported a rest r b k me log (NoteOnPaper.Asking c start reports) s awaits fits is =
    let none = not_there (ballot_eq a.ballot b) (is_some (lookup (is_at (nat_cmp k)) a.reports.entries)) (awaits-is a b k me log (NoteOnPaper.Asking c start reports) s ∙ awaits) in
    record {
      ballot = s.ballot;
      start_is = s.start_is;
      reports_are = ap (map report_of) is ∙ inserted-report a.reports.entries k r none ∙ ap (with_report (report_of (k, r))) s.reports_are;
      ballot_fits = s.ballot_fits;
      reports_fit = all-with_report FitsReport (report_of (k, r)) reports s.reports_fit fits;
    }
reported a rest r b k me log NoteOnPaper.Idle s awaits fits is = absurd s
reported a rest r b k me log (NoteOnPaper.Leading c start next reports votes) s awaits fits is = absurd s

-- ---- the first report

-- the report of a replica on itself
pub report-of_log : (start : ℕ) (p : Replica) (me : ℕ) (r : MpReport) → me ≡ p.me → r.accepted ≡ accepted_from start p.log → r.chosen ≡ chosen_from start p.log
    → map report_of ((me, r) ∷ []) ≡ report start p ∷ []
unfolding report report_of
report-of_log start p me r is accepted chosen = λ i. record { from = is i; accepted = accepted i; chosen = chosen i } ∷ []

pub report-same : (k : ℕ) (r : MpReport) (acc : List MpAccepted) (cho : List MpChosen) → r.accepted ≡ acc → r.chosen ≡ cho → report_of (k, r) ≡ record { from = k; accepted = acc; chosen = cho }
unfolding report_of
report-same k r acc cho accepted chosen = λ i. record { from = k; accepted = accepted i; chosen = chosen i }
