-- The election by a majority, and its effects.
use Rattle.std.proofs.Common.{◌≡◌, ℕ, zero, suc, ◌+◌, ◌-◌, ◌<◌, ◌≤◌, Bool, true, false, List, [], ◌∷◌, ◌++◌, Some, refl, ap, sym, subst, ◌∙◌, append_assoc, length, arith}
use Rattle.std.specs.Prelude.{◌==◌, cond, map, filter, fold, take, slice_get, Option, None, nat_le, if◌then◌else◌}
use Rattle.std.specs.List.{AllByRecursion, flat_map, range_with_len}
use Rattle.std.specs.Map.{values_of}
use Rattle.std.proofs.lemmas.Grind.{fold-append}
use Rattle.std.proofs.lemmas.Bool.Decides.{nat_tests}
use Rattle.crsm_base.specs.Order.{ballot_lt}
use Rattle.crsm_base.specs.Spelling.{FitsOption}
use Rattle.crsm_spec.specs.Choice.{when◌then◌otherwise◌}
use Rattle.crsm_spec.specs.Paxos as paxos
use Rattle.crsm_spec.specs.Paxos.{Held, majority, better_held, better_answer, counts_before, value_of_best}
use Rattle.crsm_fact_log.proofs.Lists.{append-none, all-append}
use Rattle.crsm_mpspec.specs.declared.accepts.MpAccepted.{MpAccepted}
use Rattle.crsm_mpspec.specs.declared.choices.MpChosen.{MpChosen}
use Rattle.crsm_mpspec.specs.Types.{Ballot, Value}
use Rattle.crsm_mpspec.specs.Log.{Log}
use Rattle.crsm_mpspec.specs.Replica.{Report, Note}
use Rattle.crsm_mpspec.specs.Draft.{Draft, noting}
use Rattle.crsm_mpspec.specs.Electing.{greater_held, held_at, answers_at, reported_at, chosen_among, slots_in, next_slot, lead, lead_by, lead_at_majority, take_report}
use Rattle.crsm_mpreplica.specs.declared.note.Note.{Note as NoteInMemory}
use Rattle.crsm_mpreplica.specs.declared.note.MpReport.{MpReport as ReportInMemory}
use Rattle.crsm_mpreplica.specs.Fitting.{FitsAccepted, FitsChosen, FitsReport, FitsValue}
use Rattle.crsm_mpreplica.specs.declared.note.Asking.{Asking}
use Rattle.crsm_mpreplica.specs.Notes.{NoteStands, IsAsking, report_of, awaits_report, note_report}
use Rattle.crsm_mpcore.specs.Findings.{Found, and_accepted, and_chosen, found_in}
use Rattle.crsm_mpcore.proofs.FoundLemmas.{greatest-first}
use Rattle.crsm_mpcore.proofs.SoundLemmas.{FitsChoiceAt, all-by_slot}

-- ---- one report more

flat-more : {B : Type 0} (f : Report → List B) (g : ReportInMemory → List B) → ((e : ℕ × ReportInMemory) → f (report_of e) ≡ g e.1)
    → (es : List (ℕ × ReportInMemory)) (n : ℕ) (r : ReportInMemory) → slice_get (values_of es) n ≡ Some r
    → flat_map f (take n (map report_of es)) ++ g r ≡ flat_map f (take (suc n) (map report_of es))
flat-more f g is [] n r at = absurd cc
flat-more {B = B} f g is (e ∷ es) zero r at = ap g (inside e.1 at) ∙ sym (is e) ∙ sym (append-none (f (report_of e)))
  where
    inside : (s : ReportInMemory) → ◌≡◌ {A = Option ReportInMemory} (Some s) (Some r) → r ≡ s
    inside s e = cc
flat-more {B = B} f g is (e ∷ es) (suc n) r at =
    append_assoc (f (report_of e)) (flat_map f (take n (map report_of es))) (g r) ∙ ap (λ (zs : List B). f (report_of e) ++ zs) (flat-more f g is es n r at)

accepted-is : (e : ℕ × ReportInMemory) → (report_of e).accepted ≡ e.1.accepted
unfolding report_of
accepted-is e = refl

chosen-is : (e : ℕ × ReportInMemory) → (report_of e).chosen ≡ e.1.chosen
unfolding report_of
chosen-is e = refl

both : (start : ℕ) (xs ys : List MpAccepted) (cs ds : List MpChosen) → xs ≡ ys → cs ≡ ds → ◌≡◌ {A = Found} (record { start = start; accepted = xs; chosen = cs }) (record { start = start; accepted = ys; chosen = ds })
both start xs ys cs ds a c = rw (a, c) refl

one_more : (n : ℕ) → n + 1 ≡ suc n
one_more n = omega arith

pub found-more : (start : ℕ) (es : List (ℕ × ReportInMemory)) (n : ℕ) (r : ReportInMemory) → slice_get (values_of es) n ≡ Some r
    → and_accepted (and_chosen (found_in start (take n (map report_of es))) r.chosen) r.accepted ≡ found_in start (take (n + 1) (map report_of es))
found-more start es n r at =
    both start _ _ _ _ (flat-more (λ (r : Report). r.accepted) (λ (r : ReportInMemory). r.accepted) accepted-is es n r at) (flat-more (λ (r : Report). r.chosen) (λ (r : ReportInMemory). r.chosen) chosen-is es n r at)
    ∙ ap (λ (k : ℕ). found_in start (take k (map report_of es))) (sym (one_more n))

pub report-fits : (es : List (ℕ × ReportInMemory)) (n : ℕ) (r : ReportInMemory) → slice_get (values_of es) n ≡ Some r → AllByRecursion FitsReport (map report_of es)
    → AllByRecursion FitsAccepted r.accepted × AllByRecursion FitsChosen r.chosen
unfolding report_of
report-fits [] n r at all = absurd cc
report-fits (e ∷ es) zero r at all = subst (λ (s : ReportInMemory). AllByRecursion FitsAccepted s.accepted × AllByRecursion FitsChosen s.chosen) (inside e.1 at) all.0
  where
    inside : (s : ReportInMemory) → ◌≡◌ {A = Option ReportInMemory} (Some s) (Some r) → s ≡ r
    inside s e = cc
report-fits (e ∷ es) (suc n) r at all = report-fits es n r at all.1

-- ---- what is reported fits

choices-of : (cs : List MpChosen) → AllByRecursion FitsChosen cs → AllByRecursion FitsChoiceAt (map (λ c. (c.slot, c.value)) cs)
choices-of [] all = tt
choices-of (c ∷ cs) all = (all.0, choices-of cs all.1)

choices-in : (reports : List Report) → AllByRecursion FitsReport reports → AllByRecursion FitsChoiceAt (flat_map (λ r. map (λ c. (c.slot, c.value)) r.chosen) reports)
choices-in [] all = tt
choices-in (r ∷ rs) all =
    all-append FitsChoiceAt (map (λ c. (c.slot, c.value)) r.chosen) (flat_map (λ r. map (λ c. (c.slot, c.value)) r.chosen) rs) (choices-of r.chosen all.0.1) (choices-in rs all.1)

pub chosen-fit : (reports : List Report) → AllByRecursion FitsReport reports → AllByRecursion FitsChoiceAt (chosen_among reports)
unfolding chosen_among
chosen-fit reports all = all-by_slot FitsChoiceAt _ (choices-in reports all)

abbrev FitsHeld : Held Value → Type 0
FitsHeld h = FitsOption (λ a. FitsValue a.1) h

abbrev FitsFound : Option (paxos.Found Value) → Type 0
FitsFound best = FitsOption (λ f. FitsValue f.value) best

greater-fits : (h : Held Value) (a : Ballot × Value) → FitsHeld h → FitsValue a.1 → FitsHeld (greater_held h a)
unfolding greater_held when◌then◌otherwise◌
greater-fits None a s f = f
greater-fits (Some held) a s f = by_test (ballot_lt held.0 a.0)
  where
    by_test : (t : Bool) → FitsHeld (when t then Some a otherwise Some held)
    by_test true = f
    by_test false = s

held-folds : (slot : ℕ) (xs : List MpAccepted) (h : Held Value) → FitsHeld h → AllByRecursion FitsAccepted xs → FitsHeld (fold greater_held h (map (λ a. (a.ballot, a.value)) (filter (λ a. a.slot == slot) xs)))
held-folds slot [] h s all = s
held-folds slot (a ∷ xs) h s all = by_test (λ k f. held-folds slot xs k f all.1) (a.slot == slot)
  where
    by_test : ((k : Held Value) → FitsHeld k → FitsHeld (fold greater_held k (map (λ a. (a.ballot, a.value)) (filter (λ a. a.slot == slot) xs)))) → (t : Bool) → FitsHeld (fold greater_held h (map (λ a. (a.ballot, a.value)) (cond t (a ∷ filter (λ a. a.slot == slot) xs) (filter (λ a. a.slot == slot) xs))))
    by_test more true = more (greater_held h (a.ballot, a.value)) (greater-fits h (a.ballot, a.value) s all.0.2)
    by_test more false = more h s

held-fits : (slot : ℕ) (xs : List MpAccepted) → AllByRecursion FitsAccepted xs → FitsHeld (held_at slot xs)
unfolding held_at
held-fits slot xs all = held-folds slot xs None tt all

better-fits : (best : Option (paxos.Found Value)) (k : ℕ) (h : Held Value) → FitsFound best → FitsHeld h → FitsFound (better_held best k h)
better-fits best k None s f = s
better-fits None k (Some a) s f = f
better-fits (Some y) k (Some a) s f = by_test (counts_before (record { ballot = a.0; replica = k; value = a.1 }) y)
  where
    by_test : (t : Bool) → FitsFound (if t then Some (record { ballot = a.0; replica = k; value = a.1 }) else Some y)
    by_test true = f
    by_test false = s

answers-fit : (slot : ℕ) (best : Option (paxos.Found Value)) (reports : List Report) → FitsFound best → AllByRecursion FitsReport reports → FitsFound (fold better_answer best (answers_at slot reports))
unfolding answers_at
answers-fit slot best [] s all = s
answers-fit slot best (r ∷ rs) s all = answers-fit slot (better_held best r.from (held_at slot r.accepted)) rs (better-fits best r.from (held_at slot r.accepted) s (held-fits slot r.accepted all.0.0)) all.1

pub reported-fits : (slot : ℕ) (reports : List Report) → AllByRecursion FitsReport reports → FitsValue (reported_at slot reports)
unfolding reported_at
reported-fits slot reports all = by_best (fold better_answer None (answers_at slot reports)) (answers-fit slot None reports tt all)
  where
    by_best : (best : Option (paxos.Found Value)) → FitsFound best → FitsValue (value_of_best None best)
    by_best None s = tt
    by_best (Some f) s = s

-- ---- slots from one on

pub range-none : (a : ℕ) → range_with_len a (a - a) ≡ []
range-none a = ap (λ (n : ℕ). range_with_len a n) (none a)
  where
    none : (a : ℕ) → a - a ≡ 0
    none a = omega arith

range-snoc : (a n : ℕ) → range_with_len a (suc n) ≡ range_with_len a n ++ (a + n) ∷ []
range-snoc a zero = ap (λ (k : ℕ). k ∷ []) (omega arith)
range-snoc a (suc n) = ap (λ (ks : List ℕ). a ∷ ks) (range-snoc (a + 1) n ∙ ap (λ (k : ℕ). range_with_len (a + 1) n ++ k ∷ []) (omega arith))

pub range-more : (a k : ℕ) → a ≤ k → range_with_len a (k + 1 - a) ≡ range_with_len a (k - a) ++ k ∷ []
range-more a k least =
    ap (λ (n : ℕ). range_with_len a n) (suc_of a k least) ∙ range-snoc a (k - a) ∙ ap (λ (j : ℕ). range_with_len a (k - a) ++ j ∷ []) (back a k least)
  where
    suc_of : (a k : ℕ) → a ≤ k → k + 1 - a ≡ suc (k - a)
    suc_of a k l = omega (arith, l)

    back : (a k : ℕ) → a ≤ k → a + (k - a) ≡ k
    back a k l = omega (arith, l)

pub next-above : (start : ℕ) (reports : List Report) → start ≤ next_slot start reports
unfolding next_slot
next-above start reports = omega (arith, greatest-first start (map (λ s. suc s) (flat_map slots_in reports)))

pub fold-more : {X S : Type 0} (f : S → X → S) (s : S) (xs ys : List X) (x : X) → ys ≡ xs ++ x ∷ [] → fold f s ys ≡ f (fold f s xs) x
fold-more f s xs ys x is = ap (fold f s) is ∙ fold-append f s xs (x ∷ [])

pub take-whole : (es : List (ℕ × ReportInMemory)) (n : ℕ) → n ≡ length (values_of es) → take n (map report_of es) ≡ map report_of es
take-whole [] zero is = refl
take-whole [] (suc n) is = refl
take-whole (e ∷ es) zero is = absurd (omega (arith, is))
take-whole (e ∷ es) (suc n) is = ap (λ (rs : List Report). report_of e ∷ rs) (take-whole es n (omega (arith, is)))

pub all-got : {A : Type 0} (P : A → Type 0) (xs : List A) (i : ℕ) (x : A) → AllByRecursion P xs → slice_get xs i ≡ Some x → P x
all-got P [] i x all at = absurd cc
all-got {A = A} P (y ∷ ys) zero x all at = subst P (inside y at) all.0
  where
    inside : (y : A) → ◌≡◌ {A = Option A} (Some y) (Some x) → y ≡ x
    inside y e = cc
all-got P (y ∷ ys) (suc i) x all at = all-got P ys i x all.1 at

-- ---- who elects

-- at the number of reports nothing happens
pub too-few : (b : Ballot) (start : ℕ) (reports : List Report) (x : Draft) → length reports < majority x.replica.n → lead_by (Note.Asking b start reports) x ≡ x
unfolding lead_by when◌then◌otherwise◌
too-few b start reports x few = rw (not_yet (majority x.replica.n) (length reports) few) refl
  where
    not_yet : (m n : ℕ) → n < m → nat_le m n ≡ false
    not_yet m n l = grind (arith, nat_tests, l)

pub enough : (b : Ballot) (start : ℕ) (reports : List Report) (x : Draft) → majority x.replica.n ≤ length reports → lead_by (Note.Asking b start reports) x ≡ lead b start reports x
unfolding lead_by when◌then◌otherwise◌
enough b start reports x many = rw (reached (majority x.replica.n) (length reports) many) refl
  where
    reached : (m n : ℕ) → m ≤ n → nat_le m n ≡ true
    reached m n l = grind (arith, nat_tests, l)

pub length-map : {A B : Type 0} (f : A → B) (xs : List A) → length (map f xs) ≡ length xs
length-map f [] = refl
length-map f (x ∷ xs) = omega (arith, length-map f xs)

-- the request for promises in the definitions, if the replica asks
pub record AsksOnPaper (a : Asking) (p : Note) : Type 0 where
  pub b : Ballot
  pub start : ℕ
  pub reports : List Report
  pub note : p ≡ Note.Asking b start reports
  pub stands : IsAsking a b start reports

pub asks : (a : Asking) (me : ℕ) (log : Log) (p : Note) → NoteStands (NoteInMemory.Asking a) me log p → AsksOnPaper a p
asks a me log Note.Idle s = absurd s
asks a me log (Note.Asking b start reports) s = record { b = b; start = start; reports = reports; note = refl; stands = s }
asks a me log (Note.Leading b start next reports votes) s = absurd s

-- a replica that does not ask leads no more than before
pub asks-not : (note : NoteInMemory) (me : ℕ) (log : Log) (p : Note) (x : Draft) → NoteStands note me log p → ((a : Asking) → note ≡ NoteInMemory.Asking a → ⊥) → lead_by p x ≡ x
unfolding lead_by
asks-not note me log Note.Idle x s not = refl
asks-not (NoteInMemory.Asking a) me log (Note.Asking b start reports) x s not = absurd (not a refl)
asks-not NoteInMemory.Idle me log (Note.Asking b start reports) x s not = absurd s
asks-not (NoteInMemory.Leading l) me log (Note.Asking b start reports) x s not = absurd s
asks-not note me log (Note.Leading b start next reports votes) x s not = refl

pub leads-at : (x : Draft) (p : Note) (y : Draft) → x.replica.note ≡ p → lead_by p x ≡ y → lead_at_majority x ≡ y
unfolding lead_at_majority
leads-at x p y is made = ap (λ (p : Note). lead_by p x) is ∙ made

-- a report counts where it is awaited
pub takes : (b : Ballot) (r : Report) (p : Note) (x : Draft) → take_report b r p x ≡ (when awaits_report b r.from p then lead_at_majority (noting (note_report r p) x) otherwise x)
unfolding take_report awaits_report note_report when◌then◌otherwise◌
takes b r Note.Idle x = refl
takes b r (Note.Asking a start reports) x = refl
takes b r (Note.Leading a start next reports votes) x = refl
