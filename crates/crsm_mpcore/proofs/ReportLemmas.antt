-- The values that reports determine, by the findings in all of them.
use Rattle.std.proofs.Common.{◌≡◌, ℕ, suc, ◌<◌, Bool, true, false, List, [], ◌∷◌, ◌++◌, Some, refl, ap, sym, ◌∙◌, arith}
use Rattle.std.specs.Prelude.{◌==◌, ◌||◌, ◌&&◌, not, nat_lt, cond, max, map, filter, fold, Option, None, if◌then◌else◌}
use Rattle.std.specs.List.{AllByRecursion, flat_map}
use Rattle.std.specs.List.Sorted.{IsStrictlySortedBy}
use Rattle.std.specs.Map.{keys_of}
use Rattle.std.specs.Option.{option_map_or}
use Rattle.std.specs.Ordering.{nat_cmp}
use Rattle.std.specs.declared.cmp.Ordering.TheVariants.{Less}
use Rattle.std.proofs.lemmas.Cmp.{ranked}
use Rattle.std.proofs.lemmas.Grind.{fold-append}
use Rattle.std.proofs.lemmas.Bool.Decides.{nat_tests}
use Rattle.crsm_base.specs.Order.{ballot_lt}
use Rattle.crsm_spec.specs.Choice.{when◌then◌otherwise◌}
use Rattle.crsm_spec.specs.Lists.{greatest}
use Rattle.crsm_spec.specs.Paxos as paxos
use Rattle.crsm_spec.specs.Paxos.{Held, Answer, better, better_held, better_answer, counts_before, value_of, value_of_best}
use Rattle.crsm_mpspec.specs.declared.accepts.MpAccepted.{MpAccepted}
use Rattle.crsm_mpspec.specs.declared.choices.MpChosen.{MpChosen}
use Rattle.crsm_mpspec.specs.Types.{Ballot, Value}
use Rattle.crsm_mpspec.specs.Log.{by_slot}
use Rattle.crsm_mpspec.specs.Replica.{Report}
use Rattle.crsm_mpspec.specs.Electing.{greater_held, held_at, answers_at, reported_at, chosen_among, slots_in, next_slot}
use Rattle.crsm_mpreplica.specs.declared.note.MpReport.{MpReport as ReportInMemory}
use Rattle.crsm_mpreplica.specs.Fitting.{FitsReport}
use Rattle.crsm_mpreplica.specs.Notes.{report_of}
use Rattle.crsm_mpcore.specs.declared.findings.Findings.{Findings}
use Rattle.crsm_mpcore.specs.Findings.{FindingsStand, AreFindings, found_in, next_of, by_slots}
use Rattle.crsm_mpcore.proofs.FoundLemmas.{greatest-append, greatest-first, next-split}

-- ---- lists

map-append : {A B : Type 0} (f : A → B) (xs ys : List A) → map f (xs ++ ys) ≡ map f xs ++ map f ys
map-append f [] ys = refl
map-append {B = B} f (x ∷ xs) ys = ap (λ (zs : List B). f x ∷ zs) (map-append f xs ys)

map-map : {A B C : Type 0} (f : B → C) (g : A → B) (xs : List A) → map f (map g xs) ≡ map (λ x. f (g x)) xs
map-map f g [] = refl
map-map {C = C} f g (x ∷ xs) = ap (λ (zs : List C). f (g x) ∷ zs) (map-map f g xs)

map-flat : {A B C : Type 0} (f : B → C) (g : A → List B) (xs : List A) → map f (flat_map g xs) ≡ flat_map (λ x. map f (g x)) xs
map-flat f g [] = refl
map-flat {C = C} f g (x ∷ xs) = map-append f (g x) (flat_map g xs) ∙ ap (λ (zs : List C). map f (g x) ++ zs) (map-flat f g xs)

filter-append : {A : Type 0} (p : A → Bool) (xs ys : List A) → filter p (xs ++ ys) ≡ filter p xs ++ filter p ys
filter-append p [] ys = refl
filter-append {A = A} p (x ∷ xs) ys = by_test (p x) (filter-append p xs ys)
  where
    by_test : (t : Bool) → filter p (xs ++ ys) ≡ filter p xs ++ filter p ys → cond t (x ∷ filter p (xs ++ ys)) (filter p (xs ++ ys)) ≡ cond t (x ∷ filter p xs) (filter p xs) ++ filter p ys
    by_test true more = ap (λ (zs : List A). x ∷ zs) more
    by_test false more = more

-- ---- chosen values

chosen-all : (reports : List Report) → by_slots (flat_map (λ r. r.chosen) reports) ≡ chosen_among reports
unfolding by_slots chosen_among
chosen-all reports = ap by_slot (map-flat (λ (c : MpChosen). (c.slot, c.value)) (λ (r : Report). r.chosen) reports)

-- ---- the slot behind all

abbrev behind_accepted : List MpAccepted → ℕ
behind_accepted xs = greatest (map (λ a. suc a.slot) xs)

abbrev behind_chosen : List MpChosen → ℕ
behind_chosen xs = greatest (map (λ c. suc c.slot) xs)

behind-report : (r : Report) → greatest (map (λ s. suc s) (slots_in r)) ≡ max (behind_accepted r.accepted) (behind_chosen r.chosen)
unfolding slots_in
behind-report r =
    ap greatest (map-append (λ (s : ℕ). suc s) (map (λ a. a.slot) r.accepted) (map (λ c. c.slot) r.chosen))
    ∙ greatest-append (map (λ s. suc s) (map (λ a. a.slot) r.accepted)) (map (λ s. suc s) (map (λ c. c.slot) r.chosen))
    ∙ rw (map-map (λ (s : ℕ). suc s) (λ (a : MpAccepted). a.slot) r.accepted, map-map (λ (s : ℕ). suc s) (λ (c : MpChosen). c.slot) r.chosen) refl

behind-all : (reports : List Report)
    → greatest (map (λ s. suc s) (flat_map slots_in reports)) ≡ max (behind_accepted (flat_map (λ r. r.accepted) reports)) (behind_chosen (flat_map (λ r. r.chosen) reports))
unfolding greatest
behind-all [] = omega arith
behind-all (r ∷ rs) =
    let here = behind-report r in
    let more = behind-all rs in
    let slots = ap greatest (map-append (λ (s : ℕ). suc s) (slots_in r) (flat_map slots_in rs)) ∙ greatest-append (map (λ s. suc s) (slots_in r)) (map (λ s. suc s) (flat_map slots_in rs)) in
    let accepted =
    ap greatest (map-append (λ (a : MpAccepted). suc a.slot) r.accepted (flat_map (λ (r : Report). r.accepted) rs))
    ∙ greatest-append (map (λ a. suc a.slot) r.accepted) (map (λ a. suc a.slot) (flat_map (λ (r : Report). r.accepted) rs)) in
    let chosen =
    ap greatest (map-append (λ (c : MpChosen). suc c.slot) r.chosen (flat_map (λ (r : Report). r.chosen) rs))
    ∙ greatest-append (map (λ c. suc c.slot) r.chosen) (map (λ c. suc c.slot) (flat_map (λ (r : Report). r.chosen) rs)) in
    omega (arith, here, more, slots, accepted, chosen)

next-all : (start : ℕ) (reports : List Report) → next_of (found_in start reports) ≡ next_slot start reports
unfolding next_slot
next-all start reports =
    next-split (found_in start reports) ∙ ap (max start) (sym (behind-all reports)) ∙ sym (greatest-first start (map (λ s. suc s) (flat_map slots_in reports)))

-- ---- accepted values

-- of what was found before and later, what counts
abbrev join : Held Value → Held Value → Held Value
join h None = h
join h (Some a) = greater_held h a

lesser_both : (p q r : Ballot) → ballot_lt p q ≡ true → ballot_lt q r ≡ true → ballot_lt p r ≡ true
unfolding ballot_lt
lesser_both p q r a b = grind (arith, nat_tests, a, b)

lesser_neither : (p q r : Ballot) → ballot_lt p q ≡ false → ballot_lt q r ≡ false → ballot_lt p r ≡ false
unfolding ballot_lt
lesser_neither p q r a b = grind (arith, nat_tests, a, b)

-- the same in three steps
three : (p q r : Ballot × Value) (s t : Bool) → ballot_lt p.0 q.0 ≡ s → ballot_lt q.0 r.0 ≡ t
    → greater_held (when s then Some q otherwise Some p) r ≡ join (Some p) (when t then Some r otherwise Some q)
unfolding greater_held when◌then◌otherwise◌
three p q r true true a b = rw (b, lesser_both p.0 q.0 r.0 a b) refl
three p q r true false a b = rw (b, a) refl
three p q r false true a b = refl
three p q r false false a b = rw (a, lesser_neither p.0 q.0 r.0 a b) refl

two : (q r : Ballot × Value) (t : Bool) → (when t then Some r otherwise Some q) ≡ join None (when t then Some r otherwise Some q)
unfolding greater_held when◌then◌otherwise◌
two q r true = refl
two q r false = refl

join-assoc : (h : Held Value) (a : Ballot × Value) (m : Held Value) → join (greater_held h a) m ≡ join h (join (Some a) m)
unfolding greater_held
join-assoc h a None = refl
join-assoc None a (Some r) = two a r (ballot_lt a.0 r.0)
join-assoc (Some p) a (Some r) = three p a r (ballot_lt p.0 a.0) (ballot_lt a.0 r.0) refl refl

joined : (h m n : Held Value) → join (join h m) n ≡ join h (join m n)
unfolding greater_held
joined h None n = none_first n
  where
    none_first : (n : Held Value) → join h n ≡ join h (join None n)
    none_first None = refl
    none_first (Some a) = refl
joined h (Some a) n = join-assoc h a n

greatest-folds : (h : Held Value) (xs : List (Ballot × Value)) → fold greater_held h xs ≡ join h (fold greater_held None xs)
unfolding greater_held
greatest-folds h [] = refl
greatest-folds h (x ∷ xs) =
    greatest-folds (greater_held h x) xs ∙ join-assoc h x (fold greater_held None xs) ∙ ap (join h) (sym (greatest-folds (Some x) xs))

held-append : (slot : ℕ) (xs ys : List MpAccepted) → held_at slot (xs ++ ys) ≡ join (held_at slot xs) (held_at slot ys)
unfolding held_at
held-append slot xs ys =
    ap (λ (zs : List MpAccepted). fold greater_held None (map (λ a. (a.ballot, a.value)) zs)) (filter-append (λ (a : MpAccepted). a.slot == slot) xs ys)
    ∙ ap (fold greater_held None) (map-append (λ (a : MpAccepted). (a.ballot, a.value)) (filter (λ a. a.slot == slot) xs) (filter (λ a. a.slot == slot) ys))
    ∙ fold-append greater_held None (map (λ a. (a.ballot, a.value)) (filter (λ a. a.slot == slot) xs)) (map (λ a. (a.ballot, a.value)) (filter (λ a. a.slot == slot) ys))
    ∙ greatest-folds (fold greater_held None (map (λ a. (a.ballot, a.value)) (filter (λ a. a.slot == slot) xs))) (map (λ a. (a.ballot, a.value)) (filter (λ a. a.slot == slot) ys))

-- what was found, without its replica
abbrev forget : Option (paxos.Found Value) → Held Value
forget None = None
forget (Some f) = Some (f.ballot, f.value)

-- the reports are of later replicas
abbrev IsEarlier : Option (paxos.Found Value) → List Report → Type 0
IsEarlier None reports = Unit {0}
IsEarlier (Some f) reports = AllByRecursion (λ r. f.replica < r.from) reports

abbrev pub Ascend : List Report → Type 0
Ascend [] = Unit {0}
Ascend (r ∷ rs) = AllByRecursion (λ s. r.from < s.from) rs × Ascend rs

-- which one counts does not depend on the replica, where the later one is of a later replica
which : (y f : paxos.Found Value) → y.replica < f.replica → counts_before f y ≡ ballot_lt y.ballot f.ballot
which y f later = rw (not_before f.replica y.replica later) (never (ballot_lt y.ballot f.ballot) (not (ballot_lt f.ballot y.ballot)))
  where
    not_before : (a b : ℕ) → b < a → nat_lt a b ≡ false
    not_before a b l = grind (arith, nat_tests, l)

    never : (s t : Bool) → (s || (t && false)) ≡ s
    never true t = refl
    never false true = refl
    never false false = refl

one-better : (y f : paxos.Found Value) (t : Bool) → forget (if t then Some f else Some y) ≡ (when t then Some (f.ballot, f.value) otherwise Some (y.ballot, y.value))
unfolding when◌then◌otherwise◌
one-better y f true = refl
one-better y f false = refl

better-joins : (best : Option (paxos.Found Value)) (r : Report) (rs : List Report) (held : Held Value) → IsEarlier best (r ∷ rs) → forget (better_held best r.from held) ≡ join (forget best) held
unfolding greater_held
better-joins best r rs None earlier = refl
better-joins None r rs (Some a) earlier = refl
better-joins (Some y) r rs (Some a) earlier =
    let f : paxos.Found Value = record { ballot = a.0; replica = r.from; value = a.1 } in
    ap (λ (t : Bool). forget (if t then Some f else Some y)) (which y f earlier.0) ∙ one-better y f (ballot_lt y.ballot a.0)

stays-earlier : (best : Option (paxos.Found Value)) (r : Report) (rs : List Report) (held : Held Value) → IsEarlier best (r ∷ rs) → AllByRecursion (λ s. r.from < s.from) rs → IsEarlier (better_held best r.from held) rs
stays-earlier None r rs None earlier later = tt
stays-earlier (Some y) r rs None earlier later = earlier.1
stays-earlier None r rs (Some a) earlier later = later
stays-earlier (Some y) r rs (Some a) earlier later = by_test (counts_before (record { ballot = a.0; replica = r.from; value = a.1 }) y)
  where
    by_test : (t : Bool) → IsEarlier (if t then Some (record { ballot = a.0; replica = r.from; value = a.1 }) else Some y) rs
    by_test true = later
    by_test false = earlier.1

best-joins : (slot : ℕ) (best : Option (paxos.Found Value)) (reports : List Report) → IsEarlier best reports → Ascend reports
    → forget (fold better_answer best (answers_at slot reports)) ≡ join (forget best) (held_at slot (flat_map (λ r. r.accepted) reports))
unfolding answers_at held_at
best-joins slot best [] earlier ascend = refl
best-joins slot best (r ∷ rs) earlier ascend =
    best-joins slot (better_held best r.from (held_at slot r.accepted)) rs (stays-earlier best r rs (held_at slot r.accepted) earlier ascend.0) ascend.1
    ∙ ap (λ (h : Held Value). join h (held_at slot (flat_map (λ r. r.accepted) rs))) (better-joins best r rs (held_at slot r.accepted) earlier)
    ∙ joined (forget best) (held_at slot r.accepted) (held_at slot (flat_map (λ r. r.accepted) rs))
    ∙ ap (join (forget best)) (sym (held-append slot r.accepted (flat_map (λ r. r.accepted) rs)))

value-forgets : (best : Option (paxos.Found Value)) → option_map_or (λ (b : Ballot × Value). b.1) (forget best) None ≡ value_of_best None best
value-forgets None = refl
value-forgets (Some f) = refl

none-joins : (h : Held Value) → join None h ≡ h
unfolding greater_held
none-joins None = refl
none-joins (Some a) = refl

best-all : (slot : ℕ) (reports : List Report) → Ascend reports
    → option_map_or (λ (b : Ballot × Value). b.1) (held_at slot (flat_map (λ r. r.accepted) reports)) None ≡ reported_at slot reports
unfolding reported_at
best-all slot reports ascend =
    ap (λ (h : Held Value). option_map_or (λ (b : Ballot × Value). b.1) h None) (sym (none-joins (held_at slot (flat_map (λ r. r.accepted) reports))) ∙ sym (best-joins slot None reports tt ascend))
    ∙ value-forgets (fold better_answer None (answers_at slot reports))

-- ---- all of it

pub are-findings : (f : Findings) (start : ℕ) (reports : List Report) → FindingsStand f (found_in start reports) → Ascend reports → AllByRecursion FitsReport reports → AreFindings f start reports
are-findings f start reports s ascend fit = record {
  next = s.next ∙ next-all start reports;
  chosen = s.chosen ∙ chosen-all reports;
  best = λ slot. ap (λ (h : Held Value). option_map_or (λ (b : Ballot × Value). b.1) h None) (s.best slot) ∙ best-all slot reports ascend;
  fit = fit;
}

-- the reports of a map ascend
pub reports-ascend : (es : List (ℕ × ReportInMemory)) → IsStrictlySortedBy nat_cmp (keys_of es) → Ascend (map report_of es)
unfolding IsStrictlySortedBy report_of
reports-ascend [] sorted = tt
reports-ascend (e ∷ es) sorted = (above e es sorted.0, reports-ascend es sorted.1)
  where
    above : (e : ℕ × ReportInMemory) (es : List (ℕ × ReportInMemory)) → AllByRecursion (λ k. nat_cmp e.0 k ≡ Less) (keys_of es) → AllByRecursion (λ s. e.0 < s.from) (map report_of es)
    above e [] all = tt
    above e (d ∷ ds) all = (ranked e.0 d.0 Less (sym all.0), above e ds all.1)
