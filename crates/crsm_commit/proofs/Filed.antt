-- Entries in their queues, with one more and without one.
use Rattle.std.proofs.Common.{◌≡◌, ℕ, ◌<◌, Bool, true, false, cond, refl, sym, ◌∙◌, ap, subst, arith, List, [], ◌∷◌, length, get_or, set, take, zero, suc, ◌⊎◌, inl, inr, min, map, get_or-set_same, get_or-set_other, Option, Some, None, IfSome}
use Rattle.std.specs.Prelude.{◌==◌, filter, find, remove, is_some, IfNone}
use Rattle.std.specs.Option.{option_map}
use Rattle.std.specs.List.{AllByRecursion}
use Rattle.std.proofs.lemmas.Bool.{eqb-true, eq-eqb}
use Rattle.std.proofs.lemmas.Bool.Decides.{nat_tests}
use Rattle.crsm_base.specs.declared.Stamp.{Stamp}
use Rattle.crsm_base.specs.declared.Entry.{Entry}
use Rattle.crsm_base.specs.Order.{stamp_lt, stamp_eq}
use Rattle.crsm_spec.specs.Choice.{when◌then◌otherwise◌}
use Rattle.crsm_spec.specs.Frames.{with_stamp}
use Rattle.crsm_spec.specs.Lists.{first_of}
use Rattle.crsm_spec.specs.Log.{with_entry}
use Rattle.crsm_phase.specs.Owed.{IsAscending, without}
use Rattle.crsm_commit.specs.Least.{lesser_of}
use Rattle.crsm_commit.specs.Places.{IsFirst}
use Rattle.crsm_commit.specs.Waiting.{stamp_of, is_at, is_in, without_entry}

pub bool_cases : (b : Bool) → (b ≡ true) ⊎ (b ≡ false)
bool_cases true = inl refl
bool_cases false = inr refl

above_trans : (a b c : Stamp) → stamp_lt a b ≡ true → stamp_lt c b ≡ false → stamp_lt a c ≡ true
unfolding stamp_lt
above_trans a b c h k = grind (arith, nat_tests)

-- ---- one more entry

entry_none : (e : Entry) → with_entry e [] ≡ e ∷ []
unfolding with_entry
entry_none e = refl

entry_here : (e f : Entry) (es : List Entry) → stamp_lt e.stamp f.stamp ≡ true → with_entry e (f ∷ es) ≡ e ∷ f ∷ es
unfolding with_entry
entry_here e f es h = rw h refl

entry_there : (e f : Entry) (es : List Entry) → stamp_lt e.stamp f.stamp ≡ false → with_entry e (f ∷ es) ≡ f ∷ with_entry e es
unfolding with_entry
entry_there e f es h = rw h refl

stamp_none : (s : Stamp) → with_stamp s [] ≡ s ∷ []
unfolding with_stamp
stamp_none s = refl

stamp_here : (s t : Stamp) (ts : List Stamp) → stamp_lt s t ≡ true → with_stamp s (t ∷ ts) ≡ s ∷ t ∷ ts
unfolding with_stamp when◌then◌otherwise◌
stamp_here s t ts h = rw h refl

stamp_there : (s t : Stamp) (ts : List Stamp) → stamp_lt s t ≡ false → with_stamp s (t ∷ ts) ≡ t ∷ with_stamp s ts
unfolding with_stamp when◌then◌otherwise◌
stamp_there s t ts h = rw h refl

pub stamps_with : (e : Entry) (es : List Entry) → map stamp_of (with_entry e es) ≡ with_stamp e.stamp (map stamp_of es)
stamps_with e [] = ap (map stamp_of) (entry_none e) ∙ sym (stamp_none e.stamp)
stamps_with e (f ∷ es) =
    elim (bool_cases (stamp_lt e.stamp f.stamp)) [
      | inl h ↦ ap (map stamp_of) (entry_here e f es h) ∙ sym (stamp_here e.stamp f.stamp (map stamp_of es) h)
      | inr h ↦ ap (map stamp_of) (entry_there e f es h) ∙ ap (λ ss. f.stamp ∷ ss) (stamps_with e es) ∙ sym (stamp_there e.stamp f.stamp (map stamp_of es) h)
    ]

pub all_with_entry : (P : Entry → Type 0) (e : Entry) (es : List Entry) → P e → AllByRecursion P es → AllByRecursion P (with_entry e es)
all_with_entry P e [] here all = subst (AllByRecursion P) (sym (entry_none e)) (here, tt)
all_with_entry P e (f ∷ es) here all =
    elim (bool_cases (stamp_lt e.stamp f.stamp)) [
      | inl h ↦ subst (AllByRecursion P) (sym (entry_here e f es h)) (here, all)
      | inr h ↦ subst (AllByRecursion P) (sym (entry_there e f es h)) (all.0, all_with_entry P e es here all.1)
    ]

in_front : (e : Entry) (es : List Entry) → AllByRecursion (λ f. stamp_lt e.stamp f.stamp ≡ true) es → with_entry e es ≡ e ∷ es
in_front e [] all = entry_none e
in_front e (f ∷ es) all = entry_here e f es all.0

all_above : (e f : Entry) (es : List Entry) → stamp_lt e.stamp f.stamp ≡ true → AllByRecursion (λ t. stamp_lt t f.stamp ≡ false) (map stamp_of es) →
    AllByRecursion (λ g. stamp_lt e.stamp g.stamp ≡ true) es
all_above e f [] h all = tt
all_above e f (g ∷ es) h all = (above_trans e.stamp f.stamp g.stamp h all.0, all_above e f es h all.1)

pub all_filter : (P : Entry → Type 0) (p : Entry → Bool) (es : List Entry) → AllByRecursion P es → AllByRecursion P (filter p es)
all_filter P p [] all = tt
all_filter P p (e ∷ es) all = go (p e) (all_filter P p es all.1)
  where
    go : (b : Bool) → AllByRecursion P (filter p es) → AllByRecursion P (cond b (e ∷ filter p es) (filter p es))
    go true rest = (all.0, rest)
    go false rest = rest

-- an entry that passes is added to those that pass
pub kept_with : (p : Entry → Bool) (e : Entry) (es : List Entry) → p e ≡ true → IsAscending (map stamp_of es) →
    filter p (with_entry e es) ≡ with_entry e (filter p es)
kept_with p e [] passes up = ap (filter p) (entry_none e) ∙ ap (λ b. cond b (e ∷ []) []) passes ∙ sym (entry_none e)
kept_with p e (f ∷ es) passes up =
    elim (bool_cases (stamp_lt e.stamp f.stamp)) [
      | inl h ↦ ap (filter p) (entry_here e f es h) ∙ ap (λ b. cond b (e ∷ filter p (f ∷ es)) (filter p (f ∷ es))) passes
          ∙ sym (in_front e (filter p (f ∷ es)) (all_filter (λ g. stamp_lt e.stamp g.stamp ≡ true) p (f ∷ es) (h, all_above e f es h up.0)))
      | inr h ↦ ap (filter p) (entry_there e f es h) ∙ passed_over p e f es h (kept_with p e es passes up.1)
    ]
  where
    passed_over : (p : Entry → Bool) (e f : Entry) (es : List Entry) → stamp_lt e.stamp f.stamp ≡ false →
        filter p (with_entry e es) ≡ with_entry e (filter p es) →
        cond (p f) (f ∷ filter p (with_entry e es)) (filter p (with_entry e es)) ≡ with_entry e (cond (p f) (f ∷ filter p es) (filter p es))
    passed_over p e f es h i = go (p f)
      where
        go : (b : Bool) → cond b (f ∷ filter p (with_entry e es)) (filter p (with_entry e es)) ≡ with_entry e (cond b (f ∷ filter p es) (filter p es))
        go true = ap (λ fs. f ∷ fs) i ∙ sym (entry_there e f (filter p es) h)
        go false = i

-- an entry that does not pass is not
pub dropped_with : (p : Entry → Bool) (e : Entry) (es : List Entry) → p e ≡ false → filter p (with_entry e es) ≡ filter p es
dropped_with p e [] fails = ap (filter p) (entry_none e) ∙ ap (λ b. cond b (e ∷ []) []) fails
dropped_with p e (f ∷ es) fails =
    elim (bool_cases (stamp_lt e.stamp f.stamp)) [
      | inl h ↦ ap (filter p) (entry_here e f es h) ∙ ap (λ b. cond b (e ∷ filter p (f ∷ es)) (filter p (f ∷ es))) fails
      | inr h ↦ ap (filter p) (entry_there e f es h) ∙ ap (λ fs. cond (p f) (f ∷ fs) fs) (dropped_with p e es fails)
    ]

-- ---- one entry less

pub stamps_without : (s : Stamp) (es : List Entry) → map stamp_of (without_entry s es) ≡ without s (map stamp_of es)
stamps_without s [] = refl
stamps_without s (e ∷ es) = go (stamp_eq e.stamp s) (stamps_without s es)
  where
    go : (b : Bool) → map stamp_of (without_entry s es) ≡ without s (map stamp_of es) →
        map stamp_of (cond b es (e ∷ without_entry s es)) ≡ cond b (map stamp_of es) (e.stamp ∷ without s (map stamp_of es))
    go true i = refl
    go false i = ap (λ ss. e.stamp ∷ ss) i

-- the first entry of a stamp
pub entry_found : (s : Stamp) (es : List Entry) (n : ℕ) (d : Entry) (t : Stamp) → AllByRecursion (λ t. stamp_eq t s ≡ false) (take n (map stamp_of es)) →
    n < length es → stamp_eq (get_or (map stamp_of es) n t) s ≡ true →
    (remove es n ≡ without_entry s es) × (Some (get_or es n d) ≡ find (is_at s) es)
entry_found s [] n d t before within here = absurd (omega arith)
entry_found s (e ∷ es) zero d t before within here = rw here (refl, refl)
entry_found s (e ∷ es) (suc n) d t before within here =
    let off : stamp_eq e.stamp s ≡ false = before.0 in
    let rest = entry_found s es n d t before.1 (omega arith) here in
    rw off (ap (λ fs. e ∷ fs) rest.0, rest.1)

pub entry_missing : (s : Stamp) (es : List Entry) → without s (map stamp_of es) ≡ map stamp_of es →
    (without_entry s es ≡ es) × (find (is_at s) es ≡ None)
entry_missing s [] same = (refl, refl)
entry_missing s (e ∷ es) same =
    elim (bool_cases (stamp_eq e.stamp s)) [
      | inl h ↦ absurd (shorter e.stamp (map stamp_of es) (rw h at same))
      | inr h ↦ (let rest = entry_missing s es (tail_same e.stamp _ _ (rw h at same)) in rw h (ap (λ fs. e ∷ fs) rest.0, rest.1))
    ]
  where
    shorter : (t : Stamp) (ts : List Stamp) → ts ≡ t ∷ ts → ⊥
    shorter t ts e = absurd (omega (arith, ap length e))

    tail_same : (t : Stamp) (ss ts : List Stamp) → t ∷ ss ≡ t ∷ ts → ss ≡ ts
    tail_same t ss ts e = cc

length_stamps : (es : List Entry) → length (map stamp_of es) ≡ length es
length_stamps [] = refl
length_stamps (e ∷ es) = ap suc (length_stamps es)

-- whether a stamp was found among those of entries
in_queue : (es : List Entry) (stamps : List Stamp) (s : Stamp) (r : Option ℕ) → stamps ≡ map stamp_of es → IfSome r (IsFirst s stamps) →
    IfNone r (without s stamps ≡ stamps) → is_some r ≡ is_some (find (is_at s) es)
in_queue es stamps s None same some none = ap is_some (sym (entry_missing s es (subst (λ ss. without s ss ≡ ss) same none)).1)
in_queue [] stamps s (Some place) same some none = absurd (omega (arith, ap length same, some.within))
in_queue (e ∷ es) stamps s (Some place) same some none =
    ap is_some (entry_found s (e ∷ es) place e s (subst (λ ss. AllByRecursion (λ t. stamp_eq t s ≡ false) (take place ss)) same some.before)
    (omega (arith, length_stamps (e ∷ es), ap length same, some.within)) (subst (λ ss. stamp_eq (get_or ss place s) s ≡ true) same some.here)).1

-- the first stamp, with one more entry
pub first_with : (e : Entry) (es : List Entry) → lesser_of (option_map stamp_of (first_of es)) (Some e.stamp) ≡ option_map stamp_of (first_of (with_entry e es))
unfolding first_of
first_with e [] = ap (λ fs. option_map stamp_of (first_of fs)) (sym (entry_none e))
first_with e (f ∷ es) =
    elim (bool_cases (stamp_lt e.stamp f.stamp)) [
      | inl h ↦ rw h (ap (λ fs. option_map stamp_of (first_of fs)) (sym (entry_here e f es h)))
      | inr h ↦ rw h (ap (λ fs. option_map stamp_of (first_of fs)) (sym (entry_there e f es h)))
    ]

-- ---- queues by origin

at_in : (s : Stamp) (e : Entry) → stamp_eq e.stamp s ≡ true → is_in (min s.origin 15) e ≡ true
unfolding stamp_eq
at_in s e h = grind (arith, nat_tests)

at_not_in : (s : Stamp) (e : Entry) (i : ℕ) → stamp_eq e.stamp s ≡ true → (i ≡ min s.origin 15 → ⊥) → is_in i e ≡ false
unfolding stamp_eq
at_not_in s e i h apart = grind (arith, nat_tests)

pub found_in : (s : Stamp) (es : List Entry) → find (is_at s) (filter (is_in (min s.origin 15)) es) ≡ find (is_at s) es
found_in s [] = refl
found_in s (e ∷ es) =
    elim (bool_cases (stamp_eq e.stamp s)) [
      | inl h ↦ rw (at_in s e h, h) refl
      | inr h ↦ go (is_in (min s.origin 15) e) h (found_in s es)
    ]
  where
    go : (b : Bool) → stamp_eq e.stamp s ≡ false → find (is_at s) (filter (is_in (min s.origin 15)) es) ≡ find (is_at s) es →
        find (is_at s) (cond b (e ∷ filter (is_in (min s.origin 15)) es) (filter (is_in (min s.origin 15)) es)) ≡ find (is_at s) (e ∷ es)
    go true h i = rw h i
    go false h i = rw h i

pub without_in : (s : Stamp) (es : List Entry) → filter (is_in (min s.origin 15)) (without_entry s es) ≡ without_entry s (filter (is_in (min s.origin 15)) es)
without_in s [] = refl
without_in s (e ∷ es) =
    elim (bool_cases (stamp_eq e.stamp s)) [
      | inl h ↦ rw (at_in s e h, h) refl
      | inr h ↦ elim (bool_cases (is_in (min s.origin 15) e)) [
        | inl k ↦ rw (k, h) (rw k (ap (λ fs. e ∷ fs) (without_in s es)))
        | inr k ↦ rw (k, h) (rw k (without_in s es))
      ]
    ]

pub without_elsewhere : (s : Stamp) (i : ℕ) (es : List Entry) → (i ≡ min s.origin 15 → ⊥) → filter (is_in i) (without_entry s es) ≡ filter (is_in i) es
without_elsewhere s i [] apart = refl
without_elsewhere s i (e ∷ es) apart =
    elim (bool_cases (stamp_eq e.stamp s)) [
      | inl h ↦ rw (h, at_not_in s e i h apart) refl
      | inr h ↦ rw h (ap (λ fs. cond (is_in i e) (e ∷ fs) fs) (without_elsewhere s i es apart))
    ]

-- ---- all queues at once

place_in_range : (origin : ℕ) → min origin 15 < 16
place_in_range origin = omega arith

same_place : (i j : ℕ) → (i ≡ j) ⊎ (i ≡ j → ⊥)
same_place i j = elim (bool_cases (i == j)) [ inl e ↦ inl (eqb-true i j e) | inr e ↦ inr (λ same. cc (sym e ∙ eq-eqb i j same)) ]

not_in : (e : Entry) (i : ℕ) → (i ≡ min e.stamp.origin 15 → ⊥) → is_in i e ≡ false
not_in e i apart = grind (arith, nat_tests)

is_in_own : (e : Entry) → is_in (min e.stamp.origin 15) e ≡ true
is_in_own e = grind (arith, nat_tests)

-- an entry is added to its queue
pub filed_with : (queues : List (List Stamp)) (e : Entry) (waiting : List Entry) (place : ℕ) (q : List Stamp) → length queues ≡ 16 →
    place ≡ min e.stamp.origin 15 → q ≡ with_stamp e.stamp (get_or queues place []) → IsAscending (map stamp_of waiting) →
    ((i : ℕ) → i < 16 → get_or queues i [] ≡ map stamp_of (filter (is_in i) waiting)) →
    (i : ℕ) → i < 16 → get_or (set queues place q) i [] ≡ map stamp_of (filter (is_in i) (with_entry e waiting))
filed_with queues e waiting place q len at is up filed i within =
    elim (same_place i place) [
      | inl here ↦ ap (λ j. get_or (set queues place q) j []) here ∙ get_or-set_same queues place q [] (omega arith) ∙ is
          ∙ ap (with_stamp e.stamp) (filed place (omega arith))
          ∙ sym (stamps_with e (filter (is_in place) waiting))
          ∙ ap (map stamp_of) (sym (kept_with (is_in place) e waiting (ap (λ j. is_in j e) at ∙ is_in_own e) up))
          ∙ ap (λ j. map stamp_of (filter (is_in j) (with_entry e waiting))) (sym here)
      | inr there ↦ get_or-set_other queues place i q [] there ∙ filed i within
          ∙ ap (map stamp_of) (sym (dropped_with (is_in i) e waiting (not_in e i (λ same. there (same ∙ sym at)))))
    ]

-- an entry is taken out of its queue
pub filed_without : (queues : List (List Stamp)) (s : Stamp) (waiting : List Entry) (place : ℕ) (q : List Stamp) → length queues ≡ 16 →
    place ≡ min s.origin 15 → q ≡ without s (get_or queues place []) →
    ((i : ℕ) → i < 16 → get_or queues i [] ≡ map stamp_of (filter (is_in i) waiting)) →
    (i : ℕ) → i < 16 → get_or (set queues place q) i [] ≡ map stamp_of (filter (is_in i) (without_entry s waiting))
filed_without queues s waiting place q len at is filed i within =
    elim (same_place i place) [
      | inl here ↦ ap (λ j. get_or (set queues place q) j []) here ∙ get_or-set_same queues place q [] (omega arith) ∙ is
          ∙ ap (without s) (filed place (omega arith) ∙ ap (λ j. map stamp_of (filter (is_in j) waiting)) at)
          ∙ sym (stamps_without s (filter (is_in (min s.origin 15)) waiting))
          ∙ ap (map stamp_of) (sym (without_in s waiting)) ∙ ap (λ j. map stamp_of (filter (is_in j) (without_entry s waiting))) (sym (here ∙ at))
      | inr there ↦ get_or-set_other queues place i q [] there ∙ filed i within
          ∙ ap (map stamp_of) (sym (without_elsewhere s i waiting (λ same. there (same ∙ sym at))))
    ]

-- whether an entry of a stamp is in its queue
pub found_filed : (queues : List (List Stamp)) (s : Stamp) (waiting : List Entry) (place : ℕ) (r : Option ℕ) → place ≡ min s.origin 15 →
    ((i : ℕ) → i < 16 → get_or queues i [] ≡ map stamp_of (filter (is_in i) waiting)) → IfSome r (IsFirst s (get_or queues place [])) →
    IfNone r (without s (get_or queues place []) ≡ get_or queues place []) → is_some r ≡ is_some (find (is_at s) waiting)
found_filed queues s waiting place r at filed some none =
    in_queue (filter (is_in (min s.origin 15)) waiting) (get_or queues place []) s r (filed place (omega arith) ∙ ap (λ j. map stamp_of (filter (is_in j) waiting)) at) some none
    ∙ ap is_some (found_in s waiting)

-- a queue has the entries of its origin
one_origin : (origin : ℕ) (e : Entry) → origin < 15 → is_in origin e ≡ (e.stamp.origin == origin)
one_origin origin e small = grind (arith, nat_tests)

pub of_origin : (origin : ℕ) (es : List Entry) → origin < 15 → filter (is_in origin) es ≡ filter (λ e. e.stamp.origin == origin) es
of_origin origin [] small = refl
of_origin origin (e ∷ es) small =
    ap (λ b. cond b (e ∷ filter (is_in origin) es) (filter (is_in origin) es)) (one_origin origin e small)
    ∙ ap (λ fs. cond (e.stamp.origin == origin) (e ∷ fs) fs) (of_origin origin es small)

-- queues that are all empty
pub all_empty : (queues : List (List Stamp)) (i : ℕ) → AllByRecursion (λ q. q ≡ []) queues → get_or queues i [] ≡ []
all_empty [] i all = refl
all_empty (q ∷ queues) zero all = all.0
all_empty (q ∷ queues) (suc i) all = all_empty queues i all.1
