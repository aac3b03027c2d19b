-- The effect of a record on the unexecuted entries.
use Rattle.std.proofs.Common.{◌≡◌, ℕ, Bool, true, false, refl, sym, ◌∙◌, ap, subst, arith, List, [], ◌∷◌, ◌++◌, inl, inr, Option, Some, None}
use Rattle.std.specs.Prelude.{◌==◌, ◌&&◌, ◌||◌, not, filter, find, if◌then◌else◌, option_map, option_to_list}
use Rattle.std.specs.List.{AllByRecursion, last_or}
use Rattle.std.specs.Option.{option_map_or}
use Rattle.std.proofs.lemmas.Bool.{eq-eqb}
use Rattle.std.proofs.lemmas.Bool.Decides.{nat_tests}
use Rattle.std.proofs.lemmas.List.Elements.{filter-append}
use Rattle.crsm_base.specs.Order.{stamp_lt, stamp_eq}
use Rattle.crsm_spec.specs.Types.{Stamp, Entry, Rec}
use Rattle.crsm_spec.specs.Lists.{first_of, last_of}
use Rattle.crsm_spec.specs.Log.{Log, decision, known, logged, logged_in, with_entry, live, suspended, active, executed, entry_of, above, last_stamp, unexecuted}
use Rattle.crsm_spec.specs.Fits.{fits}
use Rattle.crsm_commit.specs.Pending.{PendingStands}
use Rattle.crsm_commit.specs.Waiting.{without_entry}
use Rattle.crsm_commit.specs.declared.pending.Pending.{Pending}
use Rattle.crsm_commit.proofs.Bits.{same_stamp}
use Rattle.crsm_commit.proofs.CommitRule.{narrowed}
use Rattle.crsm_commit.proofs.Filed.{bool_cases}
use Rattle.crsm_commit.proofs.VotesLemmas.{equal}
use Rattle.crsm_replica_epoch.specs.EpochState.{EachFits, IsNoEnter, is_above}
use Rattle.crsm_replica_epoch.proofs.Logged.{RiseStrictly, prepares, logged_rise, logged_of, left_passes, right_passes}

-- ---- the order

pub not_above_itself : (s : Stamp) → stamp_lt s s ≡ false
unfolding stamp_lt
not_above_itself s = grind (arith, nat_tests)

above_lesser : (a b c : Stamp) → stamp_lt a b ≡ true → stamp_lt b c ≡ true → stamp_lt a c ≡ true
unfolding stamp_lt
above_lesser a b c h k = grind (arith, nat_tests)

above_differs : (a b : Stamp) → stamp_lt a b ≡ true → stamp_eq a b ≡ false
unfolding stamp_lt stamp_eq
above_differs a b h = grind (arith, nat_tests)

-- ---- entries above a stamp

kept_if : (P : Entry → Type 0) (b : Bool) (e : Entry) (es : List Entry) → (b ≡ true → P e) → AllByRecursion P es → AllByRecursion P (if b then e ∷ es else es)
kept_if P true e es here all = (here refl, all)
kept_if P false e es here all = all

all_passing : (p : Entry → Bool) (es : List Entry) → AllByRecursion (λ e. p e ≡ true) (filter p es)
all_passing p [] = tt
all_passing p (e ∷ es) = kept_if (λ f. p f ≡ true) (p e) e (filter p es) (λ h. h) (all_passing p es)

all_filtered : (P : Entry → Type 0) (p : Entry → Bool) (es : List Entry) → AllByRecursion P es → AllByRecursion P (filter p es)
all_filtered P p [] all = tt
all_filtered P p (e ∷ es) all = kept_if P (p e) e (filter p es) (λ h. all.0) (all_filtered P p es all.1)

all_true : (es : List Entry) → AllByRecursion (λ e. true ≡ true) es
all_true [] = tt
all_true (e ∷ es) = (refl, all_true es)

-- what is above a stamp passes the test
pub all_above : (last : Option Stamp) (es : List Entry) → AllByRecursion (λ e. is_above last e.stamp ≡ true) (above last es)
unfolding above
all_above None es = all_true es
all_above (Some s) es = all_passing (λ e. stamp_lt s e.stamp) es

all_kept : (P : Entry → Type 0) (last : Option Stamp) (es : List Entry) → AllByRecursion P es → AllByRecursion P (above last es)
unfolding above
all_kept P None es all = all
all_kept P (Some s) es all = all_filtered P (λ e. stamp_lt s e.stamp) es all

rise_if : (b : Bool) (e : Entry) (es : List Entry) → AllByRecursion (λ f. stamp_lt e.stamp f.stamp ≡ true) es → RiseStrictly es → RiseStrictly (if b then e ∷ es else es)
rise_if true e es all up = (all, up)
rise_if false e es all up = up

rise_filtered : (p : Entry → Bool) (es : List Entry) → RiseStrictly es → RiseStrictly (filter p es)
rise_filtered p [] up = tt
rise_filtered p (e ∷ es) up =
    rise_if (p e) e (filter p es) (all_filtered (λ f. stamp_lt e.stamp f.stamp ≡ true) p es up.0) (rise_filtered p es up.1)

rise_above : (last : Option Stamp) (es : List Entry) → RiseStrictly es → RiseStrictly (above last es)
unfolding above
rise_above None es up = up
rise_above (Some s) es up = rise_filtered (λ e. stamp_lt s e.stamp) es up

-- ---- an entry is logged

with_passing : (s : Stamp) (e : Entry) (es : List Entry) → stamp_lt s e.stamp ≡ true →
    filter (λ f. stamp_lt s f.stamp) (with_entry e es) ≡ with_entry e (filter (λ f. stamp_lt s f.stamp) es)
unfolding with_entry
with_passing s e [] h = rw h refl
with_passing s e (f ∷ es) h =
    elim (bool_cases (stamp_lt e.stamp f.stamp)) [
      | inl k ↦ (let p : stamp_lt s f.stamp ≡ true = above_lesser s e.stamp f.stamp h k in rw (k, h, p, k) refl)
      | inr k ↦ elim (bool_cases (stamp_lt s f.stamp)) [
        | inl p ↦ rw (k, p, k) (ap (λ fs. f ∷ fs) (with_passing s e es h))
        | inr p ↦ rw (k, p) (with_passing s e es h)
      ]
    ]

pub above_with : (last : Option Stamp) (e : Entry) (es : List Entry) → is_above last e.stamp ≡ true → above last (with_entry e es) ≡ with_entry e (above last es)
unfolding above
above_with None e es h = refl
above_with (Some s) e es h = with_passing s e es h

without_passing : (s : Stamp) (e : Entry) (es : List Entry) → stamp_lt s e.stamp ≡ false →
    filter (λ f. stamp_lt s f.stamp) (with_entry e es) ≡ filter (λ f. stamp_lt s f.stamp) es
unfolding with_entry
without_passing s e [] h = rw h refl
without_passing s e (f ∷ es) h =
    elim (bool_cases (stamp_lt e.stamp f.stamp)) [
      | inl k ↦ rw (k, h) refl
      | inr k ↦ rw k (ap (λ fs. if stamp_lt s f.stamp then f ∷ fs else fs) (without_passing s e es h))
    ]

pub above_without : (last : Option Stamp) (e : Entry) (es : List Entry) → is_above last e.stamp ≡ false → above last (with_entry e es) ≡ above last es
unfolding above
above_without None e es h = absurd (cc)
above_without (Some s) e es h = without_passing s e es h

logged_more : (log : Log) (e : Entry) → e.epoch ≡ known log → logged (Rec.Prepare e ∷ log) ≡ with_entry e (logged log)
unfolding logged logged_in known decision
logged_more log e same = rw (eq-eqb e.epoch (known log) same) refl

pub unexecuted_with : (me n : ℕ) (log : Log) (e : Entry) → fits me n log (Rec.Prepare e) ≡ true → is_above (last_stamp log) e.stamp ≡ true →
    unexecuted (Rec.Prepare e ∷ log) ≡ with_entry e (unexecuted log)
unfolding unexecuted last_stamp executed known decision
unexecuted_with me n log e fit h =
    ap (above (last_stamp log)) (logged_more log e (prepares me n log e fit).epoch) ∙ above_with (last_stamp log) e (logged log) h

pub unexecuted_without : (me n : ℕ) (log : Log) (e : Entry) → fits me n log (Rec.Prepare e) ≡ true → is_above (last_stamp log) e.stamp ≡ false →
    unexecuted (Rec.Prepare e ∷ log) ≡ unexecuted log
unfolding unexecuted last_stamp executed known decision
unexecuted_without me n log e fit h =
    ap (above (last_stamp log)) (logged_more log e (prepares me n log e fit).epoch) ∙ above_without (last_stamp log) e (logged log) h

-- ---- an entry is executed

-- the first of the unexecuted entries has this stamp
pub record IsFirst (log : Log) (s : Stamp) : Type 0 where
  pub entry : Entry
  pub rest : List Entry
  pub first : unexecuted log ≡ entry ∷ rest
  pub stamp : entry.stamp ≡ s

first_of_list : (log : Log) (s : Stamp) (es : List Entry) → unexecuted log ≡ es → option_map_or (λ e. stamp_eq e.stamp s) (first_of es) false ≡ true → IsFirst log s
unfolding first_of
first_of_list log s [] is h = absurd (cc)
first_of_list log s (e ∷ es) is h = record { entry = e; rest = es; first = is; stamp = equal e.stamp s h }

pub commits : (me n : ℕ) (log : Log) (s : Stamp) → fits me n log (Rec.Commit s) ≡ true → IsFirst log s
unfolding fits
commits me n log s h = first_of_list log s (unexecuted log) refl (right_passes (active log) _ h)

pub commits_active : (me n : ℕ) (log : Log) (s : Stamp) → fits me n log (Rec.Commit s) ≡ true → active log ≡ true
unfolding fits
commits_active me n log s h = left_passes (active log) _ h

-- the first that passes is found by its stamp
found_if : (p : Stamp → Bool) (x e : Entry) (es rest found : List Entry) → AllByRecursion (λ f. p f.stamp ≡ true) (e ∷ es) → (b : Bool) → p x.stamp ≡ b →
    (if b then x ∷ rest else rest) ≡ e ∷ es → (rest ≡ e ∷ es → find (λ f. stamp_eq f.stamp e.stamp) found ≡ Some e) →
    find (λ f. stamp_eq f.stamp e.stamp) (x ∷ found) ≡ Some e
found_if p x e es rest found passing true h is later =
    let same : x ≡ e = cc in
    let test : stamp_eq x.stamp e.stamp ≡ true = ap (λ y. stamp_eq y.stamp e.stamp) same ∙ same_stamp e.stamp in
    rw test (ap (λ y. Some y) same)
found_if p x e es rest found passing false h is later =
    elim (bool_cases (stamp_eq x.stamp e.stamp)) [
      | inl k ↦ (let other : p x.stamp ≡ p e.stamp = ap p (equal x.stamp e.stamp k) in let here : p e.stamp ≡ true = passing.0 in absurd (cc))
      | inr k ↦ rw k (later is)
    ]

found : (p : Stamp → Bool) (es : List Entry) (e : Entry) (rest : List Entry) → AllByRecursion (λ f. p f.stamp ≡ true) (e ∷ rest) →
    filter (λ f. p f.stamp) es ≡ e ∷ rest → find (λ f. stamp_eq f.stamp e.stamp) es ≡ Some e
found p [] e rest passing is = absurd (cc)
found p (x ∷ es) e rest passing is =
    found_if p x e rest (filter (λ f. p f.stamp) es) es passing (p x.stamp) refl is (λ k. found p es e rest passing k)

all_pass : (es : List Entry) → filter (λ f. true) es ≡ es
all_pass [] = refl
all_pass (e ∷ es) = ap (λ fs. e ∷ fs) (all_pass es)

found_above : (last : Option Stamp) (es : List Entry) (e : Entry) (rest : List Entry) → above last es ≡ e ∷ rest → find (λ f. stamp_eq f.stamp e.stamp) es ≡ Some e
unfolding above
found_above None es e rest is = found (λ s. true) es e rest (all_true (e ∷ rest)) (all_pass es ∙ is)
found_above (Some s) es e rest is =
    found (stamp_lt s) es e rest (subst (AllByRecursion (λ f. stamp_lt s f.stamp ≡ true)) is (all_passing (λ f. stamp_lt s f.stamp) es)) is

last_pushed : (o : Option Entry) (es : List Entry) (e : Entry) → last_or o (es ++ e ∷ []) ≡ Some e
last_pushed o [] e = refl
last_pushed o (f ∷ es) e = last_pushed (Some f) es e

last_is : (x : ℕ) (es : List Entry) (e : Entry) → e.epoch ≡ x → option_map (λ f. f.stamp) (last_of (filter (λ f. f.epoch == x) (es ++ e ∷ []))) ≡ Some e.stamp
unfolding last_of
last_is x es e same =
    let test : (e.epoch == x) ≡ true = eq-eqb e.epoch x same in
    let one : filter (λ f. f.epoch == x) (e ∷ []) ≡ e ∷ [] = rw test refl in
    ap (λ fs. option_map (λ f. f.stamp) (last_or None fs)) (filter-append (λ f. f.epoch == x) es (e ∷ []) ∙ ap (λ fs. filter (λ f. f.epoch == x) es ++ fs) one)
    ∙ ap (option_map (λ f. f.stamp)) (last_pushed None (filter (λ f. f.epoch == x) es) e)

head_of : (P : Entry → Type 0) (es : List Entry) (e : Entry) (rest : List Entry) → es ≡ e ∷ rest → AllByRecursion P es → P e
head_of P [] e rest is all = absurd (cc)
head_of P (f ∷ es) e rest is all = let same : f ≡ e = cc in subst P same all.0

of_known : (log : Log) → AllByRecursion (λ e. e.epoch ≡ known log) (logged log)
unfolding logged
of_known log = logged_of (known log) log

-- the last executed stamp is then that one
pub last_committed : (log : Log) (s : Stamp) → IsFirst log s → last_stamp (Rec.Commit s ∷ log) ≡ Some s
unfolding last_stamp executed known decision entry_of unexecuted
last_committed log s f =
    let of : f.entry.epoch ≡ known log = head_of (λ e. e.epoch ≡ known log) _ f.entry f.rest f.first (all_kept (λ e. e.epoch ≡ known log) (last_stamp log) (logged log) (of_known log)) in
    let there : find (λ e. stamp_eq e.stamp s) (logged log) ≡ Some f.entry =
    subst (λ t. find (λ e. stamp_eq e.stamp t) (logged log) ≡ Some f.entry) f.stamp (found_above (last_stamp log) (logged log) f.entry f.rest f.first) in
    ap (λ o. option_map (λ e. e.stamp) (last_of (filter (λ e. e.epoch == known log) (executed log ++ option_to_list o)))) there
    ∙ last_is (known log) (executed log) f.entry of ∙ ap (λ t. Some t) f.stamp

filter_twice : (s t : Stamp) (es : List Entry) → stamp_lt t s ≡ true → filter (λ f. stamp_lt s f.stamp) (filter (λ f. stamp_lt t f.stamp) es) ≡ filter (λ f. stamp_lt s f.stamp) es
filter_twice s t [] h = refl
filter_twice s t (f ∷ es) h =
    elim (bool_cases (stamp_lt s f.stamp)) [
      | inl k ↦ (let p : stamp_lt t f.stamp ≡ true = above_lesser t s f.stamp h k in rw (p, k) (ap (λ fs. f ∷ fs) (filter_twice s t es h)))
      | inr k ↦ elim (bool_cases (stamp_lt t f.stamp)) [
        | inl p ↦ rw (p, k) (filter_twice s t es h)
        | inr p ↦ rw (p, k) (filter_twice s t es h)
      ]
    ]

above_twice : (last : Option Stamp) (s : Stamp) (es : List Entry) → is_above last s ≡ true → above (Some s) (above last es) ≡ above (Some s) es
unfolding above
above_twice None s es h = refl
above_twice (Some t) s es h = filter_twice s t es h

all_stay : (s : Stamp) (es : List Entry) → AllByRecursion (λ f. stamp_lt s f.stamp ≡ true) es → filter (λ f. stamp_lt s f.stamp) es ≡ es
all_stay s [] all = refl
all_stay s (e ∷ es) all = let h : stamp_lt s e.stamp ≡ true = all.0 in rw h (ap (λ fs. e ∷ fs) (all_stay s es all.1))

first_goes : (e : Entry) (es : List Entry) → RiseStrictly (e ∷ es) → above (Some e.stamp) (e ∷ es) ≡ es
unfolding above
first_goes e es up = rw (not_above_itself e.stamp) (all_stay e.stamp es up.0)

above_before : (log : Log) (s : Stamp) → IsFirst log s → is_above (last_stamp log) s ≡ true
unfolding unexecuted
above_before log s f =
    subst (λ t. is_above (last_stamp log) t ≡ true) f.stamp
    (head_of (λ e. is_above (last_stamp log) e.stamp ≡ true) _ f.entry f.rest f.first (all_above (last_stamp log) (logged log)))

without_first : (s : Stamp) (e : Entry) (es : List Entry) → e.stamp ≡ s → without_entry s (e ∷ es) ≡ es
without_first s e es same = let test : stamp_eq e.stamp s ≡ true = ap (stamp_eq e.stamp) (sym same) ∙ same_stamp e.stamp in rw test refl

logged_rises : (me n : ℕ) (log : Log) → EachFits me n log → RiseStrictly (logged log)
unfolding logged
logged_rises me n log fit = logged_rise me n log fit (known log)

logged_same : (log : Log) (s : Stamp) → logged (Rec.Commit s ∷ log) ≡ logged log
unfolding logged logged_in known decision
logged_same log s = refl

-- and that entry alone is no longer unexecuted
pub unexecuted_committed : (me n : ℕ) (log : Log) (s : Stamp) → EachFits me n log → IsFirst log s → unexecuted (Rec.Commit s ∷ log) ≡ without_entry s (unexecuted log)
unfolding unexecuted
unexecuted_committed me n log s fit f =
    let up : RiseStrictly (f.entry ∷ f.rest) = subst RiseStrictly f.first (rise_above (last_stamp log) (logged log) (logged_rises me n log fit)) in
    ap (above (last_stamp (Rec.Commit s ∷ log))) (logged_same log s) ∙ ap (λ o. above o (logged log)) (last_committed log s f)
    ∙ sym (above_twice (last_stamp log) s (logged log) (above_before log s f)) ∙ ap (above (Some s)) f.first
    ∙ ap (λ t. above (Some t) (f.entry ∷ f.rest)) (sym f.stamp) ∙ first_goes f.entry f.rest up
    ∙ sym (without_first s f.entry f.rest f.stamp) ∙ ap (without_entry s) (sym f.first)

still_if : (last : Option Stamp) (s t : Stamp) → is_above last s ≡ true → stamp_lt s t ≡ true → (is_above last t && not (stamp_eq s t)) ≡ true
still_if None s t h k = ap not (above_differs s t k)
still_if (Some l) s t h k = rw (above_lesser l s t h k, above_differs s t k) refl

-- what is above it was above the one before
pub still_above : (log : Log) (s t : Stamp) → IsFirst log s → is_above (Some s) t ≡ true → (is_above (last_stamp log) t && not (stamp_eq s t)) ≡ true
still_above log s t f h = still_if (last_stamp log) s t (above_before log s f) h

-- ---- other records

-- what stands while a replica of this log is active
abbrev pub Waits : Pending → List (Stamp × ℕ) → Log → Type 0
Waits pending votes log = active log ≡ true → PendingStands pending (is_above (last_stamp log)) (unexecuted log) votes

-- a record of no entry
abbrev pub IsPlain : Rec → Type 0
IsPlain (Rec.Prepare e) = ⊥
IsPlain (Rec.Commit s) = ⊥
IsPlain (Rec.Enter x) = ⊥
IsPlain _ = Unit {0}

-- a record that is not of an entry, and not of entering an epoch
pub plain : (rec : Rec) → ((e : Entry) → rec ≡ Rec.Prepare e → ⊥) → ((s : Stamp) → rec ≡ Rec.Commit s → ⊥) → IsNoEnter rec → IsPlain rec
plain (Rec.Boot m k) prepare commit entering = tt
plain (Rec.Prepare e) prepare commit entering = prepare e refl
plain (Rec.Commit s) prepare commit entering = commit s refl
plain (Rec.Adopt place es) prepare commit entering = tt
plain (Rec.Suspend x) prepare commit entering = tt
plain (Rec.Promise i b) prepare commit entering = tt
plain (Rec.Accept i b d) prepare commit entering = tt
plain (Rec.Decide d) prepare commit entering = tt
plain (Rec.Enter x) prepare commit entering = entering

never : false ≡ true → ⊥
never e = absurd (cc)

not_while : (a b : Bool) → (not a || b) ≡ true → (a && not b) ≡ true → ⊥
not_while true true e h = absurd (cc)
not_while true false e h = absurd (cc)
not_while false b e h = absurd (cc)

after_suspending : (a : Bool) → (a && not true) ≡ true → ⊥
after_suspending true h = absurd (cc)
after_suspending false h = absurd (cc)

adopts : (me n : ℕ) (log : Log) (place : ℕ) (es : List Entry) → fits me n log (Rec.Adopt place es) ≡ true → (not (live log) || suspended log) ≡ true
unfolding fits
adopts me n log place es h = right_passes _ (not (live log) || suspended log) h

-- a record of no entry leaves what stands
pub waits_on : (pending : Pending) (votes : List (Stamp × ℕ)) (me n : ℕ) (log : Log) (rec : Rec) → fits me n log rec ≡ true → IsPlain rec →
    Waits pending votes log → Waits pending votes (rec ∷ log)
unfolding active live suspended unexecuted last_stamp logged logged_in executed known decision
waits_on pending votes me n log (Rec.Boot m k) fit plain w a = absurd (never a)
waits_on pending votes me n log (Rec.Prepare e) fit plain w a = absurd plain
waits_on pending votes me n log (Rec.Commit s) fit plain w a = absurd plain
waits_on pending votes me n log (Rec.Adopt place es) fit plain w a = absurd (not_while (live log) (suspended log) (adopts me n log place es fit) a)
waits_on pending votes me n log (Rec.Suspend x) fit plain w a = absurd (after_suspending (live log) a)
waits_on pending votes me n log (Rec.Promise i b) fit plain w a = w a
waits_on pending votes me n log (Rec.Accept i b d) fit plain w a = w a
waits_on pending votes me n log (Rec.Decide d) fit plain w a = absurd (never a)
waits_on pending votes me n log (Rec.Enter x) fit plain w a = absurd plain

same_last : (log : Log) (e : Entry) → last_stamp (Rec.Prepare e ∷ log) ≡ last_stamp log
unfolding last_stamp executed known decision
same_last log e = refl

-- an entry is logged above the last executed one
pub waits_with : (old new : Pending) (votes : List (Stamp × ℕ)) (me n : ℕ) (log : Log) (e : Entry) → fits me n log (Rec.Prepare e) ≡ true → is_above (last_stamp log) e.stamp ≡ true →
    ((tracked : Stamp → Bool) (waiting : List Entry) (votes : List (Stamp × ℕ)) → PendingStands old tracked waiting votes → PendingStands new tracked (with_entry e waiting) votes) →
    Waits old votes log → Waits new votes (Rec.Prepare e ∷ log)
waits_with old new votes me n log e fit above adds w a =
    let was : PendingStands old (is_above (last_stamp log)) (unexecuted log) votes = w (prepares me n log e fit).active_is in
    let is : with_entry e (unexecuted log) ≡ unexecuted (Rec.Prepare e ∷ log) = sym (unexecuted_with me n log e fit above) in
    subst (λ o. PendingStands new (is_above o) (unexecuted (Rec.Prepare e ∷ log)) votes) (sym (same_last log e))
    (subst (λ es. PendingStands new (is_above (last_stamp log)) es votes) is (adds (is_above (last_stamp log)) (unexecuted log) votes was))

-- an entry is logged that is not above it
pub waits_without : (pending : Pending) (votes : List (Stamp × ℕ)) (me n : ℕ) (log : Log) (e : Entry) → fits me n log (Rec.Prepare e) ≡ true → is_above (last_stamp log) e.stamp ≡ false →
    Waits pending votes log → Waits pending votes (Rec.Prepare e ∷ log)
waits_without pending votes me n log e fit above w a =
    let was : PendingStands pending (is_above (last_stamp log)) (unexecuted log) votes = w (prepares me n log e fit).active_is in
    subst (λ o. PendingStands pending (is_above o) (unexecuted (Rec.Prepare e ∷ log)) votes) (sym (same_last log e))
    (subst (λ es. PendingStands pending (is_above (last_stamp log)) es votes) (sym (unexecuted_without me n log e fit above)) was)

-- the first entry is executed
pub waits_committed : (old new : Pending) (votes : List (Stamp × ℕ)) (me n : ℕ) (log : Log) (s : Stamp) → EachFits me n log → fits me n log (Rec.Commit s) ≡ true →
    ((tracked : Stamp → Bool) (waiting : List Entry) (votes : List (Stamp × ℕ)) → PendingStands old tracked waiting votes →
    PendingStands new (λ t. tracked t && not (stamp_eq s t)) (without_entry s waiting) votes) →
    Waits old votes log → Waits new votes (Rec.Commit s ∷ log)
waits_committed old new votes me n log s fits_before fit takes w a =
    let f : IsFirst log s = commits me n log s fit in
    let was : PendingStands old (is_above (last_stamp log)) (unexecuted log) votes = w (commits_active me n log s fit) in
    let taken : PendingStands new (is_above (Some s)) (without_entry s (unexecuted log)) votes =
    narrowed new (λ t. is_above (last_stamp log) t && not (stamp_eq s t)) (is_above (Some s)) (without_entry s (unexecuted log)) votes
    (λ t h. still_above log s t f h) (takes (is_above (last_stamp log)) (unexecuted log) votes was) in
    subst (λ o. PendingStands new (is_above o) (unexecuted (Rec.Commit s ∷ log)) votes) (sym (last_committed log s f))
    (subst (λ es. PendingStands new (is_above (Some s)) es votes) (sym (unexecuted_committed me n log s fits_before f)) taken)
