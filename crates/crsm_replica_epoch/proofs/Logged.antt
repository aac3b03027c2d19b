-- The logged entries of an epoch strictly ascend, and there is none if it was not entered.
use Rattle.std.proofs.Common.{◌≡◌, ℕ, Bool, true, false, refl, sym, ◌∙◌, ap, subst, arith, List, [], ◌∷◌, inl, inr, Option, Some, None}
use Rattle.std.specs.Prelude.{◌==◌, ◌&&◌, ◌||◌, not, nat_lt, if◌then◌else◌}
use Rattle.std.specs.List.{AllByRecursion, list_all, list_any}
use Rattle.std.proofs.lemmas.Bool.{eqb-true}
use Rattle.std.proofs.lemmas.Bool.Decides.{nat_tests}
use Rattle.crsm_base.specs.Order.{stamp_lt, stamp_eq}
use Rattle.crsm_spec.specs.Types.{Stamp, Entry, Rec}
use Rattle.crsm_spec.specs.Log.{Log, decision, known, logged, logged_in, with_entry, live, suspended, active, is_enter, has_entered, above, last_stamp, unexecuted}
use Rattle.crsm_spec.specs.Fits.{fits, is_newest}
use Rattle.crsm_commit.proofs.Filed.{bool_cases, all_with_entry}
use Rattle.crsm_replica_epoch.specs.EpochState.{EachFits}

-- each stamp is above those before it
abbrev pub RiseStrictly : List Entry → Type 0
RiseStrictly [] = Unit {0}
RiseStrictly (e ∷ es) = AllByRecursion (λ f. stamp_lt e.stamp f.stamp ≡ true) es × RiseStrictly es

-- ---- tests

pub left_passes : (a b : Bool) → (a && b) ≡ true → a ≡ true
left_passes true b e = refl
left_passes false b e = e

pub right_passes : (a b : Bool) → (a && b) ≡ true → b ≡ true
right_passes true b e = e
right_passes false b e = absurd (cc)

pub right_fails : (a b : Bool) → (a || b) ≡ false → b ≡ false
right_fails true b e = absurd (cc)
right_fails false b e = e

-- ---- the order

below_trans : (a b c : Stamp) → stamp_lt a b ≡ true → stamp_lt b c ≡ true → stamp_lt a c ≡ true
unfolding stamp_lt
below_trans a b c h k = grind (arith, nat_tests)

below_other : (a b : Stamp) → stamp_lt a b ≡ false → stamp_eq b a ≡ false → stamp_lt b a ≡ true
unfolding stamp_lt stamp_eq
below_other a b h k = grind (arith, nat_tests)

all_above : (a b : Stamp) (es : List Entry) → stamp_lt a b ≡ true → AllByRecursion (λ f. stamp_lt b f.stamp ≡ true) es → AllByRecursion (λ f. stamp_lt a f.stamp ≡ true) es
all_above a b [] h all = tt
all_above a b (f ∷ es) h all = (below_trans a b f.stamp h all.0, all_above a b es h all.1)

-- ---- one more entry

pub entry_here : (e f : Entry) (es : List Entry) → stamp_lt e.stamp f.stamp ≡ true → with_entry e (f ∷ es) ≡ e ∷ f ∷ es
unfolding with_entry
entry_here e f es h = rw h refl

pub entry_there : (e f : Entry) (es : List Entry) → stamp_lt e.stamp f.stamp ≡ false → with_entry e (f ∷ es) ≡ f ∷ with_entry e es
unfolding with_entry
entry_there e f es h = rw h refl

entry_none : (e : Entry) → with_entry e [] ≡ e ∷ []
unfolding with_entry
entry_none e = refl

rise_with : (e : Entry) (es : List Entry) → AllByRecursion (λ f. stamp_eq f.stamp e.stamp ≡ false) es → RiseStrictly es → RiseStrictly (with_entry e es)
rise_with e [] differ up = subst RiseStrictly (sym (entry_none e)) (tt, tt)
rise_with e (f ∷ es) differ up =
    elim (bool_cases (stamp_lt e.stamp f.stamp)) [
      | inl h ↦ subst RiseStrictly (sym (entry_here e f es h)) ((h, all_above e.stamp f.stamp es h up.0), up)
      | inr h ↦
          subst RiseStrictly (sym (entry_there e f es h))
          (all_with_entry (λ g. stamp_lt f.stamp g.stamp ≡ true) e es (below_other e.stamp f.stamp h differ.0) up.0, rise_with e es differ.1 up.1)
    ]

newer_differs : (e f : Entry) → (not (f.stamp.origin == e.stamp.origin) || nat_lt f.stamp.time e.stamp.time) ≡ true → stamp_eq f.stamp e.stamp ≡ false
unfolding stamp_eq
newer_differs e f h = grind (arith, nat_tests)

newest_differs : (e : Entry) (es : List Entry) → is_newest e es ≡ true → AllByRecursion (λ f. stamp_eq f.stamp e.stamp ≡ false) es
unfolding is_newest
newest_differs e [] h = tt
newest_differs e (f ∷ es) h = (
  newer_differs e f (left_passes _ (list_all (λ g. not (g.stamp.origin == e.stamp.origin) || nat_lt g.stamp.time e.stamp.time) es) h),
  newest_differs e es (right_passes (not (f.stamp.origin == e.stamp.origin) || nat_lt f.stamp.time e.stamp.time) _ h),
)

-- ---- what a record that fits needs

pub record Prepares (log : Log) (e : Entry) : Type 0 where
  pub active_is : active log ≡ true
  pub epoch : e.epoch ≡ known log
  pub newest : is_newest e (logged log) ≡ true

pub prepares : (me n : ℕ) (log : Log) (e : Entry) → fits me n log (Rec.Prepare e) ≡ true → Prepares log e
unfolding fits
prepares me n log e h =
    let prefix = left_passes _ (is_newest e (logged log)) h in
    let first : (active log && e.epoch == known log) ≡ true = left_passes _ _ prefix in
    record {
      active_is = left_passes (active log) (e.epoch == known log) first;
      epoch = eqb-true e.epoch (known log) (right_passes (active log) (e.epoch == known log) first);
      newest = right_passes _ (is_newest e (logged log)) h;
    }

pub enters : (me n : ℕ) (log : Log) (x : ℕ) → fits me n log (Rec.Enter x) ≡ true → (x == known log) ≡ true
unfolding fits
enters me n log x h = right_passes _ _ (left_passes _ _ (left_passes _ _ (left_passes _ _ h)))

enters_anew : (me n : ℕ) (log : Log) (x : ℕ) → fits me n log (Rec.Enter x) ≡ true → not (has_entered x log) ≡ true
unfolding fits
enters_anew me n log x h = right_passes _ (not (has_entered x log)) h

-- ---- logged entries

rise_if : (e : Entry) (es : List Entry) (b : Bool) → (b ≡ true → AllByRecursion (λ f. stamp_eq f.stamp e.stamp ≡ false) es) → RiseStrictly es →
    RiseStrictly (if b then with_entry e es else es)
rise_if e es true differ up = rise_with e es (differ refl) up
rise_if e es false differ up = up

newest_in : (e : Entry) (log : Log) (x : ℕ) → Prepares log e → (e.epoch == x) ≡ true → is_newest e (logged_in x log) ≡ true
unfolding logged
newest_in e log x p h = subst (λ y. is_newest e (logged_in y log) ≡ true) (sym p.epoch ∙ eqb-true e.epoch x h) p.newest

pub logged_rise : (me n : ℕ) (log : Log) → EachFits me n log → (x : ℕ) → RiseStrictly (logged_in x log)
unfolding logged_in
logged_rise me n [] fit x = tt
logged_rise me n (Rec.Boot m k ∷ log) fit x = logged_rise me n log fit.1 x
logged_rise me n (Rec.Prepare e ∷ log) fit x =
    rise_if e (logged_in x log) (e.epoch == x) (λ h. newest_differs e (logged_in x log) (newest_in e log x (prepares me n log e fit.0) h)) (logged_rise me n log fit.1 x)
logged_rise me n (Rec.Commit s ∷ log) fit x = logged_rise me n log fit.1 x
logged_rise me n (Rec.Adopt place es ∷ log) fit x = logged_rise me n log fit.1 x
logged_rise me n (Rec.Suspend y ∷ log) fit x = logged_rise me n log fit.1 x
logged_rise me n (Rec.Promise i b ∷ log) fit x = logged_rise me n log fit.1 x
logged_rise me n (Rec.Accept i b d ∷ log) fit x = logged_rise me n log fit.1 x
logged_rise me n (Rec.Decide d ∷ log) fit x = logged_rise me n log fit.1 x
logged_rise me n (Rec.Enter y ∷ log) fit x = logged_rise me n log fit.1 x

epoch_if : (x : ℕ) (e : Entry) (es : List Entry) (b : Bool) → (e.epoch == x) ≡ b → AllByRecursion (λ f. f.epoch ≡ x) es →
    AllByRecursion (λ f. f.epoch ≡ x) (if b then with_entry e es else es)
epoch_if x e es true h all = all_with_entry (λ f. f.epoch ≡ x) e es (eqb-true e.epoch x h) all
epoch_if x e es false h all = all

-- those of an epoch are of it
pub logged_of : (x : ℕ) (log : Log) → AllByRecursion (λ e. e.epoch ≡ x) (logged_in x log)
unfolding logged_in
logged_of x [] = tt
logged_of x (Rec.Boot m k ∷ log) = logged_of x log
logged_of x (Rec.Prepare e ∷ log) = epoch_if x e (logged_in x log) (e.epoch == x) refl (logged_of x log)
logged_of x (Rec.Commit s ∷ log) = logged_of x log
logged_of x (Rec.Adopt place es ∷ log) = logged_of x log
logged_of x (Rec.Suspend y ∷ log) = logged_of x log
logged_of x (Rec.Promise i b ∷ log) = logged_of x log
logged_of x (Rec.Accept i b d ∷ log) = logged_of x log
logged_of x (Rec.Decide d ∷ log) = logged_of x log
logged_of x (Rec.Enter y ∷ log) = logged_of x log

-- ---- entering

no_live : {P : Type 0} → false ≡ true → P
no_live e = absurd (cc)

here_or : (a b : Bool) → a ≡ true → (a || b) ≡ true
here_or true b e = refl
here_or false b e = absurd (cc)

-- a live replica has entered the known epoch
live_entered : (me n : ℕ) (log : Log) → EachFits me n log → live log ≡ true → has_entered (known log) log ≡ true
unfolding live has_entered known decision is_enter
live_entered me n [] fit h = no_live h
live_entered me n (Rec.Boot m k ∷ log) fit h = no_live h
live_entered me n (Rec.Prepare e ∷ log) fit h = live_entered me n log fit.1 h
live_entered me n (Rec.Commit s ∷ log) fit h = live_entered me n log fit.1 h
live_entered me n (Rec.Adopt place es ∷ log) fit h = live_entered me n log fit.1 h
live_entered me n (Rec.Suspend y ∷ log) fit h = live_entered me n log fit.1 h
live_entered me n (Rec.Promise i b ∷ log) fit h = live_entered me n log fit.1 h
live_entered me n (Rec.Accept i b d ∷ log) fit h = live_entered me n log fit.1 h
live_entered me n (Rec.Decide d ∷ log) fit h = no_live h
live_entered me n (Rec.Enter y ∷ log) fit h = here_or (y == known log) (list_any (is_enter (known log)) log) (enters me n log y fit.0)

active_live : (log : Log) → active log ≡ true → live log ≡ true
unfolding active
active_live log h = left_passes (live log) (not (suspended log)) h

entered_by : (me n : ℕ) (log : Log) (e : Entry) (x : ℕ) → EachFits me n log → Prepares log e → (e.epoch == x) ≡ true → has_entered x log ≡ true
entered_by me n log e x fit p h =
    subst (λ y. has_entered y log ≡ true) (sym p.epoch ∙ eqb-true e.epoch x h) (live_entered me n log fit (active_live log p.active_is))

none_if : (e : Entry) (es : List Entry) (b : Bool) → (b ≡ true → ⊥) → es ≡ [] → (if b then with_entry e es else es) ≡ []
none_if e es true never is = absurd (never refl)
none_if e es false never is = is

-- nothing is logged in an epoch that was not entered
nothing_logged : (me n : ℕ) (log : Log) → EachFits me n log → (x : ℕ) → has_entered x log ≡ false → logged_in x log ≡ []
unfolding logged_in has_entered is_enter
nothing_logged me n [] fit x h = refl
nothing_logged me n (Rec.Boot m k ∷ log) fit x h = nothing_logged me n log fit.1 x h
nothing_logged me n (Rec.Prepare e ∷ log) fit x h =
    none_if e (logged_in x log) (e.epoch == x) (λ same. let k : has_entered x log ≡ true = entered_by me n log e x fit.1 (prepares me n log e fit.0) same in absurd (cc))
    (nothing_logged me n log fit.1 x h)
nothing_logged me n (Rec.Commit s ∷ log) fit x h = nothing_logged me n log fit.1 x h
nothing_logged me n (Rec.Adopt place es ∷ log) fit x h = nothing_logged me n log fit.1 x h
nothing_logged me n (Rec.Suspend y ∷ log) fit x h = nothing_logged me n log fit.1 x h
nothing_logged me n (Rec.Promise i b ∷ log) fit x h = nothing_logged me n log fit.1 x h
nothing_logged me n (Rec.Accept i b d ∷ log) fit x h = nothing_logged me n log fit.1 x h
nothing_logged me n (Rec.Decide d ∷ log) fit x h = nothing_logged me n log fit.1 x h
nothing_logged me n (Rec.Enter y ∷ log) fit x h = nothing_logged me n log fit.1 x (right_fails (y == x) (list_any (is_enter x) log) h)

none_above : (last : Option Stamp) → above last [] ≡ []
unfolding above
none_above None = refl
none_above (Some s) = refl

not_true : (b : Bool) → not b ≡ true → b ≡ false
not_true true e = sym e
not_true false e = refl

-- where the known epoch is entered, nothing is unexecuted
pub fresh_at_entry : (me n : ℕ) (log : Log) → EachFits me n log → fits me n log (Rec.Enter (known log)) ≡ true → unexecuted log ≡ []
unfolding unexecuted logged
fresh_at_entry me n log fit h =
    ap (above (last_stamp log)) (nothing_logged me n log fit (known log) (not_true _ (enters_anew me n log (known log) h))) ∙ none_above (last_stamp log)
