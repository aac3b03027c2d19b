-- Drafts: choices, the records that fit, and the effects of sending and entering.
use Rattle.std.proofs.Common.{◌≡◌, ℕ, zero, suc, ◌+◌, ◌<◌, ◌≤◌, List, [], ◌∷◌, length, drop, refl, sym, ◌∙◌, ap, subst, cond, arith, Bool, true, false}
use Rattle.std.specs.Prelude.{◌-◌, ◌==◌, ◌&&◌, ◌||◌, not, nat_lt, nat_le, Option, Some, None, if◌then◌else◌}
use Rattle.std.specs.List.{AllByRecursion, list_all}
use Rattle.std.specs.Option.{option_map_or}
use Rattle.std.proofs.lemmas.Bool.{eq-eqb, false≢true}
use Rattle.std.proofs.lemmas.Bool.Decides.{nat_tests}
use Rattle.std.proofs.lemmas.List.Sums.{sum_by-cons}
use Rattle.crsm_base.specs.Spelling.{FitsOption, FitsDecision}
use Rattle.crsm_spec.specs.Types.{Entry, Decision, Rec, Control}
use Rattle.crsm_spec.specs.Choice.{when◌then◌otherwise◌}
use Rattle.crsm_spec.specs.Log.{Log, known, start, decision, executed, boots, is_boot, live, suspended, active}
use Rattle.crsm_spec.specs.Fits.{fits, booted, goes_on}
use Rattle.crsm_spec.specs.Draft.{Draft, keep, noting, send_control, send_to_each, send_to_all, send_decision, send_retrieve}
use Rattle.crsm_spec.specs.Coordinate.{forget_epoch, adopt_tail, enter, advance, learn}
use Rattle.crsm_spec.specs.Controls.{on_decide, retrieve_base}
use Rattle.crsm_spec.specs.Step.{if_fitting}
use Rattle.crsm_replica.specs.declared.state.ReplicaState.{ReplicaState}
use Rattle.crsm_replica.specs.Replica.{ReplicaStands, learnt}
use Rattle.crsm_replica_reconfigure.specs.Rules.{tail_goes_on, rest_goes_on}

-- ---- choices

pub when_yes : {A : Type 0} (b : Bool) (x y : A) → b ≡ true → (when b then x otherwise y) ≡ x
unfolding when◌then◌otherwise◌
when_yes true x y h = refl
when_yes false x y h = absurd (false≢true h)

pub when_no : {A : Type 0} (b : Bool) (x y : A) → b ≡ false → (when b then x otherwise y) ≡ y
unfolding when◌then◌otherwise◌
when_no true x y h = absurd (false≢true (sym h))
when_no false x y h = refl

-- what both ways leave
pub when_same : {A : Type 0} (f : Draft → A) (b : Bool) (x y : Draft) (a : A) → f x ≡ a → f y ≡ a → f (when b then x otherwise y) ≡ a
unfolding when◌then◌otherwise◌
when_same f true x y a h i = h
when_same f false x y a h i = i

pub and_yes : (a b : Bool) → b ≡ true → (a && b) ≡ a
and_yes true b h = h
and_yes false b h = refl

pub and_no : (a b : Bool) → b ≡ false → (a && b) ≡ false
and_no true b h = h
and_no false b h = refl

pub and_first : (a b : Bool) → a ≡ true → (a && b) ≡ b
and_first true b h = refl
and_first false b h = absurd (false≢true h)

pub and_none : (a b : Bool) → a ≡ false → (a && b) ≡ false
and_none true b h = absurd (false≢true (sym h))
and_none false b h = refl

-- ---- an input whose records would not fit

pub is_whole : (state : ReplicaState) (x y : Draft) → y.fitting ≡ true → ReplicaStands state y → ReplicaStands state (if_fitting x y)
unfolding if_fitting
is_whole state x y f s = subst (λ z. ReplicaStands state z) (sym (when_yes y.fitting y x f)) s

pub is_ignored : (state : ReplicaState) (x y : Draft) → y.fitting ≡ false → ReplicaStands state x → ReplicaStands state (if_fitting x y)
unfolding if_fitting
is_ignored state x y f s = subst (λ z. ReplicaStands state z) (sym (when_no y.fitting y x f)) s

pub was_whole : (state : ReplicaState) (x y : Draft) → y.fitting ≡ true → ReplicaStands state (if_fitting x y) → ReplicaStands state y
unfolding if_fitting
was_whole state x y f s = subst (λ z. ReplicaStands state z) (when_yes y.fitting y x f) s

pub was_ignored : (state : ReplicaState) (x y : Draft) → y.fitting ≡ false → ReplicaStands state (if_fitting x y) → ReplicaStands state x
unfolding if_fitting
was_ignored state x y f s = subst (λ z. ReplicaStands state z) (when_no y.fitting y x f) s

-- one that does nothing
pub does_nothing : (state : ReplicaState) (x y : Draft) → y ≡ x → ReplicaStands state x → ReplicaStands state (if_fitting x y)
unfolding if_fitting
does_nothing state x y e s = subst (λ z. ReplicaStands state (when z.fitting then z otherwise x)) (sym e) (go x.fitting)
  where
    go : (b : Bool) → ReplicaStands state (when b then x otherwise x)
    go true = subst (λ z. ReplicaStands state z) (sym (when_yes true x x refl)) s
    go false = subst (λ z. ReplicaStands state z) (sym (when_no false x x refl)) s

-- one that is equal to another
pub instead : (state : ReplicaState) (x y z : Draft) → y ≡ z → ReplicaStands state (if_fitting x y) → ReplicaStands state (if_fitting x z)
instead state x y z e s = subst (λ w. ReplicaStands state (if_fitting x w)) e s

-- ---- sending

pub send_fitting : (c : Control) (x : Draft) (k : ℕ) → (send_control c x k).fitting ≡ x.fitting
unfolding send_control
send_fitting c x k = when_same (λ y. y.fitting) _ _ _ x.fitting refl refl

pub each_fitting : (ks : List ℕ) (c : Control) (x : Draft) → (send_to_each ks c x).fitting ≡ x.fitting
unfolding send_to_each
each_fitting [] c x = refl
each_fitting (k ∷ ks) c x = each_fitting ks c (send_control c x k) ∙ send_fitting c x k

pub all_fitting : (c : Control) (x : Draft) → (send_to_all c x).fitting ≡ x.fitting
unfolding send_to_all
all_fitting c x = each_fitting _ c x

pub decision_fitting : (k : ℕ) (x : Draft) → (send_decision k x).fitting ≡ x.fitting
unfolding send_decision
decision_fitting k x = go (decision x.replica.log)
  where
    go : (o : Option Decision) → (option_map_or (λ d. send_control (Control.Decide d) x k) o x).fitting ≡ x.fitting
    go None = refl
    go (Some d) = send_fitting (Control.Decide d) x k

pub retrieve_fitting : (k : ℕ) (x : Draft) → (send_retrieve k x).fitting ≡ x.fitting
unfolding send_retrieve
retrieve_fitting k x = send_fitting _ x k

-- ---- entering

pub enter_fitting : (x : Draft) → (enter x).fitting ≡ x.fitting
unfolding enter keep forget_epoch
enter_fitting x = go (fits x.replica.me x.replica.n x.replica.log (Rec.Enter (known x.replica.log))) refl
  where
    go : (b : Bool) → fits x.replica.me x.replica.n x.replica.log (Rec.Enter (known x.replica.log)) ≡ b →
        (when b then keep (Rec.Enter (known x.replica.log)) (forget_epoch x) otherwise x).fitting ≡ x.fitting
    go true h = ap (λ y. y.fitting) (when_yes true (keep (Rec.Enter (known x.replica.log)) (forget_epoch x)) x refl) ∙ and_yes x.fitting _ h
    go false h = ap (λ y. y.fitting) (when_no false (keep (Rec.Enter (known x.replica.log)) (forget_epoch x)) x refl)

-- ---- the rest of a tail

boots_more : (rec : Rec) (log : Log) → boots log ≤ boots (rec ∷ log)
unfolding boots
boots_more rec log = let e = sum_by-cons (λ r. cond (is_boot r) 1 0) rec log in omega (arith, e)

pub booted_more : (rec : Rec) (log : Log) → booted log ≡ true → booted (rec ∷ log) ≡ true
unfolding booted
booted_more rec log h = let m = boots_more rec log in grind (arith, nat_tests)

all_old : (x : ℕ) (es : List Entry) → AllByRecursion (λ e. e.epoch + 1 ≡ x) es → list_all (λ e. nat_le e.epoch x) es ≡ true
all_old x [] h = refl
all_old x (e ∷ es) h = ap (λ b. b && list_all (λ e. nat_le e.epoch x) es) (old e.epoch h.0) ∙ all_old x es h.1
  where
    old : (y : ℕ) → y + 1 ≡ x → nat_le y x ≡ true
    old y e = grind (arith, nat_tests)

all_dropped : (P : Entry → Type 0) (k : ℕ) (es : List Entry) → AllByRecursion P es → AllByRecursion P (drop k es)
all_dropped P zero es h = h
all_dropped P (suc k) [] h = tt
all_dropped P (suc k) (e ∷ es) h = all_dropped P k es h.1

apart_may : (log : Log) → active log ≡ false → (not (live log) || suspended log) ≡ true
unfolding active
apart_may log h = go (live log) (suspended log) h
  where
    go : (l s : Bool) → (l && not s) ≡ false → (not l || s) ≡ true
    go true true h = refl
    go true false h = absurd (false≢true (sym h))
    go false s h = refl

pub adopt_fits : (me n : ℕ) (log : Log) (es : List Entry) → booted log ≡ true → list_all (λ e. nat_le e.epoch (known log)) es ≡ true → active log ≡ false →
    fits me n log (Rec.Adopt (length (executed log)) es) ≡ goes_on (executed log) es
unfolding fits
adopt_fits me n log es b old apart =
    go (booted log) (length (executed log) == length (executed log)) (list_all (λ e. nat_le e.epoch (known log)) es) (goes_on (executed log) es) (not (live log) || suspended log)
    b (eq-eqb (length (executed log)) (length (executed log)) refl) old (apart_may log apart)
  where
    go : (p q r g s : Bool) → p ≡ true → q ≡ true → r ≡ true → s ≡ true → ((((p && q) && r) && g) && s) ≡ g
    go true true true true true h i j k = refl
    go true true true false s h i j k = refl
    go true true true true false h i j k = k
    go true true false g s h i j k = absurd (false≢true j)
    go true false r g s h i j k = absurd (false≢true i)
    go false q r g s h i j k = absurd (false≢true h)

pub keep_fitting : (rec : Rec) (x : Draft) → (keep rec x).fitting ≡ (x.fitting && fits x.replica.me x.replica.n x.replica.log rec)
unfolding keep
keep_fitting rec x = refl

kept_or_not : (rec : Rec) (x : Draft) (c g : Bool) → fits x.replica.me x.replica.n x.replica.log rec ≡ g →
    (when c then keep rec x otherwise x).fitting ≡ (x.fitting && (when c then g otherwise true))
unfolding when◌then◌otherwise◌
kept_or_not rec x true g h = keep_fitting rec x ∙ ap (λ b. x.fitting && b) h
kept_or_not rec x false g h = sym (and_yes x.fitting true refl)

start_is : (log : Log) (d : Decision) → decision log ≡ Some d → start log ≡ d.base_len + length d.tail
unfolding start
start_is log d e = ap (λ o. option_map_or (λ d. d.base_len + length d.tail) o 0) e

known_is : (log : Log) (d : Decision) → decision log ≡ Some d → known log ≡ d.epoch
unfolding known
known_is log d e = ap (λ o. option_map_or (λ d. d.epoch) o 0) e

-- the entries that are left, the first of them to be executed next
abbrev left_of : Draft → Decision → List Entry
left_of x d = drop (length (executed x.replica.log) - d.base_len) d.tail

-- where nothing keeps the replica from it, the rest of the known tail fits where it goes on
pub rest_fits : (x : Draft) → booted x.replica.log ≡ true → FitsOption FitsDecision (decision x.replica.log) → active x.replica.log ≡ false →
    (adopt_tail x).fitting ≡ (x.fitting && rest_goes_on (decision x.replica.log) (executed x.replica.log))
unfolding adopt_tail rest_goes_on tail_goes_on
rest_fits x b f apart = go (decision x.replica.log) refl f
  where
    old : (d : Decision) → decision x.replica.log ≡ Some d → FitsDecision d → list_all (λ e. nat_le e.epoch (known x.replica.log)) (left_of x d) ≡ true
    old d e h =
        ap (λ k. list_all (λ z. nat_le z.epoch k) (left_of x d)) (known_is x.replica.log d e)
        ∙ all_old d.epoch (left_of x d) (all_dropped (λ z. z.epoch + 1 ≡ d.epoch) (length (executed x.replica.log) - d.base_len) d.tail h.before)

    go : (o : Option Decision) → decision x.replica.log ≡ o → FitsOption FitsDecision o →
        (option_map_or (λ d. when nat_le d.base_len (length (executed x.replica.log)) && nat_lt (length (executed x.replica.log)) (start x.replica.log)
        then keep (Rec.Adopt (length (executed x.replica.log)) (left_of x d)) x otherwise x) o x).fitting
        ≡ (x.fitting && option_map_or (λ d. when nat_le d.base_len (length (executed x.replica.log)) && nat_lt (length (executed x.replica.log)) (d.base_len + length d.tail)
        then goes_on (executed x.replica.log) (left_of x d) otherwise true) o true)
    go None e h = sym (and_yes x.fitting true refl)
    go (Some d) e h =
        ap (λ s. (when nat_le d.base_len (length (executed x.replica.log)) && nat_lt (length (executed x.replica.log)) s
        then keep (Rec.Adopt (length (executed x.replica.log)) (left_of x d)) x otherwise x).fitting) (start_is x.replica.log d e)
        ∙ kept_or_not (Rec.Adopt (length (executed x.replica.log)) (left_of x d)) x
        (nat_le d.base_len (length (executed x.replica.log)) && nat_lt (length (executed x.replica.log)) (d.base_len + length d.tail))
        (goes_on (executed x.replica.log) (left_of x d)) (adopt_fits x.replica.me x.replica.n x.replica.log (left_of x d) b (old d e h) apart)

known_booted : (d : Decision) (x : Draft) → booted x.replica.log ≡ true → booted ((learnt d x).replica.log) ≡ true
unfolding learnt forget_epoch noting keep
known_booted d x b = booted_more (Rec.Decide d) x.replica.log b

known_fits : (d : Decision) (x : Draft) → FitsDecision d → FitsOption FitsDecision (decision ((learnt d x).replica.log))
unfolding learnt forget_epoch noting keep decision
known_fits d x f = f

known_apart : (d : Decision) (x : Draft) → active ((learnt d x).replica.log) ≡ false
unfolding learnt forget_epoch noting keep active live
known_apart d x = refl

known_rest : (d : Decision) (x : Draft) → rest_goes_on (decision ((learnt d x).replica.log)) (executed ((learnt d x).replica.log)) ≡ tail_goes_on d (executed x.replica.log)
unfolding learnt forget_epoch noting keep decision executed rest_goes_on
known_rest d x = refl

-- whether a decision can be learnt: it fits itself, and its tail goes on
pub learn_fits : (d : Decision) (x : Draft) → booted x.replica.log ≡ true → FitsDecision d → (learn d x).fitting ≡ ((learnt d x).fitting && tail_goes_on d (executed x.replica.log))
unfolding learn learnt advance
learn_fits d x b f = enter_fitting (adopt_tail (learnt d x)) ∙ rest_fits (learnt d x) (known_booted d x b) (known_fits d x f) (known_apart d x) ∙ ap (λ g. (learnt d x).fitting && g) (known_rest d x)

-- it is learnt, and then what can be done is done
pub learn_as : (d : Decision) (x : Draft) → (learn d x ≡ advance (learnt d x)) × ((learn d x).fitting ≡ (adopt_tail (learnt d x)).fitting)
unfolding learn learnt advance
learn_as d x = (refl, enter_fitting (adopt_tail (learnt d x)))

-- ---- the rest of a known tail

pub no_tail : (x : Draft) → decision x.replica.log ≡ None → adopt_tail x ≡ x
unfolding adopt_tail
no_tail x e =
    ap (λ o. option_map_or (λ d. when nat_le d.base_len (length (executed x.replica.log)) && nat_lt (length (executed x.replica.log)) (start x.replica.log)
    then keep (Rec.Adopt (length (executed x.replica.log)) (left_of x d)) x otherwise x) o x) e

tail_as : (x : Draft) (d : Decision) → decision x.replica.log ≡ Some d →
    adopt_tail x ≡ (when nat_le d.base_len (length (executed x.replica.log)) && nat_lt (length (executed x.replica.log)) (start x.replica.log)
    then keep (Rec.Adopt (length (executed x.replica.log)) (left_of x d)) x otherwise x)
unfolding adopt_tail
tail_as x d e =
    ap (λ o. option_map_or (λ d. when nat_le d.base_len (length (executed x.replica.log)) && nat_lt (length (executed x.replica.log)) (start x.replica.log)
    then keep (Rec.Adopt (length (executed x.replica.log)) (left_of x d)) x otherwise x) o x) e

pub past_tail : (x : Draft) (d : Decision) (place begins : ℕ) → decision x.replica.log ≡ Some d → place ≡ length (executed x.replica.log) → begins ≡ start x.replica.log →
    (nat_le d.base_len place && nat_lt place begins) ≡ false → adopt_tail x ≡ x
past_tail x d place begins e p s h =
    tail_as x d e ∙ when_no _ _ x (ap (λ i. nat_le d.base_len i && nat_lt i (start x.replica.log)) (sym p) ∙ ap (λ t. nat_le d.base_len place && nat_lt place t) (sym s) ∙ h)

pub some_tail : (x : Draft) (d : Decision) (place begins : ℕ) (es : List Entry) → decision x.replica.log ≡ Some d → place ≡ length (executed x.replica.log) → begins ≡ start x.replica.log →
    (nat_le d.base_len place && nat_lt place begins) ≡ true → es ≡ drop (place - d.base_len) d.tail → keep (Rec.Adopt place es) x ≡ adopt_tail x
some_tail x d place begins es e p s h r =
    ap (λ zs. keep (Rec.Adopt place zs) x) r ∙ ap (λ i. keep (Rec.Adopt i (drop (i - d.base_len) d.tail)) x) p
    ∙ sym (tail_as x d e ∙ when_yes _ _ x (ap (λ i. nat_le d.base_len i && nat_lt i (start x.replica.log)) (sym p) ∙ ap (λ t. nat_le d.base_len place && nat_lt place t) (sym s) ∙ h))

-- ---- single rules

pub learn_later : (k : ℕ) (d : Decision) (x : Draft) → known x.replica.log < d.epoch → on_decide k d x ≡ retrieve_base k (learn d x)
unfolding on_decide
learn_later k d x h = when_yes _ _ x (grind (arith, nat_tests))

pub learn_no : (k : ℕ) (d : Decision) (x : Draft) → d.epoch ≤ known x.replica.log → on_decide k d x ≡ x
unfolding on_decide
learn_no k d x h = when_no _ _ x (grind (arith, nat_tests))

pub base_fitting : (k : ℕ) (x : Draft) → (retrieve_base k x).fitting ≡ x.fitting
unfolding retrieve_base
base_fitting k x = when_same (λ y. y.fitting) _ _ x x.fitting (retrieve_fitting k x) refl

below_base : (done : ℕ) (o : Option Decision) → option_map_or (λ d. nat_lt done d.base_len) o false ≡ nat_lt done (option_map_or (λ d. d.base_len) o 0)
below_base done None = grind (arith, nat_tests)
below_base done (Some d) = refl

pub base_is : (k : ℕ) (x : Draft) (done base : ℕ) → done ≡ length (executed x.replica.log) → base ≡ option_map_or (λ d. d.base_len) (decision x.replica.log) 0 → done < base → retrieve_base k x ≡ send_retrieve k x
unfolding retrieve_base
base_is k x done base e b h =
    when_yes _ _ x (below_base (length (executed x.replica.log)) (decision x.replica.log) ∙ (let t : nat_lt done base ≡ true = grind (arith, nat_tests) in
    ap (λ m. nat_lt m (option_map_or (λ d. d.base_len) (decision x.replica.log) 0)) (sym e) ∙ ap (λ m. nat_lt done m) (sym b) ∙ t))

pub base_no : (k : ℕ) (x : Draft) (done base : ℕ) → done ≡ length (executed x.replica.log) → base ≡ option_map_or (λ d. d.base_len) (decision x.replica.log) 0 → base ≤ done → retrieve_base k x ≡ x
unfolding retrieve_base
base_no k x done base e b h =
    when_no _ _ x (below_base (length (executed x.replica.log)) (decision x.replica.log) ∙ (let t : nat_lt done base ≡ false = grind (arith, nat_tests) in
    ap (λ m. nat_lt m (option_map_or (λ d. d.base_len) (decision x.replica.log) 0)) (sym e) ∙ ap (λ m. nat_lt done m) (sym b) ∙ t))

-- ---- what fits later fitted before

first_of_both : (a b : Bool) → (a && b) ≡ true → a ≡ true
first_of_both true b h = refl
first_of_both false b h = h

adopt_monotone : (x : Draft) → (adopt_tail x).fitting ≡ true → x.fitting ≡ true
unfolding adopt_tail
adopt_monotone x h = go (decision x.replica.log) h
  where
    one : (d : Decision) (c : Bool) → (when c then keep (Rec.Adopt (length (executed x.replica.log)) (left_of x d)) x otherwise x).fitting ≡ true → x.fitting ≡ true
    one d true h = first_of_both x.fitting _ (sym (keep_fitting (Rec.Adopt (length (executed x.replica.log)) (left_of x d)) x) ∙ ap (λ y. y.fitting) (sym (when_yes true (keep (Rec.Adopt (length (executed x.replica.log)) (left_of x d)) x) x refl)) ∙ h)
    one d false h = ap (λ y. y.fitting) (sym (when_no false (keep (Rec.Adopt (length (executed x.replica.log)) (left_of x d)) x) x refl)) ∙ h

    go : (o : Option Decision) → (option_map_or (λ d. when nat_le d.base_len (length (executed x.replica.log)) && nat_lt (length (executed x.replica.log)) (start x.replica.log)
        then keep (Rec.Adopt (length (executed x.replica.log)) (left_of x d)) x otherwise x) o x).fitting ≡ true → x.fitting ≡ true
    go None h = h
    go (Some d) h = one d _ h

pub learnt_fitting : (d : Decision) (x : Draft) → (learnt d x).fitting ≡ (x.fitting && fits x.replica.me x.replica.n x.replica.log (Rec.Decide d))
unfolding learnt forget_epoch noting keep
learnt_fitting d x = refl

pub kept_monotone : (d : Decision) (x : Draft) → (learn d x).fitting ≡ true → x.fitting ≡ true
kept_monotone d x h = first_of_both x.fitting _ (sym (learnt_fitting d x) ∙ adopt_monotone (learnt d x) (sym ((learn_as d x).1) ∙ h))
