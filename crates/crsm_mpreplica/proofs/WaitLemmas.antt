-- Waiting clients, by slot.
use Rattle.std.proofs.Common.{◌≡◌, ℕ, suc, ◌<◌, ◌≤◌, List, [], ◌∷◌, Some, None, IfSome, IfNone, refl, ap, sym, subst, ◌∙◌, arith, All}
use Rattle.std.specs.Prelude.{map, drop, Option, slice_get}
use Rattle.std.specs.List.{AllByRecursion}
use Rattle.std.specs.Map.{keys_of}
use Rattle.std.specs.Option.{option_map}
use Rattle.std.specs.Ordering.{nat_cmp}
use Rattle.std.specs.BTreeMap.Range.{IsLeBy}
use Rattle.std.proofs.lemmas.Bool.Decides.{nat_tests}
use Rattle.crsm_fact_log.proofs.Lists.{slice_get-map}
use Rattle.crsm_mpspec.specs.Types.{Command}
use Rattle.crsm_mpspec.specs.Replica.{Waiting}
use Rattle.crsm_mpreplica.specs.State.{waiting_of}

pub if_some : {X : Type 0} (o : Option X) (P Q : X → Type 0) → ((p : X) → P p → Q p) → IfSome o P → IfSome o Q
if_some None P Q gives f = tt
if_some (Some p) P Q gives f = gives p f

pub if_none : {X : Type 0} (o : Option X) (P : Type 0) → (o ≡ None → P) → IfNone o P
if_none None P gives = gives refl
if_none (Some p) P gives = tt

-- the client that waits first
pub first-waiting : (es : List (ℕ × Command)) (ws : List Waiting) (e : ℕ × Command) → map waiting_of es ≡ ws → slice_get es 0 ≡ Some e → slice_get ws 0 ≡ Some (waiting_of e)
first-waiting es ws e is first = ap (λ (us : List Waiting). slice_get us 0) (sym is) ∙ slice_get-map waiting_of es 0 ∙ ap (option_map waiting_of) first

not_below : (a b least : ℕ) → IsLeBy nat_cmp a b → least ≤ a → least ≤ b
not_below a b least le l = grind (arith, nat_tests, le, l)

-- where the first slot is not executed, none is
pub none-due : (es : List (ℕ × Command)) (ws : List Waiting) (first least : ℕ) → map waiting_of es ≡ ws → All (IsLeBy nat_cmp first) (keys_of es) → least ≤ first
    → AllByRecursion (λ w. least ≤ w.slot) ws
unfolding waiting_of
none-due es ws first least is all below = subst (λ (us : List Waiting). AllByRecursion (λ w. least ≤ w.slot) us) is (each es all)
  where
    each : (es : List (ℕ × Command)) → All (IsLeBy nat_cmp first) (keys_of es) → AllByRecursion (λ w. least ≤ w.slot) (map waiting_of es)
    each [] all = tt
    each (e ∷ es) all = (not_below first e.0 least (all 0 0 (omega arith)) below, each es (λ j d l. all (suc j) d (omega (arith, l))))

-- the clients once the first one waits no more
pub popped : (es rest : List (ℕ × Command)) (ws : List Waiting) (e : ℕ × Command) → map waiting_of es ≡ ws → es ≡ e ∷ rest → ws ≡ waiting_of e ∷ map waiting_of rest
popped es rest ws e is removal = sym is ∙ ap (map waiting_of) removal

pub tail-is : (ws rest : List Waiting) (w : Waiting) → ws ≡ w ∷ rest → ws ≡ w ∷ drop 1 ws
tail-is ws rest w is = rw (is) refl

pub rest-is : (ws rest : List Waiting) (w : Waiting) → ws ≡ w ∷ rest → rest ≡ drop 1 ws
rest-is ws rest w is = rw (is) refl

one_some : {X : Type 0} (x y : X) → Some x ≡ Some y → x ≡ y
one_some x y e = cc

pub due-slot : (ws rest : List Waiting) (w first : Waiting) (count : ℕ) → ws ≡ first ∷ rest → slice_get ws 0 ≡ Some w → w.slot < count → first.slot < count
due-slot ws rest w first count is found below =
    subst (λ (u : Waiting). u.slot < count) (one_some w first (sym found ∙ ap (λ (us : List Waiting). slice_get us 0) is)) below
