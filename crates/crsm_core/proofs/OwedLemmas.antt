-- The acknowledgements sent in a step, one after another.
use Rattle.std.proofs.Common.{◌≡◌, ◌∙◌, ℕ, ◌+◌, ◌<◌, ◌≤◌, refl, ap, sym, subst, length, true, false, arith, List, [], ◌∷◌}
use Rattle.std.specs.Prelude.{nat_lt, Option, None, Some}
use Rattle.std.specs.List.{AllByRecursion}
use Rattle.std.specs.Option.{option_map_or}
use Rattle.crsm_base.specs.Spelling.{FitsStamp}
use Rattle.crsm_spec.specs.Types.{Stamp, InEpoch}
use Rattle.crsm_spec.specs.Choice.{when◌then◌otherwise◌}
use Rattle.crsm_spec.specs.Lists.{first_of}
use Rattle.crsm_spec.specs.Log.{active}
use Rattle.crsm_spec.specs.Replica.{members_of, other_members, last_issued, frames_to}
use Rattle.crsm_spec.specs.Draft.{Draft, would, issued_at, push_to, push_to_members, next_frame}
use Rattle.crsm_spec.specs.Frames.{pay, owing, pay_run, owed_oks}
use Rattle.crsm_replica.specs.declared.state.ReplicaState.{ReplicaState}
use Rattle.crsm_replica.specs.Replica.{ReplicaStands}
use Rattle.crsm_core.proofs.Fitting.{stands_as, is_lt, not_lt}

-- ---- the run does not depend on the pending acknowledgements

pay_owing : (s : Stamp) (t : ℕ) (ts : List Stamp) (x : Draft) → pay s t (owing ts x) ≡ owing ts (pay s t x)
unfolding pay owing push_to_members push_to issued_at other_members members_of next_frame frames_to
pay_owing s t ts x = refl

owing_same : (x : Draft) → owing x.replica.owed x ≡ x
unfolding owing
owing_same x = refl

chosen : (o : Option ℕ) (time : ℕ) (a b : ℕ → Draft) (c : Draft) → ((t : ℕ) → a t ≡ b t) →
    option_map_or (λ t. when nat_lt time t then a t otherwise c) o c ≡ option_map_or (λ t. when nat_lt time t then b t otherwise c) o c
chosen None time a b c h = refl
chosen (Some t) time a b c h = ap (λ d. when nat_lt time t then d otherwise c) (h t)

run_owing : (reading : ℕ) (ss ts : List Stamp) (x : Draft) → pay_run reading ss (owing ts x) ≡ pay_run reading ss x
unfolding pay_run owing would last_issued
run_owing reading [] ts x = refl
run_owing reading (s ∷ ss) ts x =
    chosen (would x reading) s.time (λ t. pay_run reading ss (pay s t (owing ts x))) (λ t. pay_run reading ss (pay s t x)) (owing (s ∷ ss) x)
    (λ t. ap (λ d. pay_run reading ss d) (pay_owing s t ts x) ∙ run_owing reading ss ts (pay s t x))

-- one payment
run_pays : (reading t : ℕ) (s : Stamp) (ss : List Stamp) (x : Draft) → would x reading ≡ Some t → s.time < t →
    pay_run reading (s ∷ ss) x ≡ pay_run reading ss (pay s t x)
unfolding pay_run when◌then◌otherwise◌
run_pays reading t s ss x w l = rw (w, is_lt s.time t l) refl

-- ---- where it stops

ends : (reading : ℕ) (x : Draft) → x.replica.owed ≡ [] → pay_run reading x.replica.owed x ≡ x
unfolding pay_run
ends reading x e = ap (λ ss. pay_run reading ss x) e ∙ ap (λ ss. owing ss x) (sym e) ∙ owing_same x

no_first : (ss : List Stamp) → None ≡ first_of ss → ss ≡ []
unfolding first_of
no_first [] h = refl
no_first (s ∷ ss) h = absurd (cc)

timeless : (reading : ℕ) (ss : List Stamp) (x : Draft) → would x reading ≡ None → pay_run reading ss x ≡ owing ss x
unfolding pay_run
timeless reading [] x w = refl
timeless reading (s ∷ ss) x w = rw w refl

early : (reading t : ℕ) (s : Stamp) (ss : List Stamp) (x : Draft) → would x reading ≡ Some t → t ≤ s.time → pay_run reading (s ∷ ss) x ≡ owing (s ∷ ss) x
unfolding pay_run when◌then◌otherwise◌
early reading t s ss x w l = rw (w, not_lt s.time t l) refl

has_first : (s : Stamp) (ss : List Stamp) → Some s ≡ first_of ss → (rest : List Stamp) × (ss ≡ s ∷ rest)
unfolding first_of
has_first s [] h = absurd (cc)
has_first s (r ∷ ss) h = (ss, cc)

-- ---- the loop

-- After these acknowledgements the state stands for a draft from which the run continues, and as many fewer are
-- pending.
pub record Paid (reading count : ℕ) (state : ReplicaState) (x : Draft) : Type 0 where
  pub left : Draft
  pub stands : ReplicaStands state left
  pub goes_on : pay_run reading left.replica.owed left ≡ pay_run reading x.replica.owed x
  pub fewer : length left.replica.owed + count ≡ length x.replica.owed

pub begins : (reading : ℕ) (state : ReplicaState) (x : Draft) → ReplicaStands state x → Paid reading 0 state x
begins reading state x s = record { left = x; stands = s; goes_on = refl; fewer = omega arith }

owed_kept : (s : Stamp) (t : ℕ) (x : Draft) → (pay s t x).replica.owed ≡ x.replica.owed
unfolding pay push_to_members push_to issued_at
owed_kept s t x = refl

owed_is : (ss : List Stamp) (x : Draft) → (owing ss x).replica.owed ≡ ss
unfolding owing
owed_is ss x = refl

-- one more is paid
pub pays : (reading count : ℕ) (state pushed paid : ReplicaState) (x : Draft) (p : Paid reading count state x) (s : Stamp) (t : ℕ) →
    Some s ≡ first_of p.left.replica.owed → Some t ≡ would p.left reading → s.time < t →
    ReplicaStands pushed (push_to_members (InEpoch.PrepareOk s t) (issued_at t p.left)) →
    ((y : Draft) (first : Stamp) (rest : List Stamp) → ReplicaStands pushed y → y.replica.owed ≡ first ∷ rest → ReplicaStands paid (owing rest y)) →
    Paid reading (count + 1) paid x
unfolding pay
pays reading count state pushed paid x p s t f w l stands pay_one =
    let first = has_first s p.left.replica.owed f in
    let rest : List Stamp = first.0 in
    let is : p.left.replica.owed ≡ s ∷ rest = first.1 in
    let y : Draft = pay s t p.left in
    let now : ReplicaStands paid (owing rest y) = pay_one y s rest stands (owed_kept s t p.left ∙ is) in
    let run : pay_run reading (owing rest y).replica.owed (owing rest y) ≡ pay_run reading p.left.replica.owed p.left =
    ap (λ ss. pay_run reading ss (owing rest y)) (owed_is rest y) ∙ run_owing reading rest rest y
    ∙ sym (run_pays reading t s rest p.left (sym w) l) ∙ ap (λ ss. pay_run reading ss p.left) (sym is) in
    let fewer : length (owing rest y).replica.owed + (count + 1) ≡ length x.replica.owed =
    omega (arith, ap (λ (ss : List Stamp). length ss) (owed_is rest y), ap (λ (ss : List Stamp). length ss) is, p.fewer) in
    record { left = owing rest y; stands = now; goes_on = run ∙ p.goes_on; fewer = fewer }

-- ---- the ends of the loop

pub not_active : (reading : ℕ) (state : ReplicaState) (x : Draft) → active x.replica.log ≡ false → ReplicaStands state x → ReplicaStands state (owed_oks reading x)
unfolding owed_oks when◌then◌otherwise◌
not_active reading state x a s = rw a s

run_of : (reading : ℕ) (x : Draft) → active x.replica.log ≡ true → pay_run reading x.replica.owed x ≡ owed_oks reading x
unfolding owed_oks when◌then◌otherwise◌
run_of reading x a = rw a refl

-- nothing more is paid
over : (reading count : ℕ) (state : ReplicaState) (x : Draft) (p : Paid reading count state x) → active x.replica.log ≡ true →
    pay_run reading p.left.replica.owed p.left ≡ p.left → ReplicaStands state (owed_oks reading x)
over reading count state x p a e = stands_as state p.left (owed_oks reading x) (sym e ∙ p.goes_on ∙ run_of reading x a) p.stands

pub none_owed : (reading count : ℕ) (state : ReplicaState) (x : Draft) (p : Paid reading count state x) → active x.replica.log ≡ true →
    None ≡ first_of p.left.replica.owed → ReplicaStands state (owed_oks reading x)
none_owed reading count state x p a h = over reading count state x p a (ends reading p.left (no_first p.left.replica.owed h))

pub no_time : (reading count : ℕ) (state : ReplicaState) (x : Draft) (p : Paid reading count state x) → active x.replica.log ≡ true →
    None ≡ would p.left reading → ReplicaStands state (owed_oks reading x)
no_time reading count state x p a w =
    over reading count state x p a (timeless reading p.left.replica.owed p.left (sym w) ∙ owing_same p.left)

pub not_due : (reading count t : ℕ) (state : ReplicaState) (x : Draft) (p : Paid reading count state x) (s : Stamp) → active x.replica.log ≡ true →
    Some s ≡ first_of p.left.replica.owed → Some t ≡ would p.left reading → t ≤ s.time → ReplicaStands state (owed_oks reading x)
not_due reading count t state x p s a f w l =
    let first = has_first s p.left.replica.owed f in
    let rest : List Stamp = first.0 in
    let is : p.left.replica.owed ≡ s ∷ rest = first.1 in
    over reading count state x p a
    (ap (λ ss. pay_run reading ss p.left) is ∙ early reading t s rest p.left (sym w) l ∙ ap (λ ss. owing ss p.left) (sym is) ∙ owing_same p.left)

empty : (ss : List Stamp) → length ss ≡ 0 → ss ≡ []
empty [] h = refl
empty (s ∷ ss) h = absurd (omega arith)

pub all_paid : (reading count : ℕ) (state : ReplicaState) (x : Draft) (p : Paid reading count state x) → active x.replica.log ≡ true →
    length x.replica.owed ≤ count → ReplicaStands state (owed_oks reading x)
all_paid reading count state x p a l =
    over reading count state x p a (ends reading p.left (empty p.left.replica.owed (omega (arith, p.fewer, l))))

-- the first of stamps that have encodings has one
pub first_fits : (s : Stamp) (ss : List Stamp) → AllByRecursion FitsStamp ss → Some s ≡ first_of ss → FitsStamp s
unfolding first_of
first_fits s [] all h = absurd (cc)
first_fits s (r ∷ ss) all h = let e : r ≡ s = cc in subst FitsStamp e all.0
