-- The commits of a step, one entry after another.
use Rattle.std.proofs.Common.{◌≡◌, ◌∙◌, ℕ, ◌+◌, ◌≤◌, refl, ap, sym, length, Bool, true, false, arith, List, [], ◌∷◌, cond}
use Rattle.std.specs.Prelude.{◌&&◌, None, Some}
use Rattle.std.proofs.lemmas.Bool.{and_parts}
use Rattle.crsm_spec.specs.Types.{Stamp, Entry, Rec}
use Rattle.crsm_spec.specs.Choice.{when◌then◌otherwise◌}
use Rattle.crsm_spec.specs.Log.{Log, active, live, suspended, unexecuted}
use Rattle.crsm_spec.specs.Fits.{fits}
use Rattle.crsm_spec.specs.Replica.{Replica, members_of, spec_of}
use Rattle.crsm_spec.specs.Ready.{is_ready, is_next, is_replicated, is_stable, all_received}
use Rattle.crsm_spec.specs.Draft.{Draft, keep}
use Rattle.crsm_spec.specs.Clients.{commit_run, commits}
use Rattle.crsm_spec.specs.Step.{if_fitting}
use Rattle.crsm_replica.specs.declared.state.ReplicaState.{ReplicaState}
use Rattle.crsm_replica.specs.Sound.{IsSound}
use Rattle.crsm_replica.specs.Replica.{ReplicaStands}
use Rattle.crsm_replica_epoch.specs.First.{ready_of, ready_first}
use Rattle.crsm_core.proofs.Fitting.{stands_as, if_fits}

-- ---- what is ready

-- the first of the unexecuted entries is ready, and this is its stamp
pub record IsFirst (r : Replica) (s : Stamp) (es : List Entry) : Type 0 where
  pub entry : Entry
  pub rest : List Entry
  pub there : es ≡ entry ∷ rest
  pub stamp : entry.stamp ≡ s
  pub ready : is_ready r s ≡ true

first_ready : (r : Replica) (s : Stamp) (es : List Entry) → Some s ≡ ready_first r es → IsFirst r s es
unfolding ready_first
first_ready r s [] h = absurd (cc)
first_ready r s (e ∷ es) h = go (is_ready r e.stamp) refl h
  where
    go : (b : Bool) → is_ready r e.stamp ≡ b → Some s ≡ cond b (Some e.stamp) None → IsFirst r s (e ∷ es)
    go true q h =
        let same : e.stamp ≡ s = cc in
        record { entry = e; rest = es; there = refl; stamp = same; ready = ap (λ t. is_ready r t) (sym same) ∙ q }
    go false q h = absurd (cc)

not_ready : (x : Draft) (es : List Entry) → None ≡ ready_first x.replica es → commit_run es x ≡ x
unfolding ready_first commit_run when◌then◌otherwise◌
not_ready x [] h = refl
not_ready x (e ∷ es) h = go (is_ready x.replica e.stamp) refl h
  where
    go : (b : Bool) → is_ready x.replica e.stamp ≡ b → None ≡ cond b (Some e.stamp) None → (when is_ready x.replica e.stamp then commit_run es (keep (Rec.Commit e.stamp) x) otherwise x) ≡ x
    go true q h = absurd (cc)
    go false q h = rw q refl

-- ---- one commit

next_is : (r : Replica) (s : Stamp) → is_ready r s ≡ true → is_next (unexecuted r.log) s ≡ true
unfolding is_ready
next_is r s h =
    (and_parts (is_replicated (spec_of r) r.votes s && is_stable (members_of r) (all_received r) s) (is_next (unexecuted r.log) s) h).1

commit_fits : (x : Draft) (s : Stamp) → x.fitting ≡ true → active x.replica.log ≡ true → is_ready x.replica s ≡ true → (keep (Rec.Commit s) x).fitting ≡ true
unfolding keep fits is_next
commit_fits x s f a q = rw (f, a) (next_is x.replica s q)

runs_on : (s : Stamp) (log : Log) → active (Rec.Commit s ∷ log) ≡ active log
unfolding active live suspended
runs_on s log = refl

log_is : (rec : Rec) (x : Draft) → (keep rec x).replica.log ≡ rec ∷ x.replica.log
unfolding keep
log_is rec x = refl

run_commits : (x : Draft) (e : Entry) (es : List Entry) → is_ready x.replica e.stamp ≡ true → commit_run (e ∷ es) x ≡ commit_run es (keep (Rec.Commit e.stamp) x)
unfolding commit_run when◌then◌otherwise◌
run_commits x e es q = rw q refl

-- ---- the loop

-- After these commits the state stands for a draft from which the run continues, and as many entries fewer are
-- unexecuted.
pub record Committed (count : ℕ) (state : ReplicaState) (x : Draft) : Type 0 where
  pub left : Draft
  pub stands : ReplicaStands state left
  pub runs : active left.replica.log ≡ true
  pub goes_on : commit_run (unexecuted left.replica.log) left ≡ commit_run (unexecuted x.replica.log) x
  pub fewer : length (unexecuted left.replica.log) + count ≡ length (unexecuted x.replica.log)

pub begins : (state : ReplicaState) (x : Draft) → active x.replica.log ≡ true → ReplicaStands state x → Committed 0 state x
begins state x a s = record { left = x; stands = s; runs = a; goes_on = refl; fewer = omega arith }

abbrev GoesOn : Type 0
GoesOn = (state : ReplicaState) (x : Draft) (e : Entry) (es : List Entry) → ReplicaStands state x → unexecuted x.replica.log ≡ e ∷ es →
    unexecuted (Rec.Commit e.stamp ∷ x.replica.log) ≡ es

-- one more is committed
pub commit_one : (count : ℕ) (state kept : ReplicaState) (x : Draft) (p : Committed count state x) (s : Stamp) → GoesOn → IsSound p.left →
    Some s ≡ ready_of p.left.replica → ReplicaStands kept (if_fitting p.left (keep (Rec.Commit s) p.left)) → Committed (count + 1) kept x
unfolding ready_of
commit_one count state kept x p s go_on sound ready stands =
    let y : Draft = p.left in
    let first = first_ready y.replica s (unexecuted y.replica.log) ready in
    let z : Draft = keep (Rec.Commit s) y in
    let fitting : z.fitting ≡ true = commit_fits y s sound.fitting p.runs first.ready in
    let now : ReplicaStands kept z = stands_as kept (if_fitting y z) z (if_fits y z fitting) stands in
    let log : z.replica.log ≡ Rec.Commit s ∷ y.replica.log = log_is (Rec.Commit s) y in
    let same : Rec.Commit first.entry.stamp ≡ Rec.Commit s = ap (λ (t : Stamp). Rec.Commit t) first.stamp in
    let rest : unexecuted z.replica.log ≡ first.rest =
    ap unexecuted log ∙ ap (λ (rec : Rec). unexecuted (rec ∷ y.replica.log)) (sym same) ∙ go_on state y first.entry first.rest p.stands first.there in
    let run : commit_run (unexecuted z.replica.log) z ≡ commit_run (unexecuted y.replica.log) y =
    ap (λ es. commit_run es z) rest ∙ ap (λ (rec : Rec). commit_run first.rest (keep rec y)) (sym same)
    ∙ sym (run_commits y first.entry first.rest (ap (λ t. is_ready y.replica t) first.stamp ∙ first.ready))
    ∙ ap (λ es. commit_run es y) (sym first.there) in
    let fewer : length (unexecuted z.replica.log) + (count + 1) ≡ length (unexecuted x.replica.log) =
    omega (arith, ap (λ (es : List Entry). length es) rest, ap (λ (es : List Entry). length es) first.there, p.fewer) in
    record { left = z; stands = now; runs = ap active log ∙ runs_on s y.replica.log ∙ p.runs; goes_on = run ∙ p.goes_on; fewer = fewer }

-- ---- the ends of the loop

pub not_active : (state : ReplicaState) (x : Draft) → active x.replica.log ≡ false → ReplicaStands state x → ReplicaStands state (commits x)
unfolding commits when◌then◌otherwise◌
not_active state x a s = rw a s

run_of : (x : Draft) → active x.replica.log ≡ true → commit_run (unexecuted x.replica.log) x ≡ commits x
unfolding commits when◌then◌otherwise◌
run_of x a = rw a refl

over : (count : ℕ) (state : ReplicaState) (x : Draft) (p : Committed count state x) → active x.replica.log ≡ true →
    commit_run (unexecuted p.left.replica.log) p.left ≡ p.left → ReplicaStands state (commits x)
over count state x p a e = stands_as state p.left (commits x) (sym e ∙ p.goes_on ∙ run_of x a) p.stands

pub none_ready : (count : ℕ) (state : ReplicaState) (x : Draft) (p : Committed count state x) → active x.replica.log ≡ true →
    None ≡ ready_of p.left.replica → ReplicaStands state (commits x)
unfolding ready_of
none_ready count state x p a h = over count state x p a (not_ready p.left (unexecuted p.left.replica.log) h)

-- nothing is ready before the first
pub none_at_first : (state : ReplicaState) (x : Draft) → active x.replica.log ≡ true → ReplicaStands state x → None ≡ ready_of x.replica → ReplicaStands state (commits x)
none_at_first state x a s h = none_ready 0 state x (record { left = x; stands = s; runs = a; goes_on = refl; fewer = omega arith }) a h

empty : (es : List Entry) → length es ≡ 0 → es ≡ []
empty [] h = refl
empty (e ∷ es) h = absurd (omega arith)

run_of_none : (x : Draft) → commit_run [] x ≡ x
unfolding commit_run
run_of_none x = refl

pub all_committed : (count : ℕ) (state : ReplicaState) (x : Draft) (p : Committed count state x) → active x.replica.log ≡ true →
    length (unexecuted x.replica.log) ≤ count → ReplicaStands state (commits x)
all_committed count state x p a l =
    over count state x p a (ap (λ es. commit_run es p.left) (empty (unexecuted p.left.replica.log) (omega (arith, p.fewer, l))) ∙ run_of_none p.left)
