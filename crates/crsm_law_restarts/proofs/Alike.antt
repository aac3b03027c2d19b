-- Processes that differ in the fates of what they handed out alone.
use Rattle.std.proofs.Common.{◌≡◌, ℕ, List, [], ◌∷◌, ◌++◌, refl, sym, ◌∙◌, ap, subst, inl, inr, Bool, cond}
use Rattle.std.specs.Prelude.{◌⊎◌, ◌==◌, ◌<◌, filter}
use Rattle.std.specs.List.{AllByRecursion, flat_map}
use Rattle.std.proofs.lemmas.Bool.{cases_eq, eq-eqb, ne_eqb}
use Rattle.crsm_spec.specs.Log.{Log}
use Rattle.crsm_spec.specs.Step.{boot}
use Rattle.crsm_spec.specs.Node.{Turn}
use Rattle.crsm_spec_process.specs.Lives.{Group, Life, kept_turns}
use Rattle.crsm_spec_process.specs.Turns.{CanBeTaken, replica_after}
use Rattle.crsm_ledger.specs.Recovered.{AreKept}
use Rattle.crsm_law_lives.specs.Events.{left_by, lives_of}
use Rattle.crsm_law_lives.specs.Premises.{IsProcess}
use Rattle.crsm_law_processes.specs.Files.{FindBodies, LeavesBodies}
use Rattle.crsm_node.specs.Serving.{turns_by_group}
use Rattle.crsm_law_restarts.specs.Processes.{AreAlike, IsAlike}

abbrev joined : List (List (Turn × ℕ)) → List (Turn × ℕ)
joined turns = flat_map (λ (ts : List (Turn × ℕ)). ts) turns

by_group : (gs : List Group) → kept_turns gs ≡ joined (turns_by_group gs)
unfolding kept_turns
by_group [] = refl
by_group (g ∷ gs) = ap (λ (ts : List (Turn × ℕ)). g.turns ++ ts) (by_group gs)

pub same_turns : (l m : Life) → IsAlike l m → kept_turns m.groups ≡ kept_turns l.groups
same_turns l m a = by_group m.groups ∙ ap joined a.turns ∙ sym (by_group l.groups)

pub same_left : (n : ℕ) (l m : Life) → IsAlike l m → left_by n m ≡ left_by n l
unfolding left_by
same_left n l m a =
    ap (λ (ts : List (Turn × ℕ)). (replica_after (boot m.me n m.found).replica ts).log) (same_turns l m a)
    ∙ ap (λ (k : ℕ). (replica_after (boot k n m.found).replica (kept_turns l.groups)).log) a.me
    ∙ ap (λ (f : Log). (replica_after (boot l.me n f).replica (kept_turns l.groups)).log) a.found

same_bodies : (n : ℕ) (l m : Life) (found left : List (List ℕ)) → IsAlike l m → LeavesBodies n l found left → LeavesBodies n m found left
same_bodies n l m found left a h = record {
  found_log = subst (λ (k : ℕ). AreKept k n [] found m.found) (sym a.me) (subst (λ (f : Log). AreKept l.me n [] found f) (sym a.found) h.found_log);
  left_log = subst (λ (k : ℕ). AreKept k n [] left (left_by n m)) (sym a.me) (subst (λ (f : Log). AreKept l.me n [] left f) (sym (same_left n l m a)) h.left_log);
  small = h.small;
}

rest_none : (ls ms : List Life) → AreAlike ls ms → ls ≡ [] → ms ≡ []
rest_none [] [] a e = refl
rest_none [] (m ∷ ms) a e = absurd a
rest_none (l ∷ ls) ms a e = absurd (cc)

pub find_same : (n : ℕ) (bodies : List (List ℕ)) (ls ms : List Life) → AreAlike ls ms → FindBodies n bodies ls → FindBodies n bodies ms
find_same n bodies [] [] a h = tt
find_same n bodies [] (m ∷ ms) a h = absurd a
find_same n bodies (l ∷ ls) [] a h = absurd a
find_same n bodies (l ∷ ls) (m ∷ ms) a h = (
  h.0,
  same_bodies n l m bodies h.0 a.0 h.1,
  elim h.2 [ inl none ↦ inl (rest_none ls ms a.1 none) | inr ended ↦ inr (a.0.ended ∙ ended) ],
  find_same n h.0 ls ms a.1 h.3,
)

pub processes_same : (ls ms : List Life) → AreAlike ls ms → AllByRecursion IsProcess ls → AllByRecursion IsProcess ms
processes_same [] [] a h = tt
processes_same [] (m ∷ ms) a h = absurd a
processes_same (l ∷ ls) [] a h = absurd a
processes_same (l ∷ ls) (m ∷ ms) a h = (
  record {
    number = subst (λ (k : ℕ). k < 15) (sym a.0.me) h.0.number;
    turns = subst (λ (ts : List (Turn × ℕ)). AllByRecursion CanBeTaken (ts ++ m.lost)) (sym (same_turns l m a.0))
        (subst (λ (ts : List (Turn × ℕ)). AllByRecursion CanBeTaken (kept_turns l.groups ++ ts)) (sym a.0.lost) h.0.turns);
  },
  processes_same ls ms a.1 h.1,
)

pub own_same : (k : ℕ) (ls ms : List Life) → AreAlike ls ms → AreAlike (lives_of k ls) (lives_of k ms)
unfolding lives_of
own_same k [] [] a = tt
own_same k [] (m ∷ ms) a = absurd a
own_same k (l ∷ ls) [] a = absurd a
own_same k (l ∷ ls) (m ∷ ms) a = go (own_same k ls ms a.1) (cases_eq l.me k)
  where
    own : List Life → List Life
    own xs = filter (λ (x : Life). x.me == k) xs

    go : AreAlike (own ls) (own ms) → ((l.me ≡ k) ⊎ (l.me ≡ k → ⊥)) → AreAlike (cond (l.me == k) (l ∷ own ls) (own ls)) (cond (m.me == k) (m ∷ own ms) (own ms))
    go rest (inl is) =
        subst (λ (b : Bool). AreAlike (cond b (l ∷ own ls) (own ls)) (cond (m.me == k) (m ∷ own ms) (own ms))) (sym (eq-eqb l.me k is))
        (subst (λ (b : Bool). AreAlike (l ∷ own ls) (cond b (m ∷ own ms) (own ms))) (sym (eq-eqb m.me k (a.0.me ∙ is))) (a.0, rest))
    go rest (inr other) =
        subst (λ (b : Bool). AreAlike (cond b (l ∷ own ls) (own ls)) (cond (m.me == k) (m ∷ own ms) (own ms))) (sym (ne_eqb l.me k other))
        (subst (λ (b : Bool). AreAlike (own ls) (cond b (m ∷ own ms) (own ms))) (sym (ne_eqb m.me k (λ is. other (sym a.0.me ∙ is)))) rest)
