-- The runs of all nodes.
use Rattle.std.proofs.Common.{◌≡◌, ℕ, zero, suc, ◌<◌, ◌≤◌, List, [], ◌∷◌, ◌++◌, refl, sym, ◌∙◌, ap, subst, inl, inr, Bool, cond, arith}
use Rattle.std.specs.Prelude.{◌⊎◌, ◌==◌, filter}
use Rattle.std.specs.List.{AllByRecursion}
use Rattle.std.proofs.lemmas.Bool.{cases_eq, cases_lt, eq-eqb, ne_eqb}
use Rattle.std.proofs.lemmas.List.{append-nil}
use Rattle.std.proofs.lemmas.List.Elements.{filter-append}
use Rattle.crsm_spec_process.specs.Lives.{Life}
use Rattle.crsm_law_cluster.specs.Clusters.{Event}
use Rattle.crsm_law_lives.specs.Events.{AreEventsOf, lives_of}
use Rattle.crsm_law_lives.specs.Premises.{IsProcess, NobodyForges}
use Rattle.crsm_law_lives.specs.Sending.{HasFates}
use Rattle.crsm_law_processes.specs.Files.{FilesKeep, FindBodies, RanOnFiles}
use Rattle.crsm_law_processes.specs.Laws.{ProcessesAreHistories, StepsOfProcessesAreRight}
use Rattle.crsm_node.specs.Running.{Devices}
use Rattle.crsm_law_restarts.specs.Runs.{Run}
use Rattle.crsm_law_restarts.specs.Processes.{AreAlike, Were}
use Rattle.crsm_law_restarts.specs.Laws.{MakeHistories, RunsMakeHistories}
use Rattle.crsm_law_restarts.proofs.Alike.{find_same, own_same, processes_same}
use Rattle.crsm_law_restarts.proofs.Chains.{HasLives, have_lives}

-- ---- processes of several nodes

abbrev IsOf : ℕ → Life → Type 0
IsOf k l = l.me ≡ k

all_own : (k : ℕ) (ls : List Life) → AllByRecursion (IsOf k) ls → lives_of k ls ≡ ls
unfolding lives_of
all_own k [] mine = refl
all_own k (l ∷ ls) mine =
    ap (λ (b : Bool). cond b (l ∷ filter (λ (x : Life). x.me == k) ls) (filter (λ (x : Life). x.me == k) ls)) (eq-eqb l.me k mine.0) ∙ ap (λ (xs : List Life). l ∷ xs) (all_own k ls mine.1)

none_own : (k j : ℕ) (ls : List Life) → (j ≡ k → ⊥) → AllByRecursion (IsOf j) ls → lives_of k ls ≡ []
unfolding lives_of
none_own k j [] other his = refl
none_own k j (l ∷ ls) other his =
    ap (λ (b : Bool). cond b (l ∷ filter (λ (x : Life). x.me == k) ls) (filter (λ (x : Life). x.me == k) ls)) (ne_eqb l.me k (λ is. other (sym his.0 ∙ is))) ∙ none_own k j ls other his.1

own_both : (k : ℕ) (ls ms : List Life) → lives_of k (ls ++ ms) ≡ lives_of k ls ++ lives_of k ms
unfolding lives_of
own_both k ls ms = filter-append (λ (x : Life). x.me == k) ls ms

all_both : {A : Type 0} (P : A → Type 0) (xs ys : List A) → AllByRecursion P xs → AllByRecursion P ys → AllByRecursion P (xs ++ ys)
all_both P [] ys p q = q
all_both P (x ∷ xs) ys p q = (p.0, all_both P xs ys p.1 q)

module _ {S : Type 0} (at : S → Devices) (n : ℕ) (runs : ℕ → List (Run S)) (each : (k : ℕ) → k < 15 → HasLives at n k (runs k)) where
  chosen : (k : ℕ) → ((k < 15) ⊎ (15 ≤ k)) → List Life
  chosen k (inl lt) = (each k lt).ls
  chosen k (inr ge) = []

  -- the processes of a node, none of a number that there is not
  of_node : ℕ → List Life
  of_node k = chosen k (cases_lt k 15)

  of_any : (k : ℕ) (P : List Life → Type 0) → ((lt : k < 15) → P (each k lt).ls) → (15 ≤ k → P []) → P (of_node k)
  unfolding of_node chosen
  of_any k P some none = go (cases_lt k 15)
    where
      go : (c : (k < 15) ⊎ (15 ≤ k)) → P (chosen k c)
      go (inl lt) = some lt
      go (inr ge) = none ge

  mine : (k : ℕ) → AllByRecursion (IsOf k) (of_node k)
  mine k = of_any k (AllByRecursion (IsOf k)) (λ lt. (each k lt).mine) (λ _. tt)

  -- of all nodes below a number
  below : ℕ → List Life
  below zero = []
  below (suc k) = below k ++ of_node k

  all_below : (P : Life → Type 0) → ((k : ℕ) → AllByRecursion P (of_node k)) → (m : ℕ) → AllByRecursion P (below m)
  unfolding below
  all_below P all zero = tt
  all_below P all (suc m) = all_both P (below m) (of_node m) (all_below P all m) (all m)

  none_above : (k m : ℕ) → m ≤ k → lives_of k (below m) ≡ []
  unfolding below
  none_above k zero le = all_own k [] tt
  none_above k (suc m) le =
      own_both k (below m) (of_node m) ∙ ap (λ (xs : List Life). xs ++ lives_of k (of_node m)) (none_above k m (omega (arith, le)))
      ∙ none_own k m (of_node m) (λ is. omega (arith, le, is)) (mine m)

  own_below : (k m : ℕ) → k < m → lives_of k (below m) ≡ of_node k
  unfolding below
  own_below k zero lt = absurd (omega (arith, lt))
  own_below k (suc m) lt = own_both k (below m) (of_node m) ∙ (elim (cases_eq m k) [
    | inl is ↦ ap (λ (xs : List Life). xs ++ lives_of k (of_node m)) (none_above k m (omega (arith, is))) ∙ ap (λ (j : ℕ). lives_of k (of_node j)) is ∙ all_own k (of_node k) (mine k)
    | inr other ↦ ap (λ (xs : List Life). xs ++ lives_of k (of_node m)) (own_below k m (not_last k m lt other))
        ∙ ap (λ (xs : List Life). of_node k ++ xs) (none_own k m (of_node m) other (mine m)) ∙ append-nil (of_node k)
  ])
    where
      not_last : (k m : ℕ) → k < suc m → (m ≡ k → ⊥) → k < m
      not_last k m lt other = elim (cases_lt k m) [ inl less ↦ less | inr ge ↦ absurd (other (omega (arith, lt, ge))) ]

  all_lives : List Life
  all_lives = below 15

  finds : FilesKeep n all_lives
  unfolding all_lives
  finds k = elim (cases_lt k 15) [
    | inl lt ↦ subst (FindBodies n []) (sym (own_below k 15 lt)) (of_any k (FindBodies n []) (λ less. (each k less).finds) (λ _. tt))
    | inr ge ↦ subst (FindBodies n []) (sym (none_above k 15 ge)) tt
  ]

  ran_on_files : (ms : List Life) (h : List Event) → AreAlike all_lives ms → AreEventsOf ms h → NobodyForges n h → RanOnFiles n ms h
  unfolding all_lives
  ran_on_files ms h alike are network = record {
    are = are;
    processes = processes_same all_lives ms alike (all_below IsProcess (λ k. of_any k (AllByRecursion IsProcess) (λ lt. (each k lt).processes) (λ _. tt)) 15);
    files = λ k. find_same n [] (lives_of k all_lives) (lives_of k ms) (own_same k all_lives ms alike) (finds k);
    network = network;
  }

  pub make_histories : n ≤ 15 → ProcessesAreHistories → StepsOfProcessesAreRight → MakeHistories at n runs
  unfolding all_lives
  make_histories most histories steps = record {
    ls = all_lives;
    were = λ k lt. subst (Were at (runs k)) (sym (own_below k 15 lt)) (of_any k (Were at (runs k)) (λ less. (each k less).were) (λ ge. absurd (omega (arith, lt, ge))));
    fates = all_below (HasFates n) (λ k. of_any k (AllByRecursion (HasFates n)) (λ lt. (each k lt).fates) (λ _. tt)) 15;
    lawful = λ ms h alike are network.
        let ran = ran_on_files ms h alike are network in
        record { ran = ran; history = histories.history n ms h most ran; right = λ l a x step. steps n ms h most ran l a x step };
  }

pub runs_make_histories : {S : Type 0} (at : S → Devices) → ProcessesAreHistories → StepsOfProcessesAreRight → RunsMakeHistories at
runs_make_histories at histories steps n runs most are = make_histories at n runs (λ k lt. have_lives at n k lt most (runs k) (are k lt)) most histories steps
