-- Processes over log files are processes over logs, which are short.
use Rattle.std.proofs.Common.{◌≡◌, ℕ, ◌≤◌, List, [], ◌∷◌, length, refl, sym, ◌∙◌, ap, subst, inl, inr, arith}
use Rattle.std.specs.Prelude.{◌^◌, Option, Some, None, slice_get}
use Rattle.std.specs.List.{flat_map}
use Rattle.std.specs.Option.{option_map_or}
use Rattle.std.proofs.lemmas.Bool.{cases_lt}
use Rattle.crsm_base.specs.Records.{SpeltBody}
use Rattle.crsm_spec.specs.Types.{Rec}
use Rattle.crsm_spec.specs.Lists.{Among, numbers_below}
use Rattle.crsm_spec.specs.Log.{Log}
use Rattle.crsm_spec_process.specs.Lives.{Life}
use Rattle.crsm_fact_log.specs.Logs.{with_records}
use Rattle.crsm_ledger.specs.Recovered.{AreKept}
use Rattle.crsm_law_cluster.specs.Clusters.{Event, Host, Cluster, empty_host, host_at, log_in, with_host, after, unborn}
use Rattle.crsm_law_cluster.specs.Histories.{last_from, last_cluster}
use Rattle.crsm_law_cluster.specs.HistoryLaws.{HasShortLogs}
use Rattle.crsm_law_cluster.specs.ClusterLaws.{IsHistory}
use Rattle.crsm_law_cluster.proofs.Lists.{set_length, range_length, below}
use Rattle.crsm_law_lives.specs.Events.{life_events, left_by, lives_of, events_of}
use Rattle.crsm_law_lives.specs.Premises.{FindWhatIsLeft, Ran}
use Rattle.crsm_law_lives.proofs.Hosts.{own_run, own_then, host_run}
use Rattle.crsm_law_lives.proofs.Processes.{life_left}
use Rattle.crsm_law_lives.proofs.Laws.{life_own, unborn_there, unborn_size, lives_are_lawful}
use Rattle.crsm_law_lives.proofs.Right.{steps_are_right}
use Rattle.crsm_law_processes.specs.Files.{LeavesBodies, FindBodies, RanOnFiles}
use Rattle.crsm_law_processes.specs.Laws.{ProcessesAreHistories, StepsOfProcessesAreRight}
use Rattle.crsm_law_processes.proofs.Bodies.{kept_after_all, kept_size}

abbrev pub BodiesHaveOne : Type 0
BodiesHaveOne = (a b : List Rec) (s : List ℕ) → SpeltBody a s → SpeltBody b s → a ≡ b

-- ---- logs in bodies

-- bodies hold one log
kept_once : BodiesHaveOne → (me n : ℕ) (log : Log) (bodies : List (List ℕ)) (a b : Log) → AreKept me n log bodies a → AreKept me n log bodies b → a ≡ b
kept_once one me n log [] a b p q = p ∙ sym q
kept_once one me n log (body ∷ bodies) a b p q =
    let same = one p.0 q.0 body p.1 q.1 in
    kept_once one me n (with_records log p.0) bodies a b p.3 (subst (λ (recs : List Rec). AreKept me n (with_records log recs) bodies b) (sym same) q.3)

-- ---- the processes of one node

short_left : (n : ℕ) (l : Life) (found left : List (List ℕ)) → LeavesBodies n l found left → length (left_by n l) ≤ 2 ^ 50
short_left n l found left h = let s = kept_size l.me n [] left (left_by n l) h.left_log in let m = h.small in omega (arith, s, m)

module _ (one : BodiesHaveOne) (n k : ℕ) where
  finds : (bodies : List (List ℕ)) (log : Log) (ls : List Life) → AreKept k n [] bodies log → ((l : Life) → Among ls l → l.me ≡ k) → FindBodies n bodies ls → FindWhatIsLeft n log ls
  finds bodies log [] p own h = tt
  finds bodies log (l ∷ ls) p own h =
      let me = own l (inl refl) in
      let o = h.1 in (
        kept_once one k n [] bodies l.found log (subst (λ i. AreKept i n [] bodies l.found) me o.found_log) p,
        h.2,
        finds h.0 (left_by n l) ls (subst (λ i. AreKept i n [] h.0 (left_by n l)) me o.left_log) (λ m a. own m (inr a)) h.3,
      )

  -- the log that they leave is short
  leave_short : (bodies : List (List ℕ)) (log : Log) (ls : List Life) → length log ≤ 2 ^ 50 → ((l : Life) → Among ls l → l.me ≡ k) → FindWhatIsLeft n log ls → FindBodies n bodies ls →
      length (own_run k n (flat_map life_events ls) (record { log = log; process = None })).log ≤ 2 ^ 50
  unfolding own_run
  leave_short bodies log [] le own w h = le
  leave_short bodies log (l ∷ ls) le own w h =
      let me = own l (inl refl) in
      let p : Host = record { log = log; process = None } in
      let short = short_left n l bodies h.0 h.1 in
      let q = own_run k n (life_events l) p in
      let run : q ≡ own_run l.me n (life_events l) (record { log = l.found; process = None }) =
      ap (λ z. own_run k n (life_events l) (record { log = z; process = None })) (sym w.0) ∙ ap (λ z. own_run z n (life_events l) (record { log = l.found; process = None })) (sym me) in
      let split = own_then k n (life_events l) (flat_map life_events ls) p in
      subst (λ (z : Host). length z.log ≤ 2 ^ 50) (sym split) (elim w.1 [
        | inl none ↦ subst (λ zs. length (own_run k n (flat_map life_events zs) q).log ≤ 2 ^ 50) (sym none) (subst (λ (l : Log). length l ≤ 2 ^ 50) (sym (ap (λ (z : Host). z.log) run ∙ (life_left n l).log_is)) short)
        | inr ended ↦ subst (λ z. length (own_run k n (flat_map life_events ls) z).log ≤ 2 ^ 50) (sym (run ∙ (life_left n l).gone ended)) (leave_short h.0 (left_by n l) ls short (λ m a. own m (inr a)) w.2 h.3)
      ])

-- ---- hosts that are not there

same_hosts : (c : Cluster) (e : Event) → length (after c e).hosts ≡ length c.hosts
unfolding after with_host
same_hosts c (Event.Boots j) = set_length c.hosts j _
same_hosts c (Event.Takes j t reading) = set_length c.hosts j _
same_hosts c (Event.Keeps j) = set_length c.hosts j _
same_hosts c (Event.Sends j) = set_length c.hosts j _
same_hosts c (Event.Fails j) = set_length c.hosts j _
same_hosts c (Event.Stops j) = set_length c.hosts j _

all_hosts : (es : List Event) (c : Cluster) → length (last_from c es).hosts ≡ length c.hosts
unfolding last_from
all_hosts [] c = refl
all_hosts (e ∷ es) c = all_hosts es (after c e) ∙ same_hosts c e

unborn_hosts : (n : ℕ) → length (unborn n).hosts ≡ 15
unfolding unborn numbers_below
unborn_hosts n = range_length (λ k. empty_host) 0 15

none_there : (c : Cluster) (k : ℕ) → length c.hosts ≤ k → length (log_in c k) ≤ 2 ^ 50
unfolding log_in host_at empty_host
none_there c k le = go (slice_get c.hosts k) refl
  where
    go : (o : Option Host) → slice_get c.hosts k ≡ o → length (option_map_or (λ (p : Host). p) o (record { log = []; process = None })).log ≤ 2 ^ 50
    go None e = omega arith
    go (Some p) e = absurd (let lt = below c.hosts k p e in omega (arith, lt, le))

-- ---- all nodes

module _ (one : BodiesHaveOne) (n : ℕ) (ls : List Life) (h : List Event) (r : RanOnFiles n ls h) where
  ran : Ran n ls h
  ran = record {
    are = r.are;
    processes = r.processes;
    disk = λ k. finds one n k [] [] (lives_of k ls) refl (λ l a. (life_own k ls l a).0) (r.files k);
    network = r.network;
  }

  short : HasShortLogs (last_cluster n h)
  unfolding last_cluster log_in
  short k = elim (cases_lt k 15) [
    | inl lt ↦ (let u = unborn_there n k lt in
        let is = host_run k h (unborn n) u.0 u.1 ∙ ap (λ m. own_run k m (events_of k h) (host_at (unborn n) k)) (unborn_size n) ∙ ap (own_run k n (events_of k h)) u.2
        ∙ ap (λ es. own_run k n es (record { log = []; process = None })) (r.are k) in
        subst (λ (p : Host). length p.log ≤ 2 ^ 50) (sym is) (leave_short one n k [] [] (lives_of k ls) (omega arith) (λ l a. (life_own k ls l a).0) (ran.disk k) (r.files k)))
    | inr ge ↦ none_there (last_from (unborn n) h) k (let a = all_hosts h (unborn n) in let b = unborn_hosts n in omega (arith, a, b, ge))
  ]

  is_history : n ≤ 15 → IsHistory n h
  is_history most = record { most = most; lawful = (lives_are_lawful n ls h most ran).lawful; short = short }

pub processes_are_histories : BodiesHaveOne → ProcessesAreHistories
processes_are_histories one = record { ran = λ n ls h r. ran one n ls h r; history = λ n ls h most r. is_history one n ls h r most; kept_after_all = kept_after_all }

pub steps_of_processes : ProcessesAreHistories → StepsOfProcessesAreRight
steps_of_processes all n ls h most r l a x m = steps_are_right n ls h most (all.ran n ls h r) (all.history n ls h most r).short l a x m
