-- What was executed is durable.
use Rattle.std.proofs.Common.{◌≡◌, ℕ, zero, suc, ◌+◌, ◌-◌, ◌<◌, ◌≤◌, List, ◌∷◌, ◌++◌, length, take, refl, sym, ◌∙◌, ap, subst, inl, inr, Bool, arith}
use Rattle.std.specs.Prelude.{◌⊎◌, IsTrue, Some, slice_get, filter, count_by}
use Rattle.std.proofs.lemmas.Bool.{cases_lt, leb-true}
use Rattle.std.proofs.lemmas.Option.{same_Some}
use Rattle.crsm_spec.specs.Types.{Ballot, Entry, Decision, Rec}
use Rattle.crsm_spec.specs.Lists.{Among, has}
use Rattle.crsm_spec.specs.Log.{Log, known, spec, executed}
use Rattle.crsm_spec.specs.Paxos.{majority, IsMajority}
use Rattle.crsm_spec.specs.Quorum.{has_majority}
use Rattle.crsm_spec.specs.World.{World, begin, log_at}
use Rattle.crsm_spec.specs.Acts.{Act}
use Rattle.crsm_spec.specs.Run.{ArePossible, all_worlds, last_world, the_list}
use Rattle.crsm_spec.specs.Decided.{decisions_in, all_decisions, spec_at, HasAccepted, IsChosenAfter, start_of}
use Rattle.crsm_spec.specs.Durable.{HoldsEntry, KeepsEntry, IsKeptBy, GoesOnIn, IsDurable}
use Rattle.crsm_fact_log.specs.Logs.{Extends, same, more}
use Rattle.crsm_law_steps.proofs.Happen.{got_among}
use Rattle.crsm_fact_log.proofs.Logged.{extends_trans, logged_is}
use Rattle.crsm_law_collection.specs.Collecting.{CommitOf}
use Rattle.crsm_fact_log.proofs.Lists.{has_from, get_some, kept_from, get_left, get_inside}
use Rattle.crsm_law_epoch.specs.Numbers.{Distinct}
use Rattle.crsm_law_epoch.proofs.CommitLogs.{unexecuted_logged}
use Rattle.crsm_law_epoch.proofs.LogWorlds.{logs_fit}
use Rattle.crsm_law_agreement.proofs.Choice.{contains_among}
use Rattle.crsm_law_agreement.proofs.Coordinators.{extends_among}
use Rattle.crsm_law_agreement.proofs.DecidedWorlds.{ballots_hold}
use Rattle.crsm_law_agreement.proofs.DecidedLogs.{known_decide}
use Rattle.crsm_law_agreement.specs.Openings.{IsOpening, IsEpochOf, EpochHolds}
use Rattle.crsm_law_agreement.proofs.Agree.{holder, has_base, epoch_before, epoch_holds, known_epoch, one_opening, same_entries}
use Rattle.crsm_law_agreement.proofs.Lists.{get_right, take_get, taken_length}
use Rattle.crsm_law_agreement.proofs.Logs.{stands_on, start_decide}
use Rattle.crsm_law_runs.specs.Runs.{IsOnTheWay}
use Rattle.crsm_law_runs.proofs.RunLists.{of_each, each_of}
use Rattle.crsm_law_runs.proofs.Runs.{on_the_way, is_the_list}
use Rattle.crsm_law_runs.specs.Last.{IsLast, IsBefore, start_in, GoesOnWith, IsDurableIn, DecisionsAgreeIn}
use Rattle.crsm_law_runs.proofs.Last.{end_before, last_of_run}
use Rattle.crsm_law_runs.specs.DurableLaws.{DecisionsAreChosen, ExecutedAreDurable}
use Rattle.crsm_law_runs.proofs.DurableLists.{prefix_get}
use Rattle.crsm_law_runs.proofs.Decisions.{decided_in, base_within}
use Rattle.crsm_law_runs.proofs.Specs.{passing, distinct_spec, spec_is, in_world}
use Rattle.crsm_law_runs.proofs.Keeping.{executed_kept}
use Rattle.crsm_law_runs.proofs.Worlds.{executed_longer}
use Rattle.std.specs.List.{AllByRecursion}

many_of : (counted ks : List ℕ) → IsTrue (has_majority counted ks) → majority (length counted) ≤ count_by (has ks) counted
unfolding has_majority
many_of counted ks h = leb-true (majority (length counted)) (count_by (has ks) counted) h

-- those who pass the test keep the entry, and are a majority
kept_by : (w : World) (counted : List ℕ) (x : Entry) (test : ℕ → Bool) → Distinct counted → majority (length counted) ≤ count_by test counted → ((k : ℕ) → IsTrue (test k) → KeepsEntry w x k) → IsKeptBy w counted x
kept_by w counted x test d many keeps = (
  filter test counted,
  passing counted test d many,
  of_each (KeepsEntry w x) (filter test counted) (λ k a. keeps k (kept_from test counted k a).1),
)

-- d was chosen after epoch e by a majority of these
pub record IsChosenIn (counted : List ℕ) (w : World) (e : ℕ) (d : Decision) : Type 0 where
  pub ballot : Ballot
  pub voters : List ℕ
  pub majority : IsMajority counted voters
  pub accepted : AllByRecursion (HasAccepted w e ballot d) voters

-- those who pass the test have accepted it, and are a majority
chosen_by : (w : World) (counted : List ℕ) (e : ℕ) (d : Decision) (b : Ballot) (test : ℕ → Bool) → Distinct counted → majority (length counted) ≤ count_by test counted → ((k : ℕ) → IsTrue (test k) → HasAccepted w e b d k) →
    IsChosenIn counted w e d
chosen_by w counted e d b test distinct many has = record {
  ballot = b;
  voters = filter test counted;
  majority = passing counted test distinct many;
  accepted = of_each (HasAccepted w e b d) (filter test counted) (λ k a. has k (kept_from test counted k a).1);
}

module _ (n : ℕ) (end : World) (list : List Entry) (last : IsLast n end list) (w : World) (on : IsBefore n end w) where
  -- the Spec of a log is that of its epoch in the run
  spec_here : (e k : ℕ) (log : Log) → Extends log (log_at w k) → known log ≡ e → spec n log ≡ spec_at end e
  spec_here e k log x kn = spec_is n end list last e k log (extends_trans x (on.goes_on k)) kn

  distinct_here : (e k : ℕ) (log : Log) → Extends log (log_at w k) → known log ≡ e → Distinct (spec n log)
  distinct_here = distinct_spec n w on.reached on.spelt.few on.spelt.messages

  holds : (e : ℕ) → IsEpochOf e (log_at w) → EpochHolds n e (log_at w)
  holds = epoch_holds n w on.reached on.spelt.few on.spelt.messages

  -- a decision that is kept was chosen, by replicas that hold its base
  pub chosen_here : (e j : ℕ) (d : Decision) → Among (log_at w j) (Rec.Decide d) → d.epoch ≡ e + 1 → IsChosenIn (spec_at end e) w e d
  chosen_here e j d a at =
      let c = (ballots_hold n w on.reached on.spelt.few on.spelt.messages).decided j d a in
      let kn = known_at (known c.log) c.next in
      subst (λ l. IsChosenIn l w e d) (spec_here e c.by c.log c.earlier kn)
      (chosen_by w (spec n c.log) e d c.ballot (has c.voters) (distinct_here e c.by c.log c.earlier kn) (many_of (spec n c.log) c.voters c.many)
      (λ k t. accepted_at k c.ballot (c.accepted k (has_from c.voters k t))))
    where
      known_at : (k : ℕ) → d.epoch ≡ k + 1 → k ≡ e
      known_at k h = omega (arith, h, at)

      accepted_at : (k : ℕ) (b : Ballot) → Among (log_at w k) (Rec.Accept d.epoch b d) → HasAccepted w e b d k
      accepted_at k b v =
          let t = has_base k n e (log_at w k) d.epoch b d (logs_fit n w on.reached on.spelt.few k) v at in
          let l = t.long in
          let m = executed_longer t.old (log_at w k) t.earlier in
          record {
            kept = contains_among (log_at w k) (Rec.Accept (e + 1) b d) (subst (λ i. Among (log_at w k) (Rec.Accept i b d)) at v);
            base = omega (arith, l, m);
          }

  module _ (x : Entry) where
    keeps : (k : ℕ) (rec : Rec) → Among (log_at w k) rec → HoldsEntry x rec → KeepsEntry w x k
    keeps k rec a h = (rec, contains_among (log_at w k) rec a, h)

    -- what was committed in an epoch is kept by a majority of its Spec
    committed_kept : (e : ℕ) → EpochHolds n e (log_at w) → (place : ℕ) → CommitOf e (log_at w) place x → IsKeptBy w (spec_at end e) x
    committed_kept e h place c =
        let was = extends_trans (more (Rec.Commit x.stamp) same) c.kept in
        let r = h.facts.replicated place x c in
        let counted = h.specs c.by c.log was c.epoch in
        subst (λ l. IsKeptBy w l x) (sym counted ∙ spec_here e c.by c.log was c.epoch)
        (kept_by w h.counted x r.0 (subst Distinct counted (distinct_here e c.by c.log was c.epoch)) r.1
        (λ k t. keeps k (Rec.Prepare x) (logged_is e (log_at w k) x (r.2 k t)).0 refl))

    -- what each of those who accepted a decision keeps is kept by a majority of the Spec before it
    chosen_kept : (e j : ℕ) (d : Decision) → Among (log_at w j) (Rec.Decide d) → d.epoch ≡ e + 1 → ((k : ℕ) (b : Ballot) → Among (log_at w k) (Rec.Accept d.epoch b d) → KeepsEntry w x k) → IsKeptBy w (spec_at end e) x
    chosen_kept e j d a at each =
        let c = (ballots_hold n w on.reached on.spelt.few on.spelt.messages).decided j d a in
        let kn = known_at (known c.log) c.next in
        subst (λ l. IsKeptBy w l x) (spec_here e c.by c.log c.earlier kn)
        (kept_by w (spec n c.log) x (has c.voters) (distinct_here e c.by c.log c.earlier kn) (many_of (spec n c.log) c.voters c.many)
        (λ k t. each k c.ballot (c.accepted k (has_from c.voters k t))))
      where
        known_at : (k : ℕ) → d.epoch ≡ k + 1 → k ≡ e
        known_at k h = omega (arith, h, at)

    module _ (k place : ℕ) (there : slice_get (executed (log_at w k)) place ≡ Some x) where
      -- the opening of each later epoch has the entry at its place
      reaches : (f : ℕ) (is : IsEpochOf f (log_at w)) → x.epoch < f → slice_get (holds f is).opening place ≡ Some x
      reaches f is lt = elim (cases_lt (known (log_at w k)) f) [
        | inl l ↦ (holds f is).opens.before k (log_at w k) same l place x there
        | inr ge ↦ (let e = known (log_at w k) in
            let h = holds e (known_epoch n w on.reached on.spelt.few on.spelt.messages k (log_at w k) same) in
            go h ge (h.placed k (log_at w k) same refl place x there))
      ]
        where
          go : (h : EpochHolds n (known (log_at w k)) (log_at w)) → f ≤ known (log_at w k) → (slice_get h.opening place ≡ Some x) ⊎ ((length h.opening ≤ place) × CommitOf (known (log_at w k)) (log_at w) place x) → slice_get (holds f is).opening place ≡ Some x
          go h ge (inr c) = let t = c.1 in let q = (unexecuted_logged t.log x t.next).1 in let r = t.epoch in absurd (omega (arith, q, r, ge, lt))
          go h ge (inl at) = elim (cases_lt f (known (log_at w k))) [
            | inr le ↦ one_opening n w on.reached on.spelt.few on.spelt.messages f is h.opening (holds f is).opening (subst (λ z. IsOpening z h.opening (log_at w)) (omega (arith, ge, le)) h.opens) (holds f is).opens place x at
            | inl l ↦ elim (cases_lt place (length (holds f is).opening)) [
              | inr long ↦ (let t = h.newer f (holds f is).opening l is (holds f is).opens place x long at in absurd (omega (arith, t, lt)))
              | inl short ↦ (let y = get_some (holds f is).opening place short in
                  y.1 ∙ ap (λ z. Some z) (same_Some y.0 x (sym (h.earlier f (holds f is).opening l is (holds f is).opens place y.0 y.1) ∙ at)))
            ]
          ]

      -- it is in the tail of a decision, where it stands behind its base
      in_tail : (j : ℕ) (d : Decision) → Among (log_at w j) (Rec.Decide d) → x.epoch < d.epoch → d.base_len ≤ place → slice_get d.tail (place - d.base_len) ≡ Some x
      in_tail j d a lt ge =
          let is : IsEpochOf d.epoch (log_at w) = inr (j, d, a, refl) in
          let h = holds d.epoch is in
          let at = reaches d.epoch is lt in
          let t = stands_on (log_at w j) (Rec.Decide d) a in
          let size = h.opens.begin j (Rec.Decide d ∷ t.rest) t.earlier (known_decide d t.rest) in
          let start = start_decide d t.rest in
          let l = get_inside h.opening place x at in
          let y = get_some d.tail (place - d.base_len) (omega (arith, ge, size, start, l)) in
          let back : d.base_len + (place - d.base_len) ≡ place = omega (arith, ge) in
          let in_opening = subst (λ z. slice_get h.opening z ≡ Some y.0) back (h.opens.tail j d a refl (place - d.base_len) y.0 y.1) in
          y.1 ∙ sym in_opening ∙ at

      -- who has accepted a later decision keeps it
      voter_keeps : (e j : ℕ) (d : Decision) → Among (log_at w j) (Rec.Decide d) → d.epoch ≡ e + 1 → x.epoch < d.epoch → (i : ℕ) (b : Ballot) → Among (log_at w i) (Rec.Accept d.epoch b d) → KeepsEntry w x i
      voter_keeps e j d a at lt i b v = elim (cases_lt place d.base_len) [
        | inr ge ↦ keeps i (Rec.Accept d.epoch b d) v (contains_among d.tail x (got_among d.tail (place - d.base_len) x (in_tail j d a lt ge)))
        | inl short ↦ (let t = has_base i n e (log_at w i) d.epoch b d (logs_fit n w on.reached on.spelt.few i) v at in
            let l = t.long in
            let y = get_some (executed t.old) place (omega (arith, short, l)) in
            let is = same_entries n w on.reached on.spelt.few on.spelt.messages i k t.old (log_at w k) t.earlier same place y.0 x y.1 there in
            let kept = executed_kept t.old place x (y.1 ∙ ap (λ z. Some z) is) in
            keeps i kept.rec (extends_among t.earlier kept.rec kept.among) kept.holds)
      ]

      -- a majority of the Spec of its own epoch keeps it
      own_kept : IsKeptBy w (spec_at end x.epoch) x
      own_kept =
          let e = known (log_at w k) in
          let h = holds e (known_epoch n w on.reached on.spelt.few on.spelt.messages k (log_at w k) same) in
          go e h (known_epoch n w on.reached on.spelt.few on.spelt.messages k (log_at w k) same) (h.placed k (log_at w k) same refl place x there)
        where
          commits : (e : ℕ) → EpochHolds n e (log_at w) → CommitOf e (log_at w) place x → IsKeptBy w (spec_at end x.epoch) x
          commits e h c = subst (λ z. IsKeptBy w (spec_at end z) x) (sym ((unexecuted_logged c.log x c.next).1 ∙ c.epoch)) (committed_kept e h place c)

          -- from the decision of the epoch after its own
          by_decision : (j : ℕ) (d : Decision) → Among (log_at w j) (Rec.Decide d) → d.epoch ≡ suc x.epoch → IsKeptBy w (spec_at end x.epoch) x
          by_decision j d a at = elim (cases_lt place d.base_len) [
            | inr ge ↦ chosen_kept x.epoch j d a (next_is at) (λ i b v. voter_keeps x.epoch j d a (next_is at) (later at) i b v)
            | inl short ↦ (let t = holder n w on.reached on.spelt.few on.spelt.messages x.epoch j d a at in
                let l = t.1.long in
                let y = get_some (executed t.1.old) place (omega (arith, short, l)) in
                let is = same_entries n w on.reached on.spelt.few on.spelt.messages t.0 k t.1.old (log_at w k) t.1.earlier same place y.0 x y.1 there in
                let h = holds x.epoch (epoch_before n w on.reached on.spelt.few on.spelt.messages x.epoch j d a at) in
                of_holder h (h.placed t.0 t.1.old t.1.earlier t.1.epoch place x (y.1 ∙ ap (λ z. Some z) is)))
          ]
            where
              next_is : d.epoch ≡ suc x.epoch → d.epoch ≡ x.epoch + 1
              next_is h = omega (arith, h)

              later : d.epoch ≡ suc x.epoch → x.epoch < d.epoch
              later h = omega (arith, h)

              of_holder : (h : EpochHolds n x.epoch (log_at w)) → (slice_get h.opening place ≡ Some x) ⊎ ((length h.opening ≤ place) × CommitOf x.epoch (log_at w) place x) → IsKeptBy w (spec_at end x.epoch) x
              of_holder h (inl q) = let l = h.opens.older place x q in absurd (omega (arith, l))
              of_holder h (inr q) = commits x.epoch h q.1

          -- some log has that decision
          next_epoch : (e : ℕ) → IsEpochOf e (log_at w) → x.epoch < e → IsKeptBy w (spec_at end x.epoch) x
          next_epoch zero is lt = absurd (omega (arith, lt))
          next_epoch (suc e) (inl z) lt = absurd (omega (arith, z))
          next_epoch (suc e) (inr t) lt = elim (cases_lt x.epoch e) [
            | inl l ↦ next_epoch e (epoch_before n w on.reached on.spelt.few on.spelt.messages e t.0 t.1 t.2 t.3) l
            | inr ge ↦ by_decision t.0 t.1 t.2 (t.3 ∙ omega (arith, lt, ge))
          ]

          go : (e : ℕ) (h : EpochHolds n e (log_at w)) → IsEpochOf e (log_at w) → (slice_get h.opening place ≡ Some x) ⊎ ((length h.opening ≤ place) × CommitOf e (log_at w) place x) → IsKeptBy w (spec_at end x.epoch) x
          go e h is (inr q) = commits e h q.1
          go e h is (inl q) = next_epoch e is (h.opens.older place x q)

      -- each later decision begins its epoch with it
      starts_with : (j : ℕ) (d : Decision) → Among (log_at w j) (Rec.Decide d) → x.epoch < d.epoch → slice_get (start_in list d) place ≡ Some x
      unfolding start_in
      starts_with j d a lt = elim (cases_lt place d.base_len) [
        | inl short ↦ get_left (take d.base_len list) d.tail place x (take_get d.base_len list place x short
            (prefix_get (executed (log_at w k)) list (last.prefix k (log_at w k) (on.goes_on k)) place x there))
        | inr ge ↦ (let base = base_within n end list last d (in_world end j d (extends_among (on.goes_on j) (Rec.Decide d) a)) in
            subst (λ z. slice_get (take d.base_len list ++ d.tail) z ≡ Some x) (omega (arith, ge))
            (get_right (take d.base_len list) d.tail d.base_len (place - d.base_len) x (taken_length d.base_len list base) (in_tail j d a lt ge)))
      ]

      pub durable : IsDurableIn end list w x place
      durable = record {
        kept = own_kept;
        later = of_each (λ d. x.epoch < d.epoch → GoesOnWith end list w x place d) (decisions_in w) (λ d a lt.
            let t = decided_in w d a in
            record {
              start = starts_with t.0 d t.1 lt;
              kept = λ e at. chosen_kept e t.0 d t.1 (sym at) (λ i b v. voter_keeps e t.0 d t.1 (sym at) lt i b v);
            });
      }

pub decisions_are_chosen : DecisionsAreChosen
unfolding all_decisions
decisions_are_chosen n acts most p =
    let w = last_world n acts in
    let last = last_of_run n acts most p in
    of_each (λ d. (e : ℕ) → e + 1 ≡ d.epoch → IsChosenAfter w e d) (decisions_in w) (λ d a e at.
    let t = decided_in w d a in
    let c = chosen_here n w (the_list n acts) last w (end_before n w (the_list n acts) last) e t.0 d t.1 (sym at) in
    record { ballot = c.ballot; voters = c.voters; majority = c.majority; accepted = c.accepted })

pub executed_are_durable : ExecutedAreDurable
unfolding start_of start_in
executed_are_durable n acts most p w a k place x there =
    let on = on_the_way n acts most p w a in
    let last = last_of_run n acts most p in
    let t = durable n (last_world n acts) (the_list n acts) last w (record { reached = on.reached; spelt = on.spelt; goes_on = on.goes_on }) x k place there in
    record { kept = t.kept; later = of_each (λ d. x.epoch < d.epoch → GoesOnIn n acts w x place d) (decisions_in w) (λ d m lt. let g = each_of (λ d. x.epoch < d.epoch → GoesOnWith (last_world n acts) (the_list n acts) w x place d) (decisions_in w) t.later d m lt in record { start = g.start; kept = g.kept }) }
