-- The facts of the coordinator in memory about that of the definitions.
use Rattle.std.proofs.Common.{◌≡◌, ℕ, ◌+◌, List, [], ◌∷◌, ◌++◌, length, refl, sym, ◌∙◌, ap, subst, arith, Bool, true, false, length-append}
use Rattle.std.specs.Prelude.{◌&&◌, not, nat_le, map, Option, Some, None, if◌then◌else◌}
use Rattle.std.proofs.lemmas.List.{map-append}
use Rattle.std.proofs.lemmas.List.Sums.{fold_push}
use Rattle.crsm_base.specs.Members.{IsMembers}
use Rattle.crsm_base.specs.Messages.{FitsVote}
use Rattle.crsm_base.specs.Order.{ballot_eq, ballot_lt}
use Rattle.crsm_base.specs.Spelling.{FitsBallot, FitsDecision, FitsOption}
use Rattle.crsm_spec.specs.Types.{Ballot, Decision}
use Rattle.crsm_spec.specs.Choice.{when◌then◌otherwise◌}
use Rattle.crsm_spec.specs.Lists.{has}
use Rattle.crsm_spec.specs.Paxos.{Held, Answer, Found, majority, counts_before, better_held, better_answer, best_of, value_of, value_of_best}
use Rattle.crsm_spec.specs.Proposing.{Proposing, value_proposed, start_proposing, after_answer, after_p1b, after_p2b, is_received}
use Rattle.crsm_spec.specs.Quorum.{spec_decided, has_majority}
use Rattle.std.specs.Option.{option_map_or}
use Rattle.crsm_spec.specs.Replica.{LogPage, Coordinator as CoordinatorOnPaper}
use Rattle.crsm_spec.specs.Log.{Log, decision, start, known as known_of}
use Rattle.crsm_paxos.specs.Best.{FitsFound}
use Rattle.crsm_suspend.specs.declared.collect.Collect.{Collect}
use Rattle.crsm_suspend.specs.Collecting.{CollectStands}
use Rattle.crsm_suspend.proofs.CollectLemmas.{same_collecting}
use Rattle.crsm_replica_coordinator.specs.declared.coordinator.Coordinator.{Coordinator}
use Rattle.crsm_replica_coordinator.specs.declared.coordinator.Stage.{Stage}
use Rattle.crsm_replica_coordinator.specs.declared.coordinator.Voted.{Voted}
use Rattle.crsm_replica_coordinator.specs.Coordinator.{IsCounted, IsGathering, named_in, IsOwn, IsAsking, IsProposing, CoordinatorStands, VotedIs, stage_of, counted_of, takes_answer, takes_vote, is_ended_by, ballot_of, proposal_of, proposal_with, answered, preempted_by, counted_by, proposal_by, proposal_by_with, is_chosen_with}
use Rattle.crsm_replica_coordinator.proofs.Counting.{push_counted, none_counted, many_counted, has_either_end, has_again}

none_has : (k : ℕ) → has [] k ≡ false
unfolding has
none_has k = refl

-- a collection goes on with each log that knows the same decision
pub gathers : (me n : ℕ) (log : Log) (ms : List ℕ) (pages : List LogPage) (c : Collect) → has (spec_decided n (decision log)) me ≡ true →
    CollectStands log (spec_decided n (decision log)) (named_in n (decision log) ms) ms pages c → IsGathering c me n (decision log) ms pages
unfolding known_of start
gathers me n log ms pages c h s = record {
  counted = h;
  collects = λ other e. same_collecting log other _ _ ms pages c
      (ap (λ o. option_map_or (λ d. d.epoch) o 0) (sym e)) (ap (λ o. option_map_or (λ d. d.base_len + length d.tail) o 0) (sym e)) s;
}

module _ (me n : ℕ) (known : Option Decision) where
  -- ---- the cases

  -- a proposer stands for one of two coordinators
  pub proposer_cases : (P : CoordinatorOnPaper → Type 0) (p : Proposing Decision) (m : CoordinatorOnPaper) → CoordinatorStands (Coordinator.Proposing p) me n known m →
      ((b : Ballot) (own : Decision) (answers : List (Answer Decision)) → IsAsking p me n known b own answers → P (CoordinatorOnPaper.Preparing b own answers)) →
      ((b : Ballot) (own value : Decision) (acceptors : List ℕ) → IsProposing p me n known b own value acceptors → P (CoordinatorOnPaper.Proposing b own value acceptors)) → P m
  unfolding CoordinatorStands
  proposer_cases P p CoordinatorOnPaper.Idle s a v = absurd s
  proposer_cases P p (CoordinatorOnPaper.Collecting ms pages) s a v = absurd s
  proposer_cases P p (CoordinatorOnPaper.Preparing b own answers) s a v = a b own answers s
  proposer_cases P p (CoordinatorOnPaper.Proposing b own value acceptors) s a v = v b own value acceptors s
  proposer_cases P p (CoordinatorOnPaper.Preempted own seen) s a v = absurd s

  -- any other coordinator stands for another one
  pub other_cases : (P : CoordinatorOnPaper → Type 0) (coordinator : Coordinator) (m : CoordinatorOnPaper) → CoordinatorStands coordinator me n known m → ((p : Proposing Decision) → coordinator ≡ Coordinator.Proposing p → ⊥) →
      P CoordinatorOnPaper.Idle → ((ms : List ℕ) (pages : List LogPage) → P (CoordinatorOnPaper.Collecting ms pages)) → ((own : Decision) (seen : Ballot) → P (CoordinatorOnPaper.Preempted own seen)) → P m
  unfolding CoordinatorStands
  other_cases P (Coordinator.Proposing p) m s not q w o = absurd (not p refl)
  other_cases P Coordinator.Idle CoordinatorOnPaper.Idle s not q w o = q
  other_cases P Coordinator.Idle (CoordinatorOnPaper.Collecting ms pages) s not q w o = absurd s
  other_cases P Coordinator.Idle (CoordinatorOnPaper.Preparing b own answers) s not q w o = absurd s
  other_cases P Coordinator.Idle (CoordinatorOnPaper.Proposing b own value acceptors) s not q w o = absurd s
  other_cases P Coordinator.Idle (CoordinatorOnPaper.Preempted own seen) s not q w o = absurd s
  other_cases P (Coordinator.Collecting c) CoordinatorOnPaper.Idle s not q w o = absurd s
  other_cases P (Coordinator.Collecting c) (CoordinatorOnPaper.Collecting ms pages) s not q w o = w ms pages
  other_cases P (Coordinator.Collecting c) (CoordinatorOnPaper.Preparing b own answers) s not q w o = absurd s
  other_cases P (Coordinator.Collecting c) (CoordinatorOnPaper.Proposing b own value acceptors) s not q w o = absurd s
  other_cases P (Coordinator.Collecting c) (CoordinatorOnPaper.Preempted own seen) s not q w o = absurd s
  other_cases P (Coordinator.Preempted r) CoordinatorOnPaper.Idle s not q w o = absurd s
  other_cases P (Coordinator.Preempted r) (CoordinatorOnPaper.Collecting ms pages) s not q w o = absurd s
  other_cases P (Coordinator.Preempted r) (CoordinatorOnPaper.Preparing b own answers) s not q w o = absurd s
  other_cases P (Coordinator.Preempted r) (CoordinatorOnPaper.Proposing b own value acceptors) s not q w o = absurd s
  other_cases P (Coordinator.Preempted r) (CoordinatorOnPaper.Preempted own seen) s not q w o = o own seen

  pub not_asking : (coordinator : Coordinator) (b : Ballot) (own : Decision) (answers : List (Answer Decision)) → CoordinatorStands coordinator me n known (CoordinatorOnPaper.Preparing b own answers) →
      ((p : Proposing Decision) → coordinator ≡ Coordinator.Proposing p → ⊥) → ⊥
  unfolding CoordinatorStands
  not_asking (Coordinator.Proposing p) b own answers s not = not p refl
  not_asking Coordinator.Idle b own answers s not = s
  not_asking (Coordinator.Collecting c) b own answers s not = s
  not_asking (Coordinator.Preempted r) b own answers s not = s

  pub not_proposing : (coordinator : Coordinator) (b : Ballot) (own value : Decision) (acceptors : List ℕ) → CoordinatorStands coordinator me n known (CoordinatorOnPaper.Proposing b own value acceptors) →
      ((p : Proposing Decision) → coordinator ≡ Coordinator.Proposing p → ⊥) → ⊥
  unfolding CoordinatorStands
  not_proposing (Coordinator.Proposing p) b own value acceptors s not = not p refl
  not_proposing Coordinator.Idle b own value acceptors s not = s
  not_proposing (Coordinator.Collecting c) b own value acceptors s not = s
  not_proposing (Coordinator.Preempted r) b own value acceptors s not = s

  pub not_over : (coordinator : Coordinator) (own : Decision) (seen : Ballot) → CoordinatorStands coordinator me n known (CoordinatorOnPaper.Preempted own seen) → ((r : Decision × Ballot) → coordinator ≡ Coordinator.Preempted r → ⊥) → ⊥
  unfolding CoordinatorStands
  not_over (Coordinator.Proposing p) own seen s not = s
  not_over Coordinator.Idle own seen s not = s
  not_over (Coordinator.Collecting c) own seen s not = s
  not_over (Coordinator.Preempted r) own seen s not = not r refl

  pub as_asking : (p : Proposing Decision) (b : Ballot) (own : Decision) (answers : List (Answer Decision)) → CoordinatorStands (Coordinator.Proposing p) me n known (CoordinatorOnPaper.Preparing b own answers) →
      IsAsking p me n known b own answers
  unfolding CoordinatorStands
  as_asking p b own answers s = s

  pub as_proposing : (p : Proposing Decision) (b : Ballot) (own value : Decision) (acceptors : List ℕ) → CoordinatorStands (Coordinator.Proposing p) me n known (CoordinatorOnPaper.Proposing b own value acceptors) →
      IsProposing p me n known b own value acceptors
  unfolding CoordinatorStands
  as_proposing p b own value acceptors s = s

  -- ---- what a ballot at work shows

  pub asking_mine : (coordinator : Coordinator) (b : Ballot) (own : Decision) (answers : List (Answer Decision)) → CoordinatorStands coordinator me n known (CoordinatorOnPaper.Preparing b own answers) → IsOwn me n known own × FitsBallot b
  unfolding CoordinatorStands
  asking_mine (Coordinator.Proposing p) b own answers s = (s.mine, s.round)
  asking_mine Coordinator.Idle b own answers s = absurd s
  asking_mine (Coordinator.Collecting c) b own answers s = absurd s
  asking_mine (Coordinator.Preempted r) b own answers s = absurd s

  pub proposing_mine : (coordinator : Coordinator) (b : Ballot) (own value : Decision) (acceptors : List ℕ) → CoordinatorStands coordinator me n known (CoordinatorOnPaper.Proposing b own value acceptors) →
      IsOwn me n known own × FitsBallot b × FitsDecision value
  unfolding CoordinatorStands
  proposing_mine (Coordinator.Proposing p) b own value acceptors s = (s.mine, s.round, s.spelt)
  proposing_mine Coordinator.Idle b own value acceptors s = absurd s
  proposing_mine (Coordinator.Collecting c) b own value acceptors s = absurd s
  proposing_mine (Coordinator.Preempted r) b own value acceptors s = absurd s

  -- ---- readers

  pub stage_quiet : (m : CoordinatorOnPaper) → CoordinatorStands Coordinator.Idle me n known m → Stage.Idle ≡ stage_of m
  unfolding CoordinatorStands stage_of
  stage_quiet CoordinatorOnPaper.Idle s = refl
  stage_quiet (CoordinatorOnPaper.Collecting ms pages) s = absurd s
  stage_quiet (CoordinatorOnPaper.Preparing b own answers) s = absurd s
  stage_quiet (CoordinatorOnPaper.Proposing b own value acceptors) s = absurd s
  stage_quiet (CoordinatorOnPaper.Preempted own seen) s = absurd s

  pub stage_collecting : (c : Collect) (m : CoordinatorOnPaper) → CoordinatorStands (Coordinator.Collecting c) me n known m → Stage.Collecting ≡ stage_of m
  unfolding CoordinatorStands stage_of
  stage_collecting c CoordinatorOnPaper.Idle s = absurd s
  stage_collecting c (CoordinatorOnPaper.Collecting ms pages) s = refl
  stage_collecting c (CoordinatorOnPaper.Preparing b own answers) s = absurd s
  stage_collecting c (CoordinatorOnPaper.Proposing b own value acceptors) s = absurd s
  stage_collecting c (CoordinatorOnPaper.Preempted own seen) s = absurd s

  pub not_collecting : (coordinator : Coordinator) (ms : List ℕ) (pages : List LogPage) → CoordinatorStands coordinator me n known (CoordinatorOnPaper.Collecting ms pages) → ((c : Collect) → coordinator ≡ Coordinator.Collecting c → ⊥) → ⊥
  unfolding CoordinatorStands
  not_collecting (Coordinator.Collecting c) ms pages s not = not c refl
  not_collecting Coordinator.Idle ms pages s not = s
  not_collecting (Coordinator.Proposing p) ms pages s not = s
  not_collecting (Coordinator.Preempted r) ms pages s not = s

  pub as_gathering : (c : Collect) (ms : List ℕ) (pages : List LogPage) → CoordinatorStands (Coordinator.Collecting c) me n known (CoordinatorOnPaper.Collecting ms pages) → IsGathering c me n known ms pages
  unfolding CoordinatorStands
  as_gathering c ms pages s = s

  pub gathering_stands : (c : Collect) (ms : List ℕ) (pages : List LogPage) → IsGathering c me n known ms pages → CoordinatorStands (Coordinator.Collecting c) me n known (CoordinatorOnPaper.Collecting ms pages)
  unfolding CoordinatorStands
  gathering_stands c ms pages s = s

  pub stage_over : (r : Decision × Ballot) (m : CoordinatorOnPaper) → CoordinatorStands (Coordinator.Preempted r) me n known m → Stage.Preempted ≡ stage_of m
  unfolding CoordinatorStands stage_of
  stage_over r CoordinatorOnPaper.Idle s = absurd s
  stage_over r (CoordinatorOnPaper.Collecting ms pages) s = absurd s
  stage_over r (CoordinatorOnPaper.Preparing b own answers) s = absurd s
  stage_over r (CoordinatorOnPaper.Proposing b own value acceptors) s = absurd s
  stage_over r (CoordinatorOnPaper.Preempted own seen) s = refl

  pub stage_proposer : (p : Proposing Decision) (m : CoordinatorOnPaper) (r : Stage) → CoordinatorStands (Coordinator.Proposing p) me n known m →
      (p.has_proposed ≡ true → r ≡ Stage.Proposing) → (p.has_proposed ≡ false → r ≡ Stage.Preparing) → r ≡ stage_of m
  unfolding stage_of
  stage_proposer p m r s done not_yet =
      proposer_cases (λ x. r ≡ stage_of x) p m s (λ b own answers a. not_yet a.waits) (λ b own value acceptors v. done v.proposes)

  pub answer_taken : (p : Proposing Decision) (m : CoordinatorOnPaper) (b : Ballot) (k : ℕ) → CoordinatorStands (Coordinator.Proposing p) me n known m →
      (not p.has_proposed && (ballot_eq b p.ballot && not (has p.received k))) ≡ takes_answer m b k
  unfolding takes_answer
  answer_taken p m b k s =
      proposer_cases (λ x. (not p.has_proposed && (ballot_eq b p.ballot && not (has p.received k))) ≡ takes_answer x b k) p m s
      (λ c own answers a.
      ap (λ h. not h && (ballot_eq b p.ballot && not (has p.received k))) a.waits ∙ ap (λ x. ballot_eq b x && not (has p.received k)) a.ballot
      ∙ ap (λ ks. ballot_eq b c && not (has ks k)) a.received)
      (λ c own value acceptors v. ap (λ h. not h && (ballot_eq b p.ballot && not (has p.received k))) v.proposes)

  pub vote_taken : (p : Proposing Decision) (m : CoordinatorOnPaper) (b : Ballot) (k : ℕ) → CoordinatorStands (Coordinator.Proposing p) me n known m →
      (p.has_proposed && (ballot_eq b p.ballot && not (has p.voters k))) ≡ takes_vote m b k
  unfolding takes_vote
  vote_taken p m b k s =
      proposer_cases (λ x. (p.has_proposed && (ballot_eq b p.ballot && not (has p.voters k))) ≡ takes_vote x b k) p m s
      (λ c own answers a. ap (λ h. h && (ballot_eq b p.ballot && not (has p.voters k))) a.waits)
      (λ c own value acceptors v.
      ap (λ h. h && (ballot_eq b p.ballot && not (has p.voters k))) v.proposes ∙ ap (λ x. ballot_eq b x && not (has p.voters k)) v.ballot
      ∙ ap (λ h. ballot_eq b c && not h) (v.voted k))

  pub ended : (p : Proposing Decision) (m : CoordinatorOnPaper) (b top : Ballot) → CoordinatorStands (Coordinator.Proposing p) me n known m → (ballot_eq b p.ballot && ballot_lt b top) ≡ is_ended_by m b top
  unfolding is_ended_by
  ended p m b top s =
      proposer_cases (λ x. (ballot_eq b p.ballot && ballot_lt b top) ≡ is_ended_by x b top) p m s
      (λ c own answers a. ap (λ x. ballot_eq b x && ballot_lt b top) a.ballot) (λ c own value acceptors v. ap (λ x. ballot_eq b x && ballot_lt b top) v.ballot)

  pub ballot_is : (p : Proposing Decision) (m : CoordinatorOnPaper) → CoordinatorStands (Coordinator.Proposing p) me n known m → Some p.ballot ≡ ballot_of m
  unfolding ballot_of
  ballot_is p m s =
      proposer_cases (λ x. Some p.ballot ≡ ballot_of x) p m s (λ c own answers a. ap (λ b. Some b) a.ballot) (λ c own value acceptors v. ap (λ b. Some b) v.ballot)

  pub counted_is : (p : Proposing Decision) (m : CoordinatorOnPaper) (k : ℕ) → CoordinatorStands (Coordinator.Proposing p) me n known m → has (counted_by p) k ≡ has (counted_of m) k
  unfolding counted_of
  counted_is p m k s =
      proposer_cases (λ x. has (counted_by p) k ≡ has (counted_of x) k) p m s
      (λ c own answers a. ap (λ (h : Bool). has (if h then p.voters else p.received) k) a.waits ∙ ap (λ ks. has ks k) a.received)
      (λ c own value acceptors v. ap (λ (h : Bool). has (if h then p.voters else p.received) k) v.proposes ∙ v.voted k)

  pub proposal_is : (p : Proposing Decision) (m : CoordinatorOnPaper) → CoordinatorStands (Coordinator.Proposing p) me n known m → proposal_by p ≡ proposal_of m
  unfolding proposal_of
  proposal_is p m s =
      proposer_cases (λ x. proposal_by p ≡ proposal_of x) p m s
      (λ c own answers a. ap (λ h. if h then Some (p.ballot, value_proposed p) else None) a.waits)
      (λ c own value acceptors v.
      ap (λ h. if h then Some (p.ballot, value_proposed p) else None) v.proposes ∙ ap (λ b. Some (b, value_proposed p)) v.ballot ∙ ap (λ d. Some (c, d)) v.value_is)

  -- ---- answers

  best_with : (answers : List (Answer Decision)) (a : Answer Decision) (best : Option (Found Decision)) → best ≡ best_of answers → better_held best a.replica a.accepted ≡ best_of (answers ++ a ∷ [])
  best_with answers a best e = ap (λ f. better_held f a.replica a.accepted) e ∙ sym (fold_push better_answer None answers a)

  pub value_with_is : (p : Proposing Decision) (b : Ballot) (own : Decision) (answers : List (Answer Decision)) (a : Answer Decision) → IsAsking p me n known b own answers →
      value_proposed (after_answer p a.replica a.accepted) ≡ value_of own (answers ++ a ∷ [])
  value_with_is p b own answers a s =
      ap (λ d. value_of_best d (better_held p.best a.replica a.accepted)) s.own_is ∙ ap (λ f. value_of_best own f) (best_with answers a p.best s.best)

  better_fits : (best : Option (Found Decision)) (k : ℕ) (accepted : Held Decision) → FitsFound best → FitsOption FitsVote accepted → FitsFound (better_held best k accepted)
  better_fits best k None f a = f
  better_fits None k (Some held) f a = a.1
  better_fits (Some g) k (Some held) f a = go (counts_before (record { ballot = held.0; replica = k; value = held.1 }) g)
    where
      go : (t : Bool) → FitsFound (if t then Some (record { ballot = held.0; replica = k; value = held.1 }) else Some g)
      go true = a.1
      go false = f

  best_fits : (own : Decision) (best : Option (Found Decision)) → FitsDecision own → FitsFound best → FitsDecision (value_of_best own best)
  best_fits own None o f = o
  best_fits own (Some g) o f = f

  pub value_with_fits : (p : Proposing Decision) (b : Ballot) (own : Decision) (answers : List (Answer Decision)) (a : Answer Decision) → IsAsking p me n known b own answers →
      FitsOption FitsVote a.accepted → FitsDecision (value_of own (answers ++ a ∷ []))
  value_with_fits p b own answers a s f =
      subst (λ d. FitsDecision d) (ap (λ g. value_of_best own g) (best_with answers a p.best s.best))
      (best_fits own (better_held p.best a.replica a.accepted) s.mine.spelt (better_fits p.best a.replica a.accepted s.found f))

  pub proposal_with_is : (p : Proposing Decision) (m : CoordinatorOnPaper) (a : Answer Decision) → CoordinatorStands (Coordinator.Proposing p) me n known m → proposal_by_with p a.replica a.accepted ≡ proposal_with m a
  unfolding proposal_with
  proposal_with_is p m a s =
      proposer_cases (λ x. proposal_by_with p a.replica a.accepted ≡ proposal_with x a) p m s
      (λ c own answers h.
      ap (λ t. if t then None else Some (p.ballot, value_proposed (after_answer p a.replica a.accepted))) h.waits
      ∙ ap (λ b. Some (b, value_proposed (after_answer p a.replica a.accepted))) h.ballot ∙ ap (λ d. Some (c, d)) (value_with_is p c own answers a h))
      (λ c own value acceptors v. ap (λ t. if t then None else Some (p.ballot, value_proposed (after_answer p a.replica a.accepted))) v.proposes)

  replicas_with : (answers : List (Answer Decision)) (a : Answer Decision) → map (λ f. f.replica) (answers ++ a ∷ []) ≡ map (λ f. f.replica) answers ++ a.replica ∷ []
  replicas_with answers a = map-append (λ (f : Answer Decision). f.replica) answers (a ∷ [])

  received_with : (p : Proposing Decision) (b : Ballot) (own : Decision) (answers : List (Answer Decision)) (a : Answer Decision) → IsAsking p me n known b own answers →
      p.received ++ a.replica ∷ [] ≡ map (λ f. f.replica) (answers ++ a ∷ [])
  received_with p b own answers a s = ap (λ ks. ks ++ a.replica ∷ []) s.received ∙ sym (replicas_with answers a)

  counted_with : (p : Proposing Decision) (b : Ballot) (own : Decision) (answers : List (Answer Decision)) (a : Answer Decision) → IsAsking p me n known b own answers →
      has (spec_decided n known) a.replica ≡ true → has (map (λ f. f.replica) answers) a.replica ≡ false → IsCounted (spec_decided n known) (p.received ++ a.replica ∷ [])
  counted_with p b own answers a s h new = push_counted (spec_decided n known) p.received a.replica s.counted h (ap (λ ks. has ks a.replica) s.received ∙ new)

  pub last_answer : (p : Proposing Decision) (b : Ballot) (own : Decision) (answers : List (Answer Decision)) (a : Answer Decision) → IsAsking p me n known b own answers →
      has (spec_decided n known) a.replica ≡ true → has (map (λ f. f.replica) answers) a.replica ≡ false →
      nat_le (majority p.size) (length p.received + 1) ≡ has_majority (spec_decided n known) (map (λ f. f.replica) (answers ++ a ∷ []))
  last_answer p b own answers a s h new =
      many_counted (spec_decided n known) (p.received ++ a.replica ∷ []) (map (λ f. f.replica) (answers ++ a ∷ [])) p.size (length p.received + 1)
      (counted_with p b own answers a s h new) (λ j. ap (λ ks. has ks j) (received_with p b own answers a s)) s.size (omega (arith, length-append p.received (a.replica ∷ [])))

  -- the two forms of the effect of an answer
  either_stands : (q : Proposing Decision) (b : Ballot) (own : Decision) (all : List (Answer Decision)) (t : Bool) → t ≡ has_majority (spec_decided n known) (map (λ f. f.replica) all) →
      (t ≡ true → IsProposing q me n known b own (value_of own all) []) → (t ≡ false → IsAsking q me n known b own all) →
      CoordinatorStands (Coordinator.Proposing q) me n known (answered (spec_decided n known) b own all)
  unfolding CoordinatorStands answered when◌then◌otherwise◌
  either_stands q b own all t e done not_yet =
      subst (λ u. CoordinatorStands (Coordinator.Proposing q) me n known (when u then CoordinatorOnPaper.Proposing b own (value_of own all) [] otherwise CoordinatorOnPaper.Preparing b own all)) e (go t done not_yet)
    where
      go : (u : Bool) → (u ≡ true → IsProposing q me n known b own (value_of own all) []) → (u ≡ false → IsAsking q me n known b own all) →
          CoordinatorStands (Coordinator.Proposing q) me n known (when u then CoordinatorOnPaper.Proposing b own (value_of own all) [] otherwise CoordinatorOnPaper.Preparing b own all)
      go true y a = y refl
      go false y a = a refl

  pub answer_stands : (p : Proposing Decision) (b : Ballot) (own : Decision) (answers : List (Answer Decision)) (a : Answer Decision) → IsAsking p me n known b own answers →
      has (spec_decided n known) a.replica ≡ true → has (map (λ f. f.replica) answers) a.replica ≡ false → FitsOption FitsVote a.accepted →
      CoordinatorStands (Coordinator.Proposing (after_answer p a.replica a.accepted)) me n known (answered (spec_decided n known) b own (answers ++ a ∷ []))
  answer_stands p b own answers a s h new f =
      either_stands (after_answer p a.replica a.accepted) b own (answers ++ a ∷ []) (nat_le (majority p.size) (length p.received + 1)) (last_answer p b own answers a s h new)
      (λ t. record {
        mine = s.mine;
        ballot = s.ballot;
        round = s.round;
        own_is = s.own_is;
        size = s.size;
        value_is = value_with_is p b own answers a s;
        spelt = value_with_fits p b own answers a s f;
        proposes = t;
        voted = λ k. ap (λ ks. has ks k) s.unvoted;
        counted = subst (λ ks. IsCounted (spec_decided n known) ks) (sym s.unvoted) (none_counted (spec_decided n known) s.counted.members);
      })
      (λ t. record {
        mine = s.mine;
        ballot = s.ballot;
        round = s.round;
        own_is = s.own_is;
        size = s.size;
        received = received_with p b own answers a s;
        counted = counted_with p b own answers a s h new;
        best = best_with answers a p.best s.best;
        found = better_fits p.best a.replica a.accepted s.found f;
        waits = t;
        unvoted = s.unvoted;
      })

  eq_self : (b : Ballot) → ballot_eq b b ≡ true
  unfolding ballot_eq
  eq_self b = grind (arith)

  -- an answer that counts is counted
  answer_counts : (p : Proposing Decision) (k : ℕ) (accepted : Held Decision) → p.has_proposed ≡ false → has p.received k ≡ false → after_p1b p k p.ballot accepted ≡ after_answer p k accepted
  unfolding has
  answer_counts p k accepted w h =
      ap (λ t. if t && (not p.has_proposed && not (is_received p.received k)) then after_answer p k accepted else p) (eq_self p.ballot)
      ∙ ap (λ t. if not t && not (is_received p.received k) then after_answer p k accepted else p) w
      ∙ ap (λ t. if not t then after_answer p k accepted else p) h

  pub p1b_stands : (p q : Proposing Decision) (b : Ballot) (own : Decision) (answers : List (Answer Decision)) (a : Answer Decision) → IsAsking p me n known b own answers →
      has (spec_decided n known) a.replica ≡ true → has (map (λ f. f.replica) answers) a.replica ≡ false → FitsOption FitsVote a.accepted → q ≡ after_p1b p a.replica p.ballot a.accepted →
      CoordinatorStands (Coordinator.Proposing q) me n known (answered (spec_decided n known) b own (answers ++ a ∷ []))
  p1b_stands p q b own answers a s h new f e =
      subst (λ r. CoordinatorStands (Coordinator.Proposing r) me n known (answered (spec_decided n known) b own (answers ++ a ∷ [])))
      (sym (e ∙ answer_counts p a.replica a.accepted s.waits (ap (λ ks. has ks a.replica) s.received ∙ new))) (answer_stands p b own answers a s h new f)

  -- ---- votes

  counted_vote : (p : Proposing Decision) (b : Ballot) (own value : Decision) (acceptors : List ℕ) (k : ℕ) → IsProposing p me n known b own value acceptors →
      has (spec_decided n known) k ≡ true → has p.voters k ≡ false → IsCounted (spec_decided n known) (p.voters ++ k ∷ [])
  counted_vote p b own value acceptors k s h new = push_counted (spec_decided n known) p.voters k s.counted h new

  pub last_vote : (p : Proposing Decision) (b : Ballot) (own value : Decision) (acceptors : List ℕ) (k : ℕ) → IsProposing p me n known b own value acceptors →
      has (spec_decided n known) k ≡ true → is_chosen_with p k ≡ has_majority (spec_decided n known) (k ∷ acceptors)
  last_vote p b own value acceptors k s h = go (has p.voters k) refl
    where
      again : has p.voters k ≡ true → nat_le (majority p.size) (length p.voters) ≡ has_majority (spec_decided n known) (k ∷ acceptors)
      again there =
          many_counted (spec_decided n known) p.voters (k ∷ acceptors) p.size (length p.voters) s.counted (has_again p.voters acceptors k s.voted there) s.size refl

      first : has p.voters k ≡ false → nat_le (majority p.size) (length p.voters + 1) ≡ has_majority (spec_decided n known) (k ∷ acceptors)
      first new =
          many_counted (spec_decided n known) (p.voters ++ k ∷ []) (k ∷ acceptors) p.size (length p.voters + 1)
          (counted_vote p b own value acceptors k s h new) (has_either_end p.voters acceptors k s.voted) s.size (omega (arith, length-append p.voters (k ∷ [])))

      go : (t : Bool) → has p.voters k ≡ t →
          (if t then nat_le (majority p.size) (length p.voters) else nat_le (majority p.size) (length p.voters + 1)) ≡ has_majority (spec_decided n known) (k ∷ acceptors)
      go true t = again t
      go false t = first t

  vote_again : (p : Proposing Decision) (k : ℕ) → has p.voters k ≡ true → after_p2b p k p.ballot ≡ p
  unfolding has
  vote_again p k h =
      ap (λ t. if t && (p.has_proposed && not (is_received p.voters k)) then record p { voters = p.voters ++ k ∷ [] } else p) (eq_self p.ballot)
      ∙ ap (λ t. if p.has_proposed && not t then record p { voters = p.voters ++ k ∷ [] } else p) h ∙ go p.has_proposed
    where
      go : (t : Bool) → (if t && false then record p { voters = p.voters ++ k ∷ [] } else p) ≡ p
      go true = refl
      go false = refl

  vote_counts : (p : Proposing Decision) (k : ℕ) → p.has_proposed ≡ true → has p.voters k ≡ false → after_p2b p k p.ballot ≡ record p { voters = p.voters ++ k ∷ [] }
  unfolding has
  vote_counts p k w h =
      ap (λ t. if t && (p.has_proposed && not (is_received p.voters k)) then record p { voters = p.voters ++ k ∷ [] } else p) (eq_self p.ballot)
      ∙ ap (λ t. if t && not (is_received p.voters k) then record p { voters = p.voters ++ k ∷ [] } else p) w
      ∙ ap (λ t. if not t then record p { voters = p.voters ++ k ∷ [] } else p) h

  voted_stands : (p : Proposing Decision) (b : Ballot) (own value : Decision) (acceptors : List ℕ) (k : ℕ) → IsProposing p me n known b own value acceptors →
      has (spec_decided n known) k ≡ true → (t : Bool) → has p.voters k ≡ t → IsProposing (after_p2b p k p.ballot) me n known b own value (k ∷ acceptors)
  voted_stands p b own value acceptors k s h true there =
      let stands : IsProposing p me n known b own value (k ∷ acceptors) = record {
        mine = s.mine;
        ballot = s.ballot;
        round = s.round;
        own_is = s.own_is;
        size = s.size;
        value_is = s.value_is;
        spelt = s.spelt;
        proposes = s.proposes;
        voted = has_again p.voters acceptors k s.voted there;
        counted = s.counted;
      } in
      subst (λ r. IsProposing r me n known b own value (k ∷ acceptors)) (sym (vote_again p k there)) stands
  voted_stands p b own value acceptors k s h false new =
      let stands : IsProposing (record p { voters = p.voters ++ k ∷ [] }) me n known b own value (k ∷ acceptors) = record {
        mine = s.mine;
        ballot = s.ballot;
        round = s.round;
        own_is = s.own_is;
        size = s.size;
        value_is = s.value_is;
        spelt = s.spelt;
        proposes = s.proposes;
        voted = has_either_end p.voters acceptors k s.voted;
        counted = counted_vote p b own value acceptors k s h new;
      } in
      subst (λ r. IsProposing r me n known b own value (k ∷ acceptors)) (sym (vote_counts p k s.proposes new)) stands

  pub more_votes : (p q : Proposing Decision) (b : Ballot) (own value : Decision) (acceptors : List ℕ) (k : ℕ) → IsProposing p me n known b own value acceptors →
      has (spec_decided n known) k ≡ true → is_chosen_with p k ≡ false → q ≡ after_p2b p k p.ballot → VotedIs (Voted.More (Coordinator.Proposing q)) me n known b own value (k ∷ acceptors)
  unfolding VotedIs CoordinatorStands
  more_votes p q b own value acceptors k s h few e = (
    sym (last_vote p b own value acceptors k s h) ∙ few,
    subst (λ r. IsProposing r me n known b own value (k ∷ acceptors)) (sym e) (voted_stands p b own value acceptors k s h (has p.voters k) refl),
  )

  pub vote_chooses : (p : Proposing Decision) (d : Decision) (b : Ballot) (own value : Decision) (acceptors : List ℕ) (k : ℕ) → IsProposing p me n known b own value acceptors →
      has (spec_decided n known) k ≡ true → is_chosen_with p k ≡ true → d ≡ value_proposed p → VotedIs (Voted.Chosen d) me n known b own value (k ∷ acceptors)
  unfolding VotedIs
  vote_chooses p d b own value acceptors k s h many e = (sym (last_vote p b own value acceptors k s h) ∙ many, e ∙ s.value_is, s.spelt)

  -- ---- the ends of a ballot

  pub preempted_stands : (p : Proposing Decision) (own : Decision) (m : CoordinatorOnPaper) (top : Ballot) → CoordinatorStands (Coordinator.Proposing p) me n known m → FitsBallot top → own ≡ p.own →
      CoordinatorStands (Coordinator.Preempted (own, top)) me n known (preempted_by m top)
  unfolding preempted_by CoordinatorStands
  preempted_stands p own m top s f e =
      proposer_cases (λ x. CoordinatorStands (Coordinator.Preempted (own, top)) me n known (preempted_by x top)) p m s
      (λ c o answers a. (e ∙ a.own_is, refl, record { mine = a.mine; round = f }))
      (λ c o value acceptors v. (e ∙ v.own_is, refl, record { mine = v.mine; round = f }))

  pub own_back : (r : Decision × Ballot) (own : Decision) (seen : Ballot) → CoordinatorStands (Coordinator.Preempted r) me n known (CoordinatorOnPaper.Preempted own seen) →
      (r ≡ (own, seen)) × IsOwn me n known own × FitsBallot seen
  unfolding CoordinatorStands
  own_back r own seen s = (ap (λ (d : Decision). (d, r.1)) s.0 ∙ ap (λ (b : Ballot). (own, b)) s.1, s.2.mine, s.2.round)

  -- ---- the beginning of a ballot

  start_asks : (own : Decision) (b : Ballot) (spec : List ℕ) (size : ℕ) → IsOwn me n known own → FitsBallot b → spec ≡ spec_decided n known → IsMembers spec → size ≡ length spec →
      IsAsking (start_proposing b own size) me n known b own []
  start_asks own b spec size i f e ms l =
      record {
        mine = i;
        ballot = refl;
        round = f;
        own_is = refl;
        size = l ∙ ap length e;
        received = refl;
        counted = none_counted (spec_decided n known) (subst (λ ks. IsMembers ks) e ms);
        best = refl;
        found = tt;
        waits = refl;
        unvoted = refl;
      }

  pub asking_stands : (p q : Proposing Decision) (own : Decision) (b : Ballot) (spec : List ℕ) (size : ℕ) (a : Answer Decision) → a.replica ≡ me → IsOwn me n known own → FitsBallot b → spec ≡ spec_decided n known →
      IsMembers spec → size ≡ length spec → FitsOption FitsVote a.accepted → p ≡ start_proposing b own size → q ≡ after_p1b p a.replica p.ballot a.accepted →
      CoordinatorStands (Coordinator.Proposing q) me n known (answered (spec_decided n known) b own (a ∷ []))
  asking_stands p q own b spec size a m i f e ms l fa ep eq =
      let s = subst (λ r. IsAsking r me n known b own []) (sym ep) (start_asks own b spec size i f e ms l) in
      p1b_stands p q b own [] a s (ap (λ k. has (spec_decided n known) k) m ∙ i.counted) (none_has a.replica) fa eq
