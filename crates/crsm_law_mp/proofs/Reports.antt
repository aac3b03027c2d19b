-- Counted reports and votes: the invariant of a replica's phase is kept.
use Rattle.std.proofs.Common.{◌≡◌, ℕ, ◌<◌, ◌≤◌, ◌⊎◌, Bool, true, false, cond, nat_eq, ltb, List, [], ◌∷◌, ◌++◌, map, length, arith, inl, inr, refl, sym, subst, ap, ◌∙◌, Option, Some, None}
use Rattle.std.specs.List.{Contains, IsDistinct, AllByRecursion}
use Rattle.std.proofs.lemmas.List.{length-map}
use Rattle.std.proofs.lemmas.List.Elements.{Contains-append_left, Contains-push_cases}
use Rattle.crsm_base.specs.Order.{ballot_lt}
use Rattle.crsm_spec.specs.Paxos.{Found, best_of, value_of, value_of_best, majority, IsChosen}
use Rattle.crsm_spec.specs.Following.{IsUnused, IsUsed, lowest}
use Rattle.crsm_safety.proofs.Paxos.Majority.{nat_eq_is}
use Rattle.crsm_safety.proofs.Paxos.Repeats.{repeated}
use Rattle.crsm_safety.proofs.Paxos.Best.{IsBest, best_is}
use Rattle.crsm_mpspec.specs.declared.MpMessage.{MpMessage}
use Rattle.crsm_mpspec.specs.declared.MpChosen.{MpChosen}
use Rattle.crsm_mpspec.specs.Types.{Ballot, Command, Value}
use Rattle.crsm_mpspec.specs.Replica.{Report, with_report, voters_at}
use Rattle.crsm_mpspec.specs.Electing.{held_at, next_slot, answers_at}
use Rattle.crsm_law_mp.specs.Slots.{Seat, Sent, Slots, HasPromised, HasVoted, HasProposed, AreChosen, HasReported, IsAsking, IsLeading, Past}
use Rattle.crsm_law_mp.proofs.Agree.{invariant}
use Rattle.crsm_law_mp.proofs.Changes.{Stands, acceptor_is, chosen_here}
use Rattle.crsm_law_mp.proofs.Voting.{voted_proposed, one_proposed, same_some}
use Rattle.crsm_law_mp.proofs.Lists.{cons_cases, first_in, later_in, none_in, voter_in, voters_push, answer_of_report}

-- ---- the list of reports

pub in_with_report : (y : Report) (reports : List Report) (z : Report) → Contains (with_report y reports) z → (y ≡ z) ⊎ Contains reports z
unfolding with_report
in_with_report y [] z c = elim (cons_cases y [] z c) [ inl is ↦ inl is | inr none ↦ absurd (none_in z none) ]
in_with_report y (s ∷ reports) z c = go (ltb y.from s.from) c (in_with_report y reports z)
  where
    go : (t : Bool) → Contains (cond t (y ∷ s ∷ reports) (s ∷ with_report y reports)) z → (Contains (with_report y reports) z → (y ≡ z) ⊎ Contains reports z) →
        (y ≡ z) ⊎ Contains (s ∷ reports) z
    go true c more = cons_cases y (s ∷ reports) z c
    go false c more = elim (cons_cases s (with_report y reports) z c) [
      | inl is ↦ inr (subst (λ a. Contains (s ∷ reports) a) is (first_in s reports))
      | inr rest ↦ elim (more rest) [ inl is ↦ inl is | inr old ↦ inr (later_in s reports z old) ]
    ]

pub in_froms : (y : Report) (reports : List Report) (k : ℕ) → Contains (map (λ z. z.from) (with_report y reports)) k → (y.from ≡ k) ⊎ Contains (map (λ z. z.from) reports) k
unfolding with_report
in_froms y [] k c = elim (cons_cases y.from [] k c) [ inl is ↦ inl is | inr none ↦ absurd (none_in k none) ]
in_froms y (s ∷ reports) k c = go (ltb y.from s.from) c (in_froms y reports k)
  where
    go : (t : Bool) → Contains (map (λ z. z.from) (cond t (y ∷ s ∷ reports) (s ∷ with_report y reports))) k →
        (Contains (map (λ z. z.from) (with_report y reports)) k → (y.from ≡ k) ⊎ Contains (map (λ z. z.from) reports) k) →
        (y.from ≡ k) ⊎ Contains (map (λ z. z.from) (s ∷ reports)) k
    go true c more = cons_cases y.from (map (λ z. z.from) (s ∷ reports)) k c
    go false c more = elim (cons_cases s.from (map (λ z. z.from) (with_report y reports)) k c) [
      | inl is ↦ inr (subst (λ a. Contains (s.from ∷ map (λ z. z.from) reports) a) is (first_in s.from (map (λ z. z.from) reports)))
      | inr rest ↦ elim (more rest) [ inl is ↦ inl is | inr old ↦ inr (later_in s.from (map (λ z. z.from) reports) k old) ]
    ]

apart_from : (k : ℕ) (ks : List ℕ) → (Contains ks k → ⊥) → AllByRecursion (λ j. nat_eq k j ≡ false) ks
apart_from k [] none = tt
apart_from k (j ∷ ks) none = (go (nat_eq k j) refl, apart_from k ks (λ c. none (later_in j ks k c)))
  where
    go : (t : Bool) → nat_eq k j ≡ t → nat_eq k j ≡ false
    go true e = absurd (none (subst (λ z. Contains (j ∷ ks) z) (sym (nat_eq_is k j e)) (first_in j ks)))
    go false e = e

all_with : (P : ℕ → Type 0) (y : Report) (reports : List Report) → P y.from → AllByRecursion P (map (λ z. z.from) reports) → AllByRecursion P (map (λ z. z.from) (with_report y reports))
unfolding with_report
all_with P y [] new all = (new, tt)
all_with P y (s ∷ reports) new all = go (ltb y.from s.from) (all_with P y reports new all.1)
  where
    go : (t : Bool) → AllByRecursion P (map (λ z. z.from) (with_report y reports)) → AllByRecursion P (map (λ z. z.from) (cond t (y ∷ s ∷ reports) (s ∷ with_report y reports)))
    go true more = (new, all)
    go false more = (all.0, more)

distinct_with : (y : Report) (reports : List Report) → (Contains (map (λ z. z.from) reports) y.from → ⊥) → IsDistinct nat_eq (map (λ z. z.from) reports) →
    IsDistinct nat_eq (map (λ z. z.from) (with_report y reports))
unfolding with_report IsDistinct
distinct_with y [] none d = (tt, tt)
distinct_with y (s ∷ reports) none d =
    go (ltb y.from s.from) (distinct_with y reports (λ c. none (later_in s.from (map (λ z. z.from) reports) y.from c)) d.1)
  where
    not_first : nat_eq s.from y.from ≡ false
    not_first = by_cases (nat_eq s.from y.from) refl
      where
        by_cases : (t : Bool) → nat_eq s.from y.from ≡ t → nat_eq s.from y.from ≡ false
        by_cases true e = absurd (none (subst (λ a. Contains (s.from ∷ map (λ z. z.from) reports) a) (nat_eq_is s.from y.from e) (first_in s.from (map (λ z. z.from) reports))))
        by_cases false e = e

    go : (t : Bool) → IsDistinct nat_eq (map (λ z. z.from) (with_report y reports)) → IsDistinct nat_eq (map (λ z. z.from) (cond t (y ∷ s ∷ reports) (s ∷ with_report y reports)))
    go true more = (apart_from y.from (map (λ z. z.from) (s ∷ reports)) none, d)
    go false more = (all_with (λ k. nat_eq s.from k ≡ false) y reports not_first d.0, more)

module _ (spec : List ℕ) (past : Past) (base : ℕ → Seat) (sent : Sent) (r : ℕ) (x : Seat) (sends : List (ℕ × MpMessage)) (slots : Slots)
    (h : Stands spec past base sent r x sends slots) where
  -- ---- asking

  -- a promise that was answered with what the acceptor holds, or that of a ballot which has proposed
  pub answered_now : (b : Ballot) → x.promised ≡ b → ballot_lt lowest b ≡ true → (s : ℕ) → HasPromised (slots s) b r (x.accepted s) ⊎ IsUsed (slots s) b
  answered_now b current high s =
      subst (λ c. HasPromised (slots s) c r (x.accepted s) ⊎ IsUsed (slots s) c) current
      (subst (λ a. ballot_lt lowest a.promised ≡ true → HasPromised (slots s) a.promised r a.accepted ⊎ IsUsed (slots s) a.promised)
      (acceptor_is spec past base sent r x sends slots h s) (repeated Value spec (slots s) r (h.reached s))
      (subst (λ c. ballot_lt lowest c ≡ true) (sym current) high))

  -- what r reports of itself is true
  pub report_true : (b : Ballot) → x.promised ≡ b → ballot_lt lowest b ≡ true → (start : ℕ) (y : Report) → y.from ≡ r →
      ((s : ℕ) → start ≤ s → held_at s y.accepted ≡ x.accepted s) → ((c : MpChosen) → Contains y.chosen c → x.chosen c.slot ≡ Some c.value) →
      HasReported spec slots b start y
  report_true b current high start y from accepted chosen = record {
    answered = λ s late. subst (λ k. HasPromised (slots s) b k (held_at s y.accepted) ⊎ IsUsed (slots s) b) (sym from)
        (subst (λ a. HasPromised (slots s) b r a ⊎ IsUsed (slots s) b) (sym (accepted s late)) (answered_now b current high s));
    chosen = λ c there. chosen_here spec past base sent r x sends slots h c.slot c.value (chosen c there);
  }

  -- a replica begins to ask in a ballot of its own that it promised, with its own report
  pub begins_to_ask : Contains spec r → (b : Ballot) → b.by ≡ r → ballot_lt lowest b ≡ true → x.promised ≡ b → ((s : ℕ) → IsUnused (slots s) b) → (start : ℕ) (y : Report) → y.from ≡ r →
      HasReported spec slots b start y → IsAsking spec slots r x b start (y ∷ [])
  unfolding IsDistinct
  begins_to_ask member b by high current unused start y from true_one = record {
    by = by;
    high = high;
    current = current;
    unused = unused;
    answered = λ s late z c. elim (cons_cases y [] z c) [
      | inl is ↦ subst (λ a. HasPromised (slots s) b a.from (held_at s a.accepted)) is (elim (true_one.answered s late) [
        | inl promised ↦ promised
        | inr used ↦ absurd (unused s used.0 used.1 used.2)
      ])
      | inr none ↦ absurd (none_in z none)
    ];
    chosen = λ z c. elim (cons_cases y [] z c) [
      | inl is ↦ subst (λ a. AreChosen spec slots a) is true_one.chosen
      | inr none ↦ absurd (none_in z none)
    ];
    distinct = (tt, tt);
    of_spec = λ j c. elim (cons_cases y.from [] j c) [
      | inl is ↦ subst (λ k. Contains spec k) (sym from ∙ is) member
      | inr none ↦ absurd (none_in j none)
    ];
  }

  module _ (b : Ballot) (start : ℕ) (reports : List Report) (asks : IsAsking spec slots r x b start reports) where
    -- a further report is counted
    pub counts_report : (y : Report) → Contains spec y.from → HasReported spec slots b start y → (Contains (map (λ z. z.from) reports) y.from → ⊥) →
        IsAsking spec slots r x b start (with_report y reports)
    counts_report y member true_one new = record {
      by = asks.by;
      high = asks.high;
      current = asks.current;
      unused = asks.unused;
      answered = λ s late z c. elim (in_with_report y reports z c) [
        | inl is ↦ subst (λ a. HasPromised (slots s) b a.from (held_at s a.accepted)) is (elim (true_one.answered s late) [
          | inl promised ↦ promised
          | inr used ↦ absurd (asks.unused s used.0 used.1 used.2)
        ])
        | inr old ↦ asks.answered s late z old
      ];
      chosen = λ z c. elim (in_with_report y reports z c) [
        | inl is ↦ subst (λ a. AreChosen spec slots a) is true_one.chosen
        | inr old ↦ asks.chosen z old
      ];
      distinct = distinct_with y reports new asks.distinct;
      of_spec = λ j c. elim (in_froms y reports j c) [ inl is ↦ subst (λ k. Contains spec k) is member | inr old ↦ asks.of_spec j old ];
    }

    -- with a majority of reports it leads
    pub begins_to_lead : majority (length spec) ≤ length reports → IsLeading spec slots r x b start (next_slot start reports) reports []
    unfolding voters_at IsDistinct
    begins_to_lead enough = record {
      by = asks.by;
      current = asks.current;
      used = λ s u. absurd (asks.unused s u.0 u.1 u.2);
      answered = asks.answered;
      majority = record { distinct = asks.distinct; of_spec = asks.of_spec; enough = rw length-map enough };
      above = omega arith;
      below = λ s j c. absurd (none_in (s, j) c);
      voted = λ s j c. absurd (none_in (s, j) c);
      once = λ s. tt;
    }

  -- ---- leading

  module _ (b : Ballot) (start next : ℕ) (reports : List Report) (votes : List (ℕ × ℕ)) (leads : IsLeading spec slots r x b start next reports votes) where
    -- the vote of another is for what the leader accepted
    pub counts_vote : (s k : ℕ) → Contains spec k → (v : Value) → HasVoted (slots s) b k v → Contains votes (s, r) → (Contains votes (s, k) → ⊥) →
        IsLeading spec slots r x b start next reports (votes ++ (s, k) ∷ [])
    counts_vote s k member v vote own new =
        let (of_spec, w, accepted, own_vote) = leads.voted s r own in
        let same : v ≡ w = one_proposed spec past base sent r x sends slots h s b v w
        (voted_proposed spec past base sent r x sends slots h s b k v vote) (voted_proposed spec past base sent r x sends slots h s b r w own_vote) in
        record {
          by = leads.by;
          current = leads.current;
          used = λ t u. Contains-append_left votes _ _ (leads.used t u);
          answered = leads.answered;
          majority = leads.majority;
          above = leads.above;
          below = λ t j c. elim (Contains-push_cases votes (s, k) (t, j) c) [
            | inl old ↦ leads.below t j old
            | inr is ↦ subst (λ a. a < next) (ap (λ p. p.0) is) (leads.below s r own)
          ];
          voted = λ t j c. elim (Contains-push_cases votes (s, k) (t, j) c) [
            | inl old ↦ leads.voted t j old
            | inr is ↦ subst (λ p. Contains spec p.1 × (u : Value) × (x.accepted p.0 ≡ Some (b, u)) × HasVoted (slots p.0) b p.1 u) is
                (member, w, accepted, subst (λ u. HasVoted (slots s) b k u) same vote)
          ];
          once = λ t. voters_push t s k votes new (leads.once t);
        }

    -- the next slot may be a later one
    pub leads_on : (later : ℕ) → next ≤ later → IsLeading spec slots r x b start later reports votes
    leads_on later more = record {
      by = leads.by;
      current = leads.current;
      used = leads.used;
      answered = leads.answered;
      majority = leads.majority;
      above = let a = leads.above in omega arith;
      below = λ t j c. let a = leads.below t j c in omega arith;
      voted = leads.voted;
      once = leads.once;
    }

    -- what the leader accepted is chosen by a majority of votes
    pub votes_choose : (s : ℕ) (a : Ballot × Value) → x.accepted s ≡ Some a → majority (length spec) ≤ length (voters_at s votes) → IsChosen spec (slots s) a.1
    votes_choose s a is enough = record {
      ballot = b;
      voters = voters_at s votes;
      majority = record {
        distinct = leads.once s;
        of_spec = λ k c. (leads.voted s k (voter_in s votes k c)).0;
        enough = enough;
      };
      voted = λ k c.
          let (of_spec, w, accepted, vote) = leads.voted s k (voter_in s votes k c) in
          let same : (b, w) ≡ a = same_some (b, w) a (sym accepted ∙ is) in
          subst (λ u. HasVoted (slots s) b k u.1) same vote;
    }

    -- what the reports leave to propose at a slot is a noop or an own command
    pub owned_answers : (s : ℕ) → start ≤ s → (c : Command) → value_of None (answers_at s reports) ≡ Some c → Contains past.submitted c
    owned_answers s late c is = go (best_of (answers_at s reports)) (best_is Value (answers_at s reports)) is
      where
        none : {X : Type 0} (y : X) → None ≡ Some y → ⊥
        none y e = cc

        go : (best : Option (Found Value)) → IsBest Value (answers_at s reports) best → value_of_best None best ≡ Some c → Contains past.submitted c
        go None g e = absurd (none c e)
        go (Some f) g e =
            let (y, there, of_it) = answer_of_report s reports (record { replica = f.replica; accepted = Some (f.ballot, f.value) }) g.named in
            let answered : Contains (slots s).promises (record { ballot = b; answer = record { replica = f.replica; accepted = Some (f.ballot, f.value) } }) =
            subst (λ z. Contains (slots s).promises (record { ballot = b; answer = z })) of_it (leads.answered s late y there) in
            let proposed : HasProposed (slots s) f.ballot f.value =
            (invariant spec (slots s) (h.reached s)).answer_proposed (record { ballot = b; answer = record { replica = f.replica; accepted = Some (f.ballot, f.value) } }) answered (f.ballot, f.value) refl in
            h.owned s (record { ballot = f.ballot; value = f.value }) c proposed e
