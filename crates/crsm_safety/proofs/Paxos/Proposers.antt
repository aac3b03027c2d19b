-- A proposer's actions are steps of its instance.
use Rattle.std.proofs.Common.{◌≡◌, ℕ, ◌+◌, ◌≤◌, Bool, true, false, cond, not, ◌&&◌, nat_eq, nat_le, List, [], ◌∷◌, ◌++◌, map, length, arith, inl, inr, refl, sym, subst, ap, ◌∙◌, None, length-append}
use Rattle.std.specs.List.{Contains, IsDistinct, fold, list_any}
use Rattle.std.proofs.lemmas.Cmp.{nat_eq_equiv}
use Rattle.std.proofs.lemmas.Bool.Decides.{nat_tests}
use Rattle.std.proofs.lemmas.List.Elements.{Contains-push, Contains-push_cases, Contains-append_left}
use Rattle.std.proofs.lemmas.Map.Keys.{IsDistinct-push}
use Rattle.crsm_base.specs.declared.stamp.Ballot.{Ballot}
use Rattle.crsm_spec.specs.Paxos.{Held, Answer, Instance, best_of, better_answer, better_held, value_of, value_of_best, IsMajority, PaxosStep, MayPropose, after_step, fresh, IsChosen, majority}
use Rattle.crsm_spec.specs.Paxos.PaxosStep.{Promises, Accepts, Proposes}
use Rattle.crsm_base.specs.Order.{ballot_eq}
use Rattle.crsm_base.proofs.Orders.{ballot_eq_is}
use Rattle.crsm_spec.specs.Proposing.{Proposing, start_proposing, value_proposed, is_received, counts_answer, counts_vote, after_answer, after_p1b, after_p2b, makes_majority}
use Rattle.crsm_spec.specs.Following.{IsReached, IsUnused, IsOther, Follows}
use Rattle.crsm_safety.proofs.Paxos.Basics.{both, not_true}
use Rattle.crsm_safety.proofs.Paxos.Instances.{Invariant, start, along}

-- ---- tests and lists

not_both : (x : Bool) → x ≡ true → x ≡ false → ⊥
not_both x h k = cc

fold_push : {A B : Type 0} (f : B → A → B) (a : B) (xs : List A) (x : A) → fold f a (xs ++ x ∷ []) ≡ f (fold f a xs) x
fold_push f a [] x = refl
fold_push f a (y ∷ ys) x = fold_push f (f a y) ys x

map_push : {A B : Type 0} (f : A → B) (xs : List A) (x : A) → map f (xs ++ x ∷ []) ≡ map f xs ++ f x ∷ []
map_push f [] x = refl
map_push f (y ∷ ys) x = ap (λ zs. f y ∷ zs) (map_push f ys x)

received_is : (xs : List ℕ) (r : ℕ) → is_received xs r ≡ list_any (nat_eq r) xs
received_is [] r = refl
received_is (x ∷ xs) r = let e = received_is xs r in let f : nat_eq x r ≡ nat_eq r x = grind (arith, nat_tests) in cc

distinct_push : (xs : List ℕ) (r : ℕ) → IsDistinct nat_eq xs → is_received xs r ≡ false → IsDistinct nat_eq (xs ++ r ∷ [])
distinct_push xs r d h = IsDistinct-push nat_eq_equiv xs r d (sym (received_is xs r) ∙ h)

push_of_spec : (spec xs : List ℕ) (from : ℕ) → ((r : ℕ) → Contains xs r → Contains spec r) → Contains spec from → (r : ℕ) → Contains (xs ++ from ∷ []) r → Contains spec r
push_of_spec spec xs from sub here r c = elim (Contains-push_cases xs from r c) [ inl old ↦ sub r old | inr new ↦ subst (λ q. Contains spec q) new here ]

module _ (D : Type 0) where
  best_push : (xs : List (Answer D)) (from : ℕ) (accepted : Held D) → best_of (xs ++ record { replica = from; accepted = accepted } ∷ []) ≡ better_held (best_of xs) from accepted
  best_push xs from accepted = fold_push better_answer None xs (record { replica = from; accepted = accepted })

module _ (D : Type 0) (spec : List ℕ) where
  reached : (s : Instance D) → IsReached spec s → Invariant D spec s
  reached s r = subst (λ z. Invariant D spec z) (sym r.is) (along D spec fresh r.steps r.run (start D spec))

  pub starts : (s : Instance D) (b : Ballot) (own : D) → IsUnused s b → Follows spec s (start_proposing b own (length spec))
  unfolding IsDistinct
  starts s b own unused = record {
    size = refl;
    answers = [];
    received = refl;
    best = refl;
    promised = λ x c. absurd (none x c);
    distinct = tt;
    of_spec = λ r c. absurd (none r c);
    unused = λ e. unused;
    proposed = λ e. absurd (no e);
    none_yet = λ e. refl;
    voters_distinct = tt;
    voters_of_spec = λ r c. absurd (none r c);
    voted = λ r c. absurd (none r c);
  }
    where
      none : {X : Type 0} (x : X) → Contains [] x → ⊥
      none x c = let h = c.1 in omega arith

      no : false ≡ true → ⊥
      no e = cc

  pub others : (s : Instance D) (p : Proposing D) (e : PaxosStep D) → IsOther e p.ballot → Follows spec s p → Follows spec (after_step s e) p
  others s p (Promises r b) other f = record {
    size = f.size;
    answers = f.answers;
    received = f.received;
    best = f.best;
    promised = λ x c. Contains-append_left s.promises _ _ (f.promised x c);
    distinct = f.distinct;
    of_spec = f.of_spec;
    unused = f.unused;
    proposed = f.proposed;
    none_yet = f.none_yet;
    voters_distinct = f.voters_distinct;
    voters_of_spec = f.voters_of_spec;
    voted = f.voted;
  }
  others s p (Accepts r b d) other f = record {
    size = f.size;
    answers = f.answers;
    received = f.received;
    best = f.best;
    promised = f.promised;
    distinct = f.distinct;
    of_spec = f.of_spec;
    unused = f.unused;
    proposed = f.proposed;
    none_yet = f.none_yet;
    voters_distinct = f.voters_distinct;
    voters_of_spec = f.voters_of_spec;
    voted = λ q c. Contains-append_left s.votes _ _ (f.voted q c);
  }
  others s p (Proposes b own answers) other f = record {
    size = f.size;
    answers = f.answers;
    received = f.received;
    best = f.best;
    promised = f.promised;
    distinct = f.distinct;
    of_spec = f.of_spec;
    unused = λ e q c. elim (Contains-push_cases s.proposals _ q c) [
      | inl old ↦ f.unused e q old
      | inr new ↦ λ same. other (ap (λ z. z.ballot) new ∙ same)
    ];
    proposed = λ e. Contains-append_left s.proposals _ _ (f.proposed e);
    none_yet = f.none_yet;
    voters_distinct = f.voters_distinct;
    voters_of_spec = f.voters_of_spec;
    voted = f.voted;
  }

  -- ---- an answer

  module _ (s : Instance D) (p : Proposing D) (from : ℕ) (b : Ballot) (accepted : Held D) (f : Follows spec s p) (here : Contains spec from)
      (told : Contains s.promises (record { ballot = b; answer = record { replica = from; accepted = accepted } })) (counts : counts_answer p from b ≡ true) where
    more : List (Answer D)
    more = f.answers ++ record { replica = from; accepted = accepted } ∷ []

    this_ballot : b ≡ p.ballot
    this_ballot = ballot_eq_is b p.ballot (both (ballot_eq b p.ballot) _ counts).0

    open_and_new : (not p.has_proposed && not (is_received p.received from)) ≡ true
    open_and_new = (both (ballot_eq b p.ballot) _ counts).1

    is_open : p.has_proposed ≡ false
    is_open = not_true p.has_proposed (both (not p.has_proposed) _ open_and_new).0

    is_new : is_received p.received from ≡ false
    is_new = not_true _ (both (not p.has_proposed) _ open_and_new).1

    received-more : p.received ++ from ∷ [] ≡ map (λ x. x.replica) more
    unfolding more
    received-more = ap (λ z. z ++ from ∷ []) f.received ∙ sym (map_push (λ x. x.replica) f.answers _)

    best-more : better_held p.best from accepted ≡ best_of more
    unfolding more
    best-more = ap (λ z. better_held z from accepted) f.best ∙ sym (best_push D f.answers from accepted)

    promised-more : (x : Answer D) → Contains more x → Contains s.promises (record { ballot = p.ballot; answer = x })
    unfolding more
    promised-more x c = elim (Contains-push_cases f.answers _ x c) [
      | inl old ↦ f.promised x old
      | inr new ↦ subst (λ z. Contains s.promises (record { ballot = p.ballot; answer = z })) new
          (subst (λ z. Contains s.promises (record { ballot = z; answer = record { replica = from; accepted = accepted } })) this_ballot told)
    ]

    distinct-more : IsDistinct nat_eq (p.received ++ from ∷ [])
    distinct-more = distinct_push p.received from f.distinct is_new

    of_spec-more : (r : ℕ) → Contains (p.received ++ from ∷ []) r → Contains spec r
    of_spec-more = push_of_spec spec p.received from f.of_spec here

    -- nothing voted before the proposal
    no_voter : (r : ℕ) → Contains p.voters r → ⊥
    no_voter r c = let d : Contains [] r = subst (λ z. Contains z r) (f.none_yet is_open) c in let h = d.1 in omega arith

    waits_counted : nat_le (majority p.size) (length p.received + 1) ≡ false → Follows spec s (after_answer p from accepted)
    waits_counted few = record {
      size = f.size;
      answers = more;
      received = received-more;
      best = best-more;
      promised = promised-more;
      distinct = distinct-more;
      of_spec = of_spec-more;
      unused = λ e. f.unused is_open;
      proposed = λ e. absurd (not_both _ e few);
      none_yet = λ e. f.none_yet is_open;
      voters_distinct = f.voters_distinct;
      voters_of_spec = f.voters_of_spec;
      voted = λ r c. absurd (no_voter r c);
    }

    value-more : value_of p.own more ≡ value_proposed (after_answer p from accepted)
    value-more = ap (λ z. value_of_best p.own z) (sym best-more)

    may_propose : majority p.size ≤ length p.received + 1 → MayPropose spec s p.ballot more
    may_propose enough = record {
      first = f.unused is_open;
      promised = promised-more;
      majority = subst (λ z. IsMajority spec z) received-more (record {
        distinct = distinct-more;
        of_spec = of_spec-more;
        enough = subst (λ n. majority n ≤ length (p.received ++ from ∷ [])) f.size (omega (arith, length-append p.received (from ∷ [])));
      });
    }

    proposes_counted : majority p.size ≤ length p.received + 1 → Follows spec (after_step s (Proposes p.ballot p.own more)) (after_answer p from accepted)
    proposes_counted enough = record {
      size = f.size;
      answers = more;
      received = received-more;
      best = best-more;
      promised = promised-more;
      distinct = distinct-more;
      of_spec = of_spec-more;
      unused = λ e. absurd (not_both (nat_le (majority p.size) (length p.received + 1)) (grind (arith, nat_tests)) e);
      proposed = λ e. subst (λ d. Contains (s.proposals ++ record { ballot = p.ballot; value = value_of p.own more } ∷ []) (record { ballot = p.ballot; value = d }))
          value-more (Contains-push s.proposals (record { ballot = p.ballot; value = value_of p.own more }));
      none_yet = λ e. f.none_yet is_open;
      voters_distinct = f.voters_distinct;
      voters_of_spec = f.voters_of_spec;
      voted = λ r c. absurd (no_voter r c);
    }

  pub waits : (s : Instance D) (p : Proposing D) (from : ℕ) (b : Ballot) (accepted : Held D) →
      Follows spec s p → Contains spec from → Contains s.promises (record { ballot = b; answer = record { replica = from; accepted = accepted } }) →
      (after_p1b p from b accepted).has_proposed ≡ p.has_proposed → Follows spec s (after_p1b p from b accepted)
  waits s p from b accepted f here told = go (counts_answer p from b) refl
    where
      go : (c : Bool) → counts_answer p from b ≡ c → (cond c (after_answer p from accepted) p).has_proposed ≡ p.has_proposed → Follows spec s (cond c (after_answer p from accepted) p)
      go true e same = waits_counted s p from b accepted f here told e (same ∙ is_open s p from b accepted f here told e)
      go false e same = f

  pub proposes : (s : Instance D) (p : Proposing D) (from : ℕ) (b : Ballot) (accepted : Held D) →
      Follows spec s p → Contains spec from → Contains s.promises (record { ballot = b; answer = record { replica = from; accepted = accepted } }) →
      counts_answer p from b ≡ true → majority p.size ≤ length p.received + 1 →
      (answers : List (Answer D)) × MayPropose spec s p.ballot answers × (value_of p.own answers ≡ value_proposed (after_answer p from accepted)) ×
      Follows spec (after_step s (Proposes p.ballot p.own answers)) (after_answer p from accepted)
  proposes s p from b accepted f here told counts enough = (
    more s p from b accepted f here told counts,
    may_propose s p from b accepted f here told counts enough,
    value-more s p from b accepted f here told counts,
    proposes_counted s p from b accepted f here told counts enough,
  )

  -- ---- a vote

  module _ (s : Instance D) (p : Proposing D) (from : ℕ) (b : Ballot) (d : D) (r : IsReached spec s) (f : Follows spec s p) (here : Contains spec from)
      (cast : Contains s.votes (record { ballot = b; acceptor = from; value = d })) (counts : counts_vote p from b ≡ true) where
    voted_ballot : b ≡ p.ballot
    voted_ballot = ballot_eq_is b p.ballot (both (ballot_eq b p.ballot) _ counts).0

    has_and_new : (p.has_proposed && not (is_received p.voters from)) ≡ true
    has_and_new = (both (ballot_eq b p.ballot) _ counts).1

    has : p.has_proposed ≡ true
    has = (both p.has_proposed _ has_and_new).0

    new_voter : is_received p.voters from ≡ false
    new_voter = not_true _ (both p.has_proposed _ has_and_new).1

    -- a ballot proposes once, so the vote is for the proposer's value
    voted_value : d ≡ value_proposed p
    voted_value =
        let i = reached s r in
        i.one_each (record { ballot = b; value = d }) (record { ballot = p.ballot; value = value_proposed p })
        (i.vote_proposed _ cast) (f.proposed has) voted_ballot

    cast_here : Contains s.votes (record { ballot = p.ballot; acceptor = from; value = value_proposed p })
    cast_here =
        subst (λ z. Contains s.votes (record { ballot = p.ballot; acceptor = from; value = z })) voted_value
        (subst (λ z. Contains s.votes (record { ballot = z; acceptor = from; value = d })) voted_ballot cast)

    voted-more : (q : ℕ) → Contains (p.voters ++ from ∷ []) q → Contains s.votes (record { ballot = p.ballot; acceptor = q; value = value_proposed p })
    voted-more q c = elim (Contains-push_cases p.voters from q c) [
      | inl old ↦ f.voted q old
      | inr new ↦ subst (λ z. Contains s.votes (record { ballot = p.ballot; acceptor = z; value = value_proposed p })) new cast_here
    ]

    voters_distinct-more : IsDistinct nat_eq (p.voters ++ from ∷ [])
    voters_distinct-more = distinct_push p.voters from f.voters_distinct new_voter

    voters_of_spec-more : (q : ℕ) → Contains (p.voters ++ from ∷ []) q → Contains spec q
    voters_of_spec-more = push_of_spec spec p.voters from f.voters_of_spec here

    vote_counted : Follows spec s (record p { voters = p.voters ++ from ∷ [] })
    vote_counted = record {
      size = f.size;
      answers = f.answers;
      received = f.received;
      best = f.best;
      promised = f.promised;
      distinct = f.distinct;
      of_spec = f.of_spec;
      unused = f.unused;
      proposed = f.proposed;
      none_yet = λ e. absurd (not_both p.has_proposed has e);
      voters_distinct = voters_distinct-more;
      voters_of_spec = voters_of_spec-more;
      voted = voted-more;
    }

    chosen_now : makes_majority p ≡ true → IsChosen spec s (value_proposed p)
    chosen_now makes = record {
      ballot = p.ballot;
      voters = p.voters ++ from ∷ [];
      majority = record {
        distinct = voters_distinct-more;
        of_spec = voters_of_spec-more;
        enough =
            let e : length p.voters + 1 ≡ majority p.size = grind (arith, nat_tests) in
            subst (λ n. majority n ≤ length (p.voters ++ from ∷ [])) f.size (omega (arith, length-append p.voters (from ∷ [])));
      };
      voted = voted-more;
    }

  pub votes : (s : Instance D) (p : Proposing D) (from : ℕ) (b : Ballot) (d : D) → IsReached spec s → Follows spec s p → Contains spec from →
      Contains s.votes (record { ballot = b; acceptor = from; value = d }) → Follows spec s (after_p2b p from b)
  votes s p from b d r f here cast = go (counts_vote p from b) refl
    where
      go : (c : Bool) → counts_vote p from b ≡ c → Follows spec s (cond c (record p { voters = p.voters ++ from ∷ [] }) p)
      go true e = vote_counted s p from b d r f here cast e
      go false e = f

  pub chooses : (s : Instance D) (p : Proposing D) (from : ℕ) (b : Ballot) (d : D) → IsReached spec s → Follows spec s p → Contains spec from →
      Contains s.votes (record { ballot = b; acceptor = from; value = d }) → counts_vote p from b ≡ true → makes_majority p ≡ true → IsChosen spec s (value_proposed p)
  chooses s p from b d r f here cast counts makes = chosen_now s p from b d r f here cast counts makes
