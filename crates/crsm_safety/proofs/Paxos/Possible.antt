-- A single replica can choose a decision.
use Rattle.std.proofs.Common.{◌≡◌, List, [], ◌∷◌, arith, inl, inr, refl, subst, None}
use Rattle.std.specs.List.{Contains, IsDistinct}
use Rattle.std.proofs.lemmas.List.Elements.{Contains-push_cases}
use Rattle.crsm_base.specs.declared.stamp.Ballot.{Ballot}
use Rattle.crsm_base.specs.Order.{ballot_lt}
use Rattle.crsm_spec.specs.Paxos.{Answer, Promise, Vote, IsMajority, PaxosStep, after_steps, fresh, IsRun, IsChosen}
use Rattle.crsm_spec.specs.Paxos.PaxosStep.{Promises, Accepts, Proposes}

none_in : {X : Type 0} (x : X) → Contains [] x → ⊥
none_in x c = let h = c.1 in omega arith

only : {X : Type 0} (x y : X) → Contains (x ∷ []) y → x ≡ y
only x y c = elim (Contains-push_cases [] x y c) [ inl none ↦ absurd (none_in y none) | inr is ↦ is ]

here : {X : Type 0} (x : X) → Contains (x ∷ []) x
here x = (0, omega arith, refl)

first : Ballot
first = record { round = 1; by = 0 }

alone : IsMajority (0 ∷ []) (0 ∷ [])
unfolding IsDistinct
alone = record { distinct = (tt, tt); of_spec = λ r c. c; enough = omega arith }

module _ (D : Type 0) (d : D) where
  answer : Answer D
  answer = record { replica = 0; accepted = None }

  steps : List (PaxosStep D)
  steps = Promises 0 first ∷ Proposes first d (answer ∷ []) ∷ Accepts 0 first d ∷ []

  run : IsRun (0 ∷ []) fresh steps
  unfolding steps first answer ballot_lt
  run = (
    refl,
    (
      record {
        first = λ p c. absurd (none_in p c);
        promised = λ x c. subst (λ z. Contains {X = Promise D} (record { ballot = first; answer = answer } ∷ []) (record { ballot = first; answer = z })) (only answer x c) (here (record { ballot = first; answer = answer }));
        majority = alone;
      },
      (
        record {
          takes = record { not_below = refl; above = λ held e. cc };
          proposed = here (record { ballot = first; value = d });
        },
        tt,
      ),
    ),
  )

  pub can_choose : (steps : List (PaxosStep D)) × IsRun (0 ∷ []) fresh steps × IsChosen (0 ∷ []) (after_steps fresh steps) d
  unfolding steps first answer
  can_choose = (
    steps,
    run,
    record {
      ballot = first;
      voters = 0 ∷ [];
      majority = alone;
      voted = λ r c. subst (λ z. Contains {X = Vote D} (record { ballot = first; acceptor = 0; value = d } ∷ []) (record { ballot = first; acceptor = z; value = d })) (only 0 r c) (here (record { ballot = first; acceptor = 0; value = d }));
    },
  )
