-- A chosen decision was some proposer's own value.
use Rattle.std.proofs.Common.{◌<◌, ℕ, List, [], ◌∷◌, ◌++◌, arith, inl, inr, refl, subst, Option, Some, None, append_assoc, append-nil}
use Rattle.std.specs.List.{Contains}
use Rattle.std.proofs.lemmas.List.Elements.{Contains-push, Contains-push_cases, Contains-append_left}
use Rattle.crsm_base.specs.declared.stamp.Ballot.{Ballot}
use Rattle.crsm_spec.specs.Paxos.{Answer, Found, Proposal, Instance, PaxosStep, MayTake, MayPropose, best_of, value_of, value_of_best, after_step, after_steps, fresh, IsRun, IsChosen}
use Rattle.crsm_spec.specs.Paxos.PaxosStep.{Promises, Accepts, Proposes}
use Rattle.crsm_safety.proofs.Paxos.Instances.{Invariant, start, kept, along, proposed}
use Rattle.crsm_safety.proofs.Paxos.Best.{IsBest, best_is}

module _ (D : Type 0) (spec : List ℕ) where
  -- one of the steps proposed with d as its own
  abbrev IsOwn : List (PaxosStep D) → D → Type 0
  IsOwn steps d = (b : Ballot) × (answers : List (Answer D)) × Contains steps (Proposes b d answers)

  Owned : List (PaxosStep D) → Instance D → Type 0
  Owned steps s = (q : Proposal D) → Contains s.proposals q → IsOwn steps q.value

  more : (steps : List (PaxosStep D)) (e : PaxosStep D) (d : D) → IsOwn steps d → IsOwn (steps ++ e ∷ []) d
  more steps e d o = (o.0, o.1, Contains-append_left steps (e ∷ []) _ o.2)

  value_owned : (steps : List (PaxosStep D)) (s : Instance D) (b : Ballot) (own : D) (answers : List (Answer D)) → MayPropose spec s b answers →
      Invariant D spec s → Owned steps s → IsOwn (steps ++ Proposes b own answers ∷ []) (value_of own answers)
  unfolding Owned
  value_owned steps s b own answers may i owned = go (best_of answers) (best_is D answers)
    where
      go : (best : Option (Found D)) → IsBest D answers best → IsOwn (steps ++ Proposes b own answers ∷ []) (value_of_best own best)
      go None none = (b, answers, Contains-push steps (Proposes b own answers))
      go (Some f) g = more steps (Proposes b own answers) f.value
          (owned (record { ballot = f.ballot; value = f.value })
          (i.answer_proposed (record { ballot = b; answer = record { replica = f.replica; accepted = Some (f.ballot, f.value) } })
          (may.promised _ g.named) (f.ballot, f.value) refl))

  kept-owned : (steps : List (PaxosStep D)) (s : Instance D) (e : PaxosStep D) → MayTake spec s e → Invariant D spec s → Owned steps s → Owned (steps ++ e ∷ []) (after_step s e)
  unfolding Owned
  kept-owned steps s (Promises r b) may i owned q c = more steps (Promises r b) q.value (owned q c)
  kept-owned steps s (Accepts r b d) may i owned q c = more steps (Accepts r b d) q.value (owned q c)
  kept-owned steps s (Proposes b own answers) may i owned q c =
      elim (Contains-push_cases s.proposals _ q c) [
        | inl old ↦ more steps (Proposes b own answers) q.value (owned q old)
        | inr new ↦ subst (λ z. IsOwn (steps ++ Proposes b own answers ∷ []) z.value) new (value_owned steps s b own answers may i owned)
      ]

  along-owned : (before : List (PaxosStep D)) (s : Instance D) (es : List (PaxosStep D)) → IsRun spec s es → Invariant D spec s → Owned before s → Owned (before ++ es) (after_steps s es)
  along-owned before s [] run i owned = rw append-nil owned
  along-owned before s (e ∷ es) run i owned =
      let rest : Owned ((before ++ e ∷ []) ++ es) (after_steps (after_step s e) es) =
      along-owned (before ++ e ∷ []) (after_step s e) es run.1 (kept D spec s e run.0 i) (kept-owned before s e run.0 i owned) in
      rw append_assoc at rest

  none_yet : Owned [] fresh
  unfolding Owned
  none_yet q c = absurd (none c.0 c.1)
    where
      none : (k : ℕ) → k < 0 → ⊥
      none k h = omega arith

  pub chosen_is_own : (es : List (PaxosStep D)) (d : D) → IsRun spec fresh es → IsChosen spec (after_steps fresh es) d → IsOwn es d
  unfolding Owned
  chosen_is_own es d run c =
      along-owned [] fresh es run (start D spec) none_yet (record { ballot = c.ballot; value = d })
      (proposed D spec (after_steps fresh es) (along D spec fresh es run (start D spec)) d c)
