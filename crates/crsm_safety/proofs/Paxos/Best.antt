-- The answer that counts among those of a majority.
use Rattle.std.proofs.Common.{◌≡◌, ◌<◌, ◌≤◌, Bool, true, false, cond, ltb, ◌||◌, ◌&&◌, not, List, [], ◌∷◌, ◌++◌, arith, inl, inr, refl, sym, subst, Option, Some, None, append_assoc, append-nil}
use Rattle.std.specs.List.{Contains, fold}
use Rattle.std.specs.Option.{MatchOption}
use Rattle.std.proofs.lemmas.Bool.Decides.{nat_tests}
use Rattle.std.proofs.lemmas.List.Elements.{Contains-push, Contains-push_cases, Contains-append_left}
use Rattle.crsm_base.specs.declared.stamp.Ballot.{Ballot}
use Rattle.crsm_base.specs.Order.{ballot_lt}
use Rattle.crsm_spec.specs.Paxos.{Answer, Found, Held, IsGreatest, better_answer, better_held, better, best_of, counts_before}
use Rattle.crsm_base.proofs.Orders.{below-irrefl, le_trans, below_not_back, same_from_both}

module _ (D : Type 0) where
  abbrev pub IsBest : List (Answer D) → Option (Found D) → Type 0
  IsBest answers best = MatchOption best ((x : Answer D) → Contains answers x → x.accepted ≡ None) (λ f. IsGreatest answers f)

  -- the further answer is none
  push_none : (xs : List (Answer D)) (best : Option (Found D)) (x : Answer D) → x.accepted ≡ None → IsBest xs best → IsBest (xs ++ x ∷ []) best
  push_none xs None x e is = λ y c. elim (Contains-push_cases xs x y c) [ inl k ↦ is y k | inr same ↦ subst (λ z. z.accepted ≡ None) same e ]
  push_none xs (Some f) x e is = record {
    named = Contains-append_left xs (x ∷ []) _ is.named;
    greatest = λ y c held k. elim (Contains-push_cases xs x y c) [
      | inl here ↦ is.greatest y here held k
      | inr same ↦ let h : x.accepted ≡ Some held = subst (λ z. z.accepted ≡ Some held) (sym same) k in cc
    ];
    least = λ y c held k same_ballot. elim (Contains-push_cases xs x y c) [
      | inl here ↦ is.least y here held k same_ballot
      | inr same ↦ let h : x.accepted ≡ Some held = subst (λ z. z.accepted ≡ Some held) (sym same) k in cc
    ];
  }

  found : Answer D → Ballot × D → Found D
  found x held = record { ballot = held.0; replica = x.replica; value = held.1 }

  same_held : (x y : Answer D) (held h : Ballot × D) → x.accepted ≡ Some held → x ≡ y → y.accepted ≡ Some h → held ≡ h
  same_held x y held h e same k = let j : x.accepted ≡ Some h = subst (λ z. z.accepted ≡ Some h) (sym same) k in cc

  named_last : (xs : List (Answer D)) (x : Answer D) (held : Ballot × D) → x.accepted ≡ Some held →
      Contains (xs ++ x ∷ []) (record { replica = x.replica; accepted = Some (held.0, held.1) })
  named_last xs x held e = subst (λ h. Contains (xs ++ x ∷ []) (record { replica = x.replica; accepted = h })) e (Contains-push xs x)

  -- the last answer counts, where it does over each before it
  last_counts : (xs : List (Answer D)) (x : Answer D) (held : Ballot × D) → x.accepted ≡ Some held →
      ((y : Answer D) → Contains xs y → (h : Ballot × D) → y.accepted ≡ Some h → ballot_lt held.0 h.0 ≡ false) →
      ((y : Answer D) → Contains xs y → (h : Ballot × D) → y.accepted ≡ Some h → h.0 ≡ held.0 → x.replica ≤ y.replica) →
      IsGreatest (xs ++ x ∷ []) (found x held)
  unfolding found
  last_counts xs x held e over first = record {
    named = named_last xs x held e;
    greatest = λ y c h k. elim (Contains-push_cases xs x y c) [
      | inl old ↦ over y old h k
      | inr new ↦ subst (λ z. ballot_lt held.0 z.0 ≡ false) (same_held x y held h e new k) (below-irrefl held.0)
    ];
    least = λ y c h k at. elim (Contains-push_cases xs x y c) [
      | inl old ↦ first y old h k at
      | inr new ↦ subst (λ z. x.replica ≤ z.replica) new (omega arith)
    ];
  }

  not_under : (x f : Found D) → counts_before x f ≡ true → ballot_lt x.ballot f.ballot ≡ false
  not_under x f h = by_cases (ballot_lt f.ballot x.ballot) refl
    where
      by_cases : (b : Bool) → ballot_lt f.ballot x.ballot ≡ b → ballot_lt x.ballot f.ballot ≡ false
      by_cases true k = below_not_back f.ballot x.ballot k
      by_cases false k = tail (ballot_lt x.ballot f.ballot) (rw k at h)
        where
          tail : (c : Bool) → (false || (not c && ltb x.replica f.replica)) ≡ true → c ≡ false
          tail true e = cc
          tail false e = refl

  lesser : (x f : Found D) → counts_before x f ≡ true → ballot_lt f.ballot x.ballot ≡ false → x.replica < f.replica
  lesser x f h k = tail (ballot_lt x.ballot f.ballot) (rw k at h)
    where
      tail : (c : Bool) → (false || (not c && ltb x.replica f.replica)) ≡ true → x.replica < f.replica
      tail true e = cc
      tail false e = grind (arith, nat_tests)

  last_wins : (xs : List (Answer D)) (f : Found D) (x : Answer D) (held : Ballot × D) → x.accepted ≡ Some held → IsGreatest xs f →
      counts_before (found x held) f ≡ true → IsGreatest (xs ++ x ∷ []) (found x held)
  unfolding found
  last_wins xs f x held e g wins = last_counts xs x held e
      (λ y c h k. le_trans h.0 f.ballot held.0 (g.greatest y c h k) (not_under (found x held) f wins))
      (λ y c h k at.
      let upper : ballot_lt f.ballot h.0 ≡ false = g.greatest y c h k in
      let under : ballot_lt f.ballot held.0 ≡ false = subst (λ z. ballot_lt f.ballot z ≡ false) at upper in
      let over : ballot_lt h.0 f.ballot ≡ false = subst (λ z. ballot_lt z f.ballot ≡ false) (sym at) (not_under (found x held) f wins) in
      let below_f : x.replica < f.replica = lesser (found x held) f wins under in
      let f_first : f.replica ≤ y.replica = g.least y c h k (same_from_both h.0 f.ballot over upper) in
      omega arith)

  last_loses : (xs : List (Answer D)) (f : Found D) (x : Answer D) (held : Ballot × D) → x.accepted ≡ Some held → IsGreatest xs f →
      counts_before (found x held) f ≡ false → IsGreatest (xs ++ x ∷ []) f
  unfolding found
  last_loses xs f x held e g loses = record {
    named = Contains-append_left xs (x ∷ []) _ g.named;
    greatest = λ y c h k. elim (Contains-push_cases xs x y c) [
      | inl old ↦ g.greatest y old h k
      | inr new ↦ subst (λ z. ballot_lt f.ballot z.0 ≡ false) (same_held x y held h e new k) (upper (ballot_lt f.ballot held.0) _ loses)
    ];
    least = λ y c h k at. elim (Contains-push_cases xs x y c) [
      | inl old ↦ g.least y old h k at
      | inr new ↦
          let tie : held.0 ≡ f.ballot = subst (λ z. z.0 ≡ f.ballot) (sym (same_held x y held h e new k)) at in
          let apart : ballot_lt held.0 f.ballot ≡ false = subst (λ z. ballot_lt z f.ballot ≡ false) (sym tie) (below-irrefl f.ballot) in
          subst (λ z. f.replica ≤ z.replica) new (least_of (ballot_lt f.ballot held.0) (rw apart at loses))
    ];
  }
    where
      upper : (b c : Bool) → (b || c) ≡ false → b ≡ false
      upper true c h = cc
      upper false c h = refl

      least_of : (b : Bool) → (b || (not false && ltb x.replica f.replica)) ≡ false → f.replica ≤ x.replica
      least_of true h = cc
      least_of false h = grind (arith, nat_tests)

  push_some : (xs : List (Answer D)) (best : Option (Found D)) (x : Answer D) (held : Ballot × D) → x.accepted ≡ Some held → IsBest xs best →
      IsBest (xs ++ x ∷ []) (better best (found x held))
  unfolding found
  push_some xs None x held e none = last_counts xs x held e
      (λ y c h k. let n = none y c in cc)
      (λ y c h k at. let n = none y c in cc)
  push_some xs (Some f) x held e g = go (counts_before (found x held) f) refl
    where
      go : (b : Bool) → counts_before (found x held) f ≡ b → IsBest (xs ++ x ∷ []) (cond b (Some (found x held)) (Some f))
      go true w = last_wins xs f x held e g w
      go false w = last_loses xs f x held e g w

  pub best_push : (xs : List (Answer D)) (best : Option (Found D)) (x : Answer D) → IsBest xs best → IsBest (xs ++ x ∷ []) (better_answer best x)
  unfolding found
  best_push xs best x is = go x.accepted refl
    where
      go : (h : Held D) → x.accepted ≡ h → IsBest (xs ++ x ∷ []) (better_held best x.replica h)
      go None e = push_none xs best x e is
      go (Some held) e = push_some xs best x held e is

  best_fold : (xs ys : List (Answer D)) (best : Option (Found D)) → IsBest xs best → IsBest (xs ++ ys) (fold better_answer best ys)
  best_fold xs [] best is = rw append-nil is
  best_fold xs (y ∷ ys) best is =
      let rest : IsBest ((xs ++ y ∷ []) ++ ys) (fold better_answer (better_answer best y) ys) = best_fold (xs ++ y ∷ []) ys (better_answer best y) (best_push xs best y is) in
      rw append_assoc at rest

  pub best_is : (xs : List (Answer D)) → IsBest xs (best_of xs)
  best_is xs = best_fold [] xs None (λ x c. absurd (omega (arith, c.1)))
