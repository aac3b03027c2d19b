-- Tests, lists and functions changed at one place, as the laws of Paxos need them.
use Rattle.std.proofs.Common.{zero, suc, ◌≡◌, ◌≢◌, ℕ, ◌≤◌, ◌⊎◌, Bool, true, false, cond, not, ◌&&◌, ◌||◌, nat_eq, nat_le, List, [], ◌∷◌, arith, inl, inr, refl, sym, subst, Some, None}
use Rattle.std.specs.List.{Contains, slice_get}
use Rattle.std.proofs.lemmas.Bool.Decides.{nat_tests}
use Rattle.std.proofs.lemmas.List.Elements.{Contains-push_cases, Contains-append_left, Contains-append_right}
use Rattle.crsm_base.specs.declared.stamp.Ballot.{Ballot}
use Rattle.crsm_base.specs.Order.{ballot_lt}
use Rattle.crsm_base.proofs.Orders.{ballot_eq_is}
use Rattle.crsm_spec.specs.Paxos.{Held, Promise, Vote, Proposal, Instance, PaxosStep, after_step}
use Rattle.crsm_spec.specs.Paxos.PaxosStep.{Promises, Accepts, Proposes}
use Rattle.crsm_spec.specs.Proposing.{Proposing, is_received}
use Rattle.crsm_spec.specs.Following.{IsUsed, lowest}
use Rattle.crsm_safety.proofs.Paxos.Majority.{nat_eq_is, nat_eq_itself}
use Rattle.crsm_spec.specs.Epochs.{Replica, Message, next_ballot, is_held_below, is_held_in}

pub nat_eq_not : (x y : ℕ) → nat_eq x y ≡ false → x ≢ y
nat_eq_not x y h = grind (arith, nat_tests)

-- one place of a function changed
module _ {X : Type 0} (f : ℕ → X) (i : ℕ) (x : X) where
  unfoldable pub changed : ℕ → X
  changed j = cond (nat_eq j i) x (f j)

  pub changed_at : (P : X → Type 0) → P x → P (changed i)
  unfolding changed
  changed_at P h = subst (λ b. P (cond b x (f i))) (sym (nat_eq_itself i)) h

  pub changed_cases : (j : ℕ) (P : X → Type 0) → (j ≡ i → P x) → (j ≢ i → P (f j)) → P (changed j)
  unfolding changed
  changed_cases j P same other = go (nat_eq j i) refl
    where
      go : (b : Bool) → nat_eq j i ≡ b → P (cond b x (f j))
      go true e = same (nat_eq_is j i e)
      go false e = other (nat_eq_not j i e)

pub either_false : (x y : Bool) → (x || y) ≡ false → (x ≡ false) × (y ≡ false)
either_false true y e = absurd (no e)
  where
    no : true ≡ false → ⊥
    no e = cc
either_false false y e = (refl, e)

pub not_false : (x : Bool) → not x ≡ false → x ≡ true
not_false true e = refl
not_false false e = cc

pub clash : (x : Bool) → x ≡ true → x ≡ false → ⊥
clash x h k = cc

pub both : (x y : Bool) → (x && y) ≡ true → (x ≡ true) × (y ≡ true)
both true y h = (refl, h)
both false y h = absurd (no h)
  where
    no : false ≡ true → ⊥
    no e = cc

pub not_true : (x : Bool) → not x ≡ true → x ≡ false
not_true true h = cc
not_true false h = refl

pub le_from : (m n : ℕ) → nat_le m n ≡ true → m ≤ n
le_from m n h = grind (arith, nat_tests)

pub held_in : {D : Type 0} (h : Held D) (b : Ballot) → is_held_in h b ≡ true → (held : Ballot × D) × (h ≡ Some held) × (held.0 ≡ b)
held_in None b e = absurd (no e)
  where
    no : false ≡ true → ⊥
    no e = cc
held_in (Some h) b e = (h, refl, ballot_eq_is h.0 b e)

pub no_coordinator : {D : Type 0} (p : Proposing D) → None ≡ Some p → ⊥
no_coordinator p e = cc

pub received_contains : (xs : List ℕ) (r : ℕ) → is_received xs r ≡ true → Contains xs r
received_contains [] r h = absurd (no h)
  where
    no : false ≡ true → ⊥
    no e = cc
received_contains (x ∷ xs) r h = go (nat_eq x r) refl h (received_contains xs r)
  where
    go : (b : Bool) → nat_eq x r ≡ b → (b || is_received xs r) ≡ true → (is_received xs r ≡ true → Contains xs r) → Contains (x ∷ xs) r
    go true e k rest = subst (λ z. Contains (x ∷ xs) z) (nat_eq_is x r e) (0, omega arith, refl)
    go false e k rest = Contains-append_right (x ∷ []) xs r (rest k)

pub got : {X : Type 0} (xs : List X) (k : ℕ) (x : X) → slice_get xs k ≡ Some x → Contains xs x
got [] k x e = absurd (no e)
  where
    no : None ≡ Some x → ⊥
    no e = cc
got (y ∷ ys) zero x e = let same : y ≡ x = cc in subst (λ z. Contains (y ∷ ys) z) same (0, omega arith, refl)
got (y ∷ ys) (suc k) x e = Contains-append_right (y ∷ []) ys x (got ys k x e)

pub next_above : {D : Type 0} (r : ℕ) (x : Replica D) → ballot_lt x.held.promised (next_ballot r x) ≡ true
unfolding ballot_lt
next_above r x = grind (arith, nat_tests)

pub next_high : {D : Type 0} (r : ℕ) (x : Replica D) → ballot_lt lowest (next_ballot r x) ≡ true
unfolding ballot_lt
next_high r x = grind (arith, nat_tests)

pub held_below : {D : Type 0} (h : Held D) (b : Ballot) → is_held_below h b ≡ true → (held : Ballot × D) → h ≡ Some held → ballot_lt held.0 b ≡ true
held_below None b low held is = cc
held_below (Some h) b low held is = let e : h ≡ held = cc in subst (λ z. ballot_lt z.0 b ≡ true) e low

-- ---- what a step adds to an instance stays

pub more_promises : {D : Type 0} → (z : Instance D) (e : PaxosStep D) (p : Promise D) → Contains z.promises p → Contains (after_step z e).promises p
more_promises z (Promises r b) p c = Contains-append_left z.promises _ _ c
more_promises z (Accepts r b d) p c = c
more_promises z (Proposes b own answers) p c = c

pub more_votes : {D : Type 0} → (z : Instance D) (e : PaxosStep D) (v : Vote D) → Contains z.votes v → Contains (after_step z e).votes v
more_votes z (Promises r b) v c = c
more_votes z (Accepts r b d) v c = Contains-append_left z.votes _ _ c
more_votes z (Proposes b own answers) v c = c

pub more_proposals : {D : Type 0} → (z : Instance D) (e : PaxosStep D) (q : Proposal D) → Contains z.proposals q → Contains (after_step z e).proposals q
more_proposals z (Promises r b) q c = c
more_proposals z (Accepts r b d) q c = c
more_proposals z (Proposes b own answers) q c = Contains-append_left z.proposals _ _ c

pub more_used : {D : Type 0} → (z : Instance D) (e : PaxosStep D) (b : Ballot) → IsUsed z b → IsUsed (after_step z e) b
more_used z e b u = (u.0, more_proposals z e u.0 u.1, u.2)

-- ---- short lists

pub in_one : {D : Type 0} → (x m : Message D) → Contains (x ∷ []) m → x ≡ m
in_one x m c = elim (Contains-push_cases [] x m c) [ inl none ↦ absurd (let h = none.1 in omega arith) | inr is ↦ is ]

pub in_two : {D : Type 0} → (x y m : Message D) → Contains (x ∷ y ∷ []) m → (x ≡ m) ⊎ (y ≡ m)
in_two x y m c = elim (Contains-push_cases (x ∷ []) y m c) [ inl one ↦ inl (in_one x m one) | inr is ↦ inr is ]

pub in_none : {D : Type 0} → (m : Message D) → Contains [] m → ⊥
in_none m c = let h = c.1 in omega arith
