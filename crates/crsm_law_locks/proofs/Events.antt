-- The effect of an entry of a lawful list on a key: none, a grant, or a return.
use Rattle.std.proofs.Common.{◌≡◌, ℕ, zero, suc, ◌+◌, ◌⊎◌, inl, inr, List, [], ◌∷◌, ◌++◌, take, Option, Some, refl, sym, ap, subst, ◌∙◌}
use Rattle.std.specs.Prelude.{slice_get}
use Rattle.std.proofs.lemmas.Grind.{fold-append}
use Rattle.std.proofs.lemmas.Option.{same_Some}
use Rattle.crsm_base.specs.Store.{Rows, after, answer_after, apply, no_rows, value_at}
use Rattle.crsm_spec.specs.Types.{Entry, Op}
use Rattle.crsm_lease.specs.declared.lock.Lock.{Lock}
use Rattle.crsm_lease.specs.declared.rule.Action.{Action}
use Rattle.crsm_lease.specs.Locks.{FitsLock, HasLock, LocksHaveOneValue, lock_bytes}
use Rattle.crsm_lease.specs.Rules.{AskedAreGrantsOrReturns, Asks, Grants, IsTakable, Returns, cas_to, fence_of, give_back}
use Rattle.crsm_law_locks.specs.Grants.{IsGrant, IsLawful, IsReturn, KeepsToRules, TakesEffect}
use Rattle.crsm_law_locks.proofs.Stepping.{Changes, HasEffect, Leaves, one_step, same_expected, same_new}

-- the key's value after so many entries
abbrev pub value_after : List ℕ → List Entry → ℕ → Option (List ℕ)
value_after key es n = value_at key (after (take n es)).keys

-- neither a grant nor a return: the value stays
pub record QuietAt (key : List ℕ) (es : List Entry) (n : ℕ) : Type 0 where
  pub same : value_after key es (suc n) ≡ value_after key es n
  pub no_grant : (fence owner : ℕ) → IsGrant key es n fence owner → ⊥
  pub no_return : (fence owner : ℕ) → IsReturn key es n fence owner → ⊥

-- a grant of the lock that the key had
pub record GrantAt (key : List ℕ) (es : List Entry) (n : ℕ) : Type 0 where
  pub entry : Entry
  pub action : Action
  pub lock : Lock
  pub fits : FitsLock (Lock.Held (fence_of lock + 1) entry.command.client)
  pub has : HasLock (value_after key es n) lock
  pub takable : IsTakable action entry.command.client lock
  pub effect : TakesEffect es n entry
  pub asked : Asks action entry.command.client entry.command.op
  pub is : entry.command.op ≡ cas_to key (value_after key es n) (Lock.Held (fence_of lock + 1) entry.command.client)
  pub now : value_after key es (suc n) ≡ Some (lock_bytes (Lock.Held (fence_of lock + 1) entry.command.client))

-- a return of the lock that the key had
pub record ReturnAt (key : List ℕ) (es : List Entry) (n : ℕ) : Type 0 where
  pub entry : Entry
  pub fence : ℕ
  pub fits : FitsLock (Lock.Held fence entry.command.client)
  pub effect : TakesEffect es n entry
  pub is : entry.command.op ≡ give_back key fence entry.command.client
  pub was : value_after key es n ≡ Some (lock_bytes (Lock.Held fence entry.command.client))
  pub now : value_after key es (suc n) ≡ Some (lock_bytes (Lock.Free fence))

-- ---- one entry more

taken_suc : {X : Type 0} (xs : List X) (i : ℕ) (x : X) → slice_get xs i ≡ Some x → take (suc i) xs ≡ take i xs ++ x ∷ []
taken_suc [] i x is = cc
taken_suc (y ∷ xs) zero x is = let same : y ≡ x = cc in ap (λ z. z ∷ []) same
taken_suc (y ∷ xs) (suc i) x is = ap (λ rest. y ∷ rest) (taken_suc xs i x is)

after-push : (es : List Entry) (e : Entry) → after (es ++ e ∷ []) ≡ (apply (after es) e.command).0
unfolding after
after-push es e = fold-append (λ rows e. (apply rows e.command).0) no_rows es (e ∷ [])

value_suc : (key : List ℕ) (es : List Entry) (n : ℕ) (e : Entry) → slice_get es n ≡ Some e → value_after key es (suc n) ≡ value_at key (apply (after (take n es)) e.command).0.keys
value_suc key es n e at =
    ap (λ (l : List Entry). value_at key (after l).keys) (taken_suc es n e at) ∙ ap (λ (r : Rows). value_at key r.keys) (after-push (take n es) e)

lawful_at : (key : List ℕ) (es : List Entry) (n : ℕ) (e : Entry) → IsLawful key es → slice_get es n ≡ Some e → KeepsToRules key e.command.client e.command.op
lawful_at key [] n e lawful at = absurd cc
lawful_at key (f ∷ es) zero e lawful at = let same : f ≡ e = cc in subst (λ (x : Entry). KeepsToRules key x.command.client x.command.op) same lawful.0
lawful_at key (f ∷ es) (suc n) e lawful at = lawful_at key es n e lawful.1 at

-- the entry of an effect at this place
pub same_entry : (es : List Entry) (n : ℕ) (e f : Entry) → TakesEffect es n f → slice_get es n ≡ Some e → f ≡ e
same_entry es n e f t at = same_Some f e (sym t.done.0 ∙ at)

effect_is : (es : List Entry) (n : ℕ) (e f : Entry) → TakesEffect es n f → slice_get es n ≡ Some e → HasEffect (after (take n es)) e.command (apply (after (take n es)) e.command)
unfolding answer_after
effect_is es n e f t at =
    subst (λ (x : Entry). HasEffect (after (take n es)) x.command (apply (after (take n es)) x.command)) (same_entry es n e f t at) (sym t.done.1, t.new)

effect_of : (es : List Entry) (n : ℕ) (e : Entry) → slice_get es n ≡ Some e → HasEffect (after (take n es)) e.command (apply (after (take n es)) e.command) → TakesEffect es n e
unfolding answer_after
effect_of es n e at h = record { done = (at, sym h.0); new = h.1 }

-- ---- the three kinds

-- what an effect at this place asks
asked_at : (es : List Entry) (n : ℕ) (e f : Entry) (op : Op) → TakesEffect es n f → slice_get es n ≡ Some e → f.command.op ≡ op → e.command.op ≡ op
asked_at es n e f op t at is = ap (λ (x : Entry). x.command.op) (sym (same_entry es n e f t at)) ∙ is

quiet_at : (key : List ℕ) (es : List Entry) (n : ℕ) (e : Entry) → slice_get es n ≡ Some e → Leaves key (after (take n es)) e.command (apply (after (take n es)) e.command) → QuietAt key es n
quiet_at key es n e at l = record {
  same = value_suc key es n e at ∙ l.0;
  no_grant = λ fence owner g.
      l.1 g.expected (lock_bytes (Lock.Held fence owner)) (asked_at es n e g.entry (cas_to key g.expected (Lock.Held fence owner)) g.effect at g.is)
      (effect_is es n e g.entry g.effect at);
  no_return = λ fence owner r.
      l.1 (Some (lock_bytes (Lock.Held fence owner))) (lock_bytes (Lock.Free fence)) (asked_at es n e r.entry (give_back key fence owner) r.effect at r.is)
      (effect_is es n e r.entry r.effect at);
}

granted_at : (key : List ℕ) (es : List Entry) (n : ℕ) (e : Entry) → slice_get es n ≡ Some e
    → (c : Changes key (after (take n es)) e.command (apply (after (take n es)) e.command))
    → (action : Action) → Asks action e.command.client (Op.Cas key c.0 (Some c.1)) → Grants action e.command.client (Op.Cas key c.0 (Some c.1)) → GrantAt key es n
granted_at key es n e at c action asks g =
    let wanted : Lock = Lock.Held (fence_of g.lock + 1) e.command.client in
    let found : c.0 ≡ g.found = same_expected key g.key c.0 g.found (Some c.1) (Some (lock_bytes wanted)) g.is in
    let new : ◌≡◌ {A = Option (List ℕ)} (Some c.1) (Some (lock_bytes wanted)) = same_new key g.key c.0 g.found (Some c.1) (Some (lock_bytes wanted)) g.is in
    record {
      entry = e;
      action = action;
      lock = g.lock;
      fits = (g.fits, g.client);
      has = subst (λ v. HasLock v g.lock) (sym (c.4 ∙ found)) g.has;
      takable = g.takable;
      effect = effect_of es n e at c.3;
      asked = subst (λ o. Asks action e.command.client o) (sym c.2) asks;
      is = c.2 ∙ ap (λ f. Op.Cas key f (Some c.1)) (sym c.4) ∙ ap (Op.Cas key (value_after key es n)) new;
      now = value_suc key es n e at ∙ c.5 ∙ new;
    }

returned_at : (key : List ℕ) (es : List Entry) (n : ℕ) (e : Entry) → slice_get es n ≡ Some e
    → (c : Changes key (after (take n es)) e.command (apply (after (take n es)) e.command))
    → (action : Action) → Returns action e.command.client (Op.Cas key c.0 (Some c.1)) → ReturnAt key es n
returned_at key es n e at c action r =
    let held : Option (List ℕ) = Some (lock_bytes (Lock.Held r.fence e.command.client)) in
    let free : Option (List ℕ) = Some (lock_bytes (Lock.Free r.fence)) in
    let found : c.0 ≡ held = same_expected key r.key c.0 held (Some c.1) free r.is in
    let new : Some c.1 ≡ free = same_new key r.key c.0 held (Some c.1) free r.is in
    record {
      entry = e;
      fence = r.fence;
      fits = (r.fits, r.client);
      effect = effect_of es n e at c.3;
      is = c.2 ∙ ap (λ f. Op.Cas key f (Some c.1)) found ∙ ap (Op.Cas key held) new;
      was = c.4 ∙ found;
      now = value_suc key es n e at ∙ c.5 ∙ new;
    }

pub event_at : AskedAreGrantsOrReturns → (key : List ℕ) (es : List Entry) → IsLawful key es → (n : ℕ) (e : Entry) → slice_get es n ≡ Some e
    → QuietAt key es n ⊎ (GrantAt key es n ⊎ ReturnAt key es n)
event_at kinds key es lawful n e at = go (one_step key (after (take n es)) e.command (lawful_at key es n e lawful at))
  where
    changed : (c : Changes key (after (take n es)) e.command (apply (after (take n es)) e.command)) (action : Action) → Asks action e.command.client (Op.Cas key c.0 (Some c.1))
        → Grants action e.command.client (Op.Cas key c.0 (Some c.1)) ⊎ Returns action e.command.client (Op.Cas key c.0 (Some c.1)) → QuietAt key es n ⊎ (GrantAt key es n ⊎ ReturnAt key es n)
    changed c action asks (inl g) = inr (inl (granted_at key es n e at c action asks g))
    changed c action asks (inr r) = inr (inr (returned_at key es n e at c action r))

    go : Leaves key (after (take n es)) e.command (apply (after (take n es)) e.command) ⊎ Changes key (after (take n es)) e.command (apply (after (take n es)) e.command)
        → QuietAt key es n ⊎ (GrantAt key es n ⊎ ReturnAt key es n)
    go (inl l) = inl (quiet_at key es n e at l)
    go (inr c) =
        let rules : KeepsToRules key e.command.client (Op.Cas key c.0 (Some c.1)) = subst (KeepsToRules key e.command.client) c.2 (lawful_at key es n e lawful at) in
        let asks = rules refl in
        changed c asks.0 asks.1 (kinds asks.0 e.command.client (Op.Cas key c.0 (Some c.1)) asks.1)

-- ---- one lock each

pub held_same : LocksHaveOneValue → (f o f' o' : ℕ) → FitsLock (Lock.Held f o) → FitsLock (Lock.Held f' o') → lock_bytes (Lock.Held f o) ≡ lock_bytes (Lock.Held f' o') → (f ≡ f') × (o ≡ o')
held_same one f o f' o' fits fits' e = let same : Lock.Held f o ≡ Lock.Held f' o' = one (Lock.Held f o) (Lock.Held f' o') fits fits' e in (cc, cc)

pub free_held : (f f' o' : ℕ) → lock_bytes (Lock.Free f) ≡ lock_bytes (Lock.Held f' o') → ⊥
unfolding lock_bytes
free_held f f' o' e = absurd cc

-- a grant at the place of a grant is that one
pub grant_is : LocksHaveOneValue → (key : List ℕ) (es : List Entry) (n : ℕ) (g : GrantAt key es n) (f o : ℕ) → IsGrant key es n f o → (f ≡ fence_of g.lock + 1) × (o ≡ g.entry.command.client)
grant_is one key es n g f o h =
    let is = asked_at es n g.entry h.entry (cas_to key h.expected (Lock.Held f o)) h.effect g.effect.done.0 h.is in
    let wanted : Lock = Lock.Held (fence_of g.lock + 1) g.entry.command.client in
    let new = same_new key key h.expected (value_after key es n) (Some (lock_bytes (Lock.Held f o))) (Some (lock_bytes wanted)) (sym is ∙ g.is) in
    held_same one f o (fence_of g.lock + 1) g.entry.command.client h.fits g.fits (same_Some (lock_bytes (Lock.Held f o)) (lock_bytes wanted) new)

-- no return stands at the place of a grant, and no grant at that of a return
pub grant_no_return : (key : List ℕ) (es : List Entry) (n f o f' o' : ℕ) → IsGrant key es n f o → IsReturn key es n f' o' → ⊥
grant_no_return key es n f o f' o' g r =
    let is = asked_at es n g.entry r.entry (give_back key f' o') r.effect g.effect.done.0 r.is in
    let new = same_new key key (Some (lock_bytes (Lock.Held f' o'))) g.expected (Some (lock_bytes (Lock.Free f'))) (Some (lock_bytes (Lock.Held f o))) (sym is ∙ g.is) in
    free_held f' f o (same_Some (lock_bytes (Lock.Free f')) (lock_bytes (Lock.Held f o)) new)

pub return_no_grant : (key : List ℕ) (es : List Entry) (n : ℕ) (r : ReturnAt key es n) (f o : ℕ) → IsGrant key es n f o → ⊥
return_no_grant key es n r f o g =
    grant_no_return key es n f o r.fence r.entry.command.client g (record { entry = r.entry; client = refl; effect = r.effect; is = r.is })

-- what a grant at this place is
pub grant_of : (key : List ℕ) (es : List Entry) (n : ℕ) (g : GrantAt key es n) → IsGrant key es n (fence_of g.lock + 1) g.entry.command.client
grant_of key es n g = record { entry = g.entry; expected = value_after key es n; fits = g.fits; effect = g.effect; is = g.is }
