-- The laws of locks, by the state of a key after each entry.
use Rattle.std.proofs.Common.{◌≡◌, ◌≢◌, ℕ, ◌+◌, ◌<◌, ◌≤◌, ◌⊎◌, inl, inr, List, Option, Some, None, sym, ap, subst, ◌∙◌, arith}
use Rattle.std.proofs.lemmas.Bool.{cases_lt}
use Rattle.std.proofs.lemmas.Option.{same_Some, slice_get_within}
use Rattle.crsm_spec.specs.Types.{Entry}
use Rattle.crsm_lease.specs.declared.lock.Lock.{Lock}
use Rattle.crsm_lease.specs.declared.rule.Action.{Action}
use Rattle.crsm_lease.specs.Locks.{FitsLock, HasLock, IsLock, LocksHaveOneValue, lock_bytes}
use Rattle.crsm_lease.specs.Rules.{AskedAreGrantsOrReturns, Asks, IsTakable, cas_to, fence_of}
use Rattle.crsm_law_locks.specs.Grants.{HasLastGrant, IsBreak, IsGivenBack, IsGrant, IsHeld, IsLastGrant, IsLawful, NoneBetween}
use Rattle.crsm_law_locks.proofs.Events.{GrantAt, QuietAt, ReturnAt, event_at, free_held, grant_is, held_same, return_no_grant, same_entry, value_after}
use Rattle.crsm_law_locks.proofs.Following.{Known, Latest, bounded, known_at}

module _ (one : LocksHaveOneValue) (kinds : AskedAreGrantsOrReturns) (key : List ℕ) (es : List Entry) (lawful : IsLawful key es) where
  -- a grant is at a place that grants
  grants : (n f o : ℕ) → IsGrant key es n f o → GrantAt key es n
  grants n f o g = go (event_at kinds key es lawful n g.entry g.effect.done.0)
    where
      go : QuietAt key es n ⊎ (GrantAt key es n ⊎ ReturnAt key es n) → GrantAt key es n
      go (inl quiet) = absurd (quiet.no_grant f o g)
      go (inr (inl h)) = h
      go (inr (inr r)) = absurd (return_no_grant key es n r f o g)

  -- what is known before a grant
  known_before : (n f o : ℕ) → IsGrant key es n f o → Known key es n
  known_before n f o g = let within = slice_get_within es n g.entry g.effect.done.0 in known_at one kinds key es lawful n (omega arith)

  pub own : (n f o : ℕ) (g : IsGrant key es n f o) → g.entry.command.client ≡ o
  own n f o g =
      let h = grants n f o g in
      ap (λ (e : Entry). e.command.client) (sym (same_entry es n g.entry h.entry h.effect g.effect.done.0)) ∙ sym (grant_is one key es n h f o g).1

  pub rise : (p q f f' o o' : ℕ) → IsGrant key es p f o → IsGrant key es q f' o' → p < q → f < f'
  rise p q f f' o o' g h before =
      let at = grants q f' o' h in
      let below = bounded one key es q (known_before q f' o' h) at.lock at.has p f o g before in
      let is = (grant_is one key es q at f' o' h).0 in
      omega arith

  -- one place has one grant
  one_grant : (p f o f' o' : ℕ) → IsGrant key es p f o → IsGrant key es p f' o' → (f ≡ f') × (o ≡ o')
  one_grant p f o f' o' g h =
      let at = grants p f o g in
      let a = grant_is one key es p at f o g in
      let b = grant_is one key es p at f' o' h in
      (a.0 ∙ sym b.0, a.1 ∙ sym b.1)

  -- the latest grant is the last one
  latest_is : (n p f o p' f' o' : ℕ) → Latest key es n p f o → IsGrant key es p' f' o' → p' < n → NoneBetween key es p' n → (p' ≡ p) × (f ≡ f') × (o ≡ o')
  latest_is n p f o p' f' o' l g below none = go (cases_lt p' p)
    where
      go : (p' < p) ⊎ (p ≤ p') → (p' ≡ p) × (f ≡ f') × (o ≡ o')
      go (inl less) = absurd (none p f o less l.before l.grant)
      go (inr more) =
          let all = (l.all p' f' o' g below).0 in
          let same : p' ≡ p = omega arith in
          let s = one_grant p f o f' o' l.grant (subst (λ z. IsGrant key es z f' o') same g) in
          (same, s.0, s.1)

  -- the latest grant as the last one
  last_of_latest : (n p f o : ℕ) → Latest key es n p f o → IsLastGrant key es n p f o
  last_of_latest n p f o l = record {
    before = l.before;
    grant = l.grant;
    last = λ r f' o' above below g. let all = (l.all r f' o' g below).0 in absurd (omega arith);
  }

  pub held_then : (n f o : ℕ) → FitsLock (Lock.Held f o) → Known key es n → IsHeld key es n f o → HasLastGrant key es n f o
  held_then n f o fits (inl none) held = let never : ◌≡◌ {A = Option (List ℕ)} None (Some (lock_bytes (Lock.Held f o))) = sym none.0 ∙ held in absurd cc
  held_then n f o fits (inr (inl h)) held =
      let same = held_same one h.fence h.owner f o h.latest.grant.fits fits (same_Some (lock_bytes (Lock.Held h.fence h.owner)) (lock_bytes (Lock.Held f o)) (sym h.value ∙ held)) in
      let P : ℕ → ℕ → Type 0 = λ f o. HasLastGrant key es n f o in
      let now : HasLastGrant key es n h.fence h.owner = (h.place, last_of_latest n h.place h.fence h.owner h.latest, λ b. h.kept b.0 b.1 b.2 b.3) in
      subst (P f) same.1 (subst (λ z. P z h.owner) same.0 now)
  held_then n f o fits (inr (inr h)) held =
      absurd (free_held h.fence f o (same_Some (lock_bytes (Lock.Free h.fence)) (lock_bytes (Lock.Held f o)) (sym h.value ∙ held)))

  pub then_held : (n f o : ℕ) → Known key es n → HasLastGrant key es n f o → IsHeld key es n f o
  then_held n f o (inl none) last = absurd (none.1 last.0 f o last.1.grant last.1.before)
  then_held n f o (inr (inl h)) last =
      let same = latest_is n h.place h.fence h.owner last.0 f o h.latest last.1.grant last.1.before last.1.last in
      h.value ∙ ap (λ z. Some (lock_bytes (Lock.Held z h.owner))) same.1 ∙ ap (λ z. Some (lock_bytes (Lock.Held f z))) same.2
  then_held n f o (inr (inr h)) last =
      let same = latest_is n h.place h.fence h.owner last.0 f o h.latest last.1.grant last.1.before last.1.last in
      let back = subst (λ z. IsGivenBack key es last.0 n f z) same.2 (subst (λ z. IsGivenBack key es last.0 n z h.owner) same.1 (subst (λ z. IsGivenBack key es z n h.fence h.owner) (sym same.0) h.back)) in
      absurd (last.2 back)

  -- a grant of a lock that another holds is a break
  broken : (q f o : ℕ) → (at : GrantAt key es q) → Lock.Held f o ≡ at.lock → value_after key es q ≡ Some (lock_bytes (Lock.Held f o)) → IsBreak key es q f o
  broken q f o at is value =
      let takable : (at.action ≡ Action.Break) × (o ≢ at.entry.command.client) = subst (λ l. IsTakable at.action at.entry.command.client l) (sym is) at.takable in
      let wanted : Lock = Lock.Held (fence_of at.lock + 1) at.entry.command.client in
      record {
        entry = at.entry;
        wanted = Some (lock_bytes wanted);
        other = λ e. takable.1 (sym e);
        effect = at.effect;
        asked = subst (λ a. Asks a at.entry.command.client at.entry.command.op) takable.0 at.asked;
        is = at.is ∙ ap (λ v. cas_to key v wanted) value;
      }

  pub returned : (p q f f' o o' : ℕ) → IsGrant key es p f o → IsGrant key es q f' o' → p < q → NoneBetween key es p q → Known key es q → IsGivenBack key es p q f o ⊎ IsBreak key es q f o
  returned p q f f' o o' g h before none (inl nothing) = absurd (nothing.1 p f o g before)
  returned p q f f' o o' g h before none (inr (inl k)) =
      let same = latest_is q k.place k.fence k.owner p f o k.latest g before none in
      let value : value_after key es q ≡ Some (lock_bytes (Lock.Held f o)) = k.value ∙ ap (λ z. Some (lock_bytes (Lock.Held z k.owner))) same.1 ∙ ap (λ z. Some (lock_bytes (Lock.Held f z))) same.2 in
      let at = grants q f' o' h in
      let has : IsLock (lock_bytes (Lock.Held f o)) at.lock = subst (λ v. HasLock v at.lock) value at.has in
      inr (broken q f o at (one (Lock.Held f o) at.lock g.fits has.fits has.is) value)
  returned p q f f' o o' g h before none (inr (inr k)) =
      let same = latest_is q k.place k.fence k.owner p f o k.latest g before none in
      inl (subst (λ z. IsGivenBack key es p q f z) same.2 (subst (λ z. IsGivenBack key es p q z k.owner) same.1 (subst (λ z. IsGivenBack key es z q k.fence k.owner) (sym same.0) k.back)))

  -- what is known before a grant, for those above
  pub known_there : (n f o : ℕ) → IsGrant key es n f o → Known key es n
  known_there n f o g = known_before n f o g
