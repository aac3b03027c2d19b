-- The state of a key after each entry of a lawful list: none, or its last grant and whether it was given back.
use Rattle.std.proofs.Common.{◌≡◌, ℕ, zero, suc, ◌+◌, ◌<◌, ◌≤◌, ◌⊎◌, inl, inr, List, length, get_or, Option, Some, None, refl, sym, ap, subst, ◌∙◌, arith}
use Rattle.std.specs.Prelude.{slice_get}
use Rattle.std.proofs.lemmas.Bool.{cases_lt}
use Rattle.std.proofs.lemmas.Option.{same_Some, slice_get_cases}
use Rattle.crsm_base.specs.Store.{after, no_rows, value_at}
use Rattle.crsm_spec.specs.Types.{Entry}
use Rattle.crsm_lease.specs.declared.lock.Lock.{Lock}
use Rattle.crsm_lease.specs.Locks.{FitsLock, HasLock, LocksHaveOneValue, lock_bytes}
use Rattle.crsm_lease.specs.Rules.{AskedAreGrantsOrReturns, fence_of, give_back}
use Rattle.crsm_law_locks.specs.Grants.{IsGivenBack, IsGrant, IsLawful, IsReturn}
use Rattle.crsm_law_locks.proofs.Events.{GrantAt, QuietAt, ReturnAt, event_at, free_held, grant_is, grant_of, held_same, return_no_grant, value_after}

-- the last grant before n, and that all before n are no later and have no greater fence
pub record Latest (key : List ℕ) (es : List Entry) (n place fence owner : ℕ) : Type 0 where
  pub before : place < n
  pub grant : IsGrant key es place fence owner
  pub all : (q f o : ℕ) → IsGrant key es q f o → q < n → (q ≤ place) × (f ≤ fence)

-- no grant yet, and no value
abbrev pub NoneYet : List ℕ → List Entry → ℕ → Type 0
NoneYet key es n = (value_after key es n ≡ None) × ((q f o : ℕ) → IsGrant key es q f o → q < n → ⊥)

-- the last grant was not given back, and the key has its lock
pub record HeldNow (key : List ℕ) (es : List Entry) (n : ℕ) : Type 0 where
  pub place : ℕ
  pub fence : ℕ
  pub owner : ℕ
  pub latest : Latest key es n place fence owner
  pub value : value_after key es n ≡ Some (lock_bytes (Lock.Held fence owner))
  pub kept : (q : ℕ) → place < q → q < n → IsReturn key es q fence owner → ⊥

-- the last grant was given back, and the key has a free lock with its fence
pub record FreeNow (key : List ℕ) (es : List Entry) (n : ℕ) : Type 0 where
  pub place : ℕ
  pub fence : ℕ
  pub owner : ℕ
  pub latest : Latest key es n place fence owner
  pub value : value_after key es n ≡ Some (lock_bytes (Lock.Free fence))
  pub back : IsGivenBack key es place n fence owner

abbrev pub Known : List ℕ → List Entry → ℕ → Type 0
Known key es n = NoneYet key es n ⊎ (HeldNow key es n ⊎ FreeNow key es n)

-- ---- one place more

below_suc : (q n : ℕ) → q < suc n → (q < n) ⊎ (q ≡ n)
below_suc q n below = go (cases_lt q n)
  where
    go : (q < n) ⊎ (n ≤ q) → (q < n) ⊎ (q ≡ n)
    go (inl less) = inl less
    go (inr more) = inr (omega arith)

latest_more : (key : List ℕ) (es : List Entry) (n p f o : ℕ) → Latest key es n p f o → ((f' o' : ℕ) → IsGrant key es n f' o' → ⊥) → Latest key es (suc n) p f o
latest_more key es n p f o l none = record {
  before = let b = l.before in omega arith;
  grant = l.grant;
  all = λ q f' o' g below. go q f' o' g (below_suc q n below);
}
  where
    go : (q f' o' : ℕ) → IsGrant key es q f' o' → (q < n) ⊎ (q ≡ n) → (q ≤ p) × (f' ≤ f)
    go q f' o' g (inl less) = l.all q f' o' g less
    go q f' o' g (inr same) = absurd (none f' o' (subst (λ z. IsGrant key es z f' o') same g))

back_more : (key : List ℕ) (es : List Entry) (n p f o : ℕ) → IsGivenBack key es p n f o → IsGivenBack key es p (suc n) f o
back_more key es n p f o b = let below = b.2 in (b.0, b.1, omega arith, b.3)

kept_more : (key : List ℕ) (es : List Entry) (n p f o : ℕ) → ((q : ℕ) → p < q → q < n → IsReturn key es q f o → ⊥) → (IsReturn key es n f o → ⊥) → (q : ℕ) → p < q → q < suc n → IsReturn key es q f o → ⊥
kept_more key es n p f o kept none q above below r = go (below_suc q n below)
  where
    go : (q < n) ⊎ (q ≡ n) → ⊥
    go (inl less) = kept q above less r
    go (inr same) = none (subst (λ z. IsReturn key es z f o) same r)

after_quiet : (key : List ℕ) (es : List Entry) (n : ℕ) → Known key es n → QuietAt key es n → Known key es (suc n)
after_quiet key es n (inl none) quiet = inl (quiet.same ∙ none.0, λ q f o g below. go q f o g (below_suc q n below))
  where
    go : (q f o : ℕ) → IsGrant key es q f o → (q < n) ⊎ (q ≡ n) → ⊥
    go q f o g (inl less) = none.1 q f o g less
    go q f o g (inr same) = quiet.no_grant f o (subst (λ z. IsGrant key es z f o) same g)
after_quiet key es n (inr (inl h)) quiet = inr (inl (record {
  place = h.place;
  fence = h.fence;
  owner = h.owner;
  latest = latest_more key es n h.place h.fence h.owner h.latest quiet.no_grant;
  value = quiet.same ∙ h.value;
  kept = kept_more key es n h.place h.fence h.owner h.kept (quiet.no_return h.fence h.owner);
}))
after_quiet key es n (inr (inr f)) quiet = inr (inr (record {
  place = f.place;
  fence = f.fence;
  owner = f.owner;
  latest = latest_more key es n f.place f.fence f.owner f.latest quiet.no_grant;
  value = quiet.same ∙ f.value;
  back = back_more key es n f.place f.fence f.owner f.back;
}))

-- the lock of a value
lock_is : LocksHaveOneValue → (value : Option (List ℕ)) (l lock : Lock) → FitsLock l → value ≡ Some (lock_bytes l) → HasLock value lock → l ≡ lock
lock_is one value l lock fits is has =
    let has_it : HasLock (Some (lock_bytes l)) lock = subst (λ v. HasLock v lock) is has in one l lock fits has_it.fits has_it.is

-- all grants so far have no greater fence than the lock that the key has
pub bounded : LocksHaveOneValue → (key : List ℕ) (es : List Entry) (n : ℕ) → Known key es n → (lock : Lock) → HasLock (value_after key es n) lock
    → (q f o : ℕ) → IsGrant key es q f o → q < n → f ≤ fence_of lock
bounded one key es n (inl none) lock has q f o g below = absurd (none.1 q f o g below)
bounded one key es n (inr (inl h)) lock has q f o g below =
    let fence : h.fence ≡ fence_of lock = ap fence_of (lock_is one (value_after key es n) (Lock.Held h.fence h.owner) lock h.latest.grant.fits h.value has) in
    subst (λ z. f ≤ z) fence (h.latest.all q f o g below).1
bounded one key es n (inr (inr h)) lock has q f o g below =
    let fence : h.fence ≡ fence_of lock = ap fence_of (lock_is one (value_after key es n) (Lock.Free h.fence) lock h.latest.grant.fits.0 h.value has) in
    subst (λ z. f ≤ z) fence (h.latest.all q f o g below).1

after_grant : LocksHaveOneValue → (key : List ℕ) (es : List Entry) (n : ℕ) → Known key es n → GrantAt key es n → HeldNow key es (suc n)
after_grant one key es n known g = record {
  place = n;
  fence = fence_of g.lock + 1;
  owner = g.entry.command.client;
  latest = record { before = omega arith; grant = grant_of key es n g; all = λ q f o h below. go q f o h (below_suc q n below) };
  value = g.now;
  kept = λ q above below r. absurd (omega arith);
}
  where
    go : (q f o : ℕ) → IsGrant key es q f o → (q < n) ⊎ (q ≡ n) → (q ≤ n) × (f ≤ fence_of g.lock + 1)
    go q f o h (inl less) = let b = bounded one key es n known g.lock g.has q f o h less in (omega arith, omega (arith, b))
    go q f o h (inr same) = let e = (grant_is one key es n g f o (subst (λ z. IsGrant key es z f o) same h)).0 in (omega (arith, same), omega (arith, e))

after_return : LocksHaveOneValue → (key : List ℕ) (es : List Entry) (n : ℕ) → Known key es n → ReturnAt key es n → FreeNow key es (suc n)
after_return one key es n (inl none) r = let never : ◌≡◌ {A = Option (List ℕ)} None (Some (lock_bytes (Lock.Held r.fence r.entry.command.client))) = sym none.0 ∙ r.was in absurd cc
after_return one key es n (inr (inl h)) r =
    let bytes = same_Some (lock_bytes (Lock.Held r.fence r.entry.command.client)) (lock_bytes (Lock.Held h.fence h.owner)) (sym r.was ∙ h.value) in
    let same = held_same one r.fence r.entry.command.client h.fence h.owner r.fits h.latest.grant.fits bytes in
    let returns : IsReturn key es n h.fence h.owner = record {
      entry = r.entry;
      client = same.1;
      effect = r.effect;
      is = r.is ∙ ap (λ f. give_back key f r.entry.command.client) same.0 ∙ ap (give_back key h.fence) same.1;
    } in
    record {
      place = h.place;
      fence = h.fence;
      owner = h.owner;
      latest = latest_more key es n h.place h.fence h.owner h.latest (return_no_grant key es n r);
      value = r.now ∙ ap (λ f. Some (lock_bytes (Lock.Free f))) same.0;
      back = (n, h.latest.before, omega arith, returns);
    }
after_return one key es n (inr (inr f)) r =
    absurd (free_held f.fence r.fence r.entry.command.client (same_Some (lock_bytes (Lock.Free f.fence)) (lock_bytes (Lock.Held r.fence r.entry.command.client)) (sym f.value ∙ r.was)))

-- ---- all places

first_known : (key : List ℕ) (es : List Entry) → Known key es 0
unfolding after no_rows value_at
first_known key es = inl (refl, λ q f o g below. absurd (omega arith))

next_known : LocksHaveOneValue → (key : List ℕ) (es : List Entry) (n : ℕ) → Known key es n → QuietAt key es n ⊎ (GrantAt key es n ⊎ ReturnAt key es n) → Known key es (suc n)
next_known one key es n known (inl quiet) = after_quiet key es n known quiet
next_known one key es n known (inr (inl g)) = inr (inl (after_grant one key es n known g))
next_known one key es n known (inr (inr r)) = inr (inr (after_return one key es n known r))

-- the entry at a place within the list
entry_at : (es : List Entry) (n : ℕ) → n < length es → (e : Entry) × (slice_get es n ≡ Some e)
entry_at es n within = go (slice_get_cases es n).1
  where
    go : ((x : Entry) × (n < length es) × (slice_get es n ≡ Some x) × (get_or es n x ≡ x)) ⊎ ((length es ≤ n) × (slice_get es n ≡ None)) → (e : Entry) × (slice_get es n ≡ Some e)
    go (inl x) = (x.0, x.2)
    go (inr past) = let p = past.0 in absurd (omega arith)

pub known_at : LocksHaveOneValue → AskedAreGrantsOrReturns → (key : List ℕ) (es : List Entry) → IsLawful key es → (n : ℕ) → n ≤ length es → Known key es n
known_at one kinds key es lawful zero within = first_known key es
known_at one kinds key es lawful (suc n) within =
    let e = entry_at es n (omega arith) in
    next_known one key es n (known_at one kinds key es lawful n (omega arith)) (event_at kinds key es lawful n e.0 e.1)
