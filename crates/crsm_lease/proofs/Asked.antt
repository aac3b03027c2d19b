-- The operations that an action asks for, by the cases of the table: each grants the lock or releases it.
use Rattle.std.proofs.Common.{◌≡◌, ℕ, ◌+◌, ◌^◌, ◌<◌, ◌⊎◌, inl, inr, Bool, true, false, List, Option, Some, None, refl, sym, ap, subst, ◌∙◌, arith}
use Rattle.std.specs.Prelude.{◌==◌, nat_lt, if◌then◌else◌}
use Rattle.std.proofs.lemmas.Bool.{eqb-true, eqb-false, ltb-true}
use Rattle.crsm_base.specs.declared.command.Op.{Op}
use Rattle.crsm_spec.specs.Clock.{u64_max}
use Rattle.crsm_lease.specs.declared.lock.Lock.{Lock}
use Rattle.crsm_lease.specs.declared.rule.Action.{Action}
use Rattle.crsm_lease.specs.declared.rule.Ruling.{Ruling}
use Rattle.crsm_lease.specs.declared.told.Told.{Told}
use Rattle.crsm_lease.specs.Locks.{FitsLock, HasLock, lock_bytes}
use Rattle.crsm_lease.specs.Rules.{Asks, Finding, Grants, IsTakable, Returns, cas_to, fence_of, found_by, granted, rule}

becomes_is : (a b : Lock) → ◌≡◌ {A = Ruling} (Ruling.Becomes a) (Ruling.Becomes b) → a ≡ b
becomes_is a b e = cc

pub has_fits : (found : Option (List ℕ)) (lock : Lock) → HasLock found lock → FitsLock lock
has_fits None lock h = let zero : FitsLock (Lock.Free 0) = omega arith in subst FitsLock (sym h) zero
has_fits (Some value) lock h = h.fits

-- a grant is under the next fence, which has 64 bits
granted_is : (me fence : ℕ) (wanted : Lock) → granted me fence ≡ Ruling.Becomes wanted → (fence + 1 < 2 ^ 64) × (wanted ≡ Lock.Held (fence + 1) me)
unfolding granted
granted_is me fence wanted e = go (nat_lt fence u64_max) refl e
  where
    go : (b : Bool) → nat_lt fence u64_max ≡ b → (if b then Ruling.Becomes (Lock.Held (fence + 1) me) else Ruling.Tells Told.Spent) ≡ Ruling.Becomes wanted → (fence + 1 < 2 ^ 64) × (wanted ≡ Lock.Held (fence + 1) me)
    go true t r = let below = ltb-true _ _ t in (omega (arith, below), sym (becomes_is _ _ r))
    go false t r = absurd cc

-- the ruling grants this lock to the client, or frees its own
abbrev Kind : Action → ℕ → Lock → Lock → Type 0
Kind action me lock wanted =
    ((fence_of lock + 1 < 2 ^ 64) × (wanted ≡ Lock.Held (fence_of lock + 1) me) × IsTakable action me lock)
    ⊎ ((fence : ℕ) × (action ≡ Action.Give) × (lock ≡ Lock.Held fence me) × (wanted ≡ Lock.Free fence))

kind_of_held : (action : Action) (me fence owner : ℕ) (wanted : Lock) (own : Bool) → (owner == me) ≡ own
    → rule action me (if own then Finding.Own fence else Finding.Foreign fence owner) ≡ Ruling.Becomes wanted → Kind action me (Lock.Held fence owner) wanted
unfolding rule
kind_of_held Action.Take me fence owner wanted true t e = absurd cc
kind_of_held Action.Take me fence owner wanted false t e = absurd cc
kind_of_held Action.Break me fence owner wanted true t e = absurd cc
kind_of_held Action.Break me fence owner wanted false t e = let g = granted_is me fence wanted e in inl (g.0, g.1, (refl, eqb-false owner me t))
kind_of_held Action.Give me fence owner wanted true t e = inr (fence, refl, ap (Lock.Held fence) (eqb-true owner me t), sym (becomes_is _ _ e))
kind_of_held Action.Give me fence owner wanted false t e = absurd cc

kind_of : (action : Action) (me : ℕ) (lock wanted : Lock) → rule action me (found_by me lock) ≡ Ruling.Becomes wanted → Kind action me lock wanted
unfolding rule found_by
kind_of action me (Lock.Held fence owner) wanted e = kind_of_held action me fence owner wanted (owner == me) refl e
kind_of Action.Take me (Lock.Free fence) wanted e = let g = granted_is me fence wanted e in inl (g.0, g.1, tt)
kind_of Action.Break me (Lock.Free fence) wanted e = let g = granted_is me fence wanted e in inl (g.0, g.1, tt)
kind_of Action.Give me (Lock.Free fence) wanted e = absurd cc

-- a free lock of a client's own value: what was found is that value
found_is : (found : Option (List ℕ)) (fence me : ℕ) → HasLock found (Lock.Held fence me) → found ≡ Some (lock_bytes (Lock.Held fence me))
found_is None fence me h = absurd cc
found_is (Some value) fence me h = ap Some h.is

pub asked_are : (action : Action) (me : ℕ) (op : Op) → Asks action me op → Grants action me op ⊎ Returns action me op
asked_are action me op a = go (kind_of action me a.lock a.wanted a.ruled)
  where
    go : Kind action me a.lock a.wanted → Grants action me op ⊎ Returns action me op
    go (inl g) = inl (record {
      key = a.key;
      found = a.found;
      lock = a.lock;
      client = a.client;
      fits = g.0;
      has = a.has;
      takable = g.2;
      is = a.is ∙ ap (cas_to a.key a.found) g.1;
    })
    go (inr g) =
        let held : HasLock a.found (Lock.Held g.0 me) = subst (HasLock a.found) g.2 a.has in
        inr (record {
          key = a.key;
          fence = g.0;
          client = a.client;
          fits = (has_fits a.found (Lock.Held g.0 me) held).0;
          give = g.1;
          is = a.is ∙ ap (λ (f : Option (List ℕ)). cas_to a.key f a.wanted) (found_is a.found g.0 me held) ∙ ap (cas_to a.key (Some (lock_bytes (Lock.Held g.0 me)))) g.3;
        })

-- what is asked writes the value of a lock
pub asked_fits : (action : Action) (me : ℕ) (op : Op) (a : Asks action me op) → FitsLock a.wanted
asked_fits action me op a = go (kind_of action me a.lock a.wanted a.ruled)
  where
    go : Kind action me a.lock a.wanted → FitsLock a.wanted
    go (inl g) = subst FitsLock (sym g.1) (g.0, a.client)
    go (inr g) = subst FitsLock (sym g.3) (has_fits a.found (Lock.Held g.0 me) (subst (HasLock a.found) g.2 a.has)).0

-- its new value is that of a lock
pub asked_value : (op : Op) (action : Action) (me : ℕ) → Asks action me op → (key : List ℕ) (found new : Option (List ℕ)) → op ≡ Op.Cas key found new → (lock : Lock) × FitsLock lock × (new ≡ Some (lock_bytes lock))
asked_value op action me a key found new e =
    let new_of : Op → Option (List ℕ) = λ o. elim o [ Op.Get k ↦ None | Op.Put k v ↦ None | Op.Delete k ↦ None | Op.Cas k f n ↦ n ] in
    (a.wanted, asked_fits action me op a, ap new_of (sym e ∙ a.is))
