-- What follows the look at a key, by the table: what is asked, and what is told.
use Rattle.std.proofs.Common.{◌≡◌, ℕ, ◌+◌, ◌<◌, ◌^◌, ◌⊎◌, inl, inr, Bool, true, false, List, Option, Some, None, refl, sym, ap, subst, ◌∙◌, arith}
use Rattle.std.specs.Prelude.{◌==◌, nat_lt, if◌then◌else◌}
use Rattle.std.proofs.lemmas.Bool.{eqb-true}
use Rattle.crsm_spec.specs.Clock.{u64_max}
use Rattle.crsm_spec.specs.Types.{Answer, Op, Outcome}
use Rattle.crsm_base.specs.Spelling.{refusal_number}
use Rattle.crsm_lease.specs.declared.lock.Lock.{Lock}
use Rattle.crsm_lease.specs.declared.rule.Action.{Action}
use Rattle.crsm_lease.specs.declared.rule.NextStep.{NextStep}
use Rattle.crsm_lease.specs.declared.rule.Ruling.{Ruling}
use Rattle.crsm_lease.specs.declared.told.Told.{Told}
use Rattle.crsm_lease.specs.Locks.{FitsLock, HasLock, lock_bytes}
use Rattle.crsm_lease.specs.Rules.{Asks, Finding, FollowsGet, IsRuled, cas_to, found_by, granted, next_of, rule}

-- ---- what is asked

-- the action asks for this operation on this key
pub record AsksOn (action : Action) (me : ℕ) (key : List ℕ) (op : Op) : Type 0 where
  pub asks : Asks action me op
  pub on : asks.key ≡ key

ruled_asks : (action : Action) (me : ℕ) (key : List ℕ) (value : Option (List ℕ)) (op : Op) → me < 2 ^ 64 → IsRuled action me key value (NextStep.Ask op) → AsksOn action me key op
ruled_asks action me key value op fits (inr none) = absurd (never op Told.NotALock none.1)
  where
    never : (op : Op) (told : Told) → NextStep.Ask op ≡ NextStep.End told → ⊥
    never op told e = absurd cc
ruled_asks action me key value op fits (inl r) = go (rule action me (found_by me r.0)) refl r.2
  where
    never : (op : Op) (told : Told) → NextStep.Ask op ≡ NextStep.End told → ⊥
    never op told e = absurd cc

    same : (op' : Op) → NextStep.Ask op ≡ NextStep.Ask op' → op ≡ op'
    same op' e = cc

    go : (ruling : Ruling) → rule action me (found_by me r.0) ≡ ruling → NextStep.Ask op ≡ next_of key value ruling → AsksOn action me key op
    go (Ruling.Becomes wanted) is e = record {
      asks = record { key = key; found = value; lock = r.0; wanted = wanted; client = fits; has = r.1; ruled = is; is = same (cas_to key value wanted) e };
      on = refl;
    }
    go (Ruling.Tells told) is e = absurd (never op told e)

pub asks_on : (action : Action) (me : ℕ) (key : List ℕ) (found : Outcome) (op : Op) → me < 2 ^ 64 → FollowsGet action me key found (NextStep.Ask op) → AsksOn action me key op
asks_on action me key (Outcome.Answered (Answer.Found value)) op fits r = ruled_asks action me key (Some value) op fits r
asks_on action me key (Outcome.Answered Answer.Missing) op fits r = ruled_asks action me key None op fits r
asks_on action me key (Outcome.Answered (Answer.Stale number)) op fits r = absurd cc
asks_on action me key (Outcome.Answered Answer.NoRoom) op fits r = absurd cc
asks_on action me key (Outcome.Answered Answer.Done) op fits r = absurd cc
asks_on action me key (Outcome.Answered (Answer.Differs value)) op fits r = absurd cc
asks_on action me key (Outcome.Refused why) op fits r = absurd cc

-- ---- what is told

-- what is told of a lock: its own grant, another's, that it is free, or nothing of it
pub data TellsOf (me : ℕ) : Lock → Told → Type 0 where
  Own : (fence : ℕ) → TellsOf me (Lock.Held fence me) (Told.Granted fence)
  Foreign : (fence owner : ℕ) → TellsOf me (Lock.Held fence owner) (Told.Held owner fence)
  Vacant : (fence : ℕ) → TellsOf me (Lock.Free fence) (Told.Free fence)
  Nothing : (lock : Lock) → TellsOf me lock Told.Spent

tells_is : (a b : Told) → ◌≡◌ {A = Ruling} (Ruling.Tells a) (Ruling.Tells b) → a ≡ b
tells_is a b e = cc

-- where no grant is left
granted_tells : (me fence : ℕ) (lock : Lock) (told : Told) → granted me fence ≡ Ruling.Tells told → TellsOf me lock told
unfolding granted
granted_tells me fence lock told e = go (nat_lt fence u64_max) e
  where
    go : (b : Bool) → (if b then Ruling.Becomes (Lock.Held (fence + 1) me) else Ruling.Tells Told.Spent) ≡ Ruling.Tells told → TellsOf me lock told
    go true r = absurd cc
    go false r = subst (TellsOf me lock) (tells_is Told.Spent told r) (Nothing lock)

own_told : (me fence owner : ℕ) (told : Told) → owner ≡ me → ◌≡◌ {A = Ruling} (Ruling.Tells (Told.Granted fence)) (Ruling.Tells told) → TellsOf me (Lock.Held fence owner) told
own_told me fence owner told same e = subst (λ o. TellsOf me (Lock.Held fence o) told) (sym same) (subst (TellsOf me (Lock.Held fence me)) (tells_is (Told.Granted fence) told e) (Own fence))

foreign_told : (me fence owner : ℕ) (told : Told) → ◌≡◌ {A = Ruling} (Ruling.Tells (Told.Held owner fence)) (Ruling.Tells told) → TellsOf me (Lock.Held fence owner) told
foreign_told me fence owner told e = subst (TellsOf me (Lock.Held fence owner)) (tells_is (Told.Held owner fence) told e) (Foreign fence owner)

held_tells : (action : Action) (me fence owner : ℕ) (told : Told) (own : Bool) → (owner == me) ≡ own → rule action me (if own then Finding.Own fence else Finding.Foreign fence owner) ≡ Ruling.Tells told → TellsOf me (Lock.Held fence owner) told
unfolding rule
held_tells Action.Take me fence owner told true t e = own_told me fence owner told (eqb-true owner me t) e
held_tells Action.Take me fence owner told false t e = foreign_told me fence owner told e
held_tells Action.Break me fence owner told true t e = own_told me fence owner told (eqb-true owner me t) e
held_tells Action.Break me fence owner told false t e = granted_tells me fence (Lock.Held fence owner) told e
held_tells Action.Give me fence owner told true t e = absurd cc
held_tells Action.Give me fence owner told false t e = foreign_told me fence owner told e

pub rule_tells : (action : Action) (me : ℕ) (lock : Lock) (told : Told) → rule action me (found_by me lock) ≡ Ruling.Tells told → TellsOf me lock told
unfolding rule found_by
rule_tells action me (Lock.Held fence owner) told e = held_tells action me fence owner told (owner == me) refl e
rule_tells Action.Take me (Lock.Free fence) told e = granted_tells me fence (Lock.Free fence) told e
rule_tells Action.Break me (Lock.Free fence) told e = granted_tells me fence (Lock.Free fence) told e
rule_tells Action.Give me (Lock.Free fence) told e = subst (TellsOf me (Lock.Free fence)) (tells_is (Told.Free fence) told e) (Vacant fence)

-- what is told of a key with this value: what the table tells of its lock, or that it has none
pub record TellsOfKey (me : ℕ) (value : Option (List ℕ)) (told : Told) : Type 0 where
  pub lock : Lock
  pub has : HasLock value lock
  pub tells : TellsOf me lock told

pub end_is : (a b : Told) → ◌≡◌ {A = NextStep} (NextStep.End a) (NextStep.End b) → a ≡ b
end_is a b e = cc

pub ruled_tells : (action : Action) (me : ℕ) (key : List ℕ) (value : Option (List ℕ)) (told : Told) → IsRuled action me key value (NextStep.End told) → TellsOfKey me value told ⊎ (told ≡ Told.NotALock)
ruled_tells action me key value told (inr none) = inr (end_is told Told.NotALock none.1)
ruled_tells action me key value told (inl r) = inl (record { lock = r.0; has = r.1; tells = rule_tells action me r.0 told (go (rule action me (found_by me r.0)) refl r.2) })
  where
    go : (ruling : Ruling) → rule action me (found_by me r.0) ≡ ruling → NextStep.End told ≡ next_of key value ruling → rule action me (found_by me r.0) ≡ Ruling.Tells told
    go (Ruling.Becomes wanted) is e = absurd cc
    go (Ruling.Tells other) is e = is ∙ ap Ruling.Tells (sym (end_is told other e))

-- the value of a held lock
pub held_value : (value : Option (List ℕ)) (fence owner : ℕ) → HasLock value (Lock.Held fence owner) → (value ≡ Some (lock_bytes (Lock.Held fence owner))) × FitsLock (Lock.Held fence owner)
held_value None fence owner h = absurd cc
held_value (Some value) fence owner h = (ap Some h.is, h.fits)
