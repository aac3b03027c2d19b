-- The locks of a list of entries: which lists keep the rules of locks, which entries grant one, and which give it back.
use Rattle.std.specs.Prelude.{◌≡◌, ◌≢◌, ℕ, ◌<◌, List, take, Option, Some}
use Rattle.std.specs.List.{AllByRecursion}
use Rattle.std.specs.Option.{IsSomeAnd}
use Rattle.crsm_base.specs.Store.{Client, after, client_row, value_at}
use Rattle.crsm_spec.specs.Types.{Answer, Command, Entry, Op}
use Rattle.crsm_spec.specs.Safe.{AnswersAt}
use Rattle.crsm_lease.specs.declared.lock.Lock.{Lock}
use Rattle.crsm_lease.specs.declared.rule.Action.{Action}
use Rattle.crsm_lease.specs.Locks.{FitsLock, lock_bytes}
use Rattle.crsm_lease.specs.Rules.{Asks, cas_to, give_back}

-- ---- the rules

-- the operation does not change the key, or is one by which this client takes, gives back or breaks the lock
abbrev pub KeepsToRules : List ℕ → ℕ → Op → Type 0
KeepsToRules key client (Op.Get k) = Unit {0}
KeepsToRules key client (Op.Put k value) = k ≢ key
KeepsToRules key client (Op.Delete k) = k ≢ key
KeepsToRules key client (Op.Cas k expected new) = k ≡ key → (action : Action) × Asks action client (Op.Cas k expected new)

-- each Put, Delete and Cas of the key is one by which its client takes, gives back or breaks the lock
abbrev pub IsLawful : List ℕ → List Entry → Type 0
IsLawful key es = AllByRecursion (λ e. KeepsToRules key e.command.client e.command.op) es

-- ---- what took effect

-- the command has the number of its client's last one, so that it gets the same answer again
abbrev pub IsRepeat : List Client → Command → Type 0
IsRepeat clients c = IsSomeAnd (client_row c.client clients) (λ row. row.number ≡ c.number)

-- The entry at this index is answered Done, and is no repeat.
pub record TakesEffect (es : List Entry) (place : ℕ) (e : Entry) : Type 0 where
  pub done : AnswersAt es place e Answer.Done
  pub new : ¬ IsRepeat (after (take place es)).clients e.command

-- ---- grants

-- The entry at this index grants the key to the owner, with this fencing token.
pub record IsGrant (key : List ℕ) (es : List Entry) (place fence owner : ℕ) : Type 0 where
  pub entry : Entry
  pub expected : Option (List ℕ)
  pub fits : FitsLock (Lock.Held fence owner)
  pub effect : TakesEffect es place entry
  pub is : entry.command.op ≡ cas_to key expected (Lock.Held fence owner)

-- The entry at this index gives back the grant with this fencing token.
pub record IsReturn (key : List ℕ) (es : List Entry) (place fence owner : ℕ) : Type 0 where
  pub entry : Entry
  pub client : entry.command.client ≡ owner
  pub effect : TakesEffect es place entry
  pub is : entry.command.op ≡ give_back key fence owner

-- The entry at this index breaks the lock that another owner holds with this fencing token.
pub record IsBreak (key : List ℕ) (es : List Entry) (place fence owner : ℕ) : Type 0 where
  pub entry : Entry
  pub wanted : Option (List ℕ)
  pub other : entry.command.client ≢ owner
  pub effect : TakesEffect es place entry
  pub asked : Asks Action.Break entry.command.client entry.command.op
  pub is : entry.command.op ≡ Op.Cas key (Some (lock_bytes (Lock.Held fence owner))) wanted

-- a grant at this index was given back between it and another index
abbrev pub IsGivenBack : List ℕ → List Entry → ℕ → ℕ → ℕ → ℕ → Type 0
IsGivenBack key es place until fence owner =
    (q : ℕ) × (place < q) × (q < until) × IsReturn key es q fence owner

-- no entry between two indices is a grant
abbrev pub NoneBetween : List ℕ → List Entry → ℕ → ℕ → Type 0
NoneBetween key es p q = (r fence owner : ℕ) → p < r → r < q → IsGrant key es r fence owner → ⊥

-- The last grant before an index.
pub record IsLastGrant (key : List ℕ) (es : List Entry) (until place fence owner : ℕ) : Type 0 where
  pub before : place < until
  pub grant : IsGrant key es place fence owner
  pub last : NoneBetween key es place until

-- ---- who holds it

-- after this many entries the key has the value of a lock of this owner with this fencing token
abbrev pub IsHeld : List ℕ → List Entry → ℕ → ℕ → ℕ → Type 0
IsHeld key es count fence owner = value_at key (after (take count es)).keys ≡ Some (lock_bytes (Lock.Held fence owner))

-- the last grant among this many entries is this one, and it was not given back
abbrev pub HasLastGrant : List ℕ → List Entry → ℕ → ℕ → ℕ → Type 0
HasLastGrant key es count fence owner =
    (place : ℕ) × IsLastGrant key es count place fence owner × (¬ IsGivenBack key es place count fence owner)
