-- The laws of locks, for every list of entries that is lawful for a key.
use Rattle.std.specs.Prelude.{◌≡◌, ℕ, ◌<◌, ◌≤◌, ◌⊎◌, ◌↔◌, List, length}
use Rattle.crsm_spec.specs.Types.{Entry}
use Rattle.crsm_lease.specs.declared.lock.Lock.{Lock}
use Rattle.crsm_lease.specs.Locks.{FitsLock}
use Rattle.crsm_law_locks.specs.Grants.{HasLastGrant, IsBreak, IsGivenBack, IsGrant, IsHeld, IsLawful, NoneBetween}

-- a lock is granted to the client that asked for it
abbrev pub GrantsAreOwn : Type 0
GrantsAreOwn =
    (key : List ℕ) (es : List Entry) → IsLawful key es → (place fence owner : ℕ) (g : IsGrant key es place fence owner) →
    g.entry.command.client ≡ owner

-- the fencing tokens of the grants strictly rise
abbrev pub FencesRise : Type 0
FencesRise =
    (key : List ℕ) (es : List Entry) → IsLawful key es → (p q fence fence' owner owner' : ℕ) →
    IsGrant key es p fence owner → IsGrant key es q fence' owner' → p < q → fence < fence'

-- after each entry the key is held if and only if the last grant was not given back, and then by its owner
abbrev pub HeldByLastGrant : Type 0
HeldByLastGrant =
    (key : List ℕ) (es : List Entry) → IsLawful key es → (count fence owner : ℕ) → count ≤ length es →
    FitsLock (Lock.Held fence owner) → (IsHeld key es count fence owner ↔ HasLastGrant key es count fence owner)

-- of two successive grants the first was given back before the second, or the second breaks it
abbrev pub ReturnedOrBroken : Type 0
ReturnedOrBroken =
    (key : List ℕ) (es : List Entry) → IsLawful key es → (p q fence fence' owner owner' : ℕ) →
    IsGrant key es p fence owner → IsGrant key es q fence' owner' → p < q → NoneBetween key es p q →
    IsGivenBack key es p q fence owner ⊎ IsBreak key es q fence owner
