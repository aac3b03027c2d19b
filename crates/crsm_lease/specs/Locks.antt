-- The value of a lock, and which lock a key has.
use Rattle.std.specs.Prelude.{◌≡◌, ℕ, zero, suc, ◌<◌, ◌^◌, List, ◌∷◌, ◌++◌, Option, Some, None}
use Rattle.crsm_base.specs.Spelling.{Spelt, u64_bytes}
use Rattle.crsm_base.specs.Parser.{◌>>=◌, both, u8_at, whole}
use Rattle.crsm_base.specs.Reading.{u64_at}
use Rattle.crsm_lease.specs.declared.lock.Lock.{Lock}

-- the state, 0 free and 1 held; the fence; the owner, 0 of a free lock
unfoldable pub lock_bytes : Lock → List ℕ
lock_bytes (Lock.Free fence) = 0 ∷ (u64_bytes fence ++ u64_bytes 0)
lock_bytes (Lock.Held fence owner) = 1 ∷ (u64_bytes fence ++ u64_bytes owner)

-- its numbers have 64 bits
abbrev pub FitsLock : Lock → Type 0
FitsLock (Lock.Free fence) = fence < 2 ^ 64
FitsLock (Lock.Held fence owner) = (fence < 2 ^ 64) × (owner < 2 ^ 64)

-- the lock has this value
abbrev pub IsLock : List ℕ → Lock → Type 0
IsLock value lock = Spelt lock_bytes FitsLock lock value

-- the lock of a key with this value; a key that is missing is a free lock with fence 0
abbrev pub HasLock : Option (List ℕ) → Lock → Type 0
HasLock None lock = lock ≡ Lock.Free 0
HasLock (Some value) lock = IsLock value lock

abbrev pub LocksHaveOneValue : Type 0
LocksHaveOneValue = (a b : Lock) → FitsLock a → FitsLock b → lock_bytes a ≡ lock_bytes b → a ≡ b

-- ---- how a value is read

-- the state, the fence and the owner, and nothing behind them
unfoldable pub fields_at : List ℕ → Option (ℕ × ℕ × ℕ)
fields_at value = whole (both u8_at (both u64_at u64_at) value) >>= λ f. Some (f.0, f.1.0, f.1.1)

unfoldable pub lock_of : ℕ → ℕ → ℕ → Option Lock
lock_of zero fence zero = Some (Lock.Free fence)
lock_of zero fence (suc owner) = None
lock_of (suc zero) fence owner = Some (Lock.Held fence owner)
lock_of (suc (suc state)) fence owner = None
