-- The value of a lock is read as the lock that has it, and as no other.
use Rattle.std.proofs.Common.{◌≡◌, ℕ, zero, suc, ◌^◌, ◌<◌, List, ◌∷◌, ◌++◌, length, Option, Some, None, IfSome, refl, sym, ap, subst, ◌∙◌, lit<, arith}
use Rattle.std.proofs.lemmas.List.{length-append}
use Rattle.crsm_base.specs.Spelling.{u8_bytes, u64_bytes}
use Rattle.crsm_base.specs.Parser.{◌>>=◌, both, u8_at, whole}
use Rattle.crsm_base.specs.Reading.{u64_at}
use Rattle.crsm_base.proofs.Parsers.{IsBytes, both_parse, bind_some, some_is}
use Rattle.crsm_base.proofs.Numbers.{u8_parses, u64_parses}
use Rattle.crsm_base.proofs.Wholes.{IsWhole, whole_of, all_found}
use Rattle.crsm_lease.specs.declared.lock.Lock.{Lock}
use Rattle.crsm_lease.specs.Locks.{FitsLock, IsLock, fields_at, lock_bytes, lock_of}

-- ---- the three fields

-- what the fields are written as
abbrev fields_bytes : ℕ × ℕ × ℕ → List ℕ
fields_bytes f = f.0 ∷ (u64_bytes f.1 ++ u64_bytes f.2)

parts_are : IsWhole (both u8_at (both u64_at u64_at)) (λ p. u8_bytes p.0 ++ (u64_bytes p.1.0 ++ u64_bytes p.1.1)) (λ p. (p.0 < 256) × ((p.1.0 < 2 ^ 64) × (p.1.1 < 2 ^ 64)))
parts_are = whole_of (both_parse u8_parses (both_parse u64_parses u64_parses))

fields_found : (value : List ℕ) (f : ℕ × ℕ × ℕ) → IsBytes value → fields_at value ≡ Some f → (f.1 < 2 ^ 64) × (f.2 < 2 ^ 64) × (value ≡ fields_bytes f)
unfolding fields_at
fields_found value f ok e =
    let b = bind_some (whole (both u8_at (both u64_at u64_at) value)) (λ p. Some (p.0, p.1.0, p.1.1)) f e in
    let s = all_found parts_are value b.0 ok (sym b.1) in
    subst (λ (z : ℕ × ℕ × ℕ). (z.1 < 2 ^ 64) × (z.2 < 2 ^ 64) × (value ≡ fields_bytes z)) (some_is (b.0.0, b.0.1.0, b.0.1.1) f b.2) (s.fits.1.0, s.fits.1.1, s.is)

fields_again : (f : ℕ × ℕ × ℕ) → f.0 < 256 → f.1 < 2 ^ 64 → f.2 < 2 ^ 64 → fields_at (fields_bytes f) ≡ Some f
unfolding fields_at
fields_again f state fence owner =
    let P : Option ((ℕ × (ℕ × ℕ)) × List ℕ) → Option (ℕ × ℕ × ℕ) = λ r. whole r >>= λ p. Some (p.0, p.1.0, p.1.1) in
    ap P (parts_are.again (f.0, (f.1, f.2)) (state, (fence, owner)))

-- ---- the lock

-- the fields of a lock
abbrev fields_of : Lock → ℕ × ℕ × ℕ
fields_of (Lock.Free fence) = (0, fence, 0)
fields_of (Lock.Held fence owner) = (1, fence, owner)

lock_bytes-fields : (lock : Lock) → lock_bytes lock ≡ fields_bytes (fields_of lock)
unfolding lock_bytes
lock_bytes-fields (Lock.Free fence) = refl
lock_bytes-fields (Lock.Held fence owner) = refl

lock_of-fields : (lock : Lock) → lock_of (fields_of lock).0 (fields_of lock).1 (fields_of lock).2 ≡ Some lock
unfolding lock_of
lock_of-fields (Lock.Free fence) = refl
lock_of-fields (Lock.Held fence owner) = refl

fields_at-lock_bytes : (lock : Lock) → FitsLock lock → fields_at (lock_bytes lock) ≡ Some (fields_of lock)
fields_at-lock_bytes (Lock.Free fence) fits =
    ap fields_at (lock_bytes-fields (Lock.Free fence)) ∙ fields_again (0, fence, 0) (lit< tt) fits (lit< tt)
fields_at-lock_bytes (Lock.Held fence owner) fits =
    ap fields_at (lock_bytes-fields (Lock.Held fence owner)) ∙ fields_again (1, fence, owner) (lit< tt) fits.0 fits.1

lock_found : (state fence owner : ℕ) (lock : Lock) → lock_of state fence owner ≡ Some lock → fence < 2 ^ 64 → owner < 2 ^ 64 → FitsLock lock × (fields_bytes (state, fence, owner) ≡ lock_bytes lock)
unfolding lock_of lock_bytes
lock_found zero fence zero lock e f o = subst (λ l. FitsLock l × (fields_bytes (0, fence, 0) ≡ lock_bytes l)) (some_is (Lock.Free fence) lock e) (f, refl)
lock_found zero fence (suc owner) lock e f o = absurd cc
lock_found (suc zero) fence owner lock e f o = subst (λ l. FitsLock l × (fields_bytes (1, fence, owner) ≡ lock_bytes l)) (some_is (Lock.Held fence owner) lock e) ((f, o), refl)
lock_found (suc (suc state)) fence owner lock e f o = absurd cc

-- ---- what a reader answers

pub read_found : (value : List ℕ) (f : ℕ × ℕ × ℕ) → IsBytes value → Some f ≡ fields_at value → (result : Option Lock) → result ≡ lock_of f.0 f.1 f.2 → IfSome result (IsLock value)
read_found value f ok e None is = tt
read_found value f ok e (Some lock) is =
    let p = fields_found value f ok (sym e) in
    let l = lock_found f.0 f.1 f.2 lock (sym is) p.0 p.1 in
    record { fits = l.0; is = p.2 ∙ l.1 }

pub read_only : (value : List ℕ) (f : ℕ × ℕ × ℕ) → Some f ≡ fields_at value → (result : Option Lock) → result ≡ lock_of f.0 f.1 f.2 → (lock : Lock) → IsLock value lock → result ≡ Some lock
read_only value f e result is lock s =
    let same : f ≡ fields_of lock = some_is f (fields_of lock) (e ∙ ap fields_at s.is ∙ fields_at-lock_bytes lock s.fits) in
    is ∙ ap (λ (g : ℕ × ℕ × ℕ). lock_of g.0 g.1 g.2) same ∙ lock_of-fields lock

pub read_none : (value : List ℕ) → None ≡ fields_at value → (lock : Lock) → IsLock value lock → ⊥
read_none value e lock s =
    let both : ◌≡◌ {A = Option (ℕ × ℕ × ℕ)} None (Some (fields_of lock)) = e ∙ ap fields_at s.is ∙ fields_at-lock_bytes lock s.fits in
    cc

-- ---- one value each

pub locks_are_one : (a b : Lock) → FitsLock a → FitsLock b → lock_bytes a ≡ lock_bytes b → a ≡ b
locks_are_one a b fa fb e =
    let same : fields_of a ≡ fields_of b = some_is (fields_of a) (fields_of b) (sym (fields_at-lock_bytes a fa) ∙ ap fields_at e ∙ fields_at-lock_bytes b fb) in
    some_is a b (sym (lock_of-fields a) ∙ ap (λ (g : ℕ × ℕ × ℕ). lock_of g.0 g.1 g.2) same ∙ lock_of-fields b)

length-fields : (f : ℕ × ℕ × ℕ) → length (fields_bytes f) ≡ 17
unfolding u64_bytes
length-fields f = omega (arith, length-append (u64_bytes f.1) (u64_bytes f.2))

pub length-lock_bytes : (lock : Lock) → length (lock_bytes lock) ≡ 17
length-lock_bytes lock = ap length (lock_bytes-fields lock) ∙ length-fields (fields_of lock)
