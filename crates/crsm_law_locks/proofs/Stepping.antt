-- The effect of one command that keeps the rules on the value of a key: none, or that of its Cas.
use Rattle.std.proofs.Common.{◌≡◌, ℕ, ◌⊎◌, inl, inr, Bool, true, false, List, length, Option, Some, None, refl, ap, sym, subst, ◌∙◌}
use Rattle.std.specs.Prelude.{◌==◌, ◌||◌, bytes_eq, if◌then◌else◌, is_some, nat_lt}
use Rattle.std.specs.Option.{IsSomeAnd, option_eq}
use Rattle.std.proofs.lemmas.Bool.{eqb-true, eqb-false}
use Rattle.std.proofs.lemmas.Slice.Eq.{bytes_eq-Decides}
use Rattle.crsm_base.specs.Limits.{most_clients, most_keys}
use Rattle.crsm_base.specs.Store.{Client, Rows, apply, change_key, client_row, done, operate, put_key, serve, value_at, with_key}
use Rattle.crsm_spec.specs.Types.{Answer, Command, Op}
use Rattle.crsm_lease.specs.Locks.{lock_bytes}
use Rattle.crsm_law_locks.specs.Grants.{IsRepeat, KeepsToRules}
use Rattle.crsm_law_locks.proofs.Rows.{option_eq-true, value_at-with_key, value_at-with_key-other, value_at-without_key-other}

abbrev Keys : Type 0
Keys = List (List ℕ × List ℕ)

-- one of two results
abbrev one_of : Bool → Keys × Answer → Keys × Answer → Keys × Answer
one_of test a b = if test then a else b

-- ---- parts of operations

-- the key of a Cas, what it expects, and its new value
abbrev key_of : Op → List ℕ → List ℕ
key_of (Op.Cas k expected new) d = k
key_of (Op.Get k) d = d
key_of (Op.Put k v) d = d
key_of (Op.Delete k) d = d

abbrev expected_of : Op → Option (List ℕ)
expected_of (Op.Cas k expected new) = expected
expected_of (Op.Get k) = None
expected_of (Op.Put k v) = None
expected_of (Op.Delete k) = None

abbrev new_of : Op → Option (List ℕ)
new_of (Op.Cas k expected new) = new
new_of (Op.Get k) = None
new_of (Op.Put k v) = None
new_of (Op.Delete k) = None

pub same_key : (k k' : List ℕ) (x x' y y' : Option (List ℕ)) → Op.Cas k x y ≡ Op.Cas k' x' y' → k ≡ k'
same_key k k' x x' y y' e = ap (λ op. key_of op k) e

pub same_expected : (k k' : List ℕ) (x x' y y' : Option (List ℕ)) → Op.Cas k x y ≡ Op.Cas k' x' y' → x ≡ x'
same_expected k k' x x' y y' e = ap expected_of e

pub same_new : (k k' : List ℕ) (x x' y y' : Option (List ℕ)) → Op.Cas k x y ≡ Op.Cas k' x' y' → y ≡ y'
same_new k k' x x' y y' e = ap new_of e

-- ---- an operation

-- the key's value stays, and the operation is no Cas of it that is done
abbrev Keeps : List ℕ → Keys → Op → Keys × Answer → Type 0
Keeps key rows op r =
    (value_at key r.0 ≡ value_at key rows)
    × ((expected : Option (List ℕ)) (new : List ℕ) → op ≡ Op.Cas key expected (Some new) → r.1 ≡ Answer.Done → ⊥)

-- the operation is a Cas of the key that is done: the key had what it expects, and has what it sets
abbrev Sets : List ℕ → Keys → Op → Keys × Answer → Type 0
Sets key rows op r =
    (expected : Option (List ℕ)) × (new : List ℕ) × (op ≡ Op.Cas key expected (Some new)) × (r.1 ≡ Answer.Done)
    × (value_at key rows ≡ expected) × (value_at key r.0 ≡ Some new)

put_keeps : (key k v : List ℕ) (rows : Keys) → (k ≡ key → ⊥) → value_at key (put_key k v rows).0 ≡ value_at key rows
unfolding put_key
put_keeps key k v rows other = go (is_some (value_at k rows) || nat_lt (length rows) most_keys)
  where
    go : (room : Bool) → value_at key (one_of room (with_key k v rows, Answer.Done) (rows, Answer.NoRoom)).0 ≡ value_at key rows
    go true = value_at-with_key-other k key v rows other
    go false = refl

change_keeps : (key k : List ℕ) (new : Option (List ℕ)) (rows : Keys) → (k ≡ key → ⊥) → value_at key (change_key k new rows).0 ≡ value_at key rows
unfolding change_key
change_keeps key k (Some v) rows other = put_keeps key k v rows other
change_keeps key k None rows other = value_at-without_key-other k key rows other

-- a Cas of another key
other_cas : (key k : List ℕ) (expected new : Option (List ℕ)) (rows : Keys) → (k ≡ key → ⊥) → value_at key (operate rows (Op.Cas k expected new)).0 ≡ value_at key rows
unfolding operate
other_cas key k expected new rows other = go (option_eq bytes_eq (value_at k rows) expected)
  where
    go : (fits : Bool) → value_at key (one_of fits (change_key k new rows) (rows, Answer.Differs (value_at k rows))).0 ≡ value_at key rows
    go true = change_keeps key k new rows other
    go false = refl

-- a Cas of the key that sets a value
own_put : (key : List ℕ) (expected : Option (List ℕ)) (v : List ℕ) (rows : Keys) → value_at key rows ≡ expected
    → Keeps key rows (Op.Cas key expected (Some v)) (put_key key v rows) ⊎ Sets key rows (Op.Cas key expected (Some v)) (put_key key v rows)
unfolding put_key
own_put key expected v rows is = go (is_some (value_at key rows) || nat_lt (length rows) most_keys)
  where
    go : (room : Bool) → Keeps key rows (Op.Cas key expected (Some v)) (if room then (with_key key v rows, Answer.Done) else (rows, Answer.NoRoom))
        ⊎ Sets key rows (Op.Cas key expected (Some v)) (if room then (with_key key v rows, Answer.Done) else (rows, Answer.NoRoom))
    go true = inr (expected, v, refl, refl, is, value_at-with_key key v rows)
    go false = inl (refl, λ x y e d. cc)

own_cas : (key : List ℕ) (expected : Option (List ℕ)) (v : List ℕ) (rows : Keys)
    → Keeps key rows (Op.Cas key expected (Some v)) (operate rows (Op.Cas key expected (Some v))) ⊎ Sets key rows (Op.Cas key expected (Some v)) (operate rows (Op.Cas key expected (Some v)))
unfolding operate change_key
own_cas key expected v rows = go (option_eq bytes_eq (value_at key rows) expected) refl
  where
    go : (fits : Bool) → option_eq bytes_eq (value_at key rows) expected ≡ fits
        → Keeps key rows (Op.Cas key expected (Some v)) (if fits then put_key key v rows else (rows, Answer.Differs (value_at key rows)))
        ⊎ Sets key rows (Op.Cas key expected (Some v)) (if fits then put_key key v rows else (rows, Answer.Differs (value_at key rows)))
    go true e = own_put key expected v rows (option_eq-true (value_at key rows) expected e)
    go false e = inl (refl, λ x y e d. cc)

-- a Cas of the key that keeps to the rules sets a value
lawful_cas : (key k : List ℕ) (expected new : Option (List ℕ)) (client : ℕ) (rows : Keys) → KeepsToRules key client (Op.Cas k expected new) → k ≡ key
    → Keeps key rows (Op.Cas k expected new) (operate rows (Op.Cas k expected new)) ⊎ Sets key rows (Op.Cas k expected new) (operate rows (Op.Cas k expected new))
lawful_cas key k expected new client rows lawful same =
    let asks = lawful same in
    let set : Some (lock_bytes asks.1.wanted) ≡ new = sym (same_new k asks.1.key expected asks.1.found new (Some (lock_bytes asks.1.wanted)) asks.1.is) in
    let P : List ℕ → Option (List ℕ) → Type 0 = λ k n. Keeps key rows (Op.Cas k expected n) (operate rows (Op.Cas k expected n)) ⊎ Sets key rows (Op.Cas k expected n) (operate rows (Op.Cas k expected n)) in
    subst (P k) set (subst (λ k. P k (Some (lock_bytes asks.1.wanted))) (sym same) (own_cas key expected (lock_bytes asks.1.wanted) rows))

operated : (key : List ℕ) (client : ℕ) (rows : Keys) (op : Op) → KeepsToRules key client op → Keeps key rows op (operate rows op) ⊎ Sets key rows op (operate rows op)
unfolding operate
operated key client rows (Op.Get k) lawful = inl (refl, λ x y e d. cc)
operated key client rows (Op.Put k v) lawful = inl (put_keeps key k v rows lawful, λ x y e d. cc)
operated key client rows (Op.Delete k) lawful = inl (value_at-without_key-other k key rows lawful, λ x y e d. cc)
operated key client rows (Op.Cas k expected new) lawful = go (bytes_eq k key) refl
  where
    go : (same : Bool) → bytes_eq k key ≡ same → Keeps key rows (Op.Cas k expected new) (operate rows (Op.Cas k expected new)) ⊎ Sets key rows (Op.Cas k expected new) (operate rows (Op.Cas k expected new))
    go true e = lawful_cas key k expected new client rows lawful ((bytes_eq-Decides k key).0 e)
    go false e =
        let other : k ≡ key → ⊥ = λ same. let both : false ≡ true = sym e ∙ (bytes_eq-Decides k key).1 same in cc in
        inl (other_cas key k expected new rows other, λ x y is d. other (same_key k key expected x new (Some y) is))

-- ---- a command

-- the command is answered Done, and is no repeat
abbrev pub HasEffect : Rows → Command → Rows × Answer → Type 0
HasEffect rows c r = (r.1 ≡ Answer.Done) × (¬ IsRepeat rows.clients c)

abbrev pub Leaves : List ℕ → Rows → Command → Rows × Answer → Type 0
Leaves key rows c r =
    (value_at key r.0.keys ≡ value_at key rows.keys)
    × ((expected : Option (List ℕ)) (new : List ℕ) → c.op ≡ Op.Cas key expected (Some new) → HasEffect rows c r → ⊥)

abbrev pub Changes : List ℕ → Rows → Command → Rows × Answer → Type 0
Changes key rows c r =
    (expected : Option (List ℕ)) × (new : List ℕ) × (c.op ≡ Op.Cas key expected (Some new)) × HasEffect rows c r
    × (value_at key rows.keys ≡ expected) × (value_at key r.0.keys ≡ Some new)

-- a command that is done is what its operation is
done_does : (key : List ℕ) (rows : Rows) (c : Command) → KeepsToRules key c.client c.op → (¬ IsRepeat rows.clients c)
    → Leaves key rows c (done rows c (operate rows.keys c.op)) ⊎ Changes key rows c (done rows c (operate rows.keys c.op))
unfolding done
done_does key rows c lawful new = go (operated key c.client rows.keys c.op lawful)
  where
    go : Keeps key rows.keys c.op (operate rows.keys c.op) ⊎ Sets key rows.keys c.op (operate rows.keys c.op)
        → Leaves key rows c (done rows c (operate rows.keys c.op)) ⊎ Changes key rows c (done rows c (operate rows.keys c.op))
    go (inl k) = inl (k.0, λ x y e h. k.1 x y e h.0)
    go (inr s) = inr (s.0, s.1, s.2, (s.3, new), s.4, s.5)

served : (key : List ℕ) (rows : Rows) (c : Command) (last : Option Client) → client_row c.client rows.clients ≡ last → KeepsToRules key c.client c.op
    → Leaves key rows c (serve rows c last) ⊎ Changes key rows c (serve rows c last)
unfolding serve
served key rows c None is lawful = go (nat_lt (length rows.clients) most_clients)
  where
    new : ¬ IsRepeat rows.clients c
    new repeat = subst (λ (last : Option Client). IsSomeAnd last (λ row. row.number ≡ c.number)) is repeat

    go : (room : Bool) → Leaves key rows c (if room then done rows c (operate rows.keys c.op) else (rows, Answer.NoRoom))
        ⊎ Changes key rows c (if room then done rows c (operate rows.keys c.op) else (rows, Answer.NoRoom))
    go true = done_does key rows c lawful new
    go false = inl (refl, λ x y e h. let never : Answer.NoRoom ≡ Answer.Done = h.0 in cc)
served key rows c (Some row) is lawful = go (c.number == row.number) refl
  where
    go_on : (lower : Bool) → (¬ IsRepeat rows.clients c)
        → Leaves key rows c (if lower then (rows, Answer.Stale row.number) else done rows c (operate rows.keys c.op))
        ⊎ Changes key rows c (if lower then (rows, Answer.Stale row.number) else done rows c (operate rows.keys c.op))
    go_on true new = inl (refl, λ x y e h. let never : Answer.Stale row.number ≡ Answer.Done = h.0 in cc)
    go_on false new = done_does key rows c lawful new

    go : (same : Bool) → (c.number == row.number) ≡ same
        → Leaves key rows c (if same then (rows, row.answer) else (if nat_lt c.number row.number then (rows, Answer.Stale row.number) else done rows c (operate rows.keys c.op)))
        ⊎ Changes key rows c (if same then (rows, row.answer) else (if nat_lt c.number row.number then (rows, Answer.Stale row.number) else done rows c (operate rows.keys c.op)))
    go true e =
        let repeat : IsRepeat rows.clients c = subst (λ (last : Option Client). IsSomeAnd last (λ row. row.number ≡ c.number)) (sym is) (sym (eqb-true c.number row.number e)) in
        inl (refl, λ x y op h. h.1 repeat)
    go false e = go_on (nat_lt c.number row.number) (λ repeat. eqb-false c.number row.number e (sym (subst (λ (last : Option Client). IsSomeAnd last (λ row. row.number ≡ c.number)) is repeat)))

pub one_step : (key : List ℕ) (rows : Rows) (c : Command) → KeepsToRules key c.client c.op → Leaves key rows c (apply rows c) ⊎ Changes key rows c (apply rows c)
unfolding apply
one_step key rows c lawful = served key rows c (client_row c.client rows.clients) refl lawful
