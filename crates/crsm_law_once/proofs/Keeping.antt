-- What the store says to a client's number once it was served, and how other commands leave that.
use Rattle.std.proofs.Common.{◌≡◌, ℕ, ◌<◌, ◌≤◌, ◌⊎◌, inl, inr, Bool, true, false, length, Some, refl, sym, subst, ◌∙◌, arith}
use Rattle.std.specs.Prelude.{◌==◌}
use Rattle.std.proofs.lemmas.Bool.{eqb-true, eqb-false}
use Rattle.std.proofs.lemmas.Option.{same_Some, none-some}
use Rattle.crsm_base.specs.Limits.{most_clients}
use Rattle.crsm_base.specs.Store.{Client, Rows, apply, client_row}
use Rattle.crsm_spec.specs.Types.{Answer, Command}
use Rattle.crsm_law_once.proofs.Serving.{Executes, IsShut, Serves, serves}
use Rattle.crsm_law_once.proofs.Serving.Serves.{Again, Executed, Late, Shut}

-- ---- how a command leaves what is kept of a client

-- what is kept of the client is the same, and there is no more room
pub record LeavesClient (d : ℕ) (rows : Rows) (after : Rows) : Type 0 where
  pub row : client_row d after.clients ≡ client_row d rows.clients
  pub no_fewer : length rows.clients ≤ length after.clients

-- or the command is one of the client, and is executed
abbrev ComesTo : ℕ → Rows → Command → Rows × Answer → Type 0
ComesTo d rows c r = LeavesClient d rows r.0 ⊎ ((c.client ≡ d) × Executes rows c r)

comes_to : (d : ℕ) (rows : Rows) (c : Command) (r : Rows × Answer) → Serves rows c r → ComesTo d rows c r
comes_to d rows c _ (Shut s) = inl (record { row = refl; no_fewer = omega arith })
comes_to d rows c _ (Again row at is) = inl (record { row = refl; no_fewer = omega arith })
comes_to d rows c _ (Late row at lt) = inl (record { row = refl; no_fewer = omega arith })
comes_to d rows c r (Executed _ x) = go (c.client == d) refl
  where
    go : (same : Bool) → (c.client == d) ≡ same → ComesTo d rows c r
    go true e = inr (eqb-true c.client d e, x)
    go false e = inl (record { row = x.others d (eqb-false c.client d e); no_fewer = x.no_fewer })

-- ---- a client without room

too_full : (length_is most : ℕ) → most ≤ length_is → length_is < most → ⊥
too_full l m a b = omega (arith, a, b)

-- it executes nothing
pub shut_never : (rows : Rows) (c : Command) (r : Rows × Answer) → IsShut c.client rows → Executes rows c r → ⊥
shut_never rows c r shut x = too_full (length rows.clients) most_clients shut.full (x.room shut.unknown)

pub shut_on : (d : ℕ) (rows : Rows) (c : Command) → IsShut d rows → IsShut d (apply rows c).0
shut_on d rows c shut = go (apply rows c) (comes_to d rows c (apply rows c) (serves rows c))
  where
    longer : (most a b : ℕ) → most ≤ a → a ≤ b → most ≤ b
    longer most a b p q = omega (arith, p, q)

    go : (r : Rows × Answer) → ComesTo d rows c r → IsShut d r.0
    go r (inl l) = record { unknown = l.row ∙ shut.unknown; full = longer most_clients (length rows.clients) (length r.0.clients) shut.full l.no_fewer }
    go r (inr x) = absurd (shut_never rows c r (subst (λ z. IsShut z rows) (sym x.0) shut) x.1)

-- ---- a client whose latest number is no lower

pub record HasNumber (d n : ℕ) (rows : Rows) : Type 0 where
  pub row : Client
  pub at : client_row d rows.clients ≡ Some row
  pub least : n ≤ row.number

-- what is executed is new, so it is higher
higher : (rows : Rows) (c : Command) (r : Rows × Answer) (d : ℕ) (row : Client) → c.client ≡ d → Executes rows c r → client_row d rows.clients ≡ Some row → row.number < c.number
higher rows c r d row is x at = x.new row (subst (λ z. client_row z rows.clients ≡ Some row) (sym is) at)

kept_there : (rows : Rows) (c : Command) (r : Rows × Answer) (d : ℕ) → c.client ≡ d → Executes rows c r → client_row d r.0.clients ≡ Some (record { client = c.client; number = c.number; answer = r.1 })
kept_there rows c r d is x = subst (λ z. client_row z r.0.clients ≡ Some (record { client = c.client; number = c.number; answer = r.1 })) is x.kept

up : (n a b : ℕ) → n ≤ a → a < b → n ≤ b
up n a b p q = omega (arith, p, q)

pub number_on : (d n : ℕ) (rows : Rows) (c : Command) → HasNumber d n rows → HasNumber d n (apply rows c).0
number_on d n rows c h = go (apply rows c) (comes_to d rows c (apply rows c) (serves rows c))
  where
    go : (r : Rows × Answer) → ComesTo d rows c r → HasNumber d n r.0
    go r (inl l) = record { row = h.row; at = l.row ∙ h.at; least = h.least }
    go r (inr x) = record {
      row = record { client = c.client; number = c.number; answer = r.1 };
      at = kept_there rows c r d x.0 x.1;
      least = up n h.row.number c.number h.least (higher rows c r d h.row x.0 x.1 h.at);
    }

-- ---- the number that is kept

-- what is kept of the client is the same, or the command is its own and its number is kept
abbrev pub Comes : ℕ → Rows → Command → Type 0
Comes d rows c =
    (client_row d rows.clients ≡ client_row d (apply rows c).0.clients)
    ⊎ ((c.client ≡ d) × (client_row d (apply rows c).0.clients ≡ Some (record { client = c.client; number = c.number; answer = (apply rows c).1 })))

pub comes : (d : ℕ) (rows : Rows) (c : Command) → Comes d rows c
comes d rows c = go (comes_to d rows c (apply rows c) (serves rows c))
  where
    go : ComesTo d rows c (apply rows c) → Comes d rows c
    go (inl l) = inl (sym l.row)
    go (inr x) = inr (x.0, kept_there rows c (apply rows c) d x.0 x.1)

-- ---- a number is settled

-- nothing is executed under this number of the client from here on
abbrev pub IsSettled : ℕ → ℕ → Rows → Type 0
IsSettled d n rows = IsShut d rows ⊎ HasNumber d n rows

pub settled_on : (d n : ℕ) (rows : Rows) (c : Command) → IsSettled d n rows → IsSettled d n (apply rows c).0
settled_on d n rows c (inl shut) = inl (shut_on d rows c shut)
settled_on d n rows c (inr h) = inr (number_on d n rows c h)

pub settled_below : (d n m : ℕ) (rows : Rows) → m ≤ n → IsSettled d n rows → IsSettled d m rows
settled_below d n m rows le (inl shut) = inl shut
settled_below d n m rows le (inr h) = inr (record { row = h.row; at = h.at; least = more h.row.number le h.least })
  where
    more : (k : ℕ) → m ≤ n → n ≤ k → m ≤ k
    more k a b = omega (arith, a, b)

equal_le : (a b : ℕ) → a ≡ b → a ≤ b
equal_le a b e = omega (arith, e)

less_le : (a b : ℕ) → a < b → a ≤ b
less_le a b e = omega (arith, e)

pub settles : (rows : Rows) (c : Command) → IsSettled c.client c.number (apply rows c).0
settles rows c = go (apply rows c) (serves rows c)
  where
    go : (r : Rows × Answer) → Serves rows c r → IsSettled c.client c.number r.0
    go _ (Shut shut) = inl shut
    go _ (Again row at is) = inr (record { row = row; at = at; least = equal_le c.number row.number is })
    go _ (Late row at lt) = inr (record { row = row; at = at; least = less_le c.number row.number lt })
    go r (Executed _ x) = inr (record { row = record { client = c.client; number = c.number; answer = r.1 }; at = x.kept; least = omega arith })

not_above : (a b : ℕ) → a ≤ b → b < a → ⊥
not_above a b p q = omega (arith, p, q)

settled_never : (rows : Rows) (c : Command) (r : Rows × Answer) → IsSettled c.client c.number rows → Executes rows c r → ⊥
settled_never rows c r (inl shut) x = shut_never rows c r shut x
settled_never rows c r (inr h) x = not_above c.number h.row.number h.least (x.new h.row h.at)

-- a settled number changes nothing
pub settled_rests : (rows : Rows) (c : Command) → IsSettled c.client c.number rows → (apply rows c).0 ≡ rows
settled_rests rows c settled = go (apply rows c) (serves rows c)
  where
    go : (r : Rows × Answer) → Serves rows c r → r.0 ≡ rows
    go _ (Shut s) = refl
    go _ (Again row at is) = refl
    go _ (Late row at lt) = refl
    go r (Executed _ x) = absurd (settled_never rows c r settled x)

-- ---- the answer to a settled number

-- the row answers the number: by the answer that it keeps, or the number is stale
abbrev Says : ℕ → Answer → Client → Type 0
Says n a row = ((n ≡ row.number) × (a ≡ row.answer)) ⊎ ((n < row.number) × (a ≡ Answer.Stale row.number))

pub record IsKept (d n : ℕ) (a : Answer) (rows : Rows) : Type 0 where
  pub row : Client
  pub at : client_row d rows.clients ≡ Some row
  pub says : Says n a row

-- this is the answer to the client's number from here on, as long as no higher one comes
abbrev pub HasAnswer : ℕ → ℕ → Answer → Rows → Type 0
HasAnswer d n a rows = (IsShut d rows × (a ≡ Answer.NoRoom)) ⊎ IsKept d n a rows

-- a higher number has come
pub record IsPassed (d n : ℕ) (rows : Rows) : Type 0 where
  pub row : Client
  pub at : client_row d rows.clients ≡ Some row
  pub above : n < row.number

pub answers_from : (rows : Rows) (c : Command) → HasAnswer c.client c.number (apply rows c).1 (apply rows c).0
answers_from rows c = go (apply rows c) (serves rows c)
  where
    go : (r : Rows × Answer) → Serves rows c r → HasAnswer c.client c.number r.1 r.0
    go _ (Shut shut) = inl (shut, refl)
    go _ (Again row at is) = inr (record { row = row; at = at; says = inl (is, refl) })
    go _ (Late row at lt) = inr (record { row = row; at = at; says = inr (lt, refl) })
    go r (Executed _ x) = inr (record { row = record { client = c.client; number = c.number; answer = r.1 }; at = x.kept; says = inl (refl, refl) })

says_least : (n : ℕ) (a : Answer) (row : Client) → Says n a row → n ≤ row.number
says_least n a row (inl s) = equal_le n row.number s.0
says_least n a row (inr s) = less_le n row.number s.0

under : (n a b : ℕ) → n ≤ a → a < b → n < b
under n a b p q = omega (arith, p, q)

pub passed_on : (d n : ℕ) (rows : Rows) (c : Command) → IsPassed d n rows → IsPassed d n (apply rows c).0
passed_on d n rows c h = go (apply rows c) (comes_to d rows c (apply rows c) (serves rows c))
  where
    both_up : (a b : ℕ) → n < a → a < b → n < b
    both_up a b p q = omega (arith, p, q)

    go : (r : Rows × Answer) → ComesTo d rows c r → IsPassed d n r.0
    go r (inl l) = record { row = h.row; at = l.row ∙ h.at; above = h.above }
    go r (inr x) = record {
      row = record { client = c.client; number = c.number; answer = r.1 };
      at = kept_there rows c r d x.0 x.1;
      above = both_up h.row.number c.number h.above (higher rows c r d h.row x.0 x.1 h.at);
    }

-- the answer stays, or a higher number comes
pub answer_on : (d n : ℕ) (a : Answer) (rows : Rows) (c : Command) → HasAnswer d n a rows
    → HasAnswer d n a (apply rows c).0 ⊎ ((c.client ≡ d) × (n < c.number) × IsPassed d n (apply rows c).0)
answer_on d n a rows c (inl shut) = inl (inl (shut_on d rows c shut.0, shut.1))
answer_on d n a rows c (inr h) = go (apply rows c) (comes_to d rows c (apply rows c) (serves rows c))
  where
    go : (r : Rows × Answer) → ComesTo d rows c r → HasAnswer d n a r.0 ⊎ ((c.client ≡ d) × (n < c.number) × IsPassed d n r.0)
    go r (inl l) = inl (inr (record { row = h.row; at = l.row ∙ h.at; says = h.says }))
    go r (inr x) =
        let lt = under n h.row.number c.number (says_least n a h.row h.says) (higher rows c r d h.row x.0 x.1 h.at) in
        inr (x.0, lt, record { row = record { client = c.client; number = c.number; answer = r.1 }; at = kept_there rows c r d x.0 x.1; above = lt })

-- ---- what is answered

same_row : (d : ℕ) (rows : Rows) (x y : Client) → client_row d rows.clients ≡ Some x → client_row d rows.clients ≡ Some y → x ≡ y
same_row d rows x y p q = same_Some x y (sym p ∙ q)

pub kept_answers : (rows : Rows) (c : Command) (a : Answer) → HasAnswer c.client c.number a rows → (apply rows c).1 ≡ a
kept_answers rows c a has = go (apply rows c) (serves rows c) has
  where
    apart : (x y : ℕ) → x ≡ y → x < y → ⊥
    apart x y e lt = omega (arith, e, lt)

    again : (row : Client) → c.number ≡ row.number → Says c.number a row → row.answer ≡ a
    again row is (inl s) = sym s.1
    again row is (inr s) = absurd (apart c.number row.number is s.0)

    late : (row : Client) → c.number < row.number → Says c.number a row → Answer.Stale row.number ≡ a
    late row lt (inl s) = absurd (apart c.number row.number s.0 lt)
    late row lt (inr s) = sym s.1

    go : (r : Rows × Answer) → Serves rows c r → HasAnswer c.client c.number a rows → r.1 ≡ a
    go _ (Shut s) (inl h) = sym h.1
    go _ (Shut s) (inr h) = absurd (none-some h.row (sym s.unknown ∙ h.at))
    go _ (Again row at is) (inl h) = absurd (none-some row (sym h.0.unknown ∙ at))
    go _ (Again row at is) (inr h) = again row is (subst (Says c.number a) (same_row c.client rows h.row row h.at at) h.says)
    go _ (Late row at lt) (inl h) = absurd (none-some row (sym h.0.unknown ∙ at))
    go _ (Late row at lt) (inr h) = late row lt (subst (Says c.number a) (same_row c.client rows h.row row h.at at) h.says)
    go r (Executed _ x) (inl h) = absurd (shut_never rows c r h.0 x)
    go r (Executed _ x) (inr h) = absurd (not_above c.number h.row.number (says_least c.number a h.row h.says) (x.new h.row h.at))

pub passed_answers : (rows : Rows) (c : Command) (h : IsPassed c.client c.number rows) → (apply rows c).1 ≡ Answer.Stale h.row.number
passed_answers rows c h = kept_answers rows c (Answer.Stale h.row.number) (inr (record { row = h.row; at = h.at; says = inr (h.above, refl) }))

pub shut_answers : (rows : Rows) (c : Command) → IsShut c.client rows → (apply rows c).1 ≡ Answer.NoRoom
shut_answers rows c shut = kept_answers rows c Answer.NoRoom (inl (shut, refl))
