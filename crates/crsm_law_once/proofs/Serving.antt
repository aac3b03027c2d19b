-- What one command does to what the store keeps of a client.
use Rattle.std.proofs.Common.{◌≡◌, ℕ, ◌<◌, ◌≤◌, Bool, true, false, List, [], ◌∷◌, length, Option, Some, None, refl, ap, sym, subst, ◌∙◌, arith}
use Rattle.std.specs.Prelude.{◌==◌, if◌then◌else◌, nat_lt}
use Rattle.std.proofs.lemmas.Bool.{eqb-true, eqb-false, eq-eqb, ltb-true, ltb-false}
use Rattle.std.proofs.lemmas.Option.{same_Some, none-some}
use Rattle.crsm_base.specs.Limits.{most_clients}
use Rattle.crsm_base.specs.Store.{Client, Rows, apply, client_row, done, operate, serve, with_client}
use Rattle.crsm_spec.specs.Types.{Answer, Command}

abbrev Keys : Type 0
Keys = List (List ℕ × List ℕ)

-- ---- the rows of clients

abbrev choose : {A : Type 0} → Bool → A → A → A
choose b x y = if b then x else y

row_of_new : (new : Client) (rows : List Client) → client_row new.client (with_client new rows) ≡ Some new
unfolding client_row with_client
row_of_new new [] = ap (λ b. choose b (Some new) None) (eq-eqb new.client new.client refl)
row_of_new new (row ∷ rows) = go (row_of_new new rows) (row.client == new.client) refl
  where
    go : client_row new.client (with_client new rows) ≡ Some new → (same : Bool) → (row.client == new.client) ≡ same → client_row new.client (if same then new ∷ rows else row ∷ with_client new rows) ≡ Some new
    go behind true e = ap (λ b. choose b (Some new) (client_row new.client rows)) (eq-eqb new.client new.client refl)
    go behind false e = ap (λ b. choose b (Some row) (client_row new.client (with_client new rows))) e ∙ behind

differs : (a b : ℕ) → (a ≡ b → ⊥) → (a == b) ≡ false
differs a b other = go (a == b) refl
  where
    go : (same : Bool) → (a == b) ≡ same → same ≡ false
    go true e = absurd (other (eqb-true a b e))
    go false e = refl

row_of_other : (c : ℕ) (new : Client) (rows : List Client) → (new.client ≡ c → ⊥) → client_row c (with_client new rows) ≡ client_row c rows
unfolding client_row with_client
row_of_other c new [] other = ap (λ b. choose b (Some new) None) (differs new.client c other)
row_of_other c new (row ∷ rows) other = go (row_of_other c new rows other) (row.client == new.client) refl
  where
    go : client_row c (with_client new rows) ≡ client_row c rows → (same : Bool) → (row.client == new.client) ≡ same → client_row c (if same then new ∷ rows else row ∷ with_client new rows) ≡ client_row c (row ∷ rows)
    go behind true e =
        ap (λ b. choose b (Some new) (client_row c rows)) (differs new.client c other)
        ∙ sym (ap (λ b. choose b (Some row) (client_row c rows)) (differs row.client c (λ s. other (sym (eqb-true row.client new.client e) ∙ s))))
    go behind false e = ap (choose (row.client == c) (Some row)) behind

no_fewer : (new : Client) (rows : List Client) → length rows ≤ length (with_client new rows)
unfolding with_client
no_fewer new [] = omega arith
no_fewer new (row ∷ rows) = go (no_fewer new rows) (row.client == new.client)
  where
    go : length rows ≤ length (with_client new rows) → (same : Bool) → length (row ∷ rows) ≤ length (if same then new ∷ rows else row ∷ with_client new rows)
    go more true = omega arith
    go more false = omega (arith, more)

-- ---- one command

-- the store keeps nothing of the client, and has no room for it
pub record IsShut (c : ℕ) (rows : Rows) : Type 0 where
  pub unknown : client_row c rows.clients ≡ None
  pub full : most_clients ≤ length rows.clients

-- the operation is executed, and its answer is kept for the client
pub record Executes (rows : Rows) (c : Command) (r : Rows × Answer) : Type 0 where
  pub keys : r.0.keys ≡ (operate rows.keys c.op).0
  pub answer : r.1 ≡ (operate rows.keys c.op).1
  pub kept : client_row c.client r.0.clients ≡ Some (record { client = c.client; number = c.number; answer = r.1 })
  pub others : (d : ℕ) → (c.client ≡ d → ⊥) → client_row d r.0.clients ≡ client_row d rows.clients
  pub no_fewer : length rows.clients ≤ length r.0.clients
  pub room : client_row c.client rows.clients ≡ None → length rows.clients < most_clients
  pub new : (row : Client) → client_row c.client rows.clients ≡ Some row → row.number < c.number

executes : (rows : Rows) (c : Command) (o : Keys × Answer) → o ≡ operate rows.keys c.op
    → (client_row c.client rows.clients ≡ None → length rows.clients < most_clients) → ((row : Client) → client_row c.client rows.clients ≡ Some row → row.number < c.number) → Executes rows c (done rows c o)
unfolding done
executes rows c o is room new =
    let row : Client = record { client = c.client; number = c.number; answer = o.1 } in
    record {
      keys = ap (λ (p : Keys × Answer). p.0) is;
      answer = ap (λ (p : Keys × Answer). p.1) is;
      kept = row_of_new row rows.clients;
      others = λ d other. row_of_other d row rows.clients other;
      no_fewer = no_fewer row rows.clients;
      room = room;
      new = new;
    }

-- How a command is served: there is no room for its client, its number is the latest one, or a lower one, or it is
-- executed.
pub data Serves (rows : Rows) (c : Command) : Rows × Answer → Type 0 where
  Shut : IsShut c.client rows → Serves rows c (rows, Answer.NoRoom)
  Again : (row : Client) → client_row c.client rows.clients ≡ Some row → c.number ≡ row.number → Serves rows c (rows, row.answer)
  Late : (row : Client) → client_row c.client rows.clients ≡ Some row → c.number < row.number → Serves rows c (rows, Answer.Stale row.number)
  Executed : (r : Rows × Answer) → Executes rows c r → Serves rows c r

serves_row : (rows : Rows) (c : Command) (last : Option Client) → client_row c.client rows.clients ≡ last → Serves rows c (serve rows c last)
unfolding serve
serves_row rows c None is = go (nat_lt (length rows.clients) most_clients) refl
  where
    go : (room : Bool) → nat_lt (length rows.clients) most_clients ≡ room → Serves rows c (if room then done rows c (operate rows.keys c.op) else (rows, Answer.NoRoom))
    go true e = Executed (done rows c (operate rows.keys c.op)) (executes rows c (operate rows.keys c.op) refl (λ _. ltb-true (length rows.clients) most_clients e) (λ row at. absurd (none-some row (sym is ∙ at))))
    go false e = Shut (record { unknown = is; full = ltb-false (length rows.clients) most_clients e })
serves_row rows c (Some row) is = go (c.number == row.number) refl
  where
    go_on : (lower : Bool) → nat_lt c.number row.number ≡ lower → (c.number ≡ row.number → ⊥)
        → Serves rows c (if lower then (rows, Answer.Stale row.number) else done rows c (operate rows.keys c.op))
    go_on true e other = Late row is (ltb-true c.number row.number e)
    go_on false e other =
        let le = ltb-false c.number row.number e in
        Executed (done rows c (operate rows.keys c.op)) (executes rows c (operate rows.keys c.op) refl
        (λ none. absurd (none-some row (sym none ∙ is)))
        (λ x at. let same : row ≡ x = same_Some row x (sym is ∙ at) in subst (λ (z : Client). z.number < c.number) same (lower row.number c.number le other)))
      where
        lower : (a b : ℕ) → a ≤ b → (b ≡ a → ⊥) → a < b
        lower a b le other = omega (arith, le, other)

    go : (same : Bool) → (c.number == row.number) ≡ same
        → Serves rows c (if same then (rows, row.answer) else (if nat_lt c.number row.number then (rows, Answer.Stale row.number) else done rows c (operate rows.keys c.op)))
    go true e = Again row is (eqb-true c.number row.number e)
    go false e = go_on (nat_lt c.number row.number) refl (eqb-false c.number row.number e)

pub serves : (rows : Rows) (c : Command) → Serves rows c (apply rows c)
unfolding apply
serves rows c = serves_row rows c (client_row c.client rows.clients) refl
