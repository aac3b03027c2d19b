-- What the store answers where the entries before have encodings has one too.
use Rattle.std.proofs.Common.{ℕ, ◌<◌, ◌^◌, Bool, true, false, List, [], ◌∷◌}
use Rattle.std.specs.Prelude.{◌==◌, ◌||◌, nat_lt, length, is_some, fold, if◌then◌else◌, bytes_eq, Option, Some, None}
use Rattle.std.specs.List.{AllByRecursion}
use Rattle.std.specs.Option.{option_eq}
use Rattle.crsm_base.specs.declared.command.Op.{Op}
use Rattle.crsm_base.specs.declared.command.Command.{Command}
use Rattle.crsm_base.specs.declared.command.Entry.{Entry}
use Rattle.crsm_base.specs.declared.answer.Answer.{Answer}
use Rattle.crsm_base.specs.Limits.{most_clients, most_keys}
use Rattle.crsm_base.specs.Spelling.{FitsAnswer, FitsCommand, FitsEntry, FitsOp, FitsOption, FitsVal}
use Rattle.crsm_base.specs.Store.{Client, Rows, no_rows, bytes_lt, value_at, with_key, without_key, put_key, change_key, found, operate, client_row, with_client, done, serve, apply, after, answer_after}

abbrev Keys : Type 0
Keys = List (List ℕ × List ℕ)

abbrev FitsRow : List ℕ × List ℕ → Type 0
FitsRow row = FitsVal row.1

abbrev FitsClient : Client → Type 0
FitsClient row = (row.number < 2 ^ 64) × FitsAnswer row.answer

record FitsRows (rows : Rows) : Type 0 where
  keys : AllByRecursion FitsRow rows.keys
  clients : AllByRecursion FitsClient rows.clients

either : {X : Type 0} (P : X → Type 0) (b : Bool) (x y : X) → P x → P y → P (if b then x else y)
either P true x y p q = p
either P false x y p q = q

-- ---- keys

value_fits : (key : List ℕ) (rows : Keys) → AllByRecursion FitsRow rows → FitsOption FitsVal (value_at key rows)
unfolding value_at
value_fits key [] all = tt
value_fits key (row ∷ rows) all = either (FitsOption FitsVal) (bytes_eq row.0 key) (Some row.1) (value_at key rows) all.0 (value_fits key rows all.1)

set_fits : (key value : List ℕ) (rows : Keys) → FitsVal value → AllByRecursion FitsRow rows → AllByRecursion FitsRow (with_key key value rows)
unfolding with_key
set_fits key value [] fit all = (fit, tt)
set_fits key value (row ∷ rows) fit all =
    either (AllByRecursion FitsRow) (bytes_eq row.0 key) ((key, value) ∷ rows) (if bytes_lt key row.0 then (key, value) ∷ row ∷ rows else row ∷ with_key key value rows) (fit, all.1)
    (either (AllByRecursion FitsRow) (bytes_lt key row.0) ((key, value) ∷ row ∷ rows) (row ∷ with_key key value rows) (fit, all) (all.0, set_fits key value rows fit all.1))

removed_fits : (key : List ℕ) (rows : Keys) → AllByRecursion FitsRow rows → AllByRecursion FitsRow (without_key key rows)
unfolding without_key
removed_fits key [] all = tt
removed_fits key (row ∷ rows) all = either (AllByRecursion FitsRow) (bytes_eq row.0 key) rows (row ∷ without_key key rows) all.1 (all.0, removed_fits key rows all.1)

-- ---- an operation: the keys after it, and its answer

put_rows : (key value : List ℕ) (rows : Keys) → FitsVal value → AllByRecursion FitsRow rows → AllByRecursion FitsRow (put_key key value rows).0
unfolding put_key
put_rows key value rows fit all =
    either (λ (p : Keys × Answer). AllByRecursion FitsRow p.0) (is_some (value_at key rows) || nat_lt (length rows) most_keys) (with_key key value rows, Answer.Done) (rows, Answer.NoRoom)
    (set_fits key value rows fit all) all

put_answer : (key value : List ℕ) (rows : Keys) → FitsAnswer (put_key key value rows).1
unfolding put_key
put_answer key value rows =
    either (λ (p : Keys × Answer). FitsAnswer p.1) (is_some (value_at key rows) || nat_lt (length rows) most_keys) (with_key key value rows, Answer.Done) (rows, Answer.NoRoom) tt tt

changed_rows : (key : List ℕ) (new : Option (List ℕ)) (rows : Keys) → FitsOption FitsVal new → AllByRecursion FitsRow rows → AllByRecursion FitsRow (change_key key new rows).0
unfolding change_key
changed_rows key (Some value) rows fit all = put_rows key value rows fit all
changed_rows key None rows fit all = removed_fits key rows all

changed_answer : (key : List ℕ) (new : Option (List ℕ)) (rows : Keys) → FitsAnswer (change_key key new rows).1
unfolding change_key
changed_answer key (Some value) rows = put_answer key value rows
changed_answer key None rows = tt

found_fits : (value : Option (List ℕ)) → FitsOption FitsVal value → FitsAnswer (found value)
unfolding found
found_fits (Some value) fit = fit
found_fits None fit = tt

operated_rows : (rows : Keys) (op : Op) → FitsOp op → AllByRecursion FitsRow rows → AllByRecursion FitsRow (operate rows op).0
unfolding operate
operated_rows rows (Op.Get key) fit all = all
operated_rows rows (Op.Put key value) fit all = put_rows key value rows fit.1 all
operated_rows rows (Op.Delete key) fit all = removed_fits key rows all
operated_rows rows (Op.Cas key expected new) fit all =
    either (λ (p : Keys × Answer). AllByRecursion FitsRow p.0) (option_eq bytes_eq (value_at key rows) expected) (change_key key new rows) (rows, Answer.Differs (value_at key rows))
    (changed_rows key new rows fit.2 all) all

operated_answer : (rows : Keys) (op : Op) → AllByRecursion FitsRow rows → FitsAnswer (operate rows op).1
unfolding operate
operated_answer rows (Op.Get key) all = found_fits (value_at key rows) (value_fits key rows all)
operated_answer rows (Op.Put key value) all = put_answer key value rows
operated_answer rows (Op.Delete key) all = either FitsAnswer (is_some (value_at key rows)) Answer.Done Answer.Missing tt tt
operated_answer rows (Op.Cas key expected new) all =
    either (λ (p : Keys × Answer). FitsAnswer p.1) (option_eq bytes_eq (value_at key rows) expected) (change_key key new rows) (rows, Answer.Differs (value_at key rows))
    (changed_answer key new rows) (value_fits key rows all)

-- ---- clients

row_fits : (client : ℕ) (rows : List Client) → AllByRecursion FitsClient rows → FitsOption FitsClient (client_row client rows)
unfolding client_row
row_fits client [] all = tt
row_fits client (row ∷ rows) all = either (FitsOption FitsClient) (row.client == client) (Some row) (client_row client rows) all.0 (row_fits client rows all.1)

replaced_fits : (new : Client) (rows : List Client) → FitsClient new → AllByRecursion FitsClient rows → AllByRecursion FitsClient (with_client new rows)
unfolding with_client
replaced_fits new [] fit all = (fit, tt)
replaced_fits new (row ∷ rows) fit all =
    either (AllByRecursion FitsClient) (row.client == new.client) (new ∷ rows) (row ∷ with_client new rows) (fit, all.1) (all.0, replaced_fits new rows fit all.1)

-- ---- a command

done_rows : (rows : Rows) (c : Command) → FitsRows rows → FitsCommand c → FitsRows (done rows c (operate rows.keys c.op)).0
unfolding done
done_rows rows c all fit = record {
  keys = operated_rows rows.keys c.op fit.op all.keys;
  clients = replaced_fits (record { client = c.client; number = c.number; answer = (operate rows.keys c.op).1 }) rows.clients
      (fit.number, operated_answer rows.keys c.op all.keys) all.clients;
}

done_answer : (rows : Rows) (c : Command) → FitsRows rows → FitsAnswer (done rows c (operate rows.keys c.op)).1
unfolding done
done_answer rows c all = operated_answer rows.keys c.op all.keys

served_rows : (rows : Rows) (c : Command) (row : Option Client) → FitsRows rows → FitsCommand c → FitsRows (serve rows c row).0
unfolding serve
served_rows rows c None all fit =
    either (λ (p : Rows × Answer). FitsRows p.0) (nat_lt (length rows.clients) most_clients) (done rows c (operate rows.keys c.op)) (rows, Answer.NoRoom) (done_rows rows c all fit) all
served_rows rows c (Some row) all fit =
    let late = if nat_lt c.number row.number then (rows, Answer.Stale row.number) else done rows c (operate rows.keys c.op) in
    either (λ (p : Rows × Answer). FitsRows p.0) (c.number == row.number) (rows, row.answer) late all
    (either (λ (p : Rows × Answer). FitsRows p.0) (nat_lt c.number row.number) (rows, Answer.Stale row.number) (done rows c (operate rows.keys c.op)) all (done_rows rows c all fit))

served_answer : (rows : Rows) (c : Command) (row : Option Client) → FitsRows rows → FitsOption FitsClient row → FitsAnswer (serve rows c row).1
unfolding serve
served_answer rows c None all fit =
    either (λ (p : Rows × Answer). FitsAnswer p.1) (nat_lt (length rows.clients) most_clients) (done rows c (operate rows.keys c.op)) (rows, Answer.NoRoom) (done_answer rows c all) tt
served_answer rows c (Some row) all fit =
    let late = if nat_lt c.number row.number then (rows, Answer.Stale row.number) else done rows c (operate rows.keys c.op) in
    either (λ (p : Rows × Answer). FitsAnswer p.1) (c.number == row.number) (rows, row.answer) late fit.1
    (either (λ (p : Rows × Answer). FitsAnswer p.1) (nat_lt c.number row.number) (rows, Answer.Stale row.number) (done rows c (operate rows.keys c.op)) fit.0 (done_answer rows c all))

applied_rows : (rows : Rows) (c : Command) → FitsRows rows → FitsCommand c → FitsRows (apply rows c).0
unfolding apply
applied_rows rows c all fit = served_rows rows c (client_row c.client rows.clients) all fit

applied_answer : (rows : Rows) (c : Command) → FitsRows rows → FitsAnswer (apply rows c).1
unfolding apply
applied_answer rows c all = served_answer rows c (client_row c.client rows.clients) all (row_fits c.client rows.clients all.clients)

-- ---- entries

all_rows : (rows : Rows) (es : List Entry) → FitsRows rows → AllByRecursion FitsEntry es → FitsRows (fold (λ rows e. (apply rows e.command).0) rows es)
all_rows rows [] all fit = all
all_rows rows (e ∷ es) all fit = all_rows (apply rows e.command).0 es (applied_rows rows e.command all fit.0.command) fit.1

pub answer-fits : (es : List Entry) (e : Entry) → AllByRecursion FitsEntry es → FitsAnswer (answer_after es e)
unfolding answer_after after no_rows
answer-fits es e fit = applied_answer (after es) e.command (all_rows no_rows es (record { keys = tt; clients = tt }) fit)
