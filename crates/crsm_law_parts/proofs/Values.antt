-- The values in answers are no longer than those of the entries before.
use Rattle.std.proofs.Common.{ℕ, Bool, true, false, List, [], ◌∷◌}
use Rattle.std.specs.Prelude.{◌==◌, ◌||◌, nat_lt, length, is_some, fold, if◌then◌else◌, bytes_eq, Option, Some, None}
use Rattle.std.specs.List.{AllByRecursion}
use Rattle.std.specs.Option.{option_eq}
use Rattle.crsm_base.specs.Limits.{most_clients, most_keys}
use Rattle.crsm_base.specs.Spelling.{FitsEntry, FitsOp, FitsOption, FitsVal}
use Rattle.crsm_base.specs.Store.{Client, Rows, no_rows, bytes_lt, value_at, with_key, without_key, put_key, change_key, found, operate, client_row, with_client, done, serve, apply, after, answer_after}
use Rattle.crsm_spec.specs.Types.{Answer, Command, Entry, Op}

abbrev Keys : Type 0
Keys = List (List ℕ × List ℕ)

-- a value in the answer has an encoding
abbrev pub IsShort : Answer → Type 0
IsShort (Answer.Found v) = FitsVal v
IsShort (Answer.Differs v) = FitsOption FitsVal v
IsShort Answer.Missing = Unit {0}
IsShort Answer.Done = Unit {0}
IsShort (Answer.Stale number) = Unit {0}
IsShort Answer.NoRoom = Unit {0}

abbrev ShortKeys : Keys → Type 0
ShortKeys rows = AllByRecursion (λ (row : List ℕ × List ℕ). FitsVal row.1) rows

abbrev ShortClients : List Client → Type 0
ShortClients rows = AllByRecursion (λ row. IsShort row.answer) rows

abbrev ShortRows : Rows → Type 0
ShortRows rows = ShortKeys rows.keys × ShortClients rows.clients

-- keys and an answer
abbrev ShortBoth : Keys × Answer → Type 0
ShortBoth p = ShortKeys p.0 × IsShort p.1

-- rows and an answer
abbrev ShortAll : Rows × Answer → Type 0
ShortAll p = ShortRows p.0 × IsShort p.1

either : {X : Type 0} (P : X → Type 0) (b : Bool) (x y : X) → P x → P y → P (if b then x else y)
either P true x y p q = p
either P false x y p q = q

value_short : (key : List ℕ) (rows : Keys) → ShortKeys rows → FitsOption FitsVal (value_at key rows)
unfolding value_at
value_short key [] all = tt
value_short key (row ∷ rows) all = either (FitsOption FitsVal) (bytes_eq row.0 key) (Some row.1) (value_at key rows) all.0 (value_short key rows all.1)

set_short : (key value : List ℕ) (rows : Keys) → FitsVal value → ShortKeys rows → ShortKeys (with_key key value rows)
unfolding with_key
set_short key value [] f all = (f, tt)
set_short key value (row ∷ rows) f all =
    either ShortKeys (bytes_eq row.0 key) ((key, value) ∷ rows) (if bytes_lt key row.0 then (key, value) ∷ row ∷ rows else row ∷ with_key key value rows) (f, all.1)
    (either ShortKeys (bytes_lt key row.0) ((key, value) ∷ row ∷ rows) (row ∷ with_key key value rows) (f, all) (all.0, set_short key value rows f all.1))

removed_short : (key : List ℕ) (rows : Keys) → ShortKeys rows → ShortKeys (without_key key rows)
unfolding without_key
removed_short key [] all = tt
removed_short key (row ∷ rows) all = either ShortKeys (bytes_eq row.0 key) rows (row ∷ without_key key rows) all.1 (all.0, removed_short key rows all.1)

put_short : (key value : List ℕ) (rows : Keys) → FitsVal value → ShortKeys rows → ShortBoth (put_key key value rows)
unfolding put_key
put_short key value rows f all =
    either ShortBoth (is_some (value_at key rows) || nat_lt (length rows) most_keys) (with_key key value rows, Answer.Done) (rows, Answer.NoRoom) (set_short key value rows f all, tt) (all, tt)

changed_short : (key : List ℕ) (new : Option (List ℕ)) (rows : Keys) → FitsOption FitsVal new → ShortKeys rows → ShortBoth (change_key key new rows)
unfolding change_key
changed_short key (Some value) rows f all = put_short key value rows f all
changed_short key None rows f all = (removed_short key rows all, tt)

found_short : (value : Option (List ℕ)) → FitsOption FitsVal value → IsShort (found value)
unfolding found
found_short (Some value) f = f
found_short None f = tt

operated_short : (rows : Keys) (op : Op) → FitsOp op → ShortKeys rows → ShortBoth (operate rows op)
unfolding operate
operated_short rows (Op.Get key) f all = (all, found_short (value_at key rows) (value_short key rows all))
operated_short rows (Op.Put key value) f all = put_short key value rows f.1 all
operated_short rows (Op.Delete key) f all = (removed_short key rows all, either IsShort (is_some (value_at key rows)) Answer.Done Answer.Missing tt tt)
operated_short rows (Op.Cas key expected new) f all =
    either ShortBoth (option_eq bytes_eq (value_at key rows) expected) (change_key key new rows) (rows, Answer.Differs (value_at key rows)) (changed_short key new rows f.2 all) (all, value_short key rows all)

abbrev ShortRow : Option Client → Type 0
ShortRow None = Unit {0}
ShortRow (Some row) = IsShort row.answer

row_short : (client : ℕ) (rows : List Client) → ShortClients rows → ShortRow (client_row client rows)
unfolding client_row
row_short client [] all = tt
row_short client (row ∷ rows) all = either ShortRow (row.client == client) (Some row) (client_row client rows) all.0 (row_short client rows all.1)

kept_short : (new : Client) (rows : List Client) → IsShort new.answer → ShortClients rows → ShortClients (with_client new rows)
unfolding with_client
kept_short new [] f all = (f, tt)
kept_short new (row ∷ rows) f all = either ShortClients (row.client == new.client) (new ∷ rows) (row ∷ with_client new rows) (f, all.1) (all.0, kept_short new rows f all.1)

done_short : (rows : Rows) (c : Command) → ShortRows rows → FitsOp c.op → ShortAll (done rows c (operate rows.keys c.op))
unfolding done
done_short rows c all f = let o = operated_short rows.keys c.op f all.0 in ((o.0, kept_short _ rows.clients o.1 all.1), o.1)

served_short : (rows : Rows) (c : Command) (row : Option Client) → ShortRows rows → FitsOp c.op → ShortRow row → ShortAll (serve rows c row)
unfolding serve
served_short rows c None all f g = either ShortAll (nat_lt (length rows.clients) most_clients) (done rows c (operate rows.keys c.op)) (rows, Answer.NoRoom) (done_short rows c all f) (all, tt)
served_short rows c (Some row) all f g =
    either ShortAll (c.number == row.number) (rows, row.answer) (if nat_lt c.number row.number then (rows, Answer.Stale row.number) else done rows c (operate rows.keys c.op)) (all, g)
    (either ShortAll (nat_lt c.number row.number) (rows, Answer.Stale row.number) (done rows c (operate rows.keys c.op)) (all, tt) (done_short rows c all f))

applied_short : (rows : Rows) (c : Command) → ShortRows rows → FitsOp c.op → ShortAll (apply rows c)
unfolding apply
applied_short rows c all f = served_short rows c (client_row c.client rows.clients) all f (row_short c.client rows.clients all.1)

all_short : (rows : Rows) (es : List Entry) → ShortRows rows → AllByRecursion FitsEntry es → ShortRows (fold (λ rows e. (apply rows e.command).0) rows es)
all_short rows [] all f = all
all_short rows (e ∷ es) all f = all_short (apply rows e.command).0 es (applied_short rows e.command all f.0.command.op).0 f.1

pub answer_short : (es : List Entry) (e : Entry) → AllByRecursion FitsEntry es → FitsEntry e → IsShort (answer_after es e)
unfolding answer_after after no_rows
answer_short es e all f = (applied_short (after es) e.command (all_short no_rows es (tt, tt) all) f.command.op).1
