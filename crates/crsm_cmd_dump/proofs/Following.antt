-- What a command does to the keys and the clients of the store, by its answer.
use Rattle.std.proofs.Common.{◌≡◌, ℕ, Bool, true, false, List, [], ◌∷◌, ◌++◌, Option, Some, None, refl, ap, arith}
use Rattle.std.specs.Prelude.{◌==◌, nat_lt, fold, if◌then◌else◌}
use Rattle.std.proofs.lemmas.Bool.Decides.{nat_tests}
use Rattle.crsm_base.specs.declared.Answer.{Answer}
use Rattle.crsm_base.specs.declared.Command.{Command}
use Rattle.crsm_base.specs.declared.Entry.{Entry}
use Rattle.crsm_base.specs.declared.Op.{Op}
use Rattle.crsm_base.specs.Store.{Client, Rows, after, apply, change_key, client_row, done, no_rows, operate, put_key, serve, value_at, with_client, with_key}
use Rattle.crsm_cmd_dump.specs.Catalogs.{Keys, changed, is_done, is_executed, is_next}

-- ---- the keys

abbrev put_in : Bool → (key value : List ℕ) → Keys → Keys × Answer
put_in room key value keys = if room then (with_key key value keys, Answer.Done) else (keys, Answer.NoRoom)

put_by : (room : Bool) (key value : List ℕ) (keys : Keys) → (put_in room key value keys).0 ≡ changed (Op.Put key value) (is_done (put_in room key value keys).1) keys
unfolding changed
put_by true key value keys = refl
put_by false key value keys = refl

cas_put_by : (room : Bool) (key value : List ℕ) (expected : Option (List ℕ)) (keys : Keys)
    → (put_in room key value keys).0 ≡ changed (Op.Cas key expected (Some value)) (is_done (put_in room key value keys).1) keys
unfolding changed
cas_put_by true key value expected keys = refl
cas_put_by false key value expected keys = refl

abbrev cas_in : Bool → List ℕ → Option (List ℕ) → Keys → Keys × Answer
cas_in same key new keys = if same then change_key key new keys else (keys, Answer.Differs (value_at key keys))

cas_by : (same : Bool) (key : List ℕ) (expected new : Option (List ℕ)) (keys : Keys)
    → (cas_in same key new keys).0 ≡ changed (Op.Cas key expected new) (is_done (cas_in same key new keys).1) keys
unfolding changed change_key put_key
cas_by true key expected None keys = refl
cas_by true key expected (Some value) keys = cas_put_by _ key value expected keys
cas_by false key expected new keys = refl

-- an executed operation changes the keys as its answer says
pub operate_changes : (keys : Keys) (op : Op) → (operate keys op).0 ≡ changed op (is_done (operate keys op).1) keys
unfolding operate changed put_key
operate_changes keys (Op.Get key) = refl
operate_changes keys (Op.Put key value) = put_by _ key value keys
operate_changes keys (Op.Delete key) = refl
operate_changes keys (Op.Cas key expected new) = cas_by _ key expected new keys

-- ---- the rows

-- the rows after a command that was executed with this answer
abbrev pub followed : Rows → Command → Answer → Rows
followed rows c a = record {
  keys = changed c.op (is_done a) rows.keys;
  clients = with_client (record { client = c.client; number = c.number; answer = a }) rows.clients;
}

done_follows : (rows : Rows) (c : Command) → (done rows c (operate rows.keys c.op)).0 ≡ followed rows c (done rows c (operate rows.keys c.op)).1
unfolding done
done_follows rows c =
    ap (λ (keys : Keys). record { keys = keys; clients = with_client (record { client = c.client; number = c.number; answer = (operate rows.keys c.op).1 }) rows.clients }) (operate_changes rows.keys c.op)

serve_follows : (rows : Rows) (c : Command) (row : Option Client) → is_next row rows.clients c ≡ true → (serve rows c row).0 ≡ followed rows c (serve rows c row).1
unfolding serve
serve_follows rows c None next = rw next (done_follows rows c)
serve_follows rows c (Some row) next =
    let other : (c.number == row.number) ≡ false = grind (arith, nat_tests) in
    let above : nat_lt c.number row.number ≡ false = grind (arith, nat_tests) in
    rw (other, above) (done_follows rows c)

room_kept : (rows : Rows) (c : Command) (room : Bool) → room ≡ false → (if room then done rows c (operate rows.keys c.op) else (rows, Answer.NoRoom)).0 ≡ rows
room_kept rows c true full = cc
room_kept rows c false full = refl

row_kept : (rows : Rows) (c : Command) (row : Client) (same below : Bool) → (same ≡ false → below ≡ true)
    → (if same then (rows, row.answer) else (if below then (rows, Answer.Stale row.number) else done rows c (operate rows.keys c.op))).0 ≡ rows
row_kept rows c row true below h = refl
row_kept rows c row false true h = refl
row_kept rows c row false false h = let bad : false ≡ true = h refl in cc

serve_keeps : (rows : Rows) (c : Command) (row : Option Client) → is_next row rows.clients c ≡ false → (serve rows c row).0 ≡ rows
unfolding serve
serve_keeps rows c None next = room_kept rows c _ next
serve_keeps rows c (Some row) next = row_kept rows c row (c.number == row.number) (nat_lt c.number row.number) (λ other. grind (arith, nat_tests))

pub executed_follows : (rows : Rows) (c : Command) → is_executed rows.clients c ≡ true → (apply rows c).0 ≡ followed rows c (apply rows c).1
unfolding apply is_executed
executed_follows rows c next = serve_follows rows c (client_row c.client rows.clients) next

pub others_keep : (rows : Rows) (c : Command) → is_executed rows.clients c ≡ false → (apply rows c).0 ≡ rows
unfolding apply is_executed
others_keep rows c next = serve_keeps rows c (client_row c.client rows.clients) next

-- ---- the executed list

fold_more : (rows : Rows) (es : List Entry) (e : Entry) → fold (λ r x. (apply r x.command).0) rows (es ++ e ∷ []) ≡ (apply (fold (λ r x. (apply r x.command).0) rows es) e.command).0
fold_more rows [] e = refl
fold_more rows (x ∷ es) e = fold_more (apply rows x.command).0 es e

pub after_more : (es : List Entry) (e : Entry) → after (es ++ e ∷ []) ≡ (apply (after es) e.command).0
unfolding after
after_more es e = fold_more no_rows es e
