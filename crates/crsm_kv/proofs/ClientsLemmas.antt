-- A map of clients, read and changed, is their rows.
use Rattle.std.proofs.Common.{◌≡◌, ◌<◌, ◌+◌, ◌∙◌, ℕ, suc, Bool, true, false, cond, not, nat_lt, List, [], ◌∷◌, refl, ap, sym, arith}
use Rattle.std.specs.Prelude.{Option, None, Some, nat_eq, length, position, unwrap_or, ◌==◌, if◌then◌else◌}
use Rattle.std.specs.List.{position_or_len}
use Rattle.std.proofs.lemmas.Bool.Decides.{same_from_decides, Decides-like, Decides-eqb}
use Rattle.std.specs.Map.{lookup, keys_of}
use Rattle.std.proofs.lemmas.List.Quantifiers.{position-Some}
use Rattle.indexmap.specs.IndexMap.{insert_entry, set_value_at}
use Rattle.crsm_base.specs.Store.{Client, client_row, with_client}
use Rattle.crsm_kv.specs.declared.clients.Kept.{Kept}
use Rattle.crsm_kv.specs.Clients.{client_of, clients_of, row_of, rows_before, IsPlaceOf}

eqb-sym : (a b : ℕ) → (a == b) ≡ (b == a)
eqb-sym a b = same_from_decides (a == b) (b == a) (Decides-eqb a b) (Decides-like (b == a) sym sym (Decides-eqb b a))

-- whichever way a test goes, both sides go it; where it passes, it may say more
row_by_test : (test : Bool) (client : ℕ) (e : ℕ × Kept) (rest : Option Kept) (row : Option Client) → (test ≡ true → e.0 ≡ client) → row ≡ row_of client rest → (if test then Some (client_of e) else row) ≡ row_of client (if test then Some e.1 else rest)
row_by_test true client e rest row same after = ap (λ c. Some (client_of (c, e.1))) (same refl)
row_by_test false client e rest row same after = after

pub client_row-lookup : (client : ℕ) (es : List (ℕ × Kept)) → client_row client (clients_of es) ≡ row_of client (lookup (nat_eq client) es)
unfolding client_row clients_of
client_row-lookup client [] = refl
client_row-lookup client (e ∷ es) =
    rw (eqb-sym client e.0) (row_by_test (e.0 == client) client e (lookup (nat_eq client) es) (client_row client (clients_of es)) ((Decides-eqb e.0 client).0) (client_row-lookup client es))

with_by_test : (test : Bool) (client : ℕ) (kept : Kept) (e : ℕ × Kept) (es inserted : List (ℕ × Kept)) (rows : List Client) → (test ≡ true → e.0 ≡ client) → clients_of inserted ≡ rows → clients_of (if test then (e.0, kept) ∷ es else e ∷ inserted) ≡ (if test then client_of (client, kept) ∷ clients_of es else client_of e ∷ rows)
unfolding clients_of
with_by_test true client kept e es inserted rows same after = ap (λ c. client_of (c, kept) ∷ clients_of es) (same refl)
with_by_test false client kept e es inserted rows same after = ap (λ rest. client_of e ∷ rest) after

pub insert_entry-with_client : (es : List (ℕ × Kept)) (client : ℕ) (kept : Kept) → clients_of (insert_entry nat_eq es client kept) ≡ with_client (client_of (client, kept)) (clients_of es)
unfolding with_client clients_of
insert_entry-with_client [] client kept = refl
insert_entry-with_client (e ∷ es) client kept =
    rw (eqb-sym client e.0) (with_by_test (e.0 == client) client kept e es (insert_entry nat_eq es client kept) (with_client (client_of (client, kept)) (clients_of es)) ((Decides-eqb e.0 client).0) (insert_entry-with_client es client kept))

pub length-clients_of : (es : List (ℕ × Kept)) → length (clients_of es) ≡ length es
unfolding clients_of
length-clients_of [] = refl
length-clients_of (e ∷ es) = ap (λ n. suc n) (length-clients_of es)

length-keys_of : (es : List (ℕ × Kept)) → length (keys_of es) ≡ length es
length-keys_of [] = refl
length-keys_of (e ∷ es) = ap (λ n. suc n) (length-keys_of es)

before_by_test : (test : Bool) (before first : ℕ) → before ≡ first → (if test then 0 else suc before) ≡ cond (not test) (1 + first) 0
before_by_test true before first same = refl
before_by_test false before first same = omega (arith, same)

rows_before-keys : (client : ℕ) (es : List (ℕ × Kept)) → rows_before client (clients_of es) ≡ position_or_len (nat_eq client) (keys_of es)
unfolding rows_before clients_of
rows_before-keys client [] = refl
rows_before-keys client (e ∷ es) =
    rw (eqb-sym client e.0) (before_by_test (e.0 == client) (rows_before client (clients_of es)) (position_or_len (nat_eq client) (keys_of es)) (rows_before-keys client es))

found_first : (test : Bool) (first place : ℕ) → (if test then Some first else None) ≡ Some place → place ≡ first
found_first true first place found = ap (λ r. unwrap_or r place) (sym found)
found_first false first place found = ap (λ r. unwrap_or r first) (sym found)

pub place-clients_of : (client : ℕ) (es : List (ℕ × Kept)) (place : ℕ) → Some place ≡ position (nat_eq client) (keys_of es) → IsPlaceOf client (clients_of es) place
place-clients_of client es place found =
    let at = found_first (nat_lt (position_or_len (nat_eq client) (keys_of es)) (length (keys_of es))) (position_or_len (nat_eq client) (keys_of es)) place (sym found) in
    let within = (position-Some (nat_eq client) (keys_of es) place client (sym found)).0 in
    (at ∙ sym (rows_before-keys client es), omega (arith, within, length-keys_of es, length-clients_of es))

at_by_test : (test : Bool) (client : ℕ) (kept : Kept) (e : ℕ × Kept) (es : List (ℕ × Kept)) (before : ℕ) (rows : List Client) → (test ≡ true → e.0 ≡ client) → (before < length es → clients_of (set_value_at es before kept) ≡ rows) → (if test then 0 else suc before) < suc (length es) → clients_of (set_value_at (e ∷ es) (if test then 0 else suc before) kept) ≡ (if test then client_of (client, kept) ∷ clients_of es else client_of e ∷ rows)
unfolding clients_of
at_by_test true client kept e es before rows same after within = ap (λ c. client_of (c, kept) ∷ clients_of es) (same refl)
at_by_test false client kept e es before rows same after within = ap (λ rest. client_of e ∷ rest) (after (omega arith))

pub set_value_at-with_client : (es : List (ℕ × Kept)) (client : ℕ) (kept : Kept) → rows_before client (clients_of es) < length es → clients_of (set_value_at es (rows_before client (clients_of es)) kept) ≡ with_client (client_of (client, kept)) (clients_of es)
unfolding rows_before with_client clients_of
set_value_at-with_client [] client kept within = absurd (omega arith)
set_value_at-with_client (e ∷ es) client kept within =
    at_by_test (e.0 == client) client kept e es (rows_before client (clients_of es)) (with_client (client_of (client, kept)) (clients_of es)) ((Decides-eqb e.0 client).0) (set_value_at-with_client es client kept) within

pub kept_at : (es : List (ℕ × Kept)) (client place : ℕ) (kept : Kept) → IsPlaceOf client (clients_of es) place → clients_of (set_value_at es place kept) ≡ with_client (client_of (client, kept)) (clients_of es)
kept_at es client place kept at =
    rw at.0 (set_value_at-with_client es client kept (omega (arith, at.0, at.1, length-clients_of es)))

pub ruleset clients_rules = (client_row-lookup, insert_entry-with_client, length-clients_of)
