-- A map of clients, read and changed, is their rows.
use Rattle.std.proofs.Common.{◌≡◌, ℕ, suc, Bool, true, false, List, [], ◌∷◌, refl, ap, sym}
use Rattle.std.specs.Prelude.{Option, Some, nat_eq, length, ◌==◌, if◌then◌else◌}
use Rattle.std.proofs.lemmas.Bool.Decides.{same_from_decides, Decides-like, Decides-eqb}
use Rattle.std.specs.Map.{lookup}
use Rattle.indexmap.specs.IndexMap.{insert_entry}
use Rattle.crsm_base.specs.Store.{Client, client_row, with_client}
use Rattle.crsm_cmd_dump.specs.declared.catalog.Kept.{Kept}
use Rattle.crsm_cmd_dump.specs.Catalogs.{client_of, clients_of, row_of}

eqb-sym : (a b : ℕ) → (a == b) ≡ (b == a)
eqb-sym a b = same_from_decides (a == b) (b == a) (Decides-eqb a b) (Decides-like (b == a) sym sym (Decides-eqb b a))

-- whichever way a test goes, both sides go it; where it passes, it may say more
row_by_test : (test : Bool) (client : ℕ) (e : ℕ × Kept) (rest : Option Kept) (row : Option Client) → (test ≡ true → e.0 ≡ client) → row ≡ row_of client rest → (if test then Some (client_of e) else row) ≡ row_of client (if test then Some e.1 else rest)
row_by_test true client e rest row same after = ap (λ c. Some (client_of (c, e.1))) (same refl)
row_by_test false client e rest row same after = after

pub client_row-lookup : (client : ℕ) (es : List (ℕ × Kept)) → client_row client (clients_of es) ≡ row_of client (lookup (nat_eq client) es)
unfolding client_row clients_of
client_row-lookup client [] = refl
client_row-lookup client (e ∷ es) =
    rw (eqb-sym client e.0) (row_by_test (e.0 == client) client e (lookup (nat_eq client) es) (client_row client (clients_of es)) ((Decides-eqb e.0 client).0) (client_row-lookup client es))

with_by_test : (test : Bool) (client : ℕ) (kept : Kept) (e : ℕ × Kept) (es inserted : List (ℕ × Kept)) (rows : List Client) → (test ≡ true → e.0 ≡ client) → clients_of inserted ≡ rows → clients_of (if test then (e.0, kept) ∷ es else e ∷ inserted) ≡ (if test then client_of (client, kept) ∷ clients_of es else client_of e ∷ rows)
unfolding clients_of
with_by_test true client kept e es inserted rows same after = ap (λ c. client_of (c, kept) ∷ clients_of es) (same refl)
with_by_test false client kept e es inserted rows same after = ap (λ rest. client_of e ∷ rest) after

pub insert_entry-with_client : (es : List (ℕ × Kept)) (client : ℕ) (kept : Kept) → clients_of (insert_entry nat_eq es client kept) ≡ with_client (client_of (client, kept)) (clients_of es)
unfolding with_client clients_of
insert_entry-with_client [] client kept = refl
insert_entry-with_client (e ∷ es) client kept =
    rw (eqb-sym client e.0) (with_by_test (e.0 == client) client kept e es (insert_entry nat_eq es client kept) (with_client (client_of (client, kept)) (clients_of es)) ((Decides-eqb e.0 client).0) (insert_entry-with_client es client kept))

pub length-clients_of : (es : List (ℕ × Kept)) → length (clients_of es) ≡ length es
unfolding clients_of
length-clients_of [] = refl
length-clients_of (e ∷ es) = ap (λ n. suc n) (length-clients_of es)

pub ruleset clients_rules = (client_row-lookup, insert_entry-with_client, length-clients_of)
