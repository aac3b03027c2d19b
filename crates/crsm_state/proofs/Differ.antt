-- A walk that remembers the clients before each row finds whether any client has two rows.
use Rattle.std.proofs.Common.{◌≡◌, ℕ, zero, suc, ◌<◌, length, drop, get_or, arith, Bool, true, false, cond, not, ◌&&◌, eqb, List, [], ◌∷◌, refl, sym, ap, ◌∙◌}
use Rattle.std.proofs.lemmas.Bool.Decides.{same_from_decides, Decides-like, Decides-eqb}
use Rattle.std.specs.Prelude.{is_none, Option, Some, None}
use Rattle.crsm_base.specs.Store.{Client, client_row}
use Rattle.crsm_state.specs.Rows.{clients_differ}

-- no client of the rows passes the test or has two rows
abbrev pub differ_beside : (ℕ → Bool) → List Client → Bool
differ_beside test [] = true
differ_beside test (row ∷ rows) = not (test row.client) && differ_beside (λ c. cond (eqb row.client c) true (test c)) rows

-- no client of the rows passes the test
abbrev none_pass : (ℕ → Bool) → List Client → Bool
none_pass test [] = true
none_pass test (row ∷ rows) = not (test row.client) && none_pass test rows

eqb-sym : (a b : ℕ) → eqb a b ≡ eqb b a
eqb-sym a b = same_from_decides (eqb a b) (eqb b a) (Decides-eqb a b) (Decides-like (eqb b a) sym sym (Decides-eqb b a))

-- one row more, by whether it is of the client
more : (same passes rest none : Bool) (row : Option Client) (r : Client) → (not (cond same true passes) && (is_none row && none)) ≡ (is_none (cond same (Some r) row) && (not passes && none))
more true passes rest none row r = refl
more false true rest none None r = refl
more false true rest none (Some x) r = refl
more false false rest none None r = refl
more false false rest none (Some x) r = refl

without : (test : ℕ → Bool) (client : ℕ) (rows : List Client) → none_pass (λ c. cond (eqb client c) true (test c)) rows ≡ (is_none (client_row client rows) && none_pass test rows)
unfolding client_row
without test client [] = refl
without test client (row ∷ rows) =
    rw (eqb-sym client row.client, without test client rows) (more (eqb row.client client) (test row.client) true (none_pass test rows) (client_row client rows) row)

swap : (passes absent differ none : Bool) → (not passes && (differ && (absent && none))) ≡ ((absent && differ) && (not passes && none))
swap true true true none = refl
swap true true false none = refl
swap true false differ none = refl
swap false true true none = refl
swap false true false none = refl
swap false false true none = refl
swap false false false none = refl

beside_is : (test : ℕ → Bool) (rows : List Client) → differ_beside test rows ≡ (clients_differ rows && none_pass test rows)
unfolding clients_differ
beside_is test [] = refl
beside_is test (row ∷ rows) =
    ap (λ b. not (test row.client) && b) (beside_is (λ c. cond (eqb row.client c) true (test c)) rows ∙ ap (λ b. clients_differ rows && b) (without test row.client rows))
    ∙ swap (test row.client) (is_none (client_row row.client rows)) (clients_differ rows) (none_pass test rows)

none_pass_false : (rows : List Client) → none_pass (λ c. false) rows ≡ true
none_pass_false [] = refl
none_pass_false (row ∷ rows) = none_pass_false rows

and_true : (b : Bool) → (b && true) ≡ b
and_true true = refl
and_true false = refl

-- tests that agree find the same
pub beside_same : (test other : ℕ → Bool) (rows : List Client) → ((c : ℕ) → test c ≡ other c) → differ_beside test rows ≡ differ_beside other rows
beside_same test other [] same = refl
beside_same test other (row ∷ rows) same =
    ap (λ b. not b && differ_beside (λ c. cond (eqb row.client c) true (test c)) rows) (same row.client)
    ∙ ap (λ b. not (other row.client) && b) (beside_same (λ c. cond (eqb row.client c) true (test c)) (λ c. cond (eqb row.client c) true (other c)) rows (λ c. ap (cond (eqb row.client c) true) (same c)))

pub beside_none : (test : ℕ → Bool) (rows : List Client) → ((c : ℕ) → test c ≡ false) → differ_beside test rows ≡ clients_differ rows
beside_none test rows none =
    beside_same test (λ c. false) rows none ∙ beside_is (λ c. false) rows ∙ ap (λ b. clients_differ rows && b) (none_pass_false rows) ∙ and_true (clients_differ rows)

-- a row that no row before it has the client of, walked past
pub beside_step : (test other : ℕ → Bool) (row : Client) (rows behind : List Client) (differ : Bool) → rows ≡ row ∷ behind → not (test row.client) ≡ true → ((c : ℕ) → other c ≡ cond (eqb row.client c) true (test c)) → differ_beside test rows ≡ differ → differ_beside other behind ≡ differ
beside_step test other row rows behind differ is new same so_far =
    beside_same other (λ c. cond (eqb row.client c) true (test c)) behind same
    ∙ ap (λ b. b && differ_beside (λ c. cond (eqb row.client c) true (test c)) behind) (sym new)
    ∙ ap (differ_beside test) (sym is) ∙ so_far

-- a row that a row before it has the client of
pub beside_stop : (test : ℕ → Bool) (row : Client) (rows behind : List Client) (differ : Bool) → rows ≡ row ∷ behind → not (test row.client) ≡ false → differ_beside test rows ≡ differ → false ≡ differ
beside_stop test row rows behind differ is old so_far =
    ap (λ b. b && differ_beside (λ c. cond (eqb row.client c) true (test c)) behind) (sym old) ∙ ap (differ_beside test) (sym is) ∙ so_far

-- the rows from a place on are the row there and those behind it
pub drop_row : (rows : List Client) (i n : ℕ) (other row : Client) → i < length rows → n ≡ suc i → row ≡ get_or rows i other → drop i rows ≡ row ∷ drop n rows
drop_row rows i n other row within next is = rw next (from rows i other row within is)
  where
    from : (rows : List Client) (i : ℕ) (other row : Client) → i < length rows → row ≡ get_or rows i other → drop i rows ≡ row ∷ drop (suc i) rows
    from [] i other row within is = absurd (omega (arith, within))
    from (x ∷ xs) zero other row within is = ap (λ z. z ∷ xs) (sym is)
    from (x ∷ xs) (suc i) other row within is = from xs i other row (omega (arith, within)) is
