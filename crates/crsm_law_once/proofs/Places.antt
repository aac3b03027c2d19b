-- The store from one place of a list to a later one.
use Rattle.std.proofs.Common.{◌≡◌, ℕ, zero, suc, ◌+◌, ◌-◌, ◌<◌, ◌≤◌, inl, inr, List, [], ◌∷◌, ◌++◌, take, Option, Some, None, refl, ap, sym, subst, ◌∙◌, arith, add-zero, add-suc}
use Rattle.std.specs.Prelude.{slice_get}
use Rattle.std.proofs.lemmas.Grind.{fold-append}
use Rattle.std.proofs.lemmas.Option.{none-some, same_Some}
use Rattle.crsm_base.specs.Store.{Client, Rows, after, apply, client_row, no_rows}
use Rattle.crsm_spec.specs.Types.{Entry}
use Rattle.crsm_law_once.proofs.Keeping.{Comes, comes}
use Rattle.crsm_law_once.specs.Numbered.{store_at}

-- ---- one entry more

taken_more : {X : Type 0} (xs : List X) (i : ℕ) (x : X) → slice_get xs i ≡ Some x → take (suc i) xs ≡ take i xs ++ x ∷ []
taken_more [] i x is = cc
taken_more (y ∷ xs) zero x is = let same : y ≡ x = cc in ap (λ z. z ∷ []) same
taken_more (y ∷ xs) (suc i) x is = ap (λ rest. y ∷ rest) (taken_more xs i x is)

taken_all : {X : Type 0} (xs : List X) (i : ℕ) → slice_get xs i ≡ None → take (suc i) xs ≡ take i xs
taken_all [] zero is = refl
taken_all [] (suc i) is = refl
taken_all (y ∷ xs) zero is = absurd (none-some y (sym is))
taken_all (y ∷ xs) (suc i) is = ap (λ rest. y ∷ rest) (taken_all xs i is)

after_push : (es : List Entry) (e : Entry) → after (es ++ e ∷ []) ≡ (apply (after es) e.command).0
unfolding after
after_push es e = fold-append (λ rows e. (apply rows e.command).0) no_rows es (e ∷ [])

pub store_next : (es : List Entry) (n : ℕ) (e : Entry) → slice_get es n ≡ Some e → store_at es (suc n) ≡ (apply (store_at es n) e.command).0
store_next es n e at = ap after (taken_more es n e at) ∙ after_push (take n es) e

store_rests : (es : List Entry) (n : ℕ) → slice_get es n ≡ None → store_at es (suc n) ≡ store_at es n
store_rests es n none = ap after (taken_all es n none)

-- ---- many

-- what each entry between two places leaves true of the store stays true
module _ (P : Rows → Type 0) (es : List Entry) where
  abbrev KeptBy : ℕ → ℕ → Type 0
  KeptBy p q = (i : ℕ) (e : Entry) → p ≤ i → i < q → slice_get es i ≡ Some e → P (store_at es i) → P (apply (store_at es i) e.command).0

  one_on : (i : ℕ) → ((e : Entry) → slice_get es i ≡ Some e → P (store_at es i) → P (apply (store_at es i) e.command).0) → P (store_at es i) → P (store_at es (suc i))
  one_on i keeps here = go (slice_get es i) refl
    where
      go : (o : Option Entry) → slice_get es i ≡ o → P (store_at es (suc i))
      go None is = subst P (sym (store_rests es i is)) here
      go (Some e) is = subst P (sym (store_next es i e is)) (keeps e is here)

  many_on : (p k : ℕ) → KeptBy p (p + k) → P (store_at es p) → P (store_at es (p + k))
  many_on p zero keeps here = subst (λ n. P (store_at es n)) (sym (add-zero p)) here
  many_on p (suc k) keeps here =
      subst (λ n. P (store_at es n)) (sym (add-suc p k))
      (one_on (p + k) (λ e. keeps (p + k) e (omega arith) (omega arith)) (many_on p k (λ i e le lt. keeps i e le (more i lt)) here))
    where
      more : (i : ℕ) → i < p + k → i < p + suc k
      more i lt = omega (arith, lt)

  pub stays_on : (p q : ℕ) → p ≤ q → KeptBy p q → P (store_at es p) → P (store_at es q)
  stays_on p q le keeps here =
      let e : p + (q - p) ≡ q = omega (arith, le) in
      subst (λ n. P (store_at es n)) e (many_on p (q - p) (subst (KeptBy p) (sym e) keeps) here)

-- ---- where a client's number is from

-- an entry of the client with this number stands before the place
pub record IsFrom (es : List Entry) (place client number : ℕ) : Type 0 where
  pub earlier : ℕ
  pub before : earlier < place
  pub entry : Entry
  pub at : slice_get es earlier ≡ Some entry
  pub asked_by : entry.command.client ≡ client
  pub numbered : entry.command.number ≡ number

from_later : (es : List Entry) (place client number : ℕ) → IsFrom es place client number → IsFrom es (suc place) client number
from_later es place client number f = record { earlier = f.earlier; before = more f.earlier f.before; entry = f.entry; at = f.at; asked_by = f.asked_by; numbered = f.numbered }
  where
    more : (i : ℕ) → i < place → i < suc place
    more i lt = omega (arith, lt)

-- each number that is kept of a client is that of one of its entries
pub row_from : (es : List Entry) (place d : ℕ) (row : Client) → client_row d (store_at es place).clients ≡ Some row → IsFrom es place d row.number
unfolding after no_rows client_row
row_from es zero d row at = absurd (none-some row at)
row_from es (suc n) d row at = go (λ x. row_from es n d x) (slice_get es n) refl
  where
    go : ((x : Client) → client_row d (store_at es n).clients ≡ Some x → IsFrom es n d x.number) → (o : Option Entry) → slice_get es n ≡ o → IsFrom es (suc n) d row.number
    go before None is = from_later es n d row.number (before row (subst (λ (r : Rows). client_row d r.clients ≡ Some row) (store_rests es n is) at))
    go before (Some e) is = by_step (comes d (store_at es n) e.command)
      where
        there : client_row d (apply (store_at es n) e.command).0.clients ≡ Some row
        there = subst (λ (r : Rows). client_row d r.clients ≡ Some row) (store_next es n e is) at

        by_step : Comes d (store_at es n) e.command → IsFrom es (suc n) d row.number
        by_step (inl same) = from_later es n d row.number (before row (same ∙ there))
        by_step (inr new) =
            let kept : Client = record { client = e.command.client; number = e.command.number; answer = (apply (store_at es n) e.command).1 } in
            record { earlier = n; before = omega arith; entry = e; at = is; asked_by = new.0; numbered = ap (λ (x : Client). x.number) (same_Some kept row (sym new.1 ∙ there)) }
