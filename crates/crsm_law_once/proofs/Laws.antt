-- The laws of numbers: an entry settles its number, later entries leave it so, and a settled number is answered by what
-- the store keeps.
use Rattle.std.proofs.Common.{◌≡◌, ℕ, suc, ◌<◌, ◌≤◌, ◌⊎◌, inl, inr, List, Some, refl, ap, sym, subst, ◌∙◌, arith, add-one}
use Rattle.std.specs.Prelude.{slice_get}
use Rattle.std.proofs.lemmas.Bool.{cases_lt}
use Rattle.std.proofs.lemmas.Option.{same_Some}
use Rattle.crsm_base.specs.Store.{Client, Rows, answer_after, apply, client_row, operate}
use Rattle.crsm_spec.specs.Types.{Answer, Command, Entry}
use Rattle.crsm_law_once.specs.Numbered.{ChangesNothing, HasNoRoomFor, IsAnswered, IsExecuted, IsStaleAt, store_at}
use Rattle.crsm_law_once.specs.Laws.{AnswersTellTheFirst, NewNumbersAreExecuted, OldNumbersChangeNothing, OneChangesKeys, PassedNumbersAreStale, RepeatsAreAnsweredAlike}
use Rattle.crsm_law_once.proofs.Serving.{IsShut, Serves, serves}
use Rattle.crsm_law_once.proofs.Serving.Serves.{Again, Executed, Late, Shut}
use Rattle.crsm_law_once.proofs.Keeping.{HasAnswer, IsPassed, IsSettled, answer_on, answers_from, kept_answers, passed_on, settled_below, settled_on, settled_rests, settles}
use Rattle.crsm_law_once.proofs.Places.{row_from, stays_on, store_next}

-- ---- behind an entry

-- a fact of a client's number, at those of the entry
of_entry : (P : ℕ → ℕ → Type 0) (es : List Entry) (p client number : ℕ) (a : Answer) (x : IsAnswered es p client number a) → P client number → P x.entry.command.client x.entry.command.number
of_entry P es p client number a x h = subst (λ n. P x.entry.command.client n) (sym x.numbered) (subst (λ c. P c number) (sym x.asked_by) h)

at_entry : (P : ℕ → ℕ → Type 0) (es : List Entry) (p client number : ℕ) (a : Answer) (x : IsAnswered es p client number a) → P x.entry.command.client x.entry.command.number → P client number
at_entry P es p client number a x h = subst (λ n. P client n) x.numbered (subst (λ c. P c x.entry.command.number) x.asked_by h)

answer_is : (es : List Entry) (p client number : ℕ) (a : Answer) (x : IsAnswered es p client number a) → a ≡ (apply (store_at es p) x.entry.command).1
unfolding answer_after
answer_is es p client number a x = x.at.1

-- what an entry does is there behind it
behind : (P : Rows → Type 0) (es : List Entry) (p : ℕ) (e : Entry) → slice_get es p ≡ Some e → P (apply (store_at es p) e.command).0 → P (store_at es (suc p))
behind P es p e at h = subst P (sym (store_next es p e at)) h

next_le : (p q : ℕ) → p < q → suc p ≤ q
next_le p q lt = omega (arith, lt)

settled_then : (es : List Entry) (p q client number : ℕ) (a : Answer) → p < q → IsAnswered es p client number a → IsSettled client number (store_at es q)
settled_then es p q client number a lt x =
    stays_on (IsSettled client number) es (suc p) q (next_le p q lt) (λ i e le less at here. settled_on client number (store_at es i) e.command here)
    (behind (IsSettled client number) es p x.entry x.at.0
    (at_entry (λ c n. IsSettled c n (apply (store_at es p) x.entry.command).0) es p client number a x (settles (store_at es p) x.entry.command)))

rests : (es : List Entry) (q : ℕ) (e : Entry) → slice_get es q ≡ Some e → (apply (store_at es q) e.command).0 ≡ store_at es q → ChangesNothing es q
rests es q e at same = subst (λ n. store_at es n ≡ store_at es q) (sym (add-one q)) (store_next es q e at ∙ same)

pub old_numbers : OldNumbersChangeNothing
old_numbers es p q client number latest a b lt le x y =
    rests es q y.entry y.at.0 (settled_rests (store_at es q) y.entry.command
    (of_entry (λ c n. IsSettled c n (store_at es q)) es q client number b y (settled_below client latest number (store_at es q) le (settled_then es p q client latest a lt x))))

pub one_changes : OneChangesKeys
one_changes es p q client number a b x y at_p at_q =
    let late : p < q → ⊥ = λ lt. at_q (ap (λ (r : Rows). r.keys) (old_numbers es p q client number number a b lt (omega arith) x y)) in
    let early : q < p → ⊥ = λ lt. at_p (ap (λ (r : Rows). r.keys) (old_numbers es q p client number number b a lt (omega arith) y x)) in
    neither p q late early
  where
    neither : (p q : ℕ) → (p < q → ⊥) → (q < p → ⊥) → p ≡ q
    neither p q f g = omega (arith, f, g)

-- ---- a new number

no_room : (es : List Entry) (p client : ℕ) → IsShut client (store_at es p) → HasNoRoomFor es p client
no_room es p client shut = record { unknown = shut.unknown; full = shut.full }

pub new_numbers : NewNumbersAreExecuted
new_numbers es p client number a x lower = go (apply (store_at es p) x.entry.command) refl (serves (store_at es p) x.entry.command)
  where
    both : (m n : ℕ) → m < n → n ≤ m → ⊥
    both m n f g = omega (arith, f, g)

    -- no row has this number or a higher one
    never : (row : Client) → client_row x.entry.command.client (store_at es p).clients ≡ Some row → number ≤ row.number → ⊥
    never row at le =
        let f = row_from es p client row (subst (λ c. client_row c (store_at es p).clients ≡ Some row) x.asked_by at) in
        both row.number number (subst (λ n. n < number) f.numbered (lower f.earlier f.entry f.before f.at f.asked_by)) le

    equal_le : (m n : ℕ) → x.entry.command.number ≡ m → x.entry.command.number ≡ n → n ≤ m
    equal_le m n e f = omega (arith, e, f)

    less_le : (m n : ℕ) → x.entry.command.number < m → x.entry.command.number ≡ n → n ≤ m
    less_le m n e f = omega (arith, e, f)

    go : (r : Rows × Answer) → apply (store_at es p) x.entry.command ≡ r → Serves (store_at es p) x.entry.command r
        → IsExecuted es p x.entry a ⊎ (HasNoRoomFor es p client × (a ≡ Answer.NoRoom) × ChangesNothing es p)
    go _ is (Shut shut) = inr (
      no_room es p client (subst (λ c. IsShut c (store_at es p)) x.asked_by shut),
      answer_is es p client number a x ∙ ap (λ (r : Rows × Answer). r.1) is,
      rests es p x.entry x.at.0 (ap (λ (r : Rows × Answer). r.0) is),
    )
    go _ is (Again row at same) = absurd (never row at (equal_le row.number number same x.numbered))
    go _ is (Late row at less) = absurd (never row at (less_le row.number number less x.numbered))
    go r is (Executed _ y) = inl (record {
      keys = subst (λ n. (store_at es n).keys ≡ (operate (store_at es p).keys x.entry.command.op).0) (sym (add-one p))
          (ap (λ (s : Rows). s.keys) (store_next es p x.entry x.at.0) ∙ ap (λ (s : Rows × Answer). s.0.keys) is ∙ y.keys);
      answer = answer_is es p client number a x ∙ ap (λ (s : Rows × Answer). s.1) is ∙ y.answer;
    })

-- ---- a number again

answer_then : (es : List Entry) (p client number : ℕ) (a : Answer) → IsAnswered es p client number a → HasAnswer client number a (store_at es (suc p))
answer_then es p client number a x =
    behind (HasAnswer client number a) es p x.entry x.at.0
    (at_entry (λ c n. HasAnswer c n a (apply (store_at es p) x.entry.command).0) es p client number a x
    (subst (λ b. HasAnswer x.entry.command.client x.entry.command.number b (apply (store_at es p) x.entry.command).0) (sym (answer_is es p client number a x)) (answers_from (store_at es p) x.entry.command)))

as_kept : (es : List Entry) (q client number : ℕ) (a b : Answer) → IsAnswered es q client number b → HasAnswer client number a (store_at es q) → b ≡ a
as_kept es q client number a b y has =
    answer_is es q client number b y ∙ kept_answers (store_at es q) y.entry.command a (of_entry (λ c n. HasAnswer c n a (store_at es q)) es q client number b y has)

as_stale : (es : List Entry) (q client number : ℕ) (b : Answer) → IsAnswered es q client number b → IsPassed client number (store_at es q) → IsStaleAt es q client number b
as_stale es q client number b y h =
    let f = row_from es q client h.row h.at in
    record {
      higher = h.row.number;
      above = h.above;
      says = answer_is es q client number b y ∙ kept_answers (store_at es q) y.entry.command (Answer.Stale h.row.number)
          (of_entry (λ c n. HasAnswer c n (Answer.Stale h.row.number) (store_at es q)) es q client number b y (inr (record { row = h.row; at = h.at; says = inr (h.above, refl) })));
      earlier = f.earlier;
      before = f.before;
      entry = f.entry;
      at = f.at;
      asked_by = f.asked_by;
      numbered = f.numbered;
    }

pub repeats_alike : RepeatsAreAnsweredAlike
repeats_alike es p q client number a b lt x y none =
    as_kept es q client number a b y (stays_on (HasAnswer client number a) es (suc p) q (next_le p q lt) keeps (answer_then es p client number a x))
  where
    keeps : (i : ℕ) (e : Entry) → suc p ≤ i → i < q → slice_get es i ≡ Some e → HasAnswer client number a (store_at es i) → HasAnswer client number a (apply (store_at es i) e.command).0
    keeps i e le less at here = go (answer_on client number a (store_at es i) e.command here)
      where
        both : (n : ℕ) → n ≤ number → number < n → ⊥
        both n f g = omega (arith, f, g)

        go : HasAnswer client number a (apply (store_at es i) e.command).0 ⊎ ((e.command.client ≡ client) × (number < e.command.number) × IsPassed client number (apply (store_at es i) e.command).0)
            → HasAnswer client number a (apply (store_at es i) e.command).0
        go (inl h) = h
        go (inr h) = absurd (both e.command.number (none i e (omega (arith, le)) less at h.0) h.1)

pub passed_stale : PassedNumbersAreStale
passed_stale es p q client number latest a b lt above x y = go (settled_then es p q client latest a lt x)
  where
    higher : (n : ℕ) → latest ≤ n → number < n
    higher n le = omega (arith, above, le)

    go : IsSettled client latest (store_at es q) → IsStaleAt es q client number b ⊎ (HasNoRoomFor es q client × (b ≡ Answer.NoRoom))
    go (inl shut) = inr (no_room es q client shut, as_kept es q client number Answer.NoRoom b y (inl (shut, refl)))
    go (inr h) = inl (as_stale es q client number b y (record { row = h.row; at = h.at; above = higher h.row.number h.least }))

-- ---- the first answer

abbrev Answers : ℕ → ℕ → Answer → Rows → Type 0
Answers client number a rows = HasAnswer client number a rows ⊎ IsPassed client number rows

answers_on : (client number : ℕ) (a : Answer) (rows : Rows) (c : Command) → Answers client number a rows → Answers client number a (apply rows c).0
answers_on client number a rows c (inl h) = go (answer_on client number a rows c h)
  where
    go : HasAnswer client number a (apply rows c).0 ⊎ ((c.client ≡ client) × (number < c.number) × IsPassed client number (apply rows c).0) → Answers client number a (apply rows c).0
    go (inl g) = inl g
    go (inr g) = inr g.2
answers_on client number a rows c (inr h) = inr (passed_on client number rows c h)

same_place : (es : List Entry) (p client number : ℕ) (a b : Answer) → IsAnswered es p client number a → IsAnswered es p client number b → b ≡ a
same_place es p client number a b x y =
    answer_is es p client number b y ∙ ap (λ (e : Entry). (apply (store_at es p) e.command).1) (same_Some y.entry x.entry (sym y.at.0 ∙ x.at.0)) ∙ sym (answer_is es p client number a x)

pub tells_first : AnswersTellTheFirst
tells_first es p q client number a b le x y = elim (cases_lt p q) [ inl lt ↦ later lt | inr back ↦ same (equal le back) ]
  where
    later : p < q → (b ≡ a) ⊎ IsStaleAt es q client number b
    later lt = go (stays_on (Answers client number a) es (suc p) q (next_le p q lt) (λ i e from less at here. answers_on client number a (store_at es i) e.command here) (inl (answer_then es p client number a x)))
      where
        go : Answers client number a (store_at es q) → (b ≡ a) ⊎ IsStaleAt es q client number b
        go (inl h) = inl (as_kept es q client number a b y h)
        go (inr h) = inr (as_stale es q client number b y h)

    same : p ≡ q → (b ≡ a) ⊎ IsStaleAt es q client number b
    same e = inl (same_place es q client number a b (subst (λ n. IsAnswered es n client number a) e x) y)

    equal : p ≤ q → q ≤ p → p ≡ q
    equal f g = omega (arith, f, g)
