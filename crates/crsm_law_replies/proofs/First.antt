-- The first entry of a client's number.
use Rattle.std.proofs.Common.{◌≡◌, ℕ, zero, suc, ◌<◌, ◌≤◌, ◌⊎◌, inl, inr, List, take, Option, Some, None, refl, sym, ap, subst, ◌∙◌, arith}
use Rattle.std.specs.Prelude.{◌≢◌, slice_get}
use Rattle.std.proofs.lemmas.Bool.{cases_eq, cases_lt}
use Rattle.std.proofs.lemmas.Option.{none-some, same_Some}
use Rattle.crsm_base.specs.Store.{answer_after}
use Rattle.crsm_spec.specs.Types.{Answer, Entry}
use Rattle.crsm_law_once.specs.Numbered.{ChangesNothing, IsAnswered}
use Rattle.crsm_law_once.specs.Laws.{AnswersTellTheFirst, OldNumbersChangeNothing}
use Rattle.crsm_law_replies.specs.First.{NoneBefore, TellsFirst}

-- none of so many entries has the client's number, or a first one has it
record Found (es : List Entry) (count client number : ℕ) : Type 0 where
  first : ℕ
  within : first < count
  answer : Answer
  answered : IsAnswered es first client number answer
  none_before : NoneBefore es first client number

none_more : (es : List Entry) (m client number : ℕ) → NoneBefore es m client number → ((e : Entry) → slice_get es m ≡ Some e → e.command.client ≡ client → e.command.number ≡ number → ⊥) → NoneBefore es (suc m) client number
none_more es m client number before here r e lt at c k = elim (cases_lt r m) [
  | inl less ↦ before r e less at c k
  | inr le ↦ here e (subst (λ z. slice_get es z ≡ Some e) (equal r m lt le) at) c k
]
  where
    equal : (r m : ℕ) → r < suc m → m ≤ r → r ≡ m
    equal r m f g = omega (arith, f, g)

search_first : (es : List Entry) (m client number : ℕ) → NoneBefore es m client number ⊎ Found es m client number
search_first es zero client number = inl (λ r e lt at c k. absurd (none r lt))
  where
    none : (r : ℕ) → r < 0 → ⊥
    none r lt = omega (arith, lt)
search_first es (suc m) client number = go (search_first es m client number)
  where
    none_there : slice_get es m ≡ None → NoneBefore es m client number → NoneBefore es (suc m) client number
    none_there is before = none_more es m client number before (λ e at c k. absurd (none-some e (sym is ∙ at)))

    entry_there : (e : Entry) → slice_get es m ≡ Some e → NoneBefore es m client number → NoneBefore es (suc m) client number ⊎ Found es (suc m) client number
    entry_there e is before = elim (cases_eq e.command.client client) [
      | inr other ↦ inl (none_more es m client number before (λ f at c k. other (ap (λ (x : Entry). x.command.client) (same_Some e f (sym is ∙ at)) ∙ c)))
      | inl c ↦ elim (cases_eq e.command.number number) [
        | inr other ↦ inl (none_more es m client number before (λ f at _ k. other (ap (λ (x : Entry). x.command.number) (same_Some e f (sym is ∙ at)) ∙ k)))
        | inl k ↦ inr (record { first = m; within = omega arith; answer = answer_after (take m es) e; answered = record { entry = e; at = (is, refl); asked_by = c; numbered = k }; none_before = before })
      ]
    ]

    by_entry : (o : Option Entry) → slice_get es m ≡ o → NoneBefore es m client number → NoneBefore es (suc m) client number ⊎ Found es (suc m) client number
    by_entry None is before = inl (none_there is before)
    by_entry (Some e) is before = entry_there e is before

    go : NoneBefore es m client number ⊎ Found es m client number → NoneBefore es (suc m) client number ⊎ Found es (suc m) client number
    go (inl before) = by_entry (slice_get es m) refl before
    go (inr f) = inr (record { first = f.first; within = more f.first f.within; answer = f.answer; answered = f.answered; none_before = f.none_before })
      where
        more : (i : ℕ) → i < m → i < suc m
        more i lt = omega (arith, lt)

module _ (old : OldNumbersChangeNothing) (first : AnswersTellTheFirst) (es : List Entry) (place client number : ℕ) (a : Answer) (x : IsAnswered es place client number a) where
  rests : (f : Found es (suc place) client number) (q : ℕ) (b : Answer) → IsAnswered es q client number b → q ≢ f.first → ChangesNothing es q
  rests f q b y other = elim (cases_lt f.first q) [
    | inl lt ↦ old es f.first q client number number f.answer b lt (omega arith) f.answered y
    | inr le ↦ absurd (f.none_before q y.entry (below q f.first le other) y.at.0 y.asked_by y.numbered)
  ]
    where
      below : (q p : ℕ) → q ≤ p → (q ≡ p → ⊥) → q < p
      below q p g h = omega (arith, g, h)

  pub tells_first : TellsFirst es client number a
  tells_first = go (search_first es (suc place) client number)
    where
      go : NoneBefore es (suc place) client number ⊎ Found es (suc place) client number → TellsFirst es client number a
      go (inl none) = absurd (none place x.entry (omega arith) x.at.0 x.asked_by x.numbered)
      go (inr f) = record {
        place = place;
        here = x;
        first = f.first;
        within = up f.first f.within;
        answer = f.answer;
        is_first = record { answered = f.answered; none_before = f.none_before; others_rest = rests f };
        tells = first es f.first place client number f.answer a (up f.first f.within) f.answered x;
      }
        where
          up : (i : ℕ) → i < suc place → i ≤ place
          up i lt = omega (arith, lt)
