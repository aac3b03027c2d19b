-- The examples, by computation.
use Rattle.std.proofs.Common.{◌≡◌, ℕ, zero, suc, ◌+◌, ◌≤◌, List, [], ◌∷◌, take, refl, sym, ◌∙◌, ap, subst, arith}
use Rattle.std.specs.Prelude.{◌==◌, Some, None, slice_get}
use Rattle.std.proofs.lemmas.Option.{none-some, same_Some}
use Rattle.crsm_base.specs.Store.{after, answer_after, apply, bytes_lt, client_row, done, found, no_rows, operate, put_key, serve, value_at, with_client, with_key}
use Rattle.crsm_spec.specs.Types.{Answer}
use Rattle.crsm_spec.specs.Safe.{AnswersAt}
use Rattle.crsm_law_shards.specs.Hash.{shard_of}
use Rattle.crsm_law_shards.specs.Served.{Answered, AreRight, Precedes, Served, entries_of, shard_in}
use Rattle.crsm_law_shards.specs.Shards.{AreShards, IsShard, answer_in, part_of}
use Rattle.crsm_law_shards.specs.Example.{HashesArePublished, ShardsMeetPremises, UntimelyShardsAreNone, both_lists, early_get, first_list, get_a, get_b, late_put, put_a, put_b, second_list, untimely_list}
use Rattle.crsm_law_shards.proofs.Filters.{two_in}
use Rattle.crsm_law_shards.proofs.Timely.{IsTimely, keeps}

-- ---- by places and by shards

abbrev Places : (ℕ → Served → Type 0) → ℕ → List Served → Type 0
Places P i [] = Unit {0}
Places P i (x ∷ xs) = P i x × Places P (suc i) xs

at_place : (P : ℕ → Served → Type 0) (i : ℕ) (xs : List Served) → Places P i xs → (j : ℕ) (x : Served) → slice_get xs j ≡ Some x → P (i + j) x
at_place P i [] h j x e = absurd (none-some x e)
at_place P i (y ∷ ys) h zero x e = subst (P (i + 0)) (same_Some y x e) (subst (λ k. P k y) (omega arith) h.0)
at_place P i (y ∷ ys) h (suc j) x e = subst (λ k. P k x) (omega arith) (at_place P (suc i) ys h.1 j x e)

at_each : (P : ℕ → Served → Type 0) (xs : List Served) → Places P 0 xs → (j : ℕ) (x : Served) → slice_get xs j ≡ Some x → P j x
at_each P xs h j x e = subst (λ k. P k x) (omega arith) (at_place P 0 xs h j x e)

abbrev RightAt : List Served → ℕ → Served → Type 0
RightAt list p x = (a : Answered) → x.answered ≡ Some a → AnswersAt (entries_of list) p x.entry a.answer

are_right : (list : List Served) → Places (RightAt list) 0 list → AreRight list
are_right list h p x a at is = at_each (RightAt list) list h p x at a is

-- of the one answer that there is
of_one : (P : Answer → Type 0) (b : Answered) → P b.answer → (a : Answered) → Some b ≡ Some a → P a.answer
of_one P b h a e = subst (λ (c : Answered). P c.answer) (same_Some b a e) h

of_none : (P : Answer → Type 0) (a : Answered) → None ≡ Some a → P a.answer
of_none P a e = absurd (none-some a e)

two_shards : (shard : List ℕ → ℕ) (xs ys : List Served) → IsShard shard 0 xs → IsShard shard 1 ys → AreShards shard (xs ∷ ys ∷ [])
two_shards shard xs ys a b zero list e = subst (IsShard shard 0) (same_Some xs list e) a
two_shards shard xs ys a b (suc zero) list e = subst (IsShard shard 1) (same_Some ys list e) b
two_shards shard xs ys a b (suc (suc s)) list e = absurd (none-some list e)

-- ---- real time

-- an answer is not had before the other asked, or never
late : (b : Answered) (x y : Served) → x.answered ≡ Some b → y.asked ≤ b.had → Precedes x y → ⊥
late b x y is le p = let e = ap (λ (c : Answered). c.had) (same_Some b p.0 (sym is ∙ p.1)) in let lt = p.2 in absurd (omega (arith, e, lt, le))

never : (x y : Served) → x.answered ≡ None → Precedes x y → ⊥
never x y is p = none-some p.0 (sym is ∙ p.1)

first_timely : IsTimely first_list
first_timely = (late _ put_a put_a refl (omega arith), (late _ get_a put_a refl (omega arith), tt), (late _ get_a get_a refl (omega arith), tt, tt))

second_timely : IsTimely second_list
second_timely = (never put_b put_b refl, (late _ get_b put_b refl (omega arith), tt), (late _ get_b get_b refl (omega arith), tt, tt))

both_timely : IsTimely both_lists
both_timely = (late _ put_a put_a refl (omega arith), (never put_b put_a refl, (late _ get_b put_a refl (omega arith), (late _ get_a put_a refl (omega arith), tt))), (never put_b put_b refl, (late _ get_b put_b refl (omega arith), (late _ get_a put_b refl (omega arith), tt)), (late _ get_b get_b refl (omega arith), (late _ get_a get_b refl (omega arith), tt), (late _ get_a get_a refl (omega arith), tt, tt))))

-- ---- answers

first_right : AreRight first_list
unfolding after answer_after apply serve done operate put_key with_key with_client client_row value_at no_rows bytes_lt found
first_right = are_right first_list (
  of_one (λ a. AnswersAt (entries_of first_list) 0 _ a) _ (refl, refl),
  (of_one (λ a. AnswersAt (entries_of first_list) 1 _ a) _ (refl, refl), tt),
)

second_right : AreRight second_list
unfolding after answer_after apply serve done operate put_key with_key with_client client_row value_at no_rows bytes_lt found
second_right = are_right second_list (
  of_none (λ a. AnswersAt (entries_of second_list) 0 _ a),
  (of_one (λ a. AnswersAt (entries_of second_list) 1 _ a) _ (refl, refl), tt),
)

untimely_right : AreRight untimely_list
unfolding after answer_after apply serve done operate put_key with_key with_client client_row value_at no_rows bytes_lt found
untimely_right = are_right untimely_list (
  of_one (λ a. AnswersAt (entries_of untimely_list) 0 _ a) _ (refl, refl),
  (of_one (λ a. AnswersAt (entries_of untimely_list) 1 _ a) _ (refl, refl), tt),
)

abbrev OneAt : ℕ → Served → Type 0
OneAt p x = (a : Answered) → x.answered ≡ Some a → a.answer ≡ answer_in (shard_of 2) (entries_of (take p both_lists)) x.entry

both_right : Places OneAt 0 both_lists
unfolding apply serve done operate put_key with_key with_client client_row value_at no_rows bytes_lt found
both_right = (
  of_one (λ a. a ≡ _) _ refl,
  (of_none (λ a. a ≡ _), (of_one (λ a. a ≡ _) _ refl, (of_one (λ a. a ≡ _) _ refl, tt))),
)

-- ---- the examples

parts : (s : ℕ) (list : List Served) → slice_get (first_list ∷ second_list ∷ []) s ≡ Some list → part_of (shard_of 2) s both_lists ≡ list
parts zero list e = same_Some first_list list e
parts (suc zero) list e = same_Some second_list list e
parts (suc (suc s)) list e = absurd (none-some list e)

pub meet : ShardsMeetPremises
meet = record {
  shards = two_shards (shard_of 2) first_list second_list
      (record { own = (refl, (refl, tt)); right = first_right; real_time = keeps first_list first_timely })
      (record { own = (refl, (refl, tt)); right = second_right; real_time = keeps second_list second_timely });
  whole = record { parts = parts; none_else = (omega arith, (omega arith, (omega arith, (omega arith, tt)))) };
  linear = record { right = λ p x a at is. at_each OneAt both_lists both_right p x at a is; real_time = keeps both_lists both_timely };
}

pub untimely : UntimelyShardsAreNone
untimely = record {
  own = (refl, (refl, tt));
  right = untimely_right;
  none = λ whole is timed.
      let t = two_in (λ x. shard_in (shard_of 2) x.entry == 0) whole late_put early_get [] (is.parts 0 untimely_list refl) in
      let lt = timed t.1 t.0 early_get late_put t.4 t.3 (_, refl, omega arith) in
      let gt = t.2 in
      absurd (omega (arith, lt, gt));
}

pub published : HashesArePublished
published = record { empty = refl; letter = refl; word = refl }
