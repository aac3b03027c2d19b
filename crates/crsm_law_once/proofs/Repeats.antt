-- A command stands three times, by computation.
use Rattle.std.proofs.Common.{◌≡◌, ℕ, List, length, refl, ap}
use Rattle.crsm_base.specs.Store.{after, answer_after, apply, bytes_lt, client_row, done, found, no_rows, operate, put_key, serve, value_at, with_client, with_key}
use Rattle.crsm_spec.specs.Types.{Answer, Op}
use Rattle.crsm_law_once.specs.Numbered.{ChangesKeys, ChangesNothing, IsAnswered}
use Rattle.crsm_law_once.specs.Example.{CommandsRepeat, asking, the_key, value, with_repeats}

first_done : IsAnswered with_repeats 0 7 1 Answer.Done
unfolding after answer_after apply serve done operate put_key with_key with_client client_row value_at no_rows bytes_lt found
first_done = record { entry = asking 1 7 1 (Op.Put the_key (value 1)); at = (refl, refl); asked_by = refl; numbered = refl }

first_changes : ChangesKeys with_repeats 0
unfolding after answer_after apply serve done operate put_key with_key with_client client_row value_at no_rows bytes_lt found
first_changes same = let e : ◌≡◌ {A = ℕ} 1 0 = ap (λ (rows : List (List ℕ × List ℕ)). length rows) same in absurd cc

second_done : IsAnswered with_repeats 1 8 1 Answer.Done
unfolding after answer_after apply serve done operate put_key with_key with_client client_row value_at no_rows bytes_lt found
second_done = record { entry = asking 2 8 1 (Op.Put the_key (value 2)); at = (refl, refl); asked_by = refl; numbered = refl }

third_done : IsAnswered with_repeats 2 7 1 Answer.Done
unfolding after answer_after apply serve done operate put_key with_key with_client client_row value_at no_rows bytes_lt found
third_done = record { entry = asking 3 7 1 (Op.Put the_key (value 1)); at = (refl, refl); asked_by = refl; numbered = refl }

third_rests : ChangesNothing with_repeats 2
unfolding after answer_after apply serve done operate put_key with_key with_client client_row value_at no_rows bytes_lt found
third_rests = refl

fourth_found : IsAnswered with_repeats 3 7 2 (Answer.Found (value 2))
unfolding after answer_after apply serve done operate put_key with_key with_client client_row value_at no_rows bytes_lt found
fourth_found = record { entry = asking 4 7 2 (Op.Get the_key); at = (refl, refl); asked_by = refl; numbered = refl }

fifth_stale : IsAnswered with_repeats 4 7 1 (Answer.Stale 2)
unfolding after answer_after apply serve done operate put_key with_key with_client client_row value_at no_rows bytes_lt found
fifth_stale = record { entry = asking 5 7 1 (Op.Put the_key (value 1)); at = (refl, refl); asked_by = refl; numbered = refl }

pub repeat : CommandsRepeat
repeat = record {
  first = first_done;
  changes = first_changes;
  other = second_done;
  again = third_done;
  unchanged = third_rests;
  found = fourth_found;
  stale = fifth_stale;
}
