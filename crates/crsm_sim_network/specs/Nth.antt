-- The elements of a list that pass a test, counted.
use Rattle.std.specs.Prelude.{◌≡◌, ◌+◌, ℕ, Bool, true, List, Some, drop, take, slice_get}
use Rattle.std.specs.List.{count_by}

-- place n has an element that passes the test, and behind j others
pub record IsNth {A : Type 0} (test : A → Bool) (xs : List A) (j n : ℕ) : Type 0 where
  pub element : A
  pub is : slice_get xs n ≡ Some element
  pub passes : test element ≡ true
  pub before : count_by test (take n xs) ≡ j

-- place n has an element that passes the test, and behind j others from place `first` on
pub record IsFrom {A : Type 0} (test : A → Bool) (xs : List A) (first j n : ℕ) : Type 0 where
  pub element : A
  pub is : slice_get xs n ≡ Some element
  pub passes : test element ≡ true
  pub between : j + count_by test (drop n xs) ≡ count_by test (drop first xs)
