-- What calls make of a value, and how many.
use Rattle.std.specs.Prelude.{◌≡◌, ℕ, zero, suc, ◌+◌, ◌≤◌, ◌<◌}

-- what this many calls make of a value
abbrev pub Make : {T : Type 0} → (T → T → Type 0) → ℕ → T → T → Type 0
Make call zero old new = new ≡ old
Make call (suc n) old new = (between : _) × Make call n old between × call between new

-- At most so many calls make the new value of the old one; all of them do if any further one was refused.
pub record FewMake {T : Type 0} (call : T → T → Type 0) (calls refused : ℕ) (old new : T) : Type 0 where
  pub made : ℕ
  pub few : made ≤ calls
  pub all : 0 < refused → made ≡ calls
  pub make : Make call made old new

-- the same of a value that was one of these at the start
abbrev pub IsMadeOf : {T : Type 0} → (T → T → Type 0) → (T → Type 0) → (calls refused : ℕ) → T → Type 0
IsMadeOf call is_first calls refused value = (first : _) × is_first first × FewMake call calls refused first value

-- Of so many calls of a value that was one of these some are left, and the others made it what it is. None is refused
-- while any are left.
pub record IsBelow {T : Type 0} (call : T → T → Type 0) (is_first : T → Type 0) (calls left refused : ℕ) (value : T) : Type 0 where
  pub first : T
  pub began : is_first first
  pub made : ℕ
  pub sum : made + left ≡ calls
  pub none_left : 0 < refused → left ≡ 0
  pub make : Make call made first value
