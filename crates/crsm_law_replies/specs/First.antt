-- The first entry of a client's number in a list, and what an answer to the number tells of it.
use Rattle.std.specs.Prelude.{◌≡◌, ◌≢◌, ◌⊎◌, ℕ, ◌<◌, ◌≤◌, List, Some, slice_get}
use Rattle.crsm_spec.specs.Types.{Answer, Entry}
use Rattle.crsm_law_once.specs.Numbered.{ChangesNothing, IsAnswered, IsStaleAt}

-- no entry before this place has the client's number
abbrev pub NoneBefore : List Entry → ℕ → ℕ → ℕ → Type 0
NoneBefore es place client number =
    (r : ℕ) (e : Entry) → r < place → slice_get es r ≡ Some e → e.command.client ≡ client →
    e.command.number ≡ number → ⊥

-- The first entry of the client's number stands at this place and is answered so. Each other one changes nothing.
pub record IsFirst (es : List Entry) (first client number : ℕ) (a : Answer) : Type 0 where
  pub answered : IsAnswered es first client number a
  pub none_before : NoneBefore es first client number
  pub others_rest : (q : ℕ) (b : Answer) → IsAnswered es q client number b → q ≢ first → ChangesNothing es q

-- The answer is the store's to an entry of the client's number, and it is that to the first one or says that the number
-- is stale.
pub record TellsFirst (es : List Entry) (client number : ℕ) (a : Answer) : Type 0 where
  pub place : ℕ
  pub here : IsAnswered es place client number a
  pub first : ℕ
  pub within : first ≤ place
  pub answer : Answer
  pub is_first : IsFirst es first client number answer
  pub tells : (a ≡ answer) ⊎ IsStaleAt es place client number a
