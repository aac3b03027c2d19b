-- The answer to an executed entry, and the line that has it.
use Rattle.std.specs.Prelude.{◌≡◌, ℕ, List, take, slice_get, Option, Some}
use Rattle.std.specs.Option.{option_map}
use Rattle.crsm_base.specs.Store.{answer_after}
use Rattle.crsm_spec.specs.Types.{Entry, Answer, Line}
use Rattle.crsm_spec.specs.Clients.{find_executed}

-- the answer is the one at this place of the executed list
pub record IsAnswerAt (done : List Entry) (place : ℕ) (answer : Answer) : Type 0 where
  pub entry : Entry
  pub there : slice_get done place ≡ Some entry
  pub is : answer ≡ answer_after (take place done) entry

-- the line of an executed entry has its place and its answer in the executed list
abbrev pub IsTrueOf : List Entry → Line → Type 0
IsTrueOf done (Line.Exec k place epoch stamp client number answer) = IsAnswerAt done place answer
IsTrueOf done _ = Unit {0}

-- the place of an entry in the executed list, where it is there, and its answer
unfoldable pub answered : List Entry → Entry → Option (ℕ × Answer)
answered done e = option_map (λ p. (p.0, answer_after (take p.0 done) p.1)) (find_executed done e)
