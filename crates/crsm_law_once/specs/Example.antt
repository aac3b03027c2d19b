-- A list in which a command stands three times: 7 sets a key, 8 sets it, 7's command comes again, 7 asks for the key,
-- and 7's first command comes once more.
use Rattle.std.specs.Prelude.{ℕ, List, [], ◌∷◌}
use Rattle.crsm_spec.specs.Types.{Answer, Entry, Op}
use Rattle.crsm_law_once.specs.Numbered.{ChangesKeys, ChangesNothing, IsAnswered}

-- a client's command, by its time, the client and its number
abbrev pub asking : ℕ → ℕ → ℕ → Op → Entry
asking time client number op = record {
  epoch = 0;
  stamp = record { time = time; origin = 0 };
  command = record { client = client; number = number; op = op };
}

abbrev pub the_key : List ℕ
the_key = 97 ∷ []

-- a value of one byte
abbrev pub value : ℕ → List ℕ
value byte = byte ∷ []

abbrev pub with_repeats : List Entry
with_repeats =
    asking 1 7 1 (Op.Put the_key (value 1))
    ∷ asking 2 8 1 (Op.Put the_key (value 2))
    ∷ asking 3 7 1 (Op.Put the_key (value 1))
    ∷ asking 4 7 2 (Op.Get the_key)
    ∷ asking 5 7 1 (Op.Put the_key (value 1))
    ∷ []

-- What is true of it: the repeat is answered as before and leaves what 8 wrote; behind 7's second command it is stale.
pub record CommandsRepeat : Type 0 where
  pub first : IsAnswered with_repeats 0 7 1 Answer.Done
  pub changes : ChangesKeys with_repeats 0
  pub other : IsAnswered with_repeats 1 8 1 Answer.Done
  pub again : IsAnswered with_repeats 2 7 1 Answer.Done
  pub unchanged : ChangesNothing with_repeats 2
  pub found : IsAnswered with_repeats 3 7 2 (Answer.Found (value 2))
  pub stale : IsAnswered with_repeats 4 7 1 (Answer.Stale 2)
