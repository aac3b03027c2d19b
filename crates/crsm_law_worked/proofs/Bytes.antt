-- The requests of the worked runs are read back, and are bytes.
use Rattle.std.proofs.Common.{Bool, List, [], cond, false, refl, true, ℕ, ◌<◌, ◌∷◌, ◌≡◌}
use Rattle.std.specs.Prelude.{Some, nat_lt}
use Rattle.std.specs.List.{AllByRecursion}
use Rattle.std.proofs.lemmas.Bool.{false≢true, ltb-true}
use Rattle.crsm_base.specs.MessageReading.{datagram_of}
use Rattle.crsm_spec.specs.Types.{Datagram}
use Rattle.crsm_law_examples.proofs.Opened.{the_model}
use Rattle.crsm_law_worked.specs.Values.{asked, asked_too, put_b, put_c}

abbrev pub IsByte : ℕ → Type 0
IsByte b = b < 256

unfoldable pub all_bytes : List ℕ → Bool
all_bytes [] = true
all_bytes (b ∷ bs) = cond (nat_lt b 256) (all_bytes bs) false

pub are_bytes : (bs : List ℕ) → all_bytes bs ≡ true → AllByRecursion IsByte bs
unfolding all_bytes
are_bytes [] e = tt
are_bytes (b ∷ bs) e = go (nat_lt b 256) refl e (are_bytes bs)
  where
    go : (c : Bool) → nat_lt b 256 ≡ c → cond c (all_bytes bs) false ≡ true → (all_bytes bs ≡ true → AllByRecursion IsByte bs) → AllByRecursion IsByte (b ∷ bs)
    go true lt e rest = (ltb-true b 256 lt, rest e)
    go false lt e rest = absurd (false≢true e)

pub small : all_bytes asked ≡ true
unfolding the_model asked all_bytes
small = refl

pub small_too : all_bytes asked_too ≡ true
unfolding the_model asked_too all_bytes
small_too = refl

pub read_back : datagram_of asked ≡ Some (Datagram.Request put_b)
unfolding the_model asked
read_back = refl

pub read_too : datagram_of asked_too ≡ Some (Datagram.Request put_c)
unfolding the_model asked_too
read_too = refl
