-- The run in which another value is chosen is possible, and has both kinds of replies.
use Rattle.std.proofs.Common.{ℕ, ◌≤◌, arith, refl}
use Rattle.std.specs.Prelude.{Some}
use Rattle.crsm_spec.specs.Acts.{Act, IsU64}
use Rattle.crsm_mpspec.specs.World.{begin}
use Rattle.crsm_mpspec.specs.Run.{ArePossible}
use Rattle.crsm_law_examples.specs.Answering.{AnswersAndDrops}
use Rattle.crsm_law_examples.proofs.AnotherValue.{schedule}
use Rattle.crsm_law_examples.proofs.LeaderOpened.{the_model}

small : (n : ℕ) → n ≤ 255 → IsU64 n
small n most = omega arith

possible_run : ArePossible (begin 3) schedule
unfolding the_model
possible_run = ((small 0 (omega arith), small 1 (omega arith), (omega arith, omega arith, (omega arith, omega arith, (omega arith, omega arith, tt)))), refl, (small 2 (omega arith), refl, (small 3 (omega arith), refl, ((small 0 (omega arith), small 4 (omega arith), record { client = omega arith; number = omega arith; op = (record { some = omega arith; most = omega arith }, record { most = omega arith }) }), refl, (small 4 (omega arith), refl, (small 5 (omega arith), refl, ((small 1 (omega arith), small 5 (omega arith), (omega arith, omega arith, (omega arith, omega arith, (omega arith, omega arith, tt)))), refl, (small 6 (omega arith), refl, (small 6 (omega arith), refl, (small 7 (omega arith), refl, ((small 1 (omega arith), small 8 (omega arith), record { client = omega arith; number = omega arith; op = (record { some = omega arith; most = omega arith }, record { most = omega arith }) }), refl, (small 9 (omega arith), refl, (small 9 (omega arith), refl, (small 10 (omega arith), refl, (small 11 (omega arith), refl, ((small 0 (omega arith), small 12 (omega arith)), refl, (small 13 (omega arith), refl, (small 14 (omega arith), refl, tt))))))))))))))))))

pub replies : AnswersAndDrops
unfolding the_model
replies = record {
  acts = schedule;
  possible = possible_run;
  answered_at = 27;
  answered = (Some (Act.Settle 10), refl);
  dropped_at = 30;
  dropped = (Some (Act.Settle 11), refl);
}
