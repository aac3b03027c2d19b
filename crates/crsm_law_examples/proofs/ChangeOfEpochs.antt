-- The run with a new epoch is possible: its decision is recorded, and the command that it carried over is answered.
use Rattle.std.proofs.Common.{ℕ, ◌≤◌, [], ◌∷◌, refl, arith}
use Rattle.std.specs.Prelude.{Some, None}
use Rattle.crsm_spec.specs.Types.{Op}
use Rattle.crsm_spec.specs.World.{begin}
use Rattle.crsm_spec.specs.Acts.{Act, IsU64}
use Rattle.crsm_spec.specs.Run.{ArePossible}
use Rattle.crsm_law_examples.specs.Words.{stamp}
use Rattle.crsm_law_examples.specs.Changing.{ChangesEpochs}
use Rattle.crsm_law_examples.proofs.NewEpoch.{schedule}
use Rattle.crsm_law_examples.proofs.Opened.{the_model}

small : (n : ℕ) → n ≤ 255 → IsU64 n
small n le = omega (arith, le)

pub possible_run : ArePossible (begin 3) schedule
unfolding the_model
possible_run = ((small 0 (omega arith), small 5 (omega arith), record { client = omega arith; number = omega arith; op = (record { some = omega arith; most = omega arith }, record { most = omega arith }) }), refl, ((small 0 (omega arith), small 8 (omega arith)), refl, (small 2 (omega arith), refl, ((small 0 (omega arith), small 20 (omega arith), (omega arith, omega arith, (omega arith, omega arith, tt))), refl, (small 21 (omega arith), refl, (small 22 (omega arith), refl, (small 23 (omega arith), refl, (small 24 (omega arith), refl, (small 25 (omega arith), refl, (small 26 (omega arith), refl, (small 27 (omega arith), refl, tt)))))))))))

pub changes : ChangesEpochs
unfolding the_model
changes = record {
  acts = schedule;
  possible = possible_run;
  decision = record { epoch = 1; spec = None; members = 0 ∷ 1 ∷ []; base_len = 0; tail = record { epoch = 0; stamp = stamp 5 0; command = record { client = 7; number = 1; op = Op.Put (97 ∷ []) (98 ∷ []) } } ∷ [] };
  decided = (0, omega arith, refl);
  place = 34;
  answered = (Some (Act.Settle 26), refl);
}
