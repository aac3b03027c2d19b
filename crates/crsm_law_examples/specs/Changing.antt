-- A run in which epochs change.
use Rattle.std.specs.Prelude.{ℕ, List, Contains}
use Rattle.crsm_spec.specs.Types.{Decision, Answer, Line}
use Rattle.crsm_spec.specs.World.{begin}
use Rattle.crsm_spec.specs.Acts.{Act}
use Rattle.crsm_spec.specs.Run.{ArePossible, seen}
use Rattle.crsm_spec.specs.Decided.{all_decisions}
use Rattle.crsm_spec.specs.Safe.{IsLineAt}

-- A possible run of three replicas in which a decision is recorded, and a command that it carried over is answered.
pub record ChangesEpochs : Type 0 where
  pub acts : List Act
  pub possible : ArePossible (begin 3) acts
  pub decision : Decision
  pub decided : Contains (all_decisions 3 acts) decision
  pub place : ℕ
  pub answered : IsLineAt (seen 3 acts) place (Line.ReplyOk 0 7 1 0 Answer.Done)
