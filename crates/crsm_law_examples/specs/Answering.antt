-- A run in which clients receive both kinds of replies.
use Rattle.std.specs.Prelude.{ℕ, List}
use Rattle.crsm_spec.specs.Acts.{Act}
use Rattle.crsm_mpspec.specs.declared.MpLine.{MpLine}
use Rattle.crsm_mpspec.specs.Types.{Answer}
use Rattle.crsm_mpspec.specs.World.{begin}
use Rattle.crsm_mpspec.specs.Run.{ArePossible, seen}
use Rattle.crsm_mpspec.specs.Safe.{IsLineAt}

-- A possible run of three replicas in which one command is answered, and another client learns that a different value
-- was chosen at the slot of its command.
pub record AnswersAndDrops : Type 0 where
  pub acts : List Act
  pub possible : ArePossible (begin 3) acts
  pub answered_at : ℕ
  pub answered : IsLineAt (seen 3 acts) answered_at (MpLine.ReplyOk 1 9 1 0 Answer.Done)
  pub dropped_at : ℕ
  pub dropped : IsLineAt (seen 3 acts) dropped_at (MpLine.ReplyDropped 0 7 1 0)
