-- The output of a step while it runs, and the batch that it ends in.
use Rattle.std.specs.Prelude.{◌≡◌, ℕ, List, [], ◌++◌, map}
use Rattle.crsm_base.specs.declared.send.Send.{Send}
use Rattle.crsm_base.specs.declared.send.To.TheVariants as to_whom
use Rattle.crsm_spec.specs.Types.{Rec, Datagram, Line}
use Rattle.crsm_spec.specs.Draft.{Draft, Reply}
use Rattle.crsm_replica_output.specs.declared.batch.Batch.{Batch}
use Rattle.crsm_replica_output.specs.declared.output.Output.{Output}
use Rattle.crsm_replica_output.specs.declared.output.Reply.{Reply as ReplyInMemory}

-- a datagram to a replica
unfoldable pub to_replica : ℕ × Datagram → Send
to_replica s = record { to = to_whom.Replica s.0; datagram = s.1 }

-- a reply to a client
unfoldable pub to_address : Reply → Send
to_address a = record { to = to_whom.Address a.address; datagram = Datagram.Reply a.client a.number a.says }

-- the line of a reply
unfoldable pub line_of : Reply → Line
line_of a = a.line

-- the reply that one in memory is
unfoldable pub on_paper : ReplyInMemory → Reply
on_paper a = record { address = a.address; client = a.client; number = a.number; says = a.says; line = a.line }

-- The part of a draft that the step has made: all but the replica.
pub record Made : Type 0 where
  pub batch : List Rec
  pub lines : List Line
  pub excess : List Line
  pub sends : List (ℕ × Datagram)
  pub replies : List Reply

abbrev pub nothing : Made
nothing = record { batch = []; lines = []; excess = []; sends = []; replies = [] }

abbrev pub made_of : Draft → Made
made_of x = record { batch = x.batch; lines = x.lines; excess = x.excess; sends = x.sends; replies = x.replies }

-- The output holds what was made.
pub record OutputStands (output : Output) (m : Made) : Type 0 where
  pub records : output.records ≡ m.batch
  pub lines : output.lines ≡ m.lines
  pub excess : output.excess.items ≡ m.excess
  pub sends : output.sends ≡ map to_replica m.sends
  pub replies : map on_paper output.replies.items ≡ m.replies

-- The batch is all that was made.
pub record IsBatchOf (batch : Batch) (m : Made) : Type 0 where
  pub records : batch.records ≡ m.batch
  pub sends : batch.sends ≡ map to_replica m.sends ++ map to_address m.replies
  pub lines : batch.lines ≡ (m.lines ++ m.excess) ++ map line_of m.replies
