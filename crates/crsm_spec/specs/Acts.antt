-- Acts: the events of a cluster, and which of them a line of a schedule can express.
use Rattle.std.specs.Prelude.{ℕ, ◌≤◌, ◌<◌, ◌^◌, nat_eq, List, length}
use Rattle.std.specs.List.{IsDistinct, AllByRecursion}
use Rattle.crsm_base.specs.Members.{IsMembers}
use Rattle.crsm_base.specs.Spelling.{FitsCommand}
use Rattle.crsm_spec.specs.Types.{Command}

-- An act of one step, with its clock reading.
pub data Single : Type 0 where
  -- a client's request is received
  Request : (replica reading : ℕ) (command : Command) → Single
  -- a datagram is delivered, for the first time or once more
  Go : (number reading : ℕ) → Single
  Again : (number reading : ℕ) → Single
  Tick : (replica reading : ℕ) → Single
  -- the replica is asked to make these the members of the next epoch
  Suspect : (replica reading : ℕ) (members : List ℕ) → Single
  -- bytes that are no datagram are received
  Junk : (replica reading : ℕ) (bytes : List ℕ) → Single

-- An event of the cluster.
pub data Act : Type 0 where
  One : Single → Act
  Lose : (number : ℕ) → Act
  Crash : (replica : ℕ) → Act
  Start : (replica : ℕ) → Act
  -- every datagram that can be delivered now is delivered
  Settle : (reading : ℕ) → Act
  -- the step stops before its batch is kept, or after it was kept and the first `sends` of its datagrams were sent
  CutLost : Single → Act
  CutKept : (sends : ℕ) → Single → Act
  -- datagrams are delivered, their batches kept together
  Batch : (reading : ℕ) (numbers : List ℕ) → Act
  CutLostBatch : (reading : ℕ) (numbers : List ℕ) → Act
  -- the step stops after this many device calls of its log write; bytes that were not synced read as `fill`
  CutAt : (calls fill : ℕ) → Single → Act

-- The reason why an act is not possible.
pub data Bad : Type 0 where
  Full : (bytes : ℕ) → Bad
  NoSuchReplica : Bad
  NoSuchDatagram : Bad
  Used : Bad
  Fresh : Bad
  Mixed : Bad
  IsDown : Bad
  IsUp : Bad
  TooFew : Bad
  Forged : Bad

-- ---- the acts that a line can express

-- a 64-bit number
abbrev pub IsU64 : ℕ → Type 0
IsU64 n = n < 2 ^ 64

-- bounds of the length of a junk datagram
pub record IsJunk (bytes : List ℕ) : Type 0 where
  pub some : 1 ≤ length bytes
  pub most : length bytes ≤ 8192

-- bounds of the number of datagrams that are delivered together
pub record IsBatch (numbers : List ℕ) : Type 0 where
  pub some : 1 ≤ length numbers
  pub most : length numbers ≤ 32
  pub distinct : IsDistinct nat_eq numbers
  pub small : AllByRecursion IsU64 numbers

-- Some line of a schedule expresses the act of one step.
abbrev pub FitsSingle : Single → Type 0
FitsSingle (Single.Request k t c) = IsU64 k × IsU64 t × FitsCommand c
FitsSingle (Single.Go i t) = IsU64 i × IsU64 t
FitsSingle (Single.Again i t) = IsU64 i × IsU64 t
FitsSingle (Single.Tick k t) = IsU64 k × IsU64 t
FitsSingle (Single.Suspect k t ms) = IsU64 k × IsU64 t × IsMembers ms
FitsSingle (Single.Junk k t bytes) = IsU64 k × IsU64 t × IsJunk bytes

-- Some line of a schedule expresses the act.
abbrev pub FitsAct : Act → Type 0
FitsAct (Act.One s) = FitsSingle s
FitsAct (Act.Lose i) = IsU64 i
FitsAct (Act.Crash k) = IsU64 k
FitsAct (Act.Start k) = IsU64 k
FitsAct (Act.Settle t) = IsU64 t
FitsAct (Act.CutLost s) = FitsSingle s
FitsAct (Act.CutKept sends s) = IsU64 sends × FitsSingle s
FitsAct (Act.Batch t is) = IsU64 t × IsBatch is
FitsAct (Act.CutLostBatch t is) = IsU64 t × IsBatch is
FitsAct (Act.CutAt calls fill s) = (calls ≤ 4) × (fill < 256) × FitsSingle s
