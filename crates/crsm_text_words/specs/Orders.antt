-- The words that ask for each order.
use Rattle.std.specs.Prelude.{◌≡◌, ◌⊎◌, ℕ, ◌<◌, ◌≤◌, ◌+◌, ◌-◌, ◌^◌, ◌==◌, List, [], ◌∷◌, length, map, codes, decimal, if◌then◌else◌}
use Rattle.std.specs.Borrow.{Bor}
use Rattle.std.specs.Str.{bytes_eq}
use Rattle.hex.specs.Hex.{encode_lower, IsBytes}
use Rattle.clap.specs.Words.{Text}
use Rattle.crsm_base.specs.declared.Command.{Command}
use Rattle.crsm_base.specs.declared.Op.{Op}
use Rattle.crsm_base.specs.Members.{IsMembers}
use Rattle.crsm_base.specs.Spelling.{FitsCommand, FitsKey}
use Rattle.crsm_text.specs.Words.{commas, spaced}
use Rattle.crsm_text.specs.Values.{HasBytes, op_text}
use Rattle.crsm_text_words.specs.Addresses.{AreAddresses, address_text, addresses_text}
use Rattle.crsm_text_words.specs.declared.order.DumpPart.{DumpPart}
use Rattle.crsm_text_words.specs.declared.order.LockAction.{LockAction}
use Rattle.crsm_text_words.specs.declared.order.LockAction.TheVariants.{Take, Give, Break}
use Rattle.crsm_text_words.specs.declared.order.LockTask.{LockTask}
use Rattle.crsm_text_words.specs.declared.order.NodeTask.{NodeTask}
use Rattle.crsm_text_words.specs.declared.order.Order.{Order}
use Rattle.crsm_text_words.specs.declared.order.Task.{Task}
use Rattle.crsm_text_words.specs.declared.order.Task.TheVariants.{Show, Replay, ReplayNode, Node, Client, Operate, Soak, Audit, Lock, Delay, DelayTimes, ReplayMp, Dump}

-- the words that the references point to
abbrev pub texts : List (Bor Text) → List Text
texts = map (λ s. s.now)

-- ---- limits

-- the number of replicas that began a cluster is within its bounds
abbrev pub IsClusterSize : ℕ → Type 0
IsClusterSize n = (1 ≤ n) × (n ≤ 15)

abbrev pub IsAddress : ℕ → Type 0
IsAddress a = a < 2 ^ 48

-- the turn count of a client is within its bounds
abbrev pub IsPatience : ℕ → Type 0
IsPatience turns = (1 ≤ turns) × (turns ≤ 1000000)

pub record IsNode (t : NodeTask) : Type 0 where
  pub size : IsClusterSize t.n
  pub turns : t.turns ≤ 1000000000000
  pub peers : AreAddresses t.peers
  pub enough : t.n ≤ length t.peers
  pub most : length t.peers ≤ 15
  pub me : t.me < length t.peers

pub record IsClient (to turns : ℕ) (command : Command) : Type 0 where
  pub address : IsAddress to
  pub patience : IsPatience turns
  pub fits : FitsCommand command
  pub bytes : HasBytes command.op

pub record IsLock (t : LockTask) : Type 0 where
  pub to : IsAddress t.to
  pub turns : IsPatience t.turns
  pub client : t.client < 2 ^ 64
  pub number : t.number < 2 ^ 64 - 1
  pub key : FitsKey t.key
  pub bytes : IsBytes t.key

-- ---- texts

abbrev pub action_text : LockAction → Text
action_text Take = codes "take"
action_text Give = codes "give"
action_text Break = codes "break"

-- the words of a part of a dump: none for all of it
abbrev pub part_words : DumpPart → List Text
part_words DumpPart.All = []
part_words DumpPart.State = codes "state" ∷ []
part_words DumpPart.Keys = codes "keys" ∷ []

-- one to four words that, joined by spaces, are the text of the operation
pub record AreOperation (words : List Text) (op : Op) : Type 0 where
  pub some : 1 ≤ length words
  pub few : length words ≤ 4
  pub text : spaced words ≡ op_text op

-- the words of a command: the client's number, the command's, and its operation
pub record AsksCommand (command : Command) (words : List Text) : Type 0 where
  pub op : List Text
  pub operation : AreOperation op command.op
  pub words_are : words ≡ decimal command.client ∷ decimal command.number ∷ op

pub record AsksClient (to turns : ℕ) (command : Command) (words : List Text) : Type 0 where
  pub limits : IsClient to turns command
  pub rest : List Text
  pub asks : AsksCommand command rest
  pub words_are : words ≡ codes "client" ∷ address_text to ∷ decimal turns ∷ rest

-- the values of a node, and of a lock
abbrev pub node_values : NodeTask → List Text
node_values t = decimal t.me ∷ decimal t.n ∷ decimal t.turns ∷ addresses_text t.peers ∷ []

abbrev pub lock_values : LockTask → List Text
lock_values t = address_text t.to ∷ decimal t.turns ∷ decimal t.client ∷ decimal t.number ∷ encode_lower t.key ∷ action_text t.action ∷ []

-- a command's name and its values ask for the task
abbrev pub Asks : Task → List Text → Type 0
Asks (Show text) words = ⊥
Asks Replay words = words ≡ codes "replay" ∷ []
Asks (ReplayNode me n) words = (me < 15) × IsClusterSize n × (words ≡ codes "replay-node" ∷ decimal me ∷ decimal n ∷ [])
Asks (Node t) words = IsNode t × (words ≡ codes "node" ∷ node_values t)
Asks (Client to turns command) words = AsksClient to turns command words
Asks (Operate to members) words = IsAddress to × IsMembers members × (words ≡ codes "operate" ∷ address_text to ∷ commas members ∷ [])
Asks (Soak number n steps) words = (number < 2 ^ 64) × IsClusterSize n × (steps ≤ 100000) × (words ≡ codes "soak" ∷ decimal number ∷ decimal n ∷ decimal steps ∷ [])
Asks (Audit n) words = IsClusterSize n × (words ≡ codes "audit" ∷ decimal n ∷ [])
Asks (Lock t) words = IsLock t × (words ≡ codes "lock" ∷ lock_values t)
Asks Delay words = words ≡ codes "delay" ∷ []
Asks DelayTimes words = words ≡ codes "delay" ∷ codes "times" ∷ []
Asks ReplayMp words = words ≡ codes "replay-mp" ∷ []
Asks (Dump me n part) words = (me < 15) × IsClusterSize n × (words ≡ codes "dump" ∷ decimal me ∷ decimal n ∷ part_words part)

-- no value of the task needs memory
abbrev pub IsPlainTask : Task → Type 0
IsPlainTask (Node t) = ⊥
IsPlainTask (Client to turns command) = ⊥
IsPlainTask (Operate to members) = ⊥
IsPlainTask (Lock t) = ⊥
IsPlainTask _ = Unit {0}

-- ---- clusters

-- the task may name a cluster: it sends to replicas over the network, or shows a text
abbrev pub NamesCluster : Task → Type 0
NamesCluster (Show text) = Unit {0}
NamesCluster (Node t) = Unit {0}
NamesCluster (Client to turns command) = Unit {0}
NamesCluster (Operate to members) = Unit {0}
NamesCluster _ = ⊥

-- `cluster` and its number, if the words begin so
abbrev pub cluster_words : List Text → List Text
cluster_words [] = []
cluster_words (word ∷ []) = []
cluster_words (word ∷ number ∷ rest) = if bytes_eq word (codes "cluster") then word ∷ number ∷ [] else []

-- the words without them
abbrev pub task_words : List Text → List Text
task_words [] = []
task_words (word ∷ []) = word ∷ []
task_words (word ∷ number ∷ rest) = if bytes_eq word (codes "cluster") then rest else word ∷ number ∷ rest

-- the words name no cluster and the order's is 0, or they name the order's and the task may name one
abbrev pub InFront : Order → List Text → Type 0
InFront order [] = order.cluster ≡ 0
InFront order (word ∷ []) = ⊥
InFront order (word ∷ number ∷ rest) = (0 < order.cluster) × (order.cluster < 2 ^ 64) × NamesCluster order.task × (number ≡ decimal order.cluster)

-- the words ask for the order
abbrev pub AsksFor : Order → List Text → Type 0
AsksFor order words = InFront order (cluster_words words) × Asks order.task (task_words words)
