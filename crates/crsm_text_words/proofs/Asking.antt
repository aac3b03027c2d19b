-- Words that ask for a task: how many they are, and what they begin with.
use Rattle.std.proofs.Common.{◌≡◌, ◌∙◌, ◌||◌, ℕ, ◌+◌, ◌<◌, ◌≤◌, ◌^◌, Bool, true, false, refl, ap, sym, subst, map, List, [], ◌∷◌, ◌++◌, length, Option, Some, None, arith, codes, decimal}
use Rattle.std.proofs.lemmas.Bool.Decides.{nat_tests}
use Rattle.std.specs.Str.{bytes_eq}
use Rattle.clap.specs.Words.{Text}
use Rattle.crsm_base.specs.declared.Command.{Command}
use Rattle.crsm_base.specs.Members.{IsMembers}
use Rattle.crsm_text.specs.Words.{commas}
use Rattle.crsm_text_words.specs.Addresses.{address_text}
use Rattle.crsm_text_words.specs.Orders.{Asks, AsksCommand, IsAddress, IsClient, IsClusterSize, NamesCluster, part_words}
use Rattle.crsm_text_words.specs.Table.{fits}
use Rattle.crsm_text_words.specs.declared.order.DumpPart.{DumpPart}
use Rattle.crsm_text_words.specs.declared.order.LockTask.{LockTask}
use Rattle.crsm_text_words.specs.declared.order.NodeTask.{NodeTask}
use Rattle.crsm_text_words.specs.declared.order.Task.{Task}
use Rattle.crsm_text_words.specs.declared.order.Task.TheVariants.{Show, Replay, ReplayNode, Node, Client, Operate, Soak, Audit, Lock, Delay, DelayTimes, ReplayMp, Dump}

few_fit : (words : List Text) → 1 ≤ length words → length words ≤ 4 → (a b c d : Text) → fits (codes "client" ∷ a ∷ b ∷ c ∷ d ∷ words) ≡ true
few_fit (w ∷ []) some few a b c d = refl
few_fit (w ∷ x ∷ []) some few a b c d = refl
few_fit (w ∷ x ∷ y ∷ []) some few a b c d = refl
few_fit (w ∷ x ∷ y ∷ z ∷ []) some few a b c d = refl
few_fit [] some few a b c d = absurd (omega (arith, some))
few_fit (w ∷ x ∷ y ∷ z ∷ u ∷ us) some few a b c d = absurd (omega (arith, few))

part_fit : (me n : Text) (part : DumpPart) → fits (codes "dump" ∷ me ∷ n ∷ part_words part) ≡ true
part_fit me n DumpPart.All = refl
part_fit me n DumpPart.State = refl
part_fit me n DumpPart.Keys = refl

-- they are as many as their command's row allows
pub asks_fit : (task : Task) (words : List Text) → Asks task words → fits words ≡ true
asks_fit (Show text) words asks = absurd asks
asks_fit Replay words asks = ap fits asks
asks_fit (ReplayNode me n) words asks = ap fits asks.2
asks_fit (Node t) words asks = ap fits asks.1
asks_fit (Client to turns command) words asks =
    ap fits (asks.words_are ∙ ap (λ (ws : List Text). codes "client" ∷ address_text to ∷ decimal turns ∷ ws) asks.asks.words_are)
    ∙ few_fit asks.asks.op asks.asks.operation.some asks.asks.operation.few (address_text to) (decimal turns) (decimal command.client) (decimal command.number)
asks_fit (Operate to members) words asks = ap fits asks.2
asks_fit (Soak number n steps) words asks = ap fits asks.3
asks_fit (Audit n) words asks = ap fits asks.1
asks_fit (Lock t) words asks = ap fits asks.1
asks_fit Delay words asks = ap fits asks
asks_fit DelayTimes words asks = ap fits asks
asks_fit ReplayMp words asks = ap fits asks
asks_fit (Dump me n part) words asks = ap fits asks.2 ∙ part_fit (decimal me) (decimal n) part

-- nothing asks for nothing
pub nothing_asked : (task : Task) → Asks task [] → ⊥
nothing_asked task asks = let bad : false ≡ true = asks_fit task [] asks in cc bad

-- ---- who names a cluster

abbrev cluster_name : List Text → Bool
cluster_name [] = false
cluster_name (name ∷ values) = bytes_eq name (codes "node") || (bytes_eq name (codes "client") || bytes_eq name (codes "operate"))

name_of_cluster : (task : Task) (words : List Text) → Asks task words → NamesCluster task → cluster_name words ≡ true
name_of_cluster (Show text) words asks names = absurd asks
name_of_cluster Replay words asks names = absurd names
name_of_cluster (ReplayNode me n) words asks names = absurd names
name_of_cluster (Node t) words asks names = ap cluster_name asks.1
name_of_cluster (Client to turns command) words asks names = ap cluster_name asks.words_are
name_of_cluster (Operate to members) words asks names = ap cluster_name asks.2
name_of_cluster (Soak number n steps) words asks names = absurd names
name_of_cluster (Audit n) words asks names = absurd names
name_of_cluster (Lock t) words asks names = absurd names
name_of_cluster Delay words asks names = absurd names
name_of_cluster DelayTimes words asks names = absurd names
name_of_cluster ReplayMp words asks names = absurd names
name_of_cluster (Dump me n part) words asks names = absurd names

no_name : (words : List Text) (all : List Text) → words ≡ all → cluster_name all ≡ false → cluster_name words ≡ true → ⊥
no_name words all is other some = let bad : false ≡ true = sym other ∙ sym (ap cluster_name is) ∙ some in cc bad

cluster_of_name : (task : Task) (words : List Text) → Asks task words → cluster_name words ≡ true → NamesCluster task
cluster_of_name (Show text) words asks some = absurd asks
cluster_of_name Replay words asks some = no_name words _ asks refl some
cluster_of_name (ReplayNode me n) words asks some = no_name words _ asks.2 refl some
cluster_of_name (Node t) words asks some = tt
cluster_of_name (Client to turns command) words asks some = tt
cluster_of_name (Operate to members) words asks some = tt
cluster_of_name (Soak number n steps) words asks some = no_name words _ asks.3 refl some
cluster_of_name (Audit n) words asks some = no_name words _ asks.1 refl some
cluster_of_name (Lock t) words asks some = no_name words _ asks.1 refl some
cluster_of_name Delay words asks some = no_name words _ asks refl some
cluster_of_name DelayTimes words asks some = no_name words _ asks refl some
cluster_of_name ReplayMp words asks some = no_name words _ asks refl some
cluster_of_name (Dump me n part) words asks some = no_name words _ asks.2 refl some

-- whether words ask for a task in a cluster is a matter of the words
pub one_kind : (task other : Task) (words : List Text) → Asks task words → Asks other words → NamesCluster other → NamesCluster task
one_kind task other words asks asks_too names = cluster_of_name task words asks (name_of_cluster other words asks_too names)

-- ---- values that are alike

pub node_same : (a b : NodeTask) → a.me ≡ b.me → a.n ≡ b.n → a.turns ≡ b.turns → a.peers ≡ b.peers → a ≡ b
node_same a b me n turns peers = λ i. record { me = me i; n = n i; turns = turns i; peers = peers i }

pub lock_same : (a b : LockTask) → a.to ≡ b.to → a.turns ≡ b.turns → a.client ≡ b.client → a.number ≡ b.number → a.key ≡ b.key → a.action ≡ b.action → a ≡ b
lock_same a b to turns client number key action = λ i. record { to = to i; turns = turns i; client = client i; number = number i; key = key i; action = action i }

pub command_same : (a b : Command) → a.client ≡ b.client → a.number ≡ b.number → a.op ≡ b.op → a ≡ b
command_same a b client number op = λ i. record { client = client i; number = number i; op = op i }

-- ---- a client's command

tail_of : (name : Text) (values rest : List Text) → name ∷ values ≡ name ∷ rest → values ≡ rest
tail_of name values rest e = cc e

pub record ClientAsked (task : Task) (values : List Text) : Type 0 where
  pub to : ℕ
  pub turns : ℕ
  pub command : Command
  pub task_is : task ≡ Client to turns command
  pub limits : IsClient to turns command
  pub rest : List Text
  pub asks : AsksCommand command rest
  pub values_are : values ≡ address_text to ∷ decimal turns ∷ rest

-- words that begin with one name begin with no other
other_name : (mine name : Text) (values rest : List Text) → bytes_eq mine name ≡ false → bytes_eq mine mine ≡ true → mine ∷ values ≡ name ∷ rest → ⊥
other_name mine name values rest differs itself e =
    let same : mine ≡ name = cc e in
    let bad : true ≡ false = sym itself ∙ ap (λ (t : Text). bytes_eq mine t) same ∙ differs in
    cc bad

pub client_asked : (task : Task) (values : List Text) → Asks task (codes "client" ∷ values) → ClientAsked task values
client_asked (Show text) values asks = absurd asks
client_asked Replay values asks = absurd (other_name (codes "client") (codes "replay") values _ refl refl asks)
client_asked (ReplayNode me n) values asks = absurd (other_name (codes "client") (codes "replay-node") values _ refl refl asks.2)
client_asked (Node t) values asks = absurd (other_name (codes "client") (codes "node") values _ refl refl asks.1)
client_asked (Client to turns command) values asks = record {
  to = to;
  turns = turns;
  command = command;
  task_is = refl;
  limits = asks.limits;
  rest = asks.rest;
  asks = asks.asks;
  values_are = tail_of (codes "client") values _ asks.words_are;
}
client_asked (Operate to members) values asks = absurd (other_name (codes "client") (codes "operate") values _ refl refl asks.2)
client_asked (Soak number n steps) values asks = absurd (other_name (codes "client") (codes "soak") values _ refl refl asks.3)
client_asked (Audit n) values asks = absurd (other_name (codes "client") (codes "audit") values _ refl refl asks.1)
client_asked (Lock t) values asks = absurd (other_name (codes "client") (codes "lock") values _ refl refl asks.1)
client_asked Delay values asks = absurd (other_name (codes "client") (codes "delay") values _ refl refl asks)
client_asked DelayTimes values asks = absurd (other_name (codes "client") (codes "delay") values _ refl refl asks)
client_asked ReplayMp values asks = absurd (other_name (codes "client") (codes "replay-mp") values _ refl refl asks)
client_asked (Dump me n part) values asks = absurd (other_name (codes "client") (codes "dump") values _ refl refl asks.2)

-- ---- other commands

pub record ReplayNodeAsked (task : Task) (values : List Text) : Type 0 where
  pub me : ℕ
  pub n : ℕ
  pub task_is : task ≡ ReplayNode me n
  pub below : me < 15
  pub size : IsClusterSize n
  pub values_are : values ≡ decimal me ∷ decimal n ∷ []

pub replay_node_asked : (task : Task) (values : List Text) → Asks task (codes "replay-node" ∷ values) → ReplayNodeAsked task values
replay_node_asked (Show text) values asks = absurd asks
replay_node_asked Replay values asks = absurd (other_name (codes "replay-node") (codes "replay") values _ refl refl asks)
replay_node_asked (ReplayNode me n) values asks = record { me = me; n = n; task_is = refl; below = asks.0; size = asks.1; values_are = tail_of (codes "replay-node") values _ asks.2 }
replay_node_asked (Node t) values asks = absurd (other_name (codes "replay-node") (codes "node") values _ refl refl asks.1)
replay_node_asked (Client to turns command) values asks = absurd (other_name (codes "replay-node") (codes "client") values _ refl refl asks.words_are)
replay_node_asked (Operate to members) values asks = absurd (other_name (codes "replay-node") (codes "operate") values _ refl refl asks.2)
replay_node_asked (Soak number n steps) values asks = absurd (other_name (codes "replay-node") (codes "soak") values _ refl refl asks.3)
replay_node_asked (Audit n) values asks = absurd (other_name (codes "replay-node") (codes "audit") values _ refl refl asks.1)
replay_node_asked (Lock t) values asks = absurd (other_name (codes "replay-node") (codes "lock") values _ refl refl asks.1)
replay_node_asked Delay values asks = absurd (other_name (codes "replay-node") (codes "delay") values _ refl refl asks)
replay_node_asked DelayTimes values asks = absurd (other_name (codes "replay-node") (codes "delay") values _ refl refl asks)
replay_node_asked ReplayMp values asks = absurd (other_name (codes "replay-node") (codes "replay-mp") values _ refl refl asks)
replay_node_asked (Dump me n part) values asks = absurd (other_name (codes "replay-node") (codes "dump") values _ refl refl asks.2)

pub record DumpAsked (task : Task) (values : List Text) : Type 0 where
  pub me : ℕ
  pub n : ℕ
  pub part : DumpPart
  pub task_is : task ≡ Dump me n part
  pub below : me < 15
  pub size : IsClusterSize n
  pub values_are : values ≡ decimal me ∷ decimal n ∷ part_words part

pub dump_asked : (task : Task) (values : List Text) → Asks task (codes "dump" ∷ values) → DumpAsked task values
dump_asked (Show text) values asks = absurd asks
dump_asked Replay values asks = absurd (other_name (codes "dump") (codes "replay") values _ refl refl asks)
dump_asked (ReplayNode me n) values asks = absurd (other_name (codes "dump") (codes "replay-node") values _ refl refl asks.2)
dump_asked (Node t) values asks = absurd (other_name (codes "dump") (codes "node") values _ refl refl asks.1)
dump_asked (Client to turns command) values asks = absurd (other_name (codes "dump") (codes "client") values _ refl refl asks.words_are)
dump_asked (Operate to members) values asks = absurd (other_name (codes "dump") (codes "operate") values _ refl refl asks.2)
dump_asked (Soak number n steps) values asks = absurd (other_name (codes "dump") (codes "soak") values _ refl refl asks.3)
dump_asked (Audit n) values asks = absurd (other_name (codes "dump") (codes "audit") values _ refl refl asks.1)
dump_asked (Lock t) values asks = absurd (other_name (codes "dump") (codes "lock") values _ refl refl asks.1)
dump_asked Delay values asks = absurd (other_name (codes "dump") (codes "delay") values _ refl refl asks)
dump_asked DelayTimes values asks = absurd (other_name (codes "dump") (codes "delay") values _ refl refl asks)
dump_asked ReplayMp values asks = absurd (other_name (codes "dump") (codes "replay-mp") values _ refl refl asks)
dump_asked (Dump me n part) values asks = record { me = me; n = n; part = part; task_is = refl; below = asks.0; size = asks.1; values_are = tail_of (codes "dump") values _ asks.2 }

pub record SoakAsked (task : Task) (values : List Text) : Type 0 where
  pub number : ℕ
  pub n : ℕ
  pub steps : ℕ
  pub task_is : task ≡ Soak number n steps
  pub fits : number < 2 ^ 64
  pub size : IsClusterSize n
  pub few : steps ≤ 100000
  pub values_are : values ≡ decimal number ∷ decimal n ∷ decimal steps ∷ []

pub soak_asked : (task : Task) (values : List Text) → Asks task (codes "soak" ∷ values) → SoakAsked task values
soak_asked (Show text) values asks = absurd asks
soak_asked Replay values asks = absurd (other_name (codes "soak") (codes "replay") values _ refl refl asks)
soak_asked (ReplayNode me n) values asks = absurd (other_name (codes "soak") (codes "replay-node") values _ refl refl asks.2)
soak_asked (Node t) values asks = absurd (other_name (codes "soak") (codes "node") values _ refl refl asks.1)
soak_asked (Client to turns command) values asks = absurd (other_name (codes "soak") (codes "client") values _ refl refl asks.words_are)
soak_asked (Operate to members) values asks = absurd (other_name (codes "soak") (codes "operate") values _ refl refl asks.2)
soak_asked (Soak number n steps) values asks = record { number = number; n = n; steps = steps; task_is = refl; fits = asks.0; size = asks.1; few = asks.2; values_are = tail_of (codes "soak") values _ asks.3 }
soak_asked (Audit n) values asks = absurd (other_name (codes "soak") (codes "audit") values _ refl refl asks.1)
soak_asked (Lock t) values asks = absurd (other_name (codes "soak") (codes "lock") values _ refl refl asks.1)
soak_asked Delay values asks = absurd (other_name (codes "soak") (codes "delay") values _ refl refl asks)
soak_asked DelayTimes values asks = absurd (other_name (codes "soak") (codes "delay") values _ refl refl asks)
soak_asked ReplayMp values asks = absurd (other_name (codes "soak") (codes "replay-mp") values _ refl refl asks)
soak_asked (Dump me n part) values asks = absurd (other_name (codes "soak") (codes "dump") values _ refl refl asks.2)

pub record OperateAsked (task : Task) (values : List Text) : Type 0 where
  pub to : ℕ
  pub members : List ℕ
  pub task_is : task ≡ Operate to members
  pub address : IsAddress to
  pub are : IsMembers members
  pub values_are : values ≡ address_text to ∷ commas members ∷ []

pub operate_asked : (task : Task) (values : List Text) → Asks task (codes "operate" ∷ values) → OperateAsked task values
operate_asked (Show text) values asks = absurd asks
operate_asked Replay values asks = absurd (other_name (codes "operate") (codes "replay") values _ refl refl asks)
operate_asked (ReplayNode me n) values asks = absurd (other_name (codes "operate") (codes "replay-node") values _ refl refl asks.2)
operate_asked (Node t) values asks = absurd (other_name (codes "operate") (codes "node") values _ refl refl asks.1)
operate_asked (Client to turns command) values asks = absurd (other_name (codes "operate") (codes "client") values _ refl refl asks.words_are)
operate_asked (Operate to members) values asks = record { to = to; members = members; task_is = refl; address = asks.0; are = asks.1; values_are = tail_of (codes "operate") values _ asks.2 }
operate_asked (Soak number n steps) values asks = absurd (other_name (codes "operate") (codes "soak") values _ refl refl asks.3)
operate_asked (Audit n) values asks = absurd (other_name (codes "operate") (codes "audit") values _ refl refl asks.1)
operate_asked (Lock t) values asks = absurd (other_name (codes "operate") (codes "lock") values _ refl refl asks.1)
operate_asked Delay values asks = absurd (other_name (codes "operate") (codes "delay") values _ refl refl asks)
operate_asked DelayTimes values asks = absurd (other_name (codes "operate") (codes "delay") values _ refl refl asks)
operate_asked ReplayMp values asks = absurd (other_name (codes "operate") (codes "replay-mp") values _ refl refl asks)
operate_asked (Dump me n part) values asks = absurd (other_name (codes "operate") (codes "dump") values _ refl refl asks.2)
