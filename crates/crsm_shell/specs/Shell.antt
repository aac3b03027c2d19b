-- What a shell stands for.
use Rattle.std.specs.Prelude.{◌≡◌, ℕ, List, [], ◌++◌, length, map, false, IsTrue}
use Rattle.std.specs.List.{flat_map, AllByRecursion}
use Rattle.crsm_base.specs.declared.send.Send.{Send}
use Rattle.crsm_base.specs.Records.{FitsRec, body_bytes}
use Rattle.crsm_spec.specs.Types.{Rec}
use Rattle.crsm_spec.specs.Log.{Log}
use Rattle.crsm_spec.specs.Replica.{Replica}
use Rattle.crsm_spec.specs.Draft.{Draft}
use Rattle.crsm_replica_output.specs.Made.{to_replica, to_address}
use Rattle.crsm_ledger.specs.Recovered.{AreKept, with_records}
use Rattle.crsm_log.specs.Format.{reading, found, bodies_of}
use Rattle.crsm_disk.specs.Meaning.{Meaning}
use Rattle.crsm_replica_io.specs.Outgoing.{packets_for}
use Rattle.crsm_core.specs.Core.{CoreStands}
use Rattle.crsm_shell.specs.declared.shell.Shell.{Shell}
use Rattle.crsm_shell.specs.Words.{disk_of}
use Rattle.crsm_port_image.specs.Calls.{History}

-- ---- steps that are pending

-- the records of these steps, in order
unfoldable pub records_of : List Draft → List Rec
records_of steps = flat_map (λ x. x.batch) steps

-- the body of the log that keeps them
abbrev pub group_body : List Draft → List ℕ
group_body steps = body_bytes (records_of steps)

-- the datagrams that a step sends to replicas, and then the replies
unfoldable pub sends_in : Draft → List Send
sends_in x = map to_replica x.sends ++ map to_address x.replies

-- the datagrams that these steps send, in order
unfoldable pub sends_of : List Draft → List Send
sends_of steps = flat_map sends_in steps

-- ---- the file of a log

pub record IsLogOf (me n : ℕ) (file : List ℕ) (log : Log) : Type 0 where
  pub whole : reading file ≡ found (bodies_of file)
  pub kept : AreKept me n [] (bodies_of file) log

-- The file is whole, its bodies are records of replica me that fit one behind the other, and the log is of these.
unfoldable pub HasLog : (me n : ℕ) → List ℕ → Log → Type 0
HasLog me n file log = IsLogOf me n file log

-- ---- the shell

pub record StandsInside {D : Type 0} {g : _} (shell : Shell D g) (m : Meaning) (kept : Log) (r : Replica) (steps : List Draft) : Type 0 where
  pub core : CoreStands shell.core.value r
  pub well : shell.failed ≡ false
  pub body : shell.body ≡ body_bytes (records_of steps)
  pub spelt : AllByRecursion FitsRec (records_of steps)
  pub outbox : shell.outbox ≡ packets_for shell.peers.items (sends_of steps)
  pub pending : shell.pending ≡ length steps
  pub log : r.log ≡ with_records kept (records_of steps)
  pub file : IsTrue m.honest → HasLog r.me r.n m.seen kept

-- The shell, whose disk means m, is that of replica r. On the disk is the log `kept`; these steps came since and are
-- pending. It has not failed.
unfoldable pub ShellStands : {D : Type 0} {g : _} → Shell D g → Meaning → (kept : Log) → Replica → (steps : List Draft) → Type 0
ShellStands shell m kept r steps = StandsInside shell m kept r steps

-- a fact of each log, replica and pending steps that the shell stands for, where its disk has this meaning
abbrev pub WhereStands : {D : Type 0} {g : _} → (D → Meaning) → Shell D g → (Log → Replica → List Draft → Type 0) → Type 0
WhereStands meaning shell P = (kept : Log) (r : Replica) (steps : List Draft) → ShellStands shell (meaning (disk_of shell)) kept r steps → P kept r steps

-- the same where the disk is honest
abbrev pub WhereHonest : {D : Type 0} {g : _} → (D → Meaning) → Shell D g → (Log → Replica → List Draft → Type 0) → Type 0
WhereHonest meaning shell P = (kept : Log) (r : Replica) (steps : List Draft) → ShellStands shell (meaning (disk_of shell)) kept r steps → IsTrue (meaning (disk_of shell)).honest → P kept r steps

-- the same for any history of calls, and any byte that fills what a crash tears
abbrev pub WhereHistory : {D : Type 0} {g : _} → (D → Meaning) → Shell D g → (Log → Replica → List Draft → History → ℕ → Type 0) → Type 0
WhereHistory meaning shell P =
    (kept : Log) (r : Replica) (steps : List Draft) (h : History) (fill : ℕ) →
    ShellStands shell (meaning (disk_of shell)) kept r steps → IsTrue (meaning (disk_of shell)).honest → P kept r steps h fill

-- for the log that an honest disk has
abbrev pub WhereHasLog : (me n : ℕ) → Meaning → (Log → Type 0) → Type 0
WhereHasLog me n m P = (log : Log) → IsTrue m.honest → HasLog me n m.seen log → P log
