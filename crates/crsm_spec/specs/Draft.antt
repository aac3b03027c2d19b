-- Drafts: a step in progress, with the replica's state and what the step has recorded, sent and reported.
use Rattle.std.specs.Prelude.{ℕ, ◌+◌, Bool, true, ◌==◌, ◌&&◌, List, [], ◌∷◌, ◌++◌, length, map, fold, Option}
use Rattle.std.specs.List.{enumerate_from}
use Rattle.std.specs.Option.{option_map_or}
use Rattle.crsm_spec.specs.Types.{Stamp, Outcome, Rec, InEpoch, Datagram, Control, Line}
use Rattle.crsm_spec.specs.Clock.{issue, u64_max}
use Rattle.crsm_spec.specs.Log.{known, executed, decision, boots}
use Rattle.crsm_spec.specs.Fits.{fits}
use Rattle.crsm_base.specs.Messages.{control_bytes}
use Rattle.crsm_spec.specs.Lines.{lines_of}
use Rattle.crsm_spec.specs.Parts.{cut}
use Rattle.crsm_spec.specs.Replica.{Replica, Coordinator, frames_to, other_members, others, last_issued}
use Rattle.crsm_spec.specs.Choice.{when◌then◌otherwise◌}

-- A reply to a client: its address, the command, the outcome, and the line of the transcript.
pub record Reply : Type 0 where
  pub address : ℕ
  pub client : ℕ
  pub number : ℕ
  pub says : Outcome
  pub line : Line

-- A step in progress.
pub record Draft : Type 0 where
  pub replica : Replica  -- as the step leaves it so far
  pub batch : List Rec  -- the records of the step, in order
  pub lines : List Line  -- their lines
  pub excess : List Line  -- the lines of refused collections
  pub sends : List (ℕ × Datagram)  -- the datagrams to replicas, behind their receivers, in order
  pub replies : List Reply  -- in order
  pub fitting : Bool  -- each record so far fits

-- the draft of a step that has done nothing
unfoldable pub begun : Replica → Draft
begun r = record { replica = r; batch = []; lines = []; excess = []; sends = []; replies = []; fitting = true }

-- ---- the single things that a step does

-- appends a record
unfoldable pub keep : Rec → Draft → Draft
keep rec x =
    record x {
      replica = record x.replica { log = rec ∷ x.replica.log };
      batch = x.batch ++ rec ∷ [];
      lines = x.lines ++ lines_of x.replica.me x.replica.log rec;
      fitting = x.fitting && fits x.replica.me x.replica.n x.replica.log rec;
    }

-- sends datagram d to replica k
unfoldable pub send : ℕ → Datagram → Draft → Draft
send k d x = record x { sends = x.sends ++ (k, d) ∷ [] }

-- sends a reply to a client
unfoldable pub reply : Reply → Draft → Draft
reply a x = record x { replies = x.replies ++ a ∷ [] }

-- counts the vote of k for the stamp
unfoldable pub count_vote : Stamp → ℕ → Draft → Draft
count_vote s k x = record x { replica = record x.replica { votes = (s, k) ∷ x.replica.votes } }

-- sets the state of the coordinator
unfoldable pub noting : Coordinator → Draft → Draft
noting coordinator x = record x { replica = record x.replica { coordinator = coordinator } }

-- the time that the replica would issue at this reading
unfoldable pub would : Draft → ℕ → Option ℕ
would x reading = issue (last_issued x.replica) reading

-- issues time t
unfoldable pub issued_at : ℕ → Draft → Draft
issued_at t x = record x { replica = record x.replica { issued = t ∷ x.replica.issued } }

-- ---- links

-- the receiver k and the next frame on the link to it
unfoldable pub next_frame : Replica → InEpoch → ℕ → ℕ × Datagram
next_frame r payload k = (k, Datagram.Frame r.me k (known r.log) (length (frames_to r k)) payload)

-- pushes a payload to these replicas: it gets the next sequence number on each link and is sent
unfoldable pub push_to : List ℕ → InEpoch → Draft → Draft
push_to ks payload x =
    let r = x.replica in
    record x {
      replica = record r { pushed = r.pushed ++ map (λ k. (k, payload)) ks };
      sends = x.sends ++ map (next_frame r payload) ks;
    }

-- pushes a payload to each other member
unfoldable pub push_to_members : InEpoch → Draft → Draft
push_to_members payload x = push_to (other_members x.replica) payload x

-- ---- control messages

-- the parts of a control message to k, as datagrams
unfoldable pub parts_to : Replica → ℕ → Control → List (ℕ × Datagram)
parts_to r k c =
    let pieces = cut (control_bytes c) in
    map (λ p. (k, Datagram.Part r.me k (boots r.log) r.made p.0 (length pieces) p.1)) (enumerate_from 0 pieces)

-- sends k a control message, unless this boot has used all message numbers
unfoldable pub send_control : Control → Draft → ℕ → Draft
send_control c x k =
    let r = x.replica in
    when r.made == u64_max then x
    otherwise record x { replica = record r { made = r.made + 1 }; sends = x.sends ++ parts_to r k c }

-- sends the control message to each of these replicas
unfoldable pub send_to_each : List ℕ → Control → Draft → Draft
send_to_each ks c x = fold (send_control c) x ks

-- sends the control message to each other replica of the Spec
unfoldable pub send_to_all : Control → Draft → Draft
send_to_all c x = send_to_each (others x.replica) c x

-- sends k the known decision, if there is one
unfoldable pub send_decision : ℕ → Draft → Draft
send_decision k x = option_map_or (λ d. send_control (Control.Decide d) x k) (decision x.replica.log) x

-- the request for decisions and executed entries beyond this replica's own
unfoldable pub retrieve : Draft → Control
retrieve x = Control.Retrieve (known x.replica.log) (length (executed x.replica.log))

-- asks k for it
unfoldable pub send_retrieve : ℕ → Draft → Draft
send_retrieve k x = send_control (retrieve x) x k
