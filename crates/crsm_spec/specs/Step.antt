-- One step of a replica: the rule of its input, and the phases that follow in every step.
use Rattle.std.specs.Prelude.{nat_lt, ℕ, not, List, [], ◌∷◌, filter, fold, Option, None, Some}
use Rattle.std.specs.Option.{option_map_or}
use Rattle.crsm_spec.specs.Types.{Rec, Datagram, Control}
use Rattle.crsm_spec.specs.Log.{Log, known, active}
use Rattle.crsm_base.specs.MessageReading.{control_of}
use Rattle.crsm_spec.specs.Replica.{Replica, Coordinator, LogPage, fresh, others}
use Rattle.crsm_spec.specs.Parts.{Piece}
use Rattle.crsm_spec.specs.Parts.{with_part, whole_with}
use Rattle.crsm_spec.specs.Draft.{Draft, begun, keep, send_control, send_to_all, retrieve}
use Rattle.crsm_spec.specs.Collect.{is_whole, cursor}
use Rattle.crsm_spec.specs.Clients.{on_request, commits, replies}
use Rattle.crsm_spec.specs.Frames.{is_astray, on_frame, on_ack, owed_oks, idle, send_again}
use Rattle.crsm_spec.specs.Coordinate.{accept_own, send_proposal, send_ask, begin_proposing, on_suspect}
use Rattle.crsm_spec.specs.Controls.{on_control}
use Rattle.crsm_spec.specs.Choice.{when◌then◌otherwise◌}

-- An input of a replica: a datagram from an address, a tick, or a suspicion with the members that it asks for.
pub data Input : Type 0 where
  Came : (from : ℕ) (d : Datagram) → Input
  Ticked : Input
  Suspected : (members : List ℕ) → Input

-- the draft of an input, or nothing of it where its records would not fit
unfoldable pub if_fitting : Draft → Draft → Draft
if_fitting x y = when y.fitting then y otherwise x

-- ---- parts

-- bytes that are no control message change nothing
unfoldable pub on_whole_message : ℕ → Option Control → Draft → Draft
on_whole_message k None x = x
on_whole_message k (Some c) x = on_control k c x

-- Handles a part: the message that is complete with it is handled. If its records would not fit, the message is ignored
-- and the part is kept.
unfoldable pub on_part : Piece → Draft → Draft
on_part p x =
    let parts = x.replica.parts in
    let y = record x { replica = record x.replica { parts = with_part p parts } } in
    option_map_or (λ bytes. if_fitting y (on_whole_message p.from (control_of bytes) y)) (whole_with p parts) y

-- ---- ticks

-- requests the next page from k
unfoldable pub ask_page : List LogPage → Draft → ℕ → Draft
ask_page pages x k = send_control (Control.Suspend (known x.replica.log) (cursor pages k)) x k

-- the other replicas whose report is not complete
unfoldable pub missing : Replica → List LogPage → List ℕ
missing r pages = filter (λ k. not (is_whole pages k)) (others r)

-- requests the next page from each of them
unfoldable pub send_collect : List LogPage → Draft → Draft
send_collect pages x = fold (ask_page pages) x (missing x.replica pages)

-- retransmits the messages of the coordinator's phase
unfoldable pub renew : Coordinator → Draft → Draft
renew Coordinator.Idle x = x
renew (Coordinator.Collecting ms pages) x = send_collect pages x
renew (Coordinator.Preparing b own answers) x = send_ask (Coordinator.Preparing b own answers) x
renew (Coordinator.Proposing b own value acceptors) x =
    let y = accept_own b own value acceptors x in send_proposal y.replica.coordinator y
renew (Coordinator.Preempted own seen) x = begin_proposing own seen x

-- while not active: sends RETRIEVE to all
unfoldable pub ask_all : Draft → Draft
ask_all x = when active x.replica.log then x otherwise send_to_all (retrieve x) x

-- Handles a tick: retransmits frames while active, and otherwise the coordinator's messages and RETRIEVE.
unfoldable pub on_tick : Draft → Draft
on_tick x = when active x.replica.log then send_again x otherwise ask_all (renew x.replica.coordinator x)

-- ---- the rule of each input

-- Handles a datagram from an address. A reply is ignored.
unfoldable pub on_datagram : ℕ → Datagram → ℕ → Draft → Draft
on_datagram address (Datagram.Frame from to epoch seq payload) reading x =
    when is_astray x.replica from to then x otherwise on_frame from epoch seq payload x
on_datagram address (Datagram.Ack from to epoch next) reading x =
    when is_astray x.replica from to then x otherwise on_ack from epoch next x
on_datagram address (Datagram.Part from to boot number index count bytes) reading x =
    when is_astray x.replica from to then x
    otherwise on_part (record { from = from; boot = boot; number = number; index = index; count = count; bytes = bytes }) x
on_datagram address (Datagram.Request c) reading x = on_request address c reading x
on_datagram address (Datagram.Reply client number told) reading x = x
on_datagram address (Datagram.Operate ms) reading x = on_suspect ms x

-- the rule of an input
unfoldable pub on_input : Input → ℕ → Draft → Draft
on_input (Input.Came from d) reading x = on_datagram from d reading x
on_input Input.Ticked reading x = on_tick x
on_input (Input.Suspected ms) reading x = on_suspect ms x

-- ---- the step

-- the idle rule, at a tick
unfoldable pub idle_at : Input → ℕ → Draft → Draft
idle_at Input.Ticked reading x = idle reading x
idle_at _ reading x = x

-- One step: the rule of the input, the PREPAREOKs that are due, at a tick the clock time, the commits, the replies.
unfoldable pub step : Replica → Input → ℕ → Draft
step r input reading =
    let x = begun r in
    let y = if_fitting x (on_input input reading x) in
    replies (commits (idle_at input reading (owed_oks reading y)))

-- ---- boots

-- records a boot
unfoldable pub boot_again : ℕ → ℕ → Log → Draft
boot_again me n log = keep (Rec.Boot me n) (begun (fresh me n log))

-- the first boot of a replica that began the cluster: it enters epoch 0
unfoldable pub founding_boot : ℕ → ℕ → Draft
founding_boot me n = keep (Rec.Enter 0) (boot_again me n [])

-- The boot on an empty disk; a replica with a new number enters no epoch.
unfoldable pub first_boot : ℕ → ℕ → Draft
first_boot me n = when nat_lt me n then founding_boot me n otherwise boot_again me n []

-- The boot on a log.
unfoldable pub boot : ℕ → ℕ → Log → Draft
boot me n [] = first_boot me n
boot me n (rec ∷ log) = boot_again me n (rec ∷ log)
