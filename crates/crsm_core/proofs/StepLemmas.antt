-- The rule of each input, and the step.
use Rattle.std.proofs.Common.{◌≡◌, ℕ, ◌<◌, ◌≤◌, refl, ap, sym, subst, Bool, true, false, List, [], ◌∷◌, ◌++◌, map}
use Rattle.std.specs.Prelude.{◌≢◌, ◌==◌, ◌||◌, not, nat_lt, None, Some}
use Rattle.std.specs.List.{AllByRecursion}
use Rattle.crsm_base.specs.declared.send.Send.{Send}
use Rattle.crsm_base.specs.MessageReading.{control_of}
use Rattle.crsm_base.specs.Records.{FitsRec}
use Rattle.crsm_spec.specs.Types.{Command, InEpoch, Datagram, Control, Outcome}
use Rattle.crsm_spec.specs.Choice.{when◌then◌otherwise◌}
use Rattle.crsm_spec.specs.Replica.{Replica}
use Rattle.crsm_spec.specs.Draft.{Draft, Reply, begun}
use Rattle.crsm_spec.specs.Parts.{Piece, with_part, whole_with}
use Rattle.crsm_spec.specs.Frames.{is_astray, on_frame, on_ack, owed_oks, idle}
use Rattle.crsm_spec.specs.Coordinate.{on_suspect}
use Rattle.crsm_spec.specs.Controls.{on_control}
use Rattle.crsm_spec.specs.Clients.{on_request, commits, replies}
use Rattle.crsm_spec.specs.Step.{Input as InputOnPaper, if_fitting, on_whole_message, on_part, on_tick, on_datagram, on_input, idle_at, step}
use Rattle.crsm_replica_output.specs.declared.batch.Batch.{Batch}
use Rattle.crsm_replica_output.specs.Made.{made_of, IsBatchOf, to_replica, to_address}
use Rattle.crsm_replica.specs.declared.state.ReplicaState.{ReplicaState}
use Rattle.crsm_replica.specs.Sound.{IsSound, FitsSend, FitsReply}
use Rattle.crsm_replica.specs.Replica.{ReplicaStands}
use Rattle.crsm_segment.specs.Taking.{piece}
use Rattle.crsm_core.specs.declared.input.Input.{Input}
use Rattle.crsm_core.specs.Inputs.{input_of}
use Rattle.crsm_core.specs.Core.{Answers, FitsSent}
use Rattle.crsm_core.proofs.Fitting.{stands_as, is_lt, not_lt, is_eq, not_eq}

-- ---- datagrams for another replica

pub no_replica : (r : Replica) (from to : ℕ) → 14 < from → true ≡ is_astray r from to
unfolding is_astray
no_replica r from to l = rw (is_lt 14 from l) refl

pub from_here : (r : Replica) (from to : ℕ) → from ≤ 14 → from ≡ r.me → true ≡ is_astray r from to
unfolding is_astray
from_here r from to l e = rw (not_lt 14 from l, is_eq from r.me e) refl

pub from_there : (r : Replica) (from to : ℕ) → from ≤ 14 → from ≢ r.me → not (to == r.me) ≡ is_astray r from to
unfolding is_astray
from_there r from to l e = rw (not_lt 14 from l, not_eq from r.me e) refl

stray : (b c : Bool) → ((b || true) || c) ≡ false → ⊥
stray true c h = cc
stray false c h = cc

pub is_another : (r : Replica) (from to : ℕ) → is_astray r from to ≡ false → from ≢ r.me
unfolding is_astray
is_another r from to h e = stray (nat_lt 14 from) (not (to == r.me)) (rw (is_eq from r.me e) at h)

-- ---- parts

-- one more part has come
abbrev pub parted : Piece → Draft → Draft
parted p x = record x { replica = record x.replica { parts = with_part p x.replica.parts } }

pub part_alone : (p : Piece) (x : Draft) → None ≡ whole_with p x.replica.parts → parted p x ≡ on_part p x
unfolding on_part
part_alone p x h = rw (← h) refl

pub part_whole : (p : Piece) (x : Draft) (bytes : List ℕ) → Some bytes ≡ whole_with p x.replica.parts →
    if_fitting (parted p x) (on_whole_message p.from (control_of bytes) (parted p x)) ≡ on_part p x
unfolding on_part
part_whole p x bytes h = rw (← h) refl

pub no_message : (k : ℕ) (bytes : List ℕ) (x : Draft) → control_of bytes ≡ None → x ≡ on_whole_message k (control_of bytes) x
unfolding on_whole_message
no_message k bytes x h = rw h refl

pub a_message : (k : ℕ) (bytes : List ℕ) (c : Control) (x : Draft) → control_of bytes ≡ Some c → on_control k c x ≡ on_whole_message k (control_of bytes) x
unfolding on_whole_message
a_message k bytes c x h = rw h refl

-- ---- datagrams

pub stray_frame : (address from to epoch seq reading : ℕ) (p : InEpoch) (x : Draft) → is_astray x.replica from to ≡ true →
    x ≡ on_datagram address (Datagram.Frame from to epoch seq p) reading x
unfolding on_datagram when◌then◌otherwise◌
stray_frame address from to epoch seq reading p x h = rw h refl

pub a_frame : (address from to epoch seq reading : ℕ) (p : InEpoch) (x : Draft) → is_astray x.replica from to ≡ false →
    on_frame from epoch seq p x ≡ on_datagram address (Datagram.Frame from to epoch seq p) reading x
unfolding on_datagram when◌then◌otherwise◌
a_frame address from to epoch seq reading p x h = rw h refl

pub stray_ack : (address from to epoch next reading : ℕ) (x : Draft) → is_astray x.replica from to ≡ true →
    x ≡ on_datagram address (Datagram.Ack from to epoch next) reading x
unfolding on_datagram when◌then◌otherwise◌
stray_ack address from to epoch next reading x h = rw h refl

pub an_ack : (address from to epoch next reading : ℕ) (x : Draft) → is_astray x.replica from to ≡ false →
    on_ack from epoch next x ≡ on_datagram address (Datagram.Ack from to epoch next) reading x
unfolding on_datagram when◌then◌otherwise◌
an_ack address from to epoch next reading x h = rw h refl

pub stray_part : (address from to boot number index count reading : ℕ) (bytes : List ℕ) (x : Draft) → is_astray x.replica from to ≡ true →
    x ≡ on_datagram address (Datagram.Part from to boot number index count bytes) reading x
unfolding on_datagram when◌then◌otherwise◌
stray_part address from to boot number index count reading bytes x h = rw h refl

pub a_part : (address from to boot number index count reading : ℕ) (bytes : List ℕ) (x : Draft) → is_astray x.replica from to ≡ false →
    on_part (piece from boot number index count bytes) x ≡ on_datagram address (Datagram.Part from to boot number index count bytes) reading x
unfolding on_datagram when◌then◌otherwise◌
a_part address from to boot number index count reading bytes x h = rw h refl

pub a_request : (address reading : ℕ) (c : Command) (x : Draft) → on_request address c reading x ≡ on_datagram address (Datagram.Request c) reading x
unfolding on_datagram
a_request address reading c x = refl

pub a_reply : (address client number reading : ℕ) (told : Outcome) (x : Draft) → x ≡ on_datagram address (Datagram.Reply client number told) reading x
unfolding on_datagram
a_reply address client number reading told x = refl

pub a_wish : (address reading : ℕ) (ms : List ℕ) (x : Draft) → on_suspect ms x ≡ on_datagram address (Datagram.Operate ms) reading x
unfolding on_datagram
a_wish address reading ms x = refl

-- ---- inputs

pub of_datagram : (from reading : ℕ) (d : Datagram) (x : Draft) → on_datagram from d reading x ≡ on_input (input_of (Input.Datagram from d)) reading x
unfolding on_input input_of
of_datagram from reading d x = refl

pub of_tick : (reading : ℕ) (x : Draft) → on_tick x ≡ on_input (input_of Input.Tick) reading x
unfolding on_input input_of
of_tick reading x = refl

pub of_suspicion : (reading : ℕ) (ms : List ℕ) (x : Draft) → on_suspect ms x ≡ on_input (input_of (Input.Suspect ms)) reading x
unfolding on_input input_of
of_suspicion reading ms x = refl

pub idle_then : (reading : ℕ) (x : Draft) → idle reading x ≡ idle_at (input_of Input.Tick) reading x
unfolding idle_at input_of
idle_then reading x = refl

pub not_then : (from reading : ℕ) (d : Datagram) (x : Draft) → x ≡ idle_at (input_of (Input.Datagram from d)) reading x
unfolding idle_at input_of
not_then from reading d x = refl

pub nor_then : (reading : ℕ) (ms : List ℕ) (x : Draft) → x ≡ idle_at (input_of (Input.Suspect ms)) reading x
unfolding idle_at input_of
nor_then reading ms x = refl

-- another draft that is equal ends in the same way
pub fitted_as : (state : ReplicaState) (x y z : Draft) → y ≡ z → ReplicaStands state (if_fitting x y) → ReplicaStands state (if_fitting x z)
fitted_as state x y z e s = stands_as state (if_fitting x y) (if_fitting x z) (ap (λ d. if_fitting x d) e) s

pub step_is : (r : Replica) (input : InputOnPaper) (reading : ℕ) →
    replies (commits (idle_at input reading (owed_oks reading (if_fitting (begun r) (on_input input reading (begun r)))))) ≡ step r input reading
unfolding step
step_is r input reading = refl

pub begun_is : (r : Replica) → (begun r).replica ≡ r
unfolding begun
begun_is r = refl

-- ---- what is answered

sends_fit : (xs : List (ℕ × Datagram)) → AllByRecursion FitsSend xs → AllByRecursion FitsSent (map to_replica xs)
unfolding to_replica
sends_fit [] h = h
sends_fit (x ∷ xs) h = (h.0, sends_fit xs h.1)

replies_fit : (told : List Reply) → AllByRecursion FitsReply told → AllByRecursion FitsSent (map to_address told)
unfolding to_address
replies_fit [] h = h
replies_fit (a ∷ rest) h = ((tt, h.0.1), replies_fit rest h.1)

all_of_both : (xs ys : List Send) → AllByRecursion FitsSent xs → AllByRecursion FitsSent ys → AllByRecursion FitsSent (xs ++ ys)
all_of_both [] ys h i = i
all_of_both (x ∷ xs) ys h i = (h.0, all_of_both xs ys h.1 i)

pub answered : (batch : Batch) (x : Draft) → IsSound x → IsBatchOf batch (made_of x) → Answers batch x
answered batch x sound made =
    record {
      made = made;
      records = subst (λ recs. AllByRecursion FitsRec recs) (sym made.records) sound.batch;
      sends = subst (λ ss. AllByRecursion FitsSent ss) (sym made.sends)
          (all_of_both (map to_replica x.sends) (map to_address x.replies) (sends_fit x.sends sound.sends) (replies_fit x.replies sound.replies));
    }
