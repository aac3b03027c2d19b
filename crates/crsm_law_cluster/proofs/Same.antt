-- Inputs with the same step: those of a running node, and those that a replica of a world can receive.
use Rattle.std.proofs.Common.{◌≡◌, ℕ, List, refl, ap, true}
use Rattle.crsm_spec.specs.Types.{Datagram, InEpoch, Outcome}
use Rattle.crsm_spec.specs.Choice.{when◌then◌otherwise◌}
use Rattle.crsm_spec.specs.Replica.{Replica}
use Rattle.crsm_spec.specs.Draft.{begun}
use Rattle.crsm_spec.specs.Clients.{commits, replies}
use Rattle.crsm_spec.specs.Frames.{is_astray, on_frame, on_ack, owed_oks}
use Rattle.crsm_spec.specs.Step.{Input, step, if_fitting, on_part, on_input, on_datagram, idle_at}

-- an Operate is a suspicion of its members
pub operate_is : (r : Replica) (a : ℕ) (ms : List ℕ) (t : ℕ) → step r (Input.Came a (Datagram.Operate ms)) t ≡ step r (Input.Suspected ms) t
unfolding step on_input on_datagram idle_at
operate_is r a ms t = refl

-- the address of what replicas say does not count
pub frame_from : (r : Replica) (a b from to e seq : ℕ) (p : InEpoch) (t : ℕ) → step r (Input.Came a (Datagram.Frame from to e seq p)) t ≡ step r (Input.Came b (Datagram.Frame from to e seq p)) t
unfolding step on_input on_datagram idle_at
frame_from r a b from to e seq p t = refl

pub ack_from : (r : Replica) (a b from to e next t : ℕ) → step r (Input.Came a (Datagram.Ack from to e next)) t ≡ step r (Input.Came b (Datagram.Ack from to e next)) t
unfolding step on_input on_datagram idle_at
ack_from r a b from to e next t = refl

pub part_from : (r : Replica) (a b from to boot number index count : ℕ) (bytes : List ℕ) (t : ℕ) →
    step r (Input.Came a (Datagram.Part from to boot number index count bytes)) t ≡ step r (Input.Came b (Datagram.Part from to boot number index count bytes)) t
unfolding step on_input on_datagram idle_at
part_from r a b from to boot number index count bytes t = refl

-- what is astray does what a reply does: nothing, and the rest of the step follows
pub frame_astray : (r : Replica) (a from to e seq : ℕ) (p : InEpoch) (t : ℕ) (told : Outcome) → is_astray (begun r).replica from to ≡ true →
    step r (Input.Came a (Datagram.Frame from to e seq p)) t ≡ step r (Input.Came a (Datagram.Reply 0 0 told)) t
unfolding step on_input on_datagram idle_at when◌then◌otherwise◌
frame_astray r a from to e seq p t told is = ap (λ c. replies (commits (owed_oks t (if_fitting (begun r) (when c then begun r otherwise on_frame from e seq p (begun r)))))) is

pub ack_astray : (r : Replica) (a from to e next t : ℕ) (told : Outcome) → is_astray (begun r).replica from to ≡ true →
    step r (Input.Came a (Datagram.Ack from to e next)) t ≡ step r (Input.Came a (Datagram.Reply 0 0 told)) t
unfolding step on_input on_datagram idle_at when◌then◌otherwise◌
ack_astray r a from to e next t told is = ap (λ c. replies (commits (owed_oks t (if_fitting (begun r) (when c then begun r otherwise on_ack from e next (begun r)))))) is

pub part_astray : (r : Replica) (a from to boot number index count : ℕ) (bytes : List ℕ) (t : ℕ) (told : Outcome) → is_astray (begun r).replica from to ≡ true →
    step r (Input.Came a (Datagram.Part from to boot number index count bytes)) t ≡ step r (Input.Came a (Datagram.Reply 0 0 told)) t
unfolding step on_input on_datagram idle_at when◌then◌otherwise◌
part_astray r a from to boot number index count bytes t told is =
    ap (λ c. replies (commits (owed_oks t (if_fitting (begun r) (when c then begun r otherwise on_part (record { from = from; boot = boot; number = number; index = index; count = count; bytes = bytes }) (begun r)))))) is
