-- The datagrams that a shell has sent over a port which keeps them.
use Rattle.std.proofs.Common.{◌≡◌, ◌<◌, ℕ, List, [], ◌∷◌, ◌++◌, length, map, drop, Option, refl, sym, ◌∙◌, ap, subst, arith, append-nil}
use Rattle.std.specs.List.{AllByRecursion, flat_map}
use Rattle.std.specs.Option.{option_map_or}
use Rattle.std.proofs.lemmas.List.{map-append, length-map}
use Rattle.std.proofs.lemmas.List.Concat.{flat_map-append}
use Rattle.std.proofs.lemmas.Option.{slice_get-get_or}
use Rattle.crsm_base.specs.Messages.{datagram_bytes}
use Rattle.crsm_base.specs.declared.send.Send.{Send}
use Rattle.crsm_base.specs.declared.send.To.{To}
use Rattle.crsm_base.specs.declared.send.To.TheVariants as to_whom
use Rattle.crsm_core.specs.Core.{Answers, FitsSent, FitsTo}
use Rattle.crsm_fact_log.proofs.Lists.{all-append}
use Rattle.crsm_replica_output.specs.declared.batch.Batch.{Batch}
use Rattle.crsm_replica_output.specs.Made.{to_replica, to_address}
use Rattle.crsm_port.specs.Meaning.{Packet, Traffic, plain}
use Rattle.crsm_port.specs.Memory.{Memory, meaning_of}
use Rattle.crsm_spec.specs.Draft.{Draft}
use Rattle.crsm_shell.specs.Flushing.{SendsPackets}
use Rattle.crsm_shell.specs.Shell.{sends_in, sends_of}
use Rattle.crsm_replica_io.specs.Outgoing.{address_of, packet_for, packets_for, sent_packets}
use Rattle.crsm_sim_machine.specs.Outcomes.{IsWell, Sends}

-- ---- each goes to a replica or to an address

pub no_sends : AllByRecursion FitsSent (sends_of [])
unfolding sends_of
no_sends = tt

pub fits_taken : (steps : List Draft) (x : Draft) (batch : Batch) → AllByRecursion FitsSent (sends_of steps) → Answers batch x → AllByRecursion FitsSent (sends_of (steps ++ x ∷ []))
unfolding sends_of sends_in
fits_taken steps x batch fits answers =
    let here : AllByRecursion FitsSent (map to_replica x.sends ++ map to_address x.replies) = subst (λ (ss : List Send). AllByRecursion FitsSent ss) answers.made.sends answers.sends in
    let e : sends_of (steps ++ x ∷ []) ≡ sends_of steps ++ sends_in x = flat_map-append sends_in steps (x ∷ []) ∙ ap (λ ss. sends_of steps ++ ss) (append-nil (sends_in x)) in
    subst (λ (ss : List Send). AllByRecursion FitsSent ss) (sym e) (all-append FitsSent (sends_of steps) (sends_in x) fits here)

-- ---- so each is a packet

abbrev bytes_of : Packet → List ℕ
bytes_of d = d.bytes

abbrev text_of : Send → List ℕ
text_of s = datagram_bytes s.datagram

text_one : (peers : List ℕ) (s : Send) → length peers ≡ 15 → FitsTo s.to → map bytes_of (packet_for peers s) ≡ text_of s ∷ []
unfolding packet_for
text_one peers s l fits = go s.to fits
  where
    go : (to : To) → FitsTo to → map bytes_of (sent_packets (address_of peers to) (text_of s)) ≡ text_of s ∷ []
    go (to_whom.Replica k) f = ap (λ (o : Option ℕ). map bytes_of (sent_packets o (text_of s))) (slice_get-get_or peers k 0 (let few : k < 15 = f in omega (arith, l, few)))
    go (to_whom.Address a) f = refl

texts_all : (peers : List ℕ) (sends : List Send) → length peers ≡ 15 → AllByRecursion FitsSent sends → map bytes_of (packets_for peers sends) ≡ map text_of sends
unfolding packets_for
texts_all peers [] l fits = refl
texts_all peers (s ∷ sends) l fits =
    map-append bytes_of (packet_for peers s) (flat_map (packet_for peers) sends)
    ∙ ap (λ ts. ts ++ map bytes_of (flat_map (packet_for peers) sends)) (text_one peers s l fits.0.0)
    ∙ ap (λ ts. text_of s ∷ ts) (texts_all peers sends l fits.1)

unwrapped : (ds : List Packet) → map plain.wrap ds ≡ ds
unwrapped [] = refl
unwrapped (d ∷ ds) = ap (λ es. d ∷ es) (unwrapped ds)

drop_seam : {X : Type 0} (xs ys : List X) → drop (length xs) (xs ++ ys) ≡ ys
drop_seam [] ys = refl
drop_seam (x ∷ xs) ys = drop_seam xs ys

sent_texts : (old new : List Packet) (first : ℕ) (peers : List ℕ) (sends : List Send) → length peers ≡ 15 → AllByRecursion FitsSent sends → first ≡ length old
    → new ≡ old ++ map plain.wrap (packets_for peers sends) → drop first (map bytes_of new) ≡ map text_of sends
sent_texts old new first peers sends l fits f e =
    let packets = packets_for peers sends in
    let split : map bytes_of new ≡ map bytes_of old ++ map bytes_of packets = ap (map bytes_of) (e ∙ ap (λ ds. old ++ ds) (unwrapped packets)) ∙ map-append bytes_of old packets in
    ap (λ n. drop n (map bytes_of new)) (f ∙ sym (length-map old bytes_of)) ∙ ap (drop (length (map bytes_of old))) split ∙ drop_seam (map bytes_of old) (map bytes_of packets) ∙ texts_all peers sends l fits

-- what a flush has sent
pub sends_all : (before after : Memory) (first : ℕ) (peers : List ℕ) (steps : List Draft) → length peers ≡ 15 → AllByRecursion FitsSent (sends_of steps) → IsWell before → first ≡ length before.sent
    → SendsPackets (packets_for peers (sends_of steps)) (meaning_of before) (meaning_of after) → Sends after first steps
sends_all before after first peers steps l fits well f sent =
    let went = sent.whole well in
    record { texts = sent_texts before.sent after.sent first peers (sends_of steps) l fits f (ap (λ (o : Option Traffic). option_map_or (λ t. t.sent) o []) went.0); well = went.2 }
