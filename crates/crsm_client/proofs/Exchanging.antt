-- One exchange after another, and the exchange of one call of the port.
use Rattle.std.proofs.Common.{◌≡◌, ◌∙◌, ◌↔◌, ℕ, ◌+◌, List, [], ◌++◌, replicate, Option, Some, None, IsSome, Ok, option_map, is_some, refl, sym, ap, ap₂, subst, append_assoc, append-nil, length-append, arith}
use Rattle.std.proofs.lemmas.List.{map-append, replicate-append-replicate}
use Rattle.crsm_port.specs.Cluster.{over, wrapped}
use Rattle.crsm_port.specs.Meaning.{Framing, Meaning, Packet, Sends, Traffic, with_sent}
use Rattle.crsm_client.specs.Exchange.{Exchange, Exchanges, IsQuiet, Moves, received_of, turns_in}
use Rattle.crsm_client.specs.Turns.{requests}

-- ---- two after one another

-- one exchange and then another
abbrev pub both : Exchange → Exchange → Exchange
both x y = record { received = x.received ++ y.received; empties = x.empties + y.empties; requests = x.requests + y.requests }

pub turns_in-both : (x y : Exchange) → turns_in (both x y) ≡ turns_in x + turns_in y
turns_in-both x y = omega (arith, length-append x.received y.received)

pub some_of : {A : Type 0} (o : Option A) → IsSome o → (x : A) × (o ≡ Some x)
some_of None h = absurd (cc)
some_of (Some x) h = (x, refl)

moves_on : (framing : Framing) (request : Packet) (x y : Exchange) (t v u : Traffic) → Moves framing request x t v → Moves framing request y v u → Moves framing request (both x y) t u
moves_on framing request x y t v u a b = record {
  packets = a.packets ++ b.packets;
  received_are = ap₂ (λ (p q : List Packet). p ++ q) a.received_are b.received_are ∙ sym (map-append (received_of framing) a.packets b.packets);
  waited = a.waited ∙ ap (λ (p : List Packet). a.packets ++ p) b.waited ∙ sym (append_assoc a.packets b.packets u.waiting);
  taken = b.taken ∙ ap (λ (p : List Packet). p ++ b.packets) a.taken ∙ append_assoc t.taken a.packets b.packets;
  sent = b.sent
      ∙ ap (λ (p : List Packet). p ++ replicate y.requests (framing.wrap request)) a.sent
      ∙ append_assoc t.sent (replicate x.requests (framing.wrap request)) (replicate y.requests (framing.wrap request))
      ∙ ap (λ (p : List Packet). t.sent ++ p) (replicate-append-replicate x.requests y.requests (framing.wrap request));
}

pub goes_on : (framing : Framing) (request : Packet) (x y : Exchange) (a b c : Meaning) → Exchanges framing request x a b → Exchanges framing request y b c → Exchanges framing request (both x y) a c
goes_on framing request x y a b c e f = record {
  told = (λ s. f.told.0 (e.told.0 s), λ s. e.told.1 (f.told.1 s));
  moves = λ t u is at.
      let mid = some_of b.traffic (e.told.0 (ap is_some is)) in
      moves_on framing request x y t mid.0 u (e.moves t mid.0 is mid.1) (f.moves mid.0 u mid.1 at);
  empties = let one = e.empties in let two = f.empties in omega arith;
  same_framing = f.same_framing ∙ e.same_framing;
  borrowed_as = f.borrowed_as ∙ e.borrowed_as;
}

pub quiet_on : (a b c : Meaning) → IsQuiet a b → IsQuiet b c → IsQuiet a c
quiet_on a b c p q = record { faults = q.faults ∙ p.faults; losses = q.losses ∙ p.losses }

same_exchange : {r s : List Packet} {e f p q : ℕ} → r ≡ s → e ≡ f → p ≡ q → Path Exchange (record { received = r; empties = e; requests = p }) (record { received = s; empties = f; requests = q })
same_exchange a b c = rw (a, b, c) refl

-- and then this number of requests
pub with_requests : (framing : Framing) (request : Packet) (n : ℕ) (x : Exchange) (a b c : Meaning) → Exchanges framing request x a b → Exchanges framing request (requests n) b c
    → Exchanges framing request (record x { requests = x.requests + n }) a c
with_requests framing request n x a b c e f =
    let P : Exchange → Type 0 = λ y. Exchanges framing request y a c in
    subst P (same_exchange (append-nil x.received) (omega arith) refl) (goes_on framing request x (requests n) a b c e f)

-- and then nothing
pub with_none : (framing : Framing) (request : Packet) (x : Exchange) (a b c : Meaning) → Exchanges framing request x a b → Exchanges framing request (requests 0) b c → Exchanges framing request x a c
with_none framing request x a b c e f =
    let P : Exchange → Type 0 = λ y. Exchanges framing request y a c in
    subst P (same_exchange (append-nil x.received) (omega arith) (omega arith)) (goes_on framing request x (requests 0) a b c e f)

-- ---- nothing

pub none_moved : (framing : Framing) (request : Packet) (t : Traffic) → Moves framing request (requests 0) t t
none_moved framing request t = record { packets = []; received_are = refl; waited = refl; taken = sym (append-nil t.taken); sent = sym (append-nil t.sent) }

-- the traffic of the port is as before
pub none_exchanged : (framing : Framing) (request : Packet) (old new : Meaning) → new.traffic ≡ old.traffic → new.empties ≡ old.empties → new.framing ≡ old.framing → new.borrowed_as ≡ old.borrowed_as
    → Exchanges framing request (requests 0) old new
none_exchanged framing request old new traffic empties same borrowed_as = record {
  told = (λ s. subst IsSome (sym traffic) s, λ s. subst IsSome traffic s);
  moves = λ t u is at. let e : Path Traffic u t = cc in subst (λ (v : Traffic). Moves framing request (requests 0) t v) (sym e) (none_moved framing request t);
  empties = omega (arith, empties);
  same_framing = same;
  borrowed_as = borrowed_as;
}

-- ---- a send

one_moved : (framing : Framing) (request : Packet) (t : Traffic) → Moves framing request (requests 1) t (with_sent (framing.wrap request) t)
one_moved framing request t = record { packets = []; received_are = refl; waited = refl; taken = sym (append-nil t.taken); sent = refl }

is_told : (d : Packet) (t : Option Traffic) → IsSome t ↔ IsSome (option_map (with_sent d) t)
is_told d None = (λ s. s, λ s. s)
is_told d (Some t) = (λ s. s, λ s. s)

pub sent : {T : Type 0} (cluster to : ℕ) (bytes datagram : List ℕ) (old new : Meaning) (x : T) → bytes ≡ wrapped cluster datagram → Sends to bytes old new (Ok x)
    → Exchanges (over cluster old.framing) (record { address = to; bytes = datagram }) (requests 1) old new
sent {T} cluster to bytes datagram old new x is s = record {
  told = (λ k. subst IsSome (sym goes) ((is_told wire old.traffic).0 k), λ k. (is_told wire old.traffic).1 (subst IsSome goes k));
  moves = λ t u a b.
      let e : Path (Option Traffic) (Some u) (Some (with_sent wire t)) = sym b ∙ goes ∙ ap (option_map (with_sent wire)) a in
      let f : Path Traffic u (with_sent wire t) = cc in
      subst (λ (v : Traffic). Moves (over cluster old.framing) request (requests 1) t v) (sym f) (one_moved (over cluster old.framing) request t);
  empties = omega (arith, s.empties);
  same_framing = s.framing;
  borrowed_as = s.borrowed_as;
}
  where
    request : Packet
    request = record { address = to; bytes = datagram }

    wire : Packet
    wire = old.framing.wrap (record { address = to; bytes = wrapped cluster datagram })

    goes : new.traffic ≡ option_map (with_sent wire) old.traffic
    goes = s.sent ∙ ap (λ (b : List ℕ). option_map (with_sent (old.framing.wrap (record { address = to; bytes = b }))) old.traffic) is

-- room that was made before changes nothing of it
pub with_room : (framing : Framing) (request : Packet) (x : Exchange) (old mid new : Meaning) → mid ≡ record old { plan = mid.plan } → Exchanges framing request x mid new → Exchanges framing request x old new
with_room framing request x old mid new same e =
    let traffic : mid.traffic ≡ old.traffic = ap (λ (m : Meaning). m.traffic) same in
    let empties : mid.empties ≡ old.empties = ap (λ (m : Meaning). m.empties) same in
    let last = e.empties in
    record {
      told = (λ s. e.told.0 (subst IsSome (sym traffic) s), λ s. subst IsSome traffic (e.told.1 s));
      moves = λ t u is at. e.moves t u (traffic ∙ is) at;
      empties = omega arith;
      same_framing = e.same_framing ∙ ap (λ (m : Meaning). m.framing) same;
      borrowed_as = e.borrowed_as ∙ ap (λ (m : Meaning). m.borrowed_as) same;
    }
