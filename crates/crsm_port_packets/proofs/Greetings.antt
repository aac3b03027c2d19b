-- The peers stay the same, one call after another.
use Rattle.std.proofs.Common.{◌≡◌, ◌∙◌, ◌+◌, ◌<◌, ◌≤◌, ◌++◌, ℕ, zero, suc, List, [], ◌∷◌, None, length, map, set, take, refl, sym, ap, ap₂, subst, arith, inl, inr}
use Rattle.std.proofs.lemmas.List.Elements.{All-push, Contains-get_or}
use Rattle.std.specs.Prelude.{◌⊎◌, Contains, Result, slice_index_or}
use Rattle.crsm_base.specs.declared.memory.Failed.{Failed}
use Rattle.crsm_port.specs.Meaning.{Meaning, Packet, Sends, SendsAll}
use Rattle.crsm_port_packets.specs.Given.{AllGreet, LetsGo}
use Rattle.crsm_port_packets.specs.Peers.{IsPeer, SamePeers, addresses_of}
use Rattle.crsm_port_packets.specs.declared.peer.Peer.{Peer}
use Rattle.crsm_port_packets.proofs.Goings.{let_go_both, sends_both}

-- a peer to which a packet went
pub same_set : (start peers : List Peer) (i : ℕ) (d p : Peer) → i < length peers → (let was : Peer = record (slice_index_or peers i d) { greeted_at = None } in (record p { greeted_at = None }) ≡ was) → SamePeers start peers → SamePeers start (set peers i p)
same_set start peers i d p lt is before = go peers i lt is ∙ before
  where
    go : (xs : List Peer) (k : ℕ) → k < length xs → (let was : Peer = record (slice_index_or xs k d) { greeted_at = None } in (record p { greeted_at = None }) ≡ was)
        → map (λ (q : Peer). record q { greeted_at = None }) (set xs k p) ≡ map (λ (q : Peer). record q { greeted_at = None }) xs
    go [] k within same = absurd (omega (arith, within))
    go (x ∷ xs) zero within same = ap (λ (q : Peer). q ∷ map (λ (r : Peer). record r { greeted_at = None }) xs) same
    go (x ∷ xs) (suc k) within same = ap (λ (r : List Peer). (record x { greeted_at = None }) ∷ r) (go xs k (omega (arith, within)) same)

pub same_addresses : (start peers : List Peer) → SamePeers start peers → addresses_of peers ≡ addresses_of start
same_addresses [] [] same = refl
same_addresses [] (p ∷ peers) same = absurd (cc)
same_addresses (q ∷ start) [] same = absurd (cc)
same_addresses (q ∷ start) (p ∷ peers) same =
    let one : (record p { greeted_at = None }) ≡ (record q { greeted_at = None }) = cc in
    let rest : map (λ (r : Peer). record r { greeted_at = None }) peers ≡ map (λ (r : Peer). record r { greeted_at = None }) start = cc in
    ap₂ (λ (a : ℕ) (places : List ℕ). a ∷ places) (ap (λ (r : Peer). r.address) one) (same_addresses start peers rest)

-- the addresses up to one more
addresses_more : (peers : List Peer) (i : ℕ) (d : Peer) → i < length peers → addresses_of (take (i + 1) peers) ≡ addresses_of (take i peers) ++ (slice_index_or peers i d).address ∷ []
addresses_more peers i d lt = let next : i + 1 ≡ suc i = omega arith in ap (λ (n : ℕ). addresses_of (take n peers)) next ∙ go peers i lt
  where
    go : (xs : List Peer) (k : ℕ) → k < length xs → addresses_of (take (suc k) xs) ≡ addresses_of (take k xs) ++ (slice_index_or xs k d).address ∷ []
    go [] k within = absurd (omega (arith, within))
    go (x ∷ xs) zero within = refl
    go (x ∷ xs) (suc k) within = ap (λ (places : List ℕ). x.address ∷ places) (go xs k (omega (arith, within)))

address_at : (xs : List Peer) (i : ℕ) (d e : Peer) → i < length xs → (slice_index_or xs i d).address ≡ slice_index_or (addresses_of xs) i e.address
address_at [] i d e lt = absurd (omega (arith, lt))
address_at (x ∷ xs) zero d e lt = refl
address_at (x ∷ xs) (suc i) d e lt = address_at xs i d e (omega (arith, lt))

long : (xs : List Peer) → length (addresses_of xs) ≡ length xs
long [] = refl
long (x ∷ xs) = ap (λ (n : ℕ). suc n) (long xs)

module _ (start peers : List Peer) (i : ℕ) (same : SamePeers start peers) (lt : i < length peers) where
  within : i < length start
  within = omega (arith, lt, long start, long peers, ap (λ (places : List ℕ). length places) (same_addresses start peers same))

  at_start : (d : Peer) → (slice_index_or peers i d).address ≡ (slice_index_or start i d).address
  at_start d = address_at peers i d d lt ∙ ap (λ (places : List ℕ). slice_index_or places i d.address) (same_addresses start peers same) ∙ sym (address_at start i d d within)

  -- what waits for one more of the peers is sent
  pub peer_more : (d : Peer) (to : ℕ) (waiting : List Packet) (old mid new : Meaning) → to ≡ (slice_index_or peers i d).address → LetsGo (addresses_of (take i start)) waiting old mid → LetsGo (to ∷ []) waiting mid new
      → LetsGo (addresses_of (take (i + 1) start)) waiting old new
  peer_more d to waiting old mid new is before now =
      subst (λ (places : List ℕ). LetsGo places waiting old new) (sym (addresses_more start i d within ∙ ap (λ (a : ℕ). addresses_of (take i start) ++ a ∷ []) (sym (at_start d) ∙ sym is)))
      (let_go_both (addresses_of (take i start)) (to ∷ []) waiting old mid new before now)

  -- one more of the peers may be greeted
  pub greets_more : (d : Peer) (to : ℕ) (M : Meaning) (mid new : Meaning) (greetings : List Packet) → to ≡ (slice_index_or peers i d).address → AllGreet (addresses_of start) greetings → SendsAll greetings M mid
      → (new ≡ mid) ⊎ ((result : Result (Unit {0}) Failed) × Sends to (20 ∷ 0 ∷ []) mid new result) → (more : List Packet) × AllGreet (addresses_of start) more × SendsAll more M new
  greets_more d to M mid new greetings is all sent goes = elim goes [
    | inl none ↦ (greetings, all, subst (λ (m : Meaning). SendsAll greetings M m) (sym none) sent)
    | inr w ↦ (
      greetings ++ (record { address = to; bytes = 20 ∷ 0 ∷ [] }) ∷ [],
      All-push (λ (p : Packet). (p.bytes ≡ 20 ∷ 0 ∷ []) × Contains (addresses_of start) p.address) greetings (record { address = to; bytes = 20 ∷ 0 ∷ [] }) all (refl, there),
      sends_both greetings ((record { address = to; bytes = 20 ∷ 0 ∷ [] }) ∷ []) M mid new sent (new, w.0, w.1, refl),
    )
  ]
    where
      there : Contains (addresses_of start) to
      there = subst (λ (a : ℕ). Contains (addresses_of start) a) (sym (is ∙ at_start d ∙ address_at start i d d within))
          (Contains-get_or (addresses_of start) i d.address (omega (arith, within, long start)))

pub all_peers : (start : List Peer) (i : ℕ) (waiting : List Packet) (old new : Meaning) → length start ≤ i → LetsGo (addresses_of (take i start)) waiting old new → LetsGo (addresses_of start) waiting old new
all_peers start i waiting old new le goes = subst (λ (ps : List Peer). LetsGo (addresses_of ps) waiting old new) (whole start i le) goes
  where
    whole : (ps : List Peer) (k : ℕ) → length ps ≤ k → take k ps ≡ ps
    whole [] zero short = refl
    whole [] (suc k) short = refl
    whole (p ∷ ps) zero short = absurd (omega (arith, short))
    whole (p ∷ ps) (suc k) short = ap (λ (r : List Peer). p ∷ r) (whole ps k (omega (arith, short)))

pub port_goes : {X : Type 0} (M : X → Meaning) (before after : X) (to : ℕ) → (after ≡ before) ⊎ ((result : Result (Unit {0}) Failed) × Sends to (20 ∷ 0 ∷ []) (M before) (M after) result)
    → (M after ≡ M before) ⊎ ((result : Result (Unit {0}) Failed) × Sends to (20 ∷ 0 ∷ []) (M before) (M after) result)
port_goes M before after to goes = elim goes [
  | inl same ↦ inl (ap M same)
  | inr w ↦ inr w
]

-- ---- addresses

pub peer_of : (peers : List Peer) (from : ℕ) → Contains (addresses_of peers) from → IsPeer from peers
peer_of [] from (k, lt, is) = absurd (omega (arith, lt))
peer_of (p ∷ peers) from (zero, lt, is) = (p, (zero, omega arith, refl), is)
peer_of (p ∷ peers) from (suc k, lt, is) = let (q, (i, within, at), same) = peer_of peers from (k, omega (arith, lt), is) in (q, (suc i, omega (arith, within), at), same)

pub set_address : (peers : List Peer) (k : ℕ) (p q : Peer) → p ≡ slice_index_or peers k p → q.address ≡ p.address → addresses_of (set peers k q) ≡ addresses_of peers
set_address [] k p q at same = refl
set_address (x ∷ peers) zero p q at same = ap (λ (a : ℕ). a ∷ addresses_of peers) (same ∙ ap (λ (y : Peer). y.address) at)
set_address (x ∷ peers) (suc k) p q at same = ap (λ (places : List ℕ). x.address ∷ places) (set_address peers k p q at same)
