-- What a port keeps came from below, and what it hands up was kept.
use Rattle.std.proofs.Common.{◌≡◌, ◌∙◌, ◌<◌, ◌++◌, ℕ, zero, suc, List, [], ◌∷◌, length, map, take, drop, set, refl, sym, ap, subst, arith, inl, inr, Option, Some, None, true, Result, Ok, Err, take-append-drop}
use Rattle.std.proofs.lemmas.Bool.{true≢false}
use Rattle.std.proofs.lemmas.Option.{none-some}
use Rattle.std.specs.Prelude.{◌⊎◌, Contains, IfOk, IfSome, IsSome, slice_index_or}
use Rattle.crsm_base.specs.declared.memory.Failed.{Failed}
use Rattle.crsm_port.specs.Meaning.{IsWithin, Packet}
use Rattle.crsm_port.specs.Passing.{Cut, Datagrams, IsOf, NoMore, Only, either}
use Rattle.crsm_port.specs.declared.port.Recv.{Recv}
use Rattle.crsm_port.specs.declared.port.Recv.TheVariants.{Nothing, Datagram}
use Rattle.crsm_port_flow.specs.Early.{OneMoreWaits}
use Rattle.crsm_port_flow.specs.Kept.{GoesUp, KeepsOnly, early_in, given_by, kept_in, of_clients, of_peers, operate_in, packet_in, packet_of, ready_in, waiting_in}
use Rattle.crsm_port_flow.specs.Order.{FirstGoes, IsTheirTurn, LatestGoes, NextGoes, OldestGoes}
use Rattle.crsm_port_flow.specs.Turns.{DropsOver}
use Rattle.crsm_port_flow.specs.declared.clients.Clients.{Clients}
use Rattle.crsm_port_flow.specs.declared.clients.Operate.{Operate}
use Rattle.crsm_port_flow.specs.declared.datagram.Datagram.{Datagram as Kept}
use Rattle.crsm_port_flow.specs.declared.early.Early.{Early}
use Rattle.crsm_port_flow.specs.declared.early.Frame.{Frame}
use Rattle.crsm_port_flow.specs.declared.inbound.Inbound.{Inbound}
use Rattle.crsm_port_flow.specs.declared.peers.FromPeers.{FromPeers}
use Rattle.crsm_port_flow.specs.declared.requests.Waiting.{Waiting}

-- one that is in a list with another in the place of one was there before, or is the other
pub set_cases : {X Y : Type 0} (f : X → Y) (xs : List X) (i : ℕ) (x : X) (y : Y) → Contains (map f (set xs i x)) y → Contains (map f xs) y ⊎ (y ≡ f x)
set_cases f [] i x y (k, lt, is) = inl (k, lt, is)
set_cases f (z ∷ xs) zero x y (zero, lt, is) = inr (sym is)
set_cases f (z ∷ xs) zero x y (suc k, lt, is) = inl (suc k, lt, is)
set_cases f (z ∷ xs) (suc i) x y (zero, lt, is) = inl (zero, omega arith, is)
set_cases f (z ∷ xs) (suc i) x y (suc k, lt, is) = elim (set_cases f xs i x y (k, omega (arith, lt), is)) [
  | inl w ↦ inl (suc w.0, omega (arith, w.1), w.2)
  | inr e ↦ inr e
]

pub push_cases : {X Y : Type 0} (f : X → Y) (xs : List X) (x : X) (y : Y) → Contains (map f (xs ++ x ∷ [])) y → Contains (map f xs) y ⊎ (y ≡ f x)
push_cases f [] x y (zero, lt, is) = inr (sym is)
push_cases f [] x y (suc k, lt, is) = absurd (omega (arith, lt))
push_cases f (z ∷ xs) x y (zero, lt, is) = inl (zero, omega arith, is)
push_cases f (z ∷ xs) x y (suc k, lt, is) = elim (push_cases f xs x y (k, omega (arith, lt), is)) [
  | inl w ↦ inl (suc w.0, omega (arith, w.1), w.2)
  | inr e ↦ inr e
]

pub contains_map : {X Y : Type 0} (f : X → Y) (xs : List X) (k : ℕ) (x : X) → k < length xs → x ≡ slice_index_or xs k x → Contains (map f xs) (f x)
contains_map f [] k x lt is = absurd (omega (arith, lt))
contains_map f (z ∷ xs) zero x lt is = (zero, omega arith, ap f (sym is))
contains_map f (z ∷ xs) (suc k) x lt is = let w = contains_map f xs k x (omega (arith, lt)) is in (suc w.0, omega (arith, w.1), w.2)

-- ---- what the port gives, where nothing more is kept, or one more

only_more : (P : Datagrams) (from : ℕ) (bytes : List ℕ) → P from bytes → NoMore P (Only from bytes)
only_more P from bytes came a b (at, same) = subst (λ (x : ℕ). P x b) (sym at) (subst (λ (x : List ℕ). P from x) (sym same) came)

module _ (P Q : Datagrams) (more : NoMore P Q) (i j : Inbound) where
  pub gives_kept : (from : ℕ) (bytes : List ℕ) → P from bytes → KeepsOnly from bytes (kept_in i) (kept_in j) → NoMore (given_by P i) (given_by Q j)
  gives_kept from bytes came keeps a b (rest, is) = elim is [
    | inl below ↦ (rest, inl (more a (b ++ rest) below))
    | inr has ↦ elim (keeps a (b ++ rest) has) [
      | inl only ↦ (rest, inl (only_more P from bytes came a (b ++ rest) only))
      | inr before ↦ (rest, inr before)
    ]
  ]

  pub gives_same : NoMore (kept_in i) (kept_in j) → NoMore (given_by P i) (given_by Q j)
  gives_same keeps a b (rest, is) = elim is [
    | inl below ↦ (rest, inl (more a (b ++ rest) below))
    | inr has ↦ (rest, inr (keeps a (b ++ rest) has))
  ]

pub keeps_both : (from : ℕ) (bytes : List ℕ) (D E F : Datagrams) → KeepsOnly from bytes D E → KeepsOnly from bytes E F → KeepsOnly from bytes D F
keeps_both from bytes D E F one other a b has = elim (other a b has) [
  | inl only ↦ inl only
  | inr between ↦ one a b between
]

pub keeps_then : (from : ℕ) (bytes : List ℕ) (D E F : Datagrams) → KeepsOnly from bytes D E → NoMore E F → KeepsOnly from bytes D F
keeps_then from bytes D E F one other a b has = one a b (other a b has)

pub keeps_none : (from : ℕ) (bytes : List ℕ) (D E : Datagrams) → NoMore D E → KeepsOnly from bytes D E
keeps_none from bytes D E more a b has = inr (more a b has)

pub no_more_same : {X : Type 0} (F : X → Datagrams) (x y : X) → y ≡ x → NoMore (F x) (F y)
no_more_same {X = X} F x y same a b has = subst (λ (z : X). F z a b) same has

-- ---- frames

packet_only : (d : Kept) (from a : ℕ) (bytes b : List ℕ) → (let p : Packet = record { address = from; bytes = bytes } in packet_of d ≡ p) → (let q : Packet = record { address = a; bytes = b } in packet_of d ≡ q) → Only from bytes a b
packet_only d from a bytes b one other =
    let same : (record { address = a; bytes = b }) ≡ (record { address = from; bytes = bytes }) = sym other ∙ one in
    (ap (λ (p : Packet). p.address) same, ap (λ (p : Packet). p.bytes) same)

pub early_more : (from : ℕ) (bytes : List ℕ) (d : Kept) (old new : List (Option Frame)) → (let p : Packet = record { address = from; bytes = bytes } in packet_of d ≡ p) → OneMoreWaits d old new
    → KeepsOnly from bytes (early_in old) (early_in new)
early_more from bytes d old new is one a b (f, has, same) = elim (one f has) [
  | inl before ↦ inr (f, before, same)
  | inr this ↦ inl (packet_only d from a bytes b is (subst (λ (x : Kept). (let q : Packet = record { address = a; bytes = b } in packet_of x ≡ q)) this same))
]

-- ---- lists of datagrams

pub ready_more : (from : ℕ) (bytes : List ℕ) (d : Kept) (old new : List Kept) → (let p : Packet = record { address = from; bytes = bytes } in packet_of d ≡ p) → new ≡ old ++ d ∷ [] → KeepsOnly from bytes (ready_in old) (ready_in new)
ready_more from bytes d old new is same a b has =
    elim (push_cases packet_of old d (record { address = a; bytes = b }) (subst (λ (ds : List Kept). ready_in ds a b) same has)) [
      | inl before ↦ inr before
      | inr this ↦ inl (packet_only d from a bytes b is (sym this))
    ]

pub waiting_more : (from : ℕ) (bytes : List ℕ) (r : Waiting) (old new : List Waiting) → (let p : Packet = record { address = from; bytes = bytes } in packet_in r ≡ p) → new ≡ old ++ r ∷ []
    → KeepsOnly from bytes (waiting_in old) (waiting_in new)
waiting_more from bytes r old new is same a b has =
    elim (push_cases packet_in old r (record { address = a; bytes = b }) (subst (λ (rs : List Waiting). waiting_in rs a b) same has)) [
      | inl before ↦ inr before
      | inr this ↦ inl (packet_only r.datagram from a bytes b is (sym this))
    ]

-- the first leaves
pub front_leaves : {X : Type 0} (f : X → Packet) (x : X) (old new : List X) (p : Packet) → old ≡ x ∷ new → Contains (map f new) p → Contains (map f old) p
front_leaves {X = X} f x old new p is (k, lt, at) = subst (λ (xs : List X). Contains (map f xs) p) (sym is) (suc k, omega (arith, lt), at)

pub front_was : {X : Type 0} (f : X → Packet) (x : X) (old new : List X) → old ≡ x ∷ new → Contains (map f old) (f x)
front_was {X = X} f x old new is = subst (λ (xs : List X). Contains (map f xs) (f x)) (sym is) (zero, omega arith, refl)

-- ---- handing up

pub of_more : (D E : Datagrams) (buffer : List ℕ) (got : Recv) → NoMore D E → IsOf E buffer got → IsOf D buffer got
of_more D E buffer Nothing more is = tt
of_more D E buffer (Datagram from len) more is = more from (take len buffer) is

pub some_of_more : (D E : Datagrams) (buffer : List ℕ) (r : Option Recv) → NoMore D E → IfSome r (IsOf E buffer) → IfSome r (IsOf D buffer)
some_of_more D E buffer None more is = tt
some_of_more D E buffer (Some got) more is = of_more D E buffer got more is

pub ok_some_of_more : (D E : Datagrams) (buffer : List ℕ) (r : Result (Option Recv) Failed) → NoMore D E → IfOk r (λ got. IfSome got (IsOf E buffer)) → IfOk r (λ got. IfSome got (IsOf D buffer))
ok_some_of_more D E buffer (Err e) more is = tt
ok_some_of_more D E buffer (Ok got) more is = some_of_more D E buffer got more is

pub ok_of_more : (D E : Datagrams) (buffer : List ℕ) (r : Result Recv Failed) → NoMore D E → IfOk r (IsOf E buffer) → IfOk r (IsOf D buffer)
ok_of_more D E buffer (Err e) more is = tt
ok_of_more D E buffer (Ok got) more is = of_more D E buffer got more is

pub cut_more : (D E : Datagrams) → NoMore D E → NoMore (Cut D) (Cut E)
cut_more D E more a b (rest, is) = (rest, more a (b ++ rest) is)

-- one that is kept is given
pub kept_given : (P : Datagrams) (i : Inbound) (buffer : List ℕ) (got : Recv) → IsOf (Cut (kept_in i)) buffer got → IsOf (given_by P i) buffer got
kept_given P i buffer got is = of_more (given_by P i) (Cut (kept_in i)) buffer got (λ a b w. (w.0, inr w.1)) is

pub goes_of : (D : Datagrams) (d : Packet) (before after : List ℕ) (got : Recv) → D d.address d.bytes → GoesUp d before after got → IsOf (Cut D) after got
goes_of D d before after Nothing has up = tt
goes_of D d before after (Datagram from len) has (at, size, same) =
    let whole : take len after ++ drop len d.bytes ≡ d.bytes = ap (λ (b : List ℕ). b ++ drop len d.bytes) same ∙ take-append-drop len d.bytes in
    (drop len d.bytes, subst (λ (x : ℕ). D x (take len after ++ drop len d.bytes)) (sym at) (subst (λ (b : List ℕ). D d.address b) (sym whole) has))

operate_same : (o p : Operate) → Some o ≡ Some p → o ≡ p
operate_same o p e = cc

module _ (old new : Inbound) (before after : List ℕ) (got : Recv) where
  -- what goes up was kept
  pub next_kept : NextGoes old new before after got → IsOf (Cut (kept_in old)) after got
  next_kept is = elim is [
    | inl of_peer ↦
        let (d, first, _, up) = of_peer.0 in
        goes_of (kept_in old) (packet_of d) before after got (inl (inl (front_was packet_of d old.peers.ready.items new.peers.ready.items first))) up
    | inr other ↦ elim other.2 [
      | inl oldest ↦
          let (d, (r, first, same), _, up) = oldest in
          let was : waiting_in old.clients.requests.waiting.items (packet_of d).address (packet_of d).bytes = subst (λ (x : Kept). waiting_in old.clients.requests.waiting.items (packet_of x).address (packet_of x).bytes) same
          (front_was packet_in r old.clients.requests.waiting.items new.clients.requests.waiting.items first) in
          goes_of (kept_in old) (packet_of d) before after got (inr (inl was)) up
      | inr latest ↦
          let (o, is_operate, _, up, _) = latest in
          goes_of (kept_in old) (packet_of o.datagram) before after got (inr (inr (o, is_operate, refl))) up
    ]
  ]

  -- nothing more is kept then
  pub next_rest : NextGoes old new before after got → NoMore (kept_in old) (kept_in new)
  next_rest is a b has = elim is [
    | inl of_peer ↦
        let (d, first, early, _) = of_peer.0 in
        elim has [
          | inl peers ↦ elim peers [
            | inl ready ↦ inl (inl (front_leaves packet_of d old.peers.ready.items new.peers.ready.items (record { address = a; bytes = b }) first ready))
            | inr waits ↦ inl (inr (subst (λ (e : Early). early_in e.frames.items a b) early waits))
          ]
          | inr clients ↦ inr (clients_same old.clients new.clients of_peer.1 of_peer.2 a b clients)
        ]
    | inr other ↦ elim has [
      | inl peers ↦ inl (subst (λ (p : FromPeers). of_peers p a b) other.1 peers)
      | inr clients ↦ elim other.2 [
        | inl oldest ↦ inr (oldest_rest oldest a b clients)
        | inr latest ↦ inr (latest_rest latest a b clients)
      ]
    ]
  ]
    where
      clients_same : (c e : Clients) → e.requests.waiting.items ≡ c.requests.waiting.items → e.operate ≡ c.operate → NoMore (of_clients c) (of_clients e)
      clients_same c e waiting operate a b has = elim has [
        | inl waits ↦ inl (subst (λ (rs : List Waiting). waiting_in rs a b) waiting waits)
        | inr latest ↦ inr (subst (λ (o : Option Operate). operate_in o a b) operate latest)
      ]

      oldest_rest : OldestGoes old.clients new.clients before after got → NoMore (of_clients old.clients) (of_clients new.clients)
      oldest_rest (d, (r, first, same), operate, _) a b has = elim has [
        | inl waits ↦ inl (front_leaves packet_in r old.clients.requests.waiting.items new.clients.requests.waiting.items (record { address = a; bytes = b }) first waits)
        | inr latest ↦ inr (subst (λ (o : Option Operate). operate_in o a b) operate latest)
      ]

      latest_rest : LatestGoes old.clients new.clients before after got → NoMore (of_clients old.clients) (of_clients new.clients)
      latest_rest (o, was, waiting, _, stays) a b has = elim has [
        | inl waits ↦ inl (subst (λ (rs : List Waiting). waiting_in rs a b) waiting waits)
        | inr latest ↦ inr (elim stays [
          | inl none ↦ absurd (none-some latest.0 (sym none ∙ latest.1))
          | inr again ↦ (o, was, subst (λ (x : Operate). (let q : Packet = record { address = a; bytes = b } in packet_of x.datagram ≡ q)) (operate_same latest.0 (record o { has_gone = true }) (sym latest.1 ∙ again.1)) latest.2)
        ])
      ]

pub no_clients : (c : Clients) → c.requests.waiting.items ≡ [] → c.operate ≡ None → NoMore (λ _ _. ⊥) (of_clients c)
no_clients c waiting operate a b has = elim has [
  | inl waits ↦ let w = subst (λ (rs : List Waiting). waiting_in rs a b) waiting waits in omega (arith, w.1)
  | inr latest ↦ none-some latest.0 (sym operate ∙ latest.1)
]

module _ (old mid new : Inbound) (before after : List ℕ) (peers : mid.peers ≡ old.peers) (waiting : mid.clients.requests.waiting.items ≡ old.clients.requests.waiting.items) (operate : mid.clients.operate ≡ old.clients.operate) where
  -- the first of peers goes
  pub first_next : (r : Option Recv) → new.clients ≡ mid.clients → IfSome r (FirstGoes mid.peers new.peers before after) → IfSome r (NextGoes old new before after)
  first_next None same goes = tt
  first_next (Some got) same (d, first, early, up) =
      inl ((d, ap (λ (p : FromPeers). p.ready.items) (sym peers) ∙ first, early ∙ ap (λ (p : FromPeers). p.early) peers, up), ap (λ (c : Clients). c.requests.waiting.items) same ∙ waiting, ap (λ (c : Clients). c.operate) same ∙ operate)

  -- what another asks for goes
  pub asked_next : (r : Option Recv) → IsTheirTurn old → new.peers ≡ mid.peers → IfSome r (λ got. OldestGoes mid.clients new.clients before after got ⊎ LatestGoes mid.clients new.clients before after got) → IfSome r (NextGoes old new before after)
  asked_next None turn same goes = tt
  asked_next (Some got) turn same goes = inr (
    turn,
    same ∙ peers,
    elim goes [
      | inl oldest ↦ let (d, (r, first, is), stays, up) = oldest in inl (d, (r, sym waiting ∙ first, is), stays ∙ operate, up)
      | inr latest ↦ let (o, was, stays, up, later) = latest in inr (o, sym operate ∙ was, stays ∙ waiting, up, later)
    ],
  )

pub some_not_none : (r : Option Recv) → IsSome r → r ≡ None → ⊥
some_not_none r some none = true≢false (sym (subst (λ (x : Option Recv). IsSome x) none some))

goes_something : (d : Packet) (before after : List ℕ) (got : Recv) → GoesUp d before after got → got ≡ Nothing → ⊥
goes_something d before after Nothing up is = up
goes_something d before after (Datagram from len) up is = datagram_something from len is
  where
    datagram_something : (from len : ℕ) → Datagram from len ≡ Nothing → ⊥
    datagram_something from len e = cc

goes_within : (d : Packet) (before after : List ℕ) (got : Recv) → GoesUp d before after got → IsWithin (length before) got
goes_within d before after Nothing up = tt
goes_within d before after (Datagram from len) (_, size, _) = omega (arith, size)

-- what goes up is a datagram, within the buffer
pub next_is : (old new : Inbound) (before after : List ℕ) (got : Recv) → NextGoes old new before after got → (got ≡ Nothing → ⊥) × IsWithin (length before) got
next_is old new before after got is = elim is [
  | inl of_peer ↦ let (d, _, _, up) = of_peer.0 in (goes_something (packet_of d) before after got up, goes_within (packet_of d) before after got up)
  | inr other ↦ elim other.2 [
    | inl oldest ↦ let (d, _, _, up) = oldest in (goes_something (packet_of d) before after got up, goes_within (packet_of d) before after got up)
    | inr latest ↦ let (o, _, _, up, _) = latest in (goes_something (packet_of o.datagram) before after got up, goes_within (packet_of o.datagram) before after got up)
  ]
]

-- a datagram of a peer is taken in, or of another
pub peers_kept : (from : ℕ) (bytes : List ℕ) (i j : Inbound) → j.clients ≡ i.clients → KeepsOnly from bytes (of_peers i.peers) (of_peers j.peers) → KeepsOnly from bytes (kept_in i) (kept_in j)
peers_kept from bytes i j same keeps a b has = elim has [
  | inl of_peer ↦ elim (keeps a b of_peer) [
    | inl only ↦ inl only
    | inr before ↦ inr (inl before)
  ]
  | inr of_client ↦ inr (inr (subst (λ (c : Clients). of_clients c a b) same of_client))
]

pub clients_kept : (from : ℕ) (bytes : List ℕ) (i j : Inbound) → j.peers ≡ i.peers → KeepsOnly from bytes (of_clients i.clients) (of_clients j.clients) → KeepsOnly from bytes (kept_in i) (kept_in j)
clients_kept from bytes i j same keeps a b has = elim has [
  | inl of_peer ↦ inr (inl (subst (λ (p : FromPeers). of_peers p a b) same of_peer))
  | inr of_client ↦ elim (keeps a b of_client) [
    | inl only ↦ inl only
    | inr before ↦ inr (inr before)
  ]
]

pub kept_still : (from : ℕ) (bytes : List ℕ) (i j : Inbound) → j ≡ i → KeepsOnly from bytes (kept_in i) (kept_in j)
kept_still from bytes i j same a b has = inr (subst (λ (x : Inbound). kept_in x a b) same has)

-- what others ask for stays
pub asked_same : (i j : Inbound) → j.peers ≡ i.peers → j.clients.requests.waiting.items ≡ i.clients.requests.waiting.items → j.clients.operate ≡ i.clients.operate → NoMore (kept_in i) (kept_in j)
asked_same i j peers waiting operate a b has = elim has [
  | inl of_peer ↦ inl (subst (λ (p : FromPeers). of_peers p a b) peers of_peer)
  | inr of_client ↦ elim of_client [
    | inl waits ↦ inr (inl (subst (λ (rs : List Waiting). waiting_in rs a b) waiting waits))
    | inr latest ↦ inr (inr (subst (λ (o : Option Operate). operate_in o a b) operate latest))
  ]
]

-- requests were dropped
pub dropped_rest : (now : ℕ) (i j : Inbound) → j.peers ≡ i.peers → DropsOver now i.clients.requests.waiting.items j.clients.requests.waiting.items → j.clients.operate ≡ i.clients.operate → NoMore (kept_in i) (kept_in j)
dropped_rest now i j peers (gone, is, _) operate a b has = elim has [
  | inl of_peer ↦ inl (subst (λ (p : FromPeers). of_peers p a b) peers of_peer)
  | inr of_client ↦ elim of_client [
    | inl waits ↦ inr (inl (subst (λ (rs : List Waiting). waiting_in rs a b) (sym is) (behind gone j.clients.requests.waiting.items waits)))
    | inr latest ↦ inr (inr (subst (λ (o : Option Operate). operate_in o a b) operate latest))
  ]
]
  where
    behind : (gone rs : List Waiting) → waiting_in rs a b → waiting_in (gone ++ rs) a b
    behind [] rs waits = waits
    behind (r ∷ gone) rs waits = let w = behind gone rs waits in (suc w.0, omega (arith, w.1), w.2)

-- ---- a request that waits

pub request_kept : (from : ℕ) (bytes : List ℕ) (r : Waiting) (waiting waiting_now : List Waiting) (operate operate_now : Option Operate) → (let p : Packet = record { address = from; bytes = bytes } in packet_in r ≡ p) → operate_now ≡ operate → waiting_now ≡ waiting ++ r ∷ []
    → KeepsOnly from bytes (either (waiting_in waiting) (operate_in operate)) (either (waiting_in waiting_now) (operate_in operate_now))
request_kept from bytes r waiting waiting_now operate operate_now is same more a b has = elim has [
  | inl waits ↦ elim (waiting_more from bytes r waiting waiting_now is more a b waits) [
    | inl only ↦ inl only
    | inr before ↦ inr (inl before)
  ]
  | inr latest ↦ inr (inr (subst (λ (o : Option Operate). operate_in o a b) same latest))
]
