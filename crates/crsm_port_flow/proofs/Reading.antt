-- What came from the port below, call after call.
use Rattle.std.proofs.Common.{◌≡◌, ◌∙◌, ◌++◌, ◌+◌, ◌≤◌, ◌⊎◌, ℕ, Bool, List, [], ◌∷◌, length, min, take, true, false, length-append, refl, sym, ap, subst, inl, inr, Option, Some, None, Result, Ok, Err, arith}
use Rattle.std.proofs.lemmas.Bool.{true≢false}
use Rattle.std.proofs.lemmas.Option.{none-some}
use Rattle.std.specs.Prelude.{IsErrAnd}
use Rattle.crsm_base.specs.declared.memory.Failed.{Failed}
use Rattle.crsm_port.specs.Meaning.{Meaning, Packet, Receives}
use Rattle.crsm_port.specs.Passing.{NoMore}
use Rattle.crsm_port.specs.declared.port.Recv.{Recv}
use Rattle.crsm_port.specs.declared.port.Recv.TheVariants.{Nothing, Datagram}
use Rattle.crsm_port_flow.specs.Hears.{AreKnownBy}
use Rattle.crsm_port_flow.specs.Windows.{WindowTakes}
use Rattle.crsm_port_flow.specs.Kept.{GoesUp, early_in, kept_in, operate_in, packet_of, ready_in, waiting_in}
use Rattle.crsm_port_flow.specs.Lost.{TakesIn}
use Rattle.crsm_port_flow.specs.Order.{NextGoes}
use Rattle.crsm_port_flow.specs.Reads.{Answers, Ends, IsAnswer, ReadsNone, ReadsOne, SameRest, Stands, State, StaysAbove, TakesAll, TakesAndEnds, TakesOne, TakesOrEnds, known_of, state_of}
use Rattle.crsm_port_flow.specs.Same.{SameKept}
use Rattle.crsm_port_flow.specs.declared.clients.Clients.{Clients}
use Rattle.crsm_port_flow.specs.declared.clients.Operate.{Operate}
use Rattle.crsm_port_flow.specs.declared.datagram.Datagram.{Datagram as Kept}
use Rattle.crsm_port_flow.specs.declared.early.Early.{Early}
use Rattle.crsm_port_flow.specs.declared.early.Frame.{Frame}
use Rattle.crsm_port_flow.specs.declared.flow.FlowPort.{FlowPort}
use Rattle.crsm_port_flow.specs.declared.inbound.Inbound.{Inbound}
use Rattle.crsm_port_flow.specs.declared.peers.FromPeers.{FromPeers}
use Rattle.crsm_port_flow.specs.declared.requests.Waiting.{Waiting}

-- ---- what stays

pub kept_as_it_is : (i : Inbound) → SameKept i i
kept_as_it_is i = ((refl, refl, refl), refl, refl)

pub kept_by : (i j : Inbound) → j ≡ i → SameKept i j
kept_by i j same = subst (λ (x : Inbound). SameKept i x) (sym same) (kept_as_it_is i)

pub kept_then : (i j k : Inbound) → SameKept i j → SameKept j k → SameKept i k
kept_then i j k ((ready, frames, links), waiting, operate) ((ready_then, frames_then, links_then), waiting_then, operate_then) =
    ((ready_then ∙ ready, frames_then ∙ frames, links_then ∙ links), waiting_then ∙ waiting, operate_then ∙ operate)

-- those who are no peers are asked, and no datagram of a peer is ready
pub none_same : (i mid j : Inbound) → mid.peers ≡ i.peers → mid.clients.requests.waiting.items ≡ i.clients.requests.waiting.items → mid.clients.operate ≡ i.clients.operate → j.clients ≡ mid.clients → mid.peers.ready.items ≡ [] → j.peers.ready.items ≡ []
    → j.peers.early ≡ mid.peers.early → SameKept i j
none_same i mid j peers waiting operate clients was is early =
    let ready : mid.peers.ready.items ≡ i.peers.ready.items = ap (λ (p : FromPeers). p.ready.items) peers in
    let same : j.peers.early ≡ i.peers.early = early ∙ ap (λ (p : FromPeers). p.early) peers in (
      (is ∙ sym was ∙ ready, ap (λ (e : Early). e.frames.items) same, ap (λ (e : Early). e.links.items) same),
      ap (λ (c : Clients). c.requests.waiting.items) clients ∙ waiting,
      ap (λ (c : Clients). c.operate) clients ∙ operate,
    )

-- those who are no peers are asked
pub asked_kept : (i : Inbound) (c : Clients) → c.requests.waiting.items ≡ i.clients.requests.waiting.items → c.operate ≡ i.clients.operate → SameKept i (record i { clients = c })
asked_kept i c waiting operate = ((refl, refl, refl), waiting, operate)

pub stands_still : (s : State) → Stands s s
stands_still s = (refl, (kept_as_it_is s.kept, (refl, refl, refl)))

pub stands_then : (a b c : State) → Stands a b → Stands b c → Stands a c
stands_then a b c (below, (kept, (room, hearing, lost))) (below_then, (kept_more, (room_then, hearing_then, lost_then))) =
    (below_then ∙ below, (kept_then a.kept b.kept c.kept kept kept_more, (room_then ∙ room, hearing_then ∙ hearing, lost_then ∙ lost)))

-- ---- what came

pub takes_later : (now : ℕ) (ps : List Packet) (a b c : State) → Stands a b → TakesAll now ps b c → TakesAll now ps a c
takes_later now [] a b c stands all = stands_then a b c stands all
takes_later now (p ∷ ps) a b c stands (asked, came, more, one, rest) = (asked, came, stands_then a b asked stands more, one, rest)

pub takes_both : (now : ℕ) (ps qs : List Packet) (a b c : State) → TakesAll now ps a b → TakesAll now qs b c → TakesAll now (ps ++ qs) a c
takes_both now [] qs a b c stands all = takes_later now qs a b c stands all
takes_both now (p ∷ ps) qs a b c (asked, came, stands, one, rest) all = (asked, came, stands, one, takes_both now ps qs came b c rest all)

pub takes_one : (now : ℕ) (p : Packet) (a b : State) → TakesOne now p a b → TakesAll now (p ∷ []) a b
takes_one now p a b one = (a, b, stands_still a, one, stands_still b)

pub takes_stand : (now : ℕ) (ps : List Packet) (a b c : State) → TakesAll now ps a b → Stands b c → TakesAll now ps a c
takes_stand now [] a b c all stands = stands_then a b c all stands
takes_stand now (p ∷ ps) a b c (asked, came, more, one, rest) stands = (asked, came, more, one, takes_stand now ps came b c rest stands)

-- one more came
pub takes_on : (now now_then : ℕ) (ps : List Packet) (p : Packet) (a b c : State) → now_then ≡ now → TakesAll now ps a b → TakesAll now_then (p ∷ []) b c → TakesAll now (ps ++ p ∷ []) a c
takes_on now now_then ps p a b c same all one = takes_both now ps (p ∷ []) a b c all (subst (λ (n : ℕ). TakesAll n (p ∷ []) b c) same one)

-- ---- how a receive ends

goes_up_same : (d : Packet) (before other after : List ℕ) (got : Recv) → length other ≡ length before → GoesUp d before after got → GoesUp d other after got
goes_up_same d before other after Nothing same up = up
goes_up_same d before other after (Datagram from len) same (at, size, is) = (at, size ∙ ap (λ (n : ℕ). min n (length d.bytes)) (sym same), is)

-- of the buffer as it was, only its length counts
pub next_same : (i j : Inbound) (before other after : List ℕ) (got : Recv) → length other ≡ length before → NextGoes i j before after got → NextGoes i j other after got
next_same i j before other after got same goes = elim goes [
  | inl of_peer ↦ let ((d, first, early, up), waiting, operate) = of_peer in inl ((d, first, early, goes_up_same (packet_of d) before other after got same up), waiting, operate)
  | inr of_client ↦ let (turn, peers, asked) = of_client in inr (
    turn,
    peers,
    elim asked [
      | inl oldest ↦ let (d, first, operate, up) = oldest in inl (d, first, operate, goes_up_same (packet_of d) before other after got same up)
      | inr latest ↦ let (o, was, waiting, up, later) = latest in inr (o, was, waiting, goes_up_same (packet_of o.datagram) before other after got same up, later)
    ],
  )
]

datagram_goes : (from len : ℕ) → Datagram from len ≡ Nothing → ⊥
datagram_goes from len e = cc

-- one that ends where nothing came ends so after these
pub ends_after : (had : Bool) (came : List Packet) (before after : List ℕ) (last new : State) (r : Result Recv Failed) → Ends had [] before after last new r → Ends had came before after last new r
ends_after had came before after last new (Ok Nothing) (stays, none) = (
  stays,
  elim none [
    | inl answers ↦ inl answers
    | inr many ↦ absurd (omega (arith, many.1))
  ],
)
ends_after had came before after last new (Ok (Datagram from len)) ends = ends
ends_after had came before after last new (Err e) ends = ends

-- of the buffer as it was, only its length counts
pub ends_other : (had had_then : Bool) (came : List Packet) (before other after : List ℕ) (last new : State) (r : Result Recv Failed) → had_then ≡ had → length other ≡ length before → Ends had_then came before after last new r
    → Ends had came other after last new r
ends_other had had_then came before other after last new (Ok Nothing) same size ends = ends
ends_other had had_then came before other after last new (Ok (Datagram from len)) same size (goes, rest, none) = (next_same last.kept new.kept before other after (Datagram from len) size goes, rest, none)
ends_other had had_then came before other after last new (Err e) same size (stays, none) = (
  stays,
  elim none [
    | inl answers ↦ inl answers
    | inr failed ↦ inr (failed.0, sym same ∙ failed.1)
  ],
)

pub ends_on : (had had_then : Bool) (now : ℕ) (came : List Packet) (before other after : List ℕ) (a b new : State) (r : Result Recv Failed) → had_then ≡ had → length other ≡ length before → TakesAll now came a b
    → (last : State) × Stands b last × Ends had_then [] before after last new r → TakesAndEnds had now other after a new r
ends_on had had_then now came before other after a b new r same size all (last, stands, ends) =
    (came, last, takes_stand now came a b last all stands, ends_after had came other after last new r (ends_other had had_then [] before other after last new r same size ends))

-- a datagram goes up, and the port below is not asked
pub ends_at_once : (had : Bool) (came : List Packet) (before after : List ℕ) (last new : State) (got : Recv) → (got ≡ Nothing → ⊥) → NextGoes last.kept new.kept before after got → SameRest last new → new.below ≡ last.below
    → Ends had came before after last new (Ok got)
ends_at_once had came before after last new Nothing some goes rest below = absurd (some refl)
ends_at_once had came before after last new (Datagram from len) some goes rest below = (goes, rest, inr below)

-- nothing else comes, so what waits goes up, or nothing does
pub ends_last : {P C : Type 0} (below now_below : Meaning) (had : Bool) (came : List Packet) (before after : List ℕ) (a n : FlowPort P C) (got : Recv) → (let last : FlowPort P C = record a { inbound = n.inbound } in n ≡ last)
    → Answers (Ok Nothing) below now_below ⊎ ((now_below ≡ below) × (2_048 ≤ length came)) → ((got ≡ Nothing → ⊥) → NextGoes a.inbound n.inbound before after got) → (got ≡ Nothing → SameKept a.inbound n.inbound)
    → Ends had came before after (state_of below a) (state_of now_below n) (Ok got)
ends_last {P = P} {C = C} below now_below had came before after a n Nothing same none goes stays = (
  (stays refl, (ap (λ (x : FlowPort P C). length x.room.items) same, ap (λ (x : FlowPort P C). known_of x) same, ap (λ (x : FlowPort P C). x.lost) same)),
  none,
)
ends_last {P = P} {C = C} below now_below had came before after a n (Datagram from len) same none goes stays = (
  goes (datagram_goes from len),
  (ap (λ (x : FlowPort P C). length x.room.items) same, ap (λ (x : FlowPort P C). known_of x) same, ap (λ (x : FlowPort P C). x.lost) same),
  elim none [
    | inl answers ↦ inl answers
    | inr many ↦ inr many.0
  ],
)

-- the port below is asked, and nothing is taken in
pub asked_stays : {P C : Type 0} (m n : Meaning) (p a : FlowPort P C) → (let asked : FlowPort P C = record p { port = a.port; clock = a.clock; room = a.room; has_failed = a.has_failed } in a ≡ asked) → length a.room.items ≡ length p.room.items
    → StaysAbove (state_of m p) (state_of n a)
asked_stays {P = P} {C = C} m n p a same size =
    (kept_by p.inbound a.inbound (ap (λ (x : FlowPort P C). x.inbound) same), (size, ap (λ (x : FlowPort P C). known_of x) same, ap (λ (x : FlowPort P C). x.lost) same))

-- what waits goes up
pub last_goes : {P C : Type 0} (M : P → Meaning) (had : Bool) (now : ℕ) (before after : List ℕ) (a n : FlowPort P C) (got : Recv) → (let last : FlowPort P C = record a { inbound = n.inbound } in n ≡ last) → (got ≡ Nothing → ⊥)
    → NextGoes a.inbound n.inbound before after got → TakesAndEnds had now before after (state_of (M a.port) a) (state_of (M n.port) n) (Ok got)
last_goes {P = P} {C = C} M had now before after a n got same some goes = (
  [],
  state_of (M a.port) a,
  stands_still (state_of (M a.port) a),
  ends_at_once had [] before after (state_of (M a.port) a) (state_of (M n.port) n) got some goes
      (ap (λ (x : FlowPort P C). length x.room.items) same, ap (λ (x : FlowPort P C). known_of x) same, ap (λ (x : FlowPort P C). x.lost) same) (ap (λ (x : FlowPort P C). M x.port) same),
)

-- so many came, and what waits goes up, or nothing does
pub many_end : {P C : Type 0} (M : P → Meaning) (had : Bool) (now : ℕ) (came : List Packet) (start : State) (before other after : List ℕ) (a n : FlowPort P C) (got : Recv) → (let last : FlowPort P C = record a { inbound = n.inbound } in n ≡ last)
    → length other ≡ length before → 2_048 ≤ length came → TakesAll now came start (state_of (M a.port) a) → ((got ≡ Nothing → ⊥) → NextGoes a.inbound n.inbound before after got) → (got ≡ Nothing → SameKept a.inbound n.inbound)
    → TakesAndEnds had now other after start (state_of (M n.port) n) (Ok got)
many_end {P = P} {C = C} M had now came start before other after a n got same size many all goes stays =
    let ends = ends_last (M a.port) (M n.port) had came before after a n got same (inr (ap (λ (x : FlowPort P C). M x.port) same, many)) goes stays in
    (came, state_of (M a.port) a, all, ends_other had had came before other after (state_of (M a.port) a) (state_of (M n.port) n) (Ok got) refl size ends)

module _ {P C : Type 0} (M : P → Meaning) (p a q : FlowPort P C) where
  -- the port below hands up a datagram, and it is taken in
  pub came_in : (from len : ℕ) → (let asked : FlowPort P C = record p { port = a.port; clock = a.clock; room = a.room; has_failed = a.has_failed } in a ≡ asked)
      → (let taken : FlowPort P C = record a { hearing = q.hearing; quiet = q.quiet; inbound = q.inbound; outbound = q.outbound; lost = q.lost } in q ≡ taken)
      → length a.room.items ≡ length p.room.items → Receives (M p.port) (M a.port) p.room.items a.room.items (Ok (Datagram from len))
      → TakesIn from (take len a.room.items) a.now a.hearing.peers.items a.inbound q.inbound a.lost q.lost → AreKnownBy a.hearing.me from (take len a.room.items) a.now a.hearing.peers.items q.hearing.peers.items → q.hearing.me ≡ a.hearing.me
      → WindowTakes from (take len a.room.items) a.now a.hearing.peers.items a.outbound.window q.outbound.window
      → TakesOne p.now (record { address = from; bytes = take len a.room.items }) (state_of (M p.port) p) (state_of (M q.port) q)
  came_in from len same then size receives taken known me window = record {
    before = p.room.items;
    after = a.room.items;
    len = len;
    room = (refl, ap (λ (x : FlowPort P C). length x.room.items) then ∙ size);
    receives = subst (λ (x : P). Receives (M p.port) (M x) p.room.items a.room.items (Ok (Datagram from len))) (sym (ap (λ (x : FlowPort P C). x.port) then)) receives;
    bytes = refl;
    taken = subst (λ (x : FlowPort P C). TakesIn from (take len a.room.items) x.now x.hearing.peers.items x.inbound q.inbound x.lost q.lost) same taken;
    known = subst (λ (x : FlowPort P C). AreKnownBy x.hearing.me from (take len a.room.items) x.now x.hearing.peers.items q.hearing.peers.items) same known;
    window = subst (λ (x : FlowPort P C). WindowTakes from (take len a.room.items) x.now x.hearing.peers.items x.outbound.window q.outbound.window) same window;
    me = me ∙ ap (λ (x : FlowPort P C). x.hearing.me) same;
  }

-- those who are no peers are asked
abbrev pub asking : {P C : Type 0} → FlowPort P C → Clients → FlowPort P C
asking p c = record p { inbound = record p.inbound { clients = c } }

pub asks_others : {P C : Type 0} (m : Meaning) (p : FlowPort P C) (c : Clients) → c.requests.waiting.items ≡ p.inbound.clients.requests.waiting.items → c.operate ≡ p.inbound.clients.operate → Stands (state_of m p) (state_of m (asking p c))
asks_others m p c waiting operate = (refl, (asked_kept p.inbound c waiting operate, (refl, refl, refl)))

module _ {P C : Type 0} (M : P → Meaning) (p a : FlowPort P C) (c : Clients) (waiting : c.requests.waiting.items ≡ p.inbound.clients.requests.waiting.items) (operate : c.operate ≡ p.inbound.clients.operate)
    (same : (let asked : FlowPort P C = record (asking p c) { port = a.port; clock = a.clock; room = a.room; has_failed = a.has_failed } in a ≡ asked)) (size : length a.room.items ≡ length p.room.items) where
  -- and then the port below is
  pub asks_stands : Stands (state_of (M p.port) p) (state_of (M p.port) a)
  asks_stands =
      let others = asks_others (M p.port) p c waiting operate in
      stands_then (state_of (M p.port) p) (state_of (M p.port) (asking p c)) (state_of (M p.port) a) others (refl, asked_stays (M p.port) (M p.port) (asking p c) a same size)

  -- it hands up a datagram, which is taken in
  pub asks_came : (q : FlowPort P C) (from len : ℕ) → (let taken : FlowPort P C = record a { hearing = q.hearing; quiet = q.quiet; inbound = q.inbound; outbound = q.outbound; lost = q.lost } in q ≡ taken)
      → Receives (M p.port) (M a.port) p.room.items a.room.items (Ok (Datagram from len)) → TakesIn from (take len a.room.items) a.now a.hearing.peers.items a.inbound q.inbound a.lost q.lost
      → AreKnownBy a.hearing.me from (take len a.room.items) a.now a.hearing.peers.items q.hearing.peers.items → q.hearing.me ≡ a.hearing.me
      → WindowTakes from (take len a.room.items) a.now a.hearing.peers.items a.outbound.window q.outbound.window
      → (d : Packet) × TakesAll p.now (d ∷ []) (state_of (M p.port) p) (state_of (M q.port) q)
  asks_came q from len then receives taken known me window =
      let d : Packet = record { address = from; bytes = take len a.room.items } in
      let one = came_in M (asking p c) a q from len same then size receives taken known me window in
      let others = asks_others (M p.port) p c waiting operate in
      (d, takes_later p.now (d ∷ []) (state_of (M p.port) p) (state_of (M p.port) (asking p c)) (state_of (M q.port) q) others (takes_one p.now d (state_of (M p.port) (asking p c)) (state_of (M q.port) q) one))

  -- it fails
  pub asks_failed : (had : Bool) (before after : List ℕ) (e : Failed) → IsAnswer had (M p.port) (M a.port) p.room.items a.room.items (Err e) → TakesOrEnds had p.now before after (state_of (M p.port) p) (state_of (M a.port) a) (Err e)
  asks_failed had before after e answer =
      let asked : Answers (Err e) (M p.port) (M a.port) ⊎ ((M a.port ≡ M p.port) × (had ≡ true)) = elim answer [
        | inl receives ↦ inl (p.room.items, a.room.items, receives)
        | inr failed ↦ inr failed
      ] in
      (state_of (M p.port) a, asks_stands, ((kept_as_it_is a.inbound, (refl, refl, refl)), asked))

  -- it has none
  pub asks_none : (n : FlowPort P C) (had : Bool) (before after : List ℕ) (got : Recv) → (let last : FlowPort P C = record a { inbound = n.inbound } in n ≡ last) → n.port ≡ a.port
      → Receives (M p.port) (M a.port) p.room.items a.room.items (Ok Nothing) → ((got ≡ Nothing → ⊥) → NextGoes a.inbound n.inbound before after got) → (got ≡ Nothing → SameKept a.inbound n.inbound)
      → TakesOrEnds had p.now before after (state_of (M p.port) p) (state_of (M n.port) n) (Ok (Some got))
  asks_none n had before after got then port receives goes stays =
      let answers = subst (λ (x : P). Receives (M p.port) (M x) p.room.items a.room.items (Ok Nothing)) (sym port) receives in
      (state_of (M p.port) a, asks_stands, ends_last (M p.port) (M n.port) had [] before after a n got then (inl (p.room.items, a.room.items, answers)) goes stays)

-- what ends so after a moment ends so from its start
pub later : (had : Bool) (now : ℕ) (before other after : List ℕ) (a b new : State) (r : Result (Option Recv) Failed) → length other ≡ length before → Stands a b → TakesOrEnds had now before after b new r → TakesOrEnds had now other after a new r
later had now before other after a b new (Ok None) size stands (p, all) = (p, takes_later now (p ∷ []) a b new stands all)
later had now before other after a b new (Ok (Some got)) size stands (last, more, ends) = (last, stands_then a b last stands more, ends_other had had [] before other after last new (Ok got) refl size ends)
later had now before other after a b new (Err e) size stands (last, more, ends) = (last, stands_then a b last stands more, ends_other had had [] before other after last new (Err e) refl size ends)

-- it fails, and the error is passed on
pub fails_so : (had : Bool) (now : ℕ) (before after : List ℕ) (a new : State) (e : Failed) (r : Result Recv Failed) → IsErrAnd r (λ x. x ≡ e) → TakesAndEnds had now before after a new (Err e) → TakesAndEnds had now before after a new r
fails_so had now before after a new e (Ok got) is ends = absurd is
fails_so had now before after a new e (Err x) is ends = rw is ends

-- ---- loops

pub none_came : (now : ℕ) (s : State) → (came : List Packet) × TakesAll now came s s × (length came ≡ 0)
none_came now s = ([], stands_still s, refl)

module _ (now now_then : ℕ) (same : now_then ≡ now) (ps : List Packet) (a b c : State) (all : TakesAll now ps a b) (count : ℕ) (many : length ps ≡ count) where
  pub takes_more : (p : Packet) → TakesAll now_then (p ∷ []) b c → (came : List Packet) × TakesAll now came a c × (length came ≡ count + 1)
  takes_more p one = (ps ++ p ∷ [], takes_on now now_then ps p a b c same all one, length-append ps (p ∷ []) ∙ ap (λ (n : ℕ). n + 1) many)

  pub one_more : (had : Bool) (before after : List ℕ) (got : Option Recv) → got ≡ None → TakesOrEnds had now_then before after b c (Ok got) → (came : List Packet) × TakesAll now came a c × (length came ≡ count + 1)
  one_more had before after None is (p, one) = takes_more p one
  one_more had before after (Some got) is ends = absurd (none-some got (sym is))

  pub reads_on : (had had_then has : Bool) (read : Bool) → had_then ≡ had → read ≡ true → ReadsOne had_then has now_then b c read → ((came : List Packet) × TakesAll now came a c × (length came ≡ count + 1)) × (has ≡ had)
  reads_on had had_then has true is was_read (p, one, failed) = (takes_more p (takes_one now_then p b c one), failed ∙ is)
  reads_on had had_then has false is was_read none = absurd (true≢false (sym was_read))

pub reads_none : (had had_then has : Bool) (now : ℕ) (read : Bool) (b c : State) → had_then ≡ had → read ≡ false → ReadsOne had_then has now b c read → ReadsNone had has b c
reads_none had had_then has now false b c same was_read none = subst (λ (h : Bool). ReadsNone h has b c) same none
reads_none had had_then has now true b c same was_read one = absurd (true≢false was_read)

pub failed_same : {P C : Type 0} (a q : FlowPort P C) → (let taken : FlowPort P C = record a { hearing = q.hearing; quiet = q.quiet; inbound = q.inbound; outbound = q.outbound; lost = q.lost } in q ≡ taken) → q.has_failed ≡ a.has_failed
failed_same {P = P} {C = C} a q same = ap (λ (x : FlowPort P C). x.has_failed) same

pub same_rest : (i j : Inbound) → SameKept i j → NoMore (kept_in i) (kept_in j)
same_rest i j ((ready, frames, links), waiting, operate) a b has = elim has [
  | inl of_peer ↦ elim of_peer [
    | inl is_ready ↦ inl (inl (subst (λ (ds : List Kept). ready_in ds a b) ready is_ready))
    | inr waits ↦ inl (inr (subst (λ (fs : List (Option Frame)). early_in fs a b) frames waits))
  ]
  | inr of_client ↦ elim of_client [
    | inl waits ↦ inr (inl (subst (λ (rs : List Waiting). waiting_in rs a b) waiting waits))
    | inr latest ↦ inr (inr (subst (λ (o : Option Operate). operate_in o a b) operate latest))
  ]
]
