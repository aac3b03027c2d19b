use Rattle.std.proofs.Common.{◌≡◌, ℕ, List, arith, inl, inr, refl, subst, take}
use Rattle.std.proofs.lemmas.Grind.{common_steps}
use Rattle.crsm_port_flow.proofs.Earlies.{err_map, ok_map, ok_three}
use Rattle.crsm_port_flow.proofs.Keepings.{clients_kept, peers_kept}
use Rattle.crsm_port_flow.specs.Followed.{IsFollowed}
use Rattle.crsm_port_flow.specs.Hears.{AreKnownBy}
use Rattle.crsm_port_flow.specs.Kept.{KeepsOnly, kept_in}
use Rattle.crsm_port_flow.specs.Lost.{MayDrop, MayLackMemory}
use Rattle.crsm_port_flow.specs.Same.{SameClients, SamePeers}
use Rattle.crsm_port_flow.specs.Taken.{Comes, IsAsked, IsTaken, NoneAgain}
use Rattle.crsm_port_flow.specs.Windows.{WindowTakes}
use Rattle.crsm_port_flow.specs.declared.inbound.Inbound.{Inbound}
use Rattle.crsm_port_flow.proofs.flow.FlowPort.takes.Goals as goal

pub returns-in-Open-clause-kept : goal.returns-in-Open-clause-kept
returns-in-Open-clause-kept g c =
    let i = c.args.self.now.inbound in
    let j : Inbound = record i { peers = c.take_in.new.self } in
    let same : c.in-Some.bytes.now ≡ take c.args.len c.args.self.now.room.items = grind (arith, common_steps, c.in-Some.ensures.lookup, c.deref.ensures.value) in
    subst (λ (b : List ℕ). KeepsOnly c.args.from b (kept_in i) (kept_in j)) same (peers_kept c.args.from c.in-Some.bytes.now i j refl c.take_in.ensures.only)

pub returns-in-Stranger-clause-kept : goal.returns-in-Stranger-clause-kept
returns-in-Stranger-clause-kept g c =
    let i = c.args.self.now.inbound in
    let j : Inbound = record i { clients = c.take_in-in-Stranger.new.self } in
    let same : c.in-Some.bytes.now ≡ take c.args.len c.args.self.now.room.items = grind (arith, common_steps, c.in-Some.ensures.lookup, c.deref.ensures.value) in
    subst (λ (b : List ℕ). KeepsOnly c.args.from b (kept_in i) (kept_in j)) same (clients_kept c.args.from c.in-Some.bytes.now i j refl c.take_in-in-Stranger.ensures.only)

pub returns-in-Open-clause-comes : goal.returns-in-Open-clause-comes
returns-in-Open-clause-comes g c =
    let s = c.args.self.now in
    let i = s.inbound in
    let j : Inbound = record i { peers = c.take_in.new.self } in
    let same : c.in-Some.bytes.now ≡ take c.args.len s.room.items = grind (arith, common_steps, c.in-Some.ensures.lookup, c.deref.ensures.value) in
    let e = c.take_in.ensures in
    ok_three c.take_in.result (IsTaken c.args.from c.in-Some.bytes.now s.now i.peers j.peers) (IsFollowed c.args.from c.in-Some.bytes.now i.peers j.peers) (NoneAgain c.in-Some.bytes.now s.now i.peers j.peers) _
    (λ taken followed back. subst (λ (b : List ℕ). Comes c.args.from b s.now s.hearing.peers.items i j) same (inl (c.in-Open.ensures.peer refl, (taken, followed, e.stays, e.none_lost, back, e.again), refl))) e.taken e.followed e.back

pub returns-in-Open-clause-unchanged : goal.returns-in-Open-clause-unchanged
returns-in-Open-clause-unchanged g c =
    let i = c.args.self.now.inbound in
    err_map c.take_in.result (SamePeers i.peers c.take_in.new.self) _ (λ same. (same, (refl, refl))) c.take_in.ensures.unchanged

pub returns-in-Open-clause-dropped : goal.returns-in-Open-clause-dropped
returns-in-Open-clause-dropped g c = λ err.
    let s = c.args.self.now in
    let same : c.in-Some.bytes.now ≡ take c.args.len s.room.items = grind (arith, common_steps, c.in-Some.ensures.lookup, c.deref.ensures.value) in
    subst (λ (b : List ℕ). MayDrop c.args.from b s.hearing.peers.items s.inbound) same (inl (c.in-Open.ensures.peer refl, c.take_in.ensures.dropped err))

pub returns-in-Open-clause-no_memory : goal.returns-in-Open-clause-no_memory
returns-in-Open-clause-no_memory g c = λ err.
    let s = c.args.self.now in
    let same : c.in-Some.bytes.now ≡ take c.args.len s.room.items = grind (arith, common_steps, c.in-Some.ensures.lookup, c.deref.ensures.value) in
    subst (λ (b : List ℕ). MayLackMemory c.args.from b s.hearing.peers.items s.inbound) same (λ _. c.take_in.ensures.no_memory err)

pub returns-in-Stranger-clause-no_memory : goal.returns-in-Stranger-clause-no_memory
returns-in-Stranger-clause-no_memory g c = λ _ is. absurd (c.in-Stranger.ensures.stranger refl is)

pub returns-in-Stranger-clause-comes : goal.returns-in-Stranger-clause-comes
returns-in-Stranger-clause-comes g c =
    let s = c.args.self.now in
    let i = s.inbound in
    let j : Inbound = record i { clients = c.take_in-in-Stranger.new.self } in
    let same : c.in-Some.bytes.now ≡ take c.args.len s.room.items = grind (arith, common_steps, c.in-Some.ensures.lookup, c.deref.ensures.value) in
    ok_map c.take_in-in-Stranger.result (IsAsked c.args.from c.in-Some.bytes.now s.now i.clients j.clients) _
    (λ taken. subst (λ (b : List ℕ). Comes c.args.from b s.now s.hearing.peers.items i j) same (inr (inl (c.in-Stranger.ensures.stranger refl, taken, refl)))) c.take_in-in-Stranger.ensures.taken

pub returns-in-Stranger-clause-unchanged : goal.returns-in-Stranger-clause-unchanged
returns-in-Stranger-clause-unchanged g c =
    let i = c.args.self.now.inbound in
    err_map c.take_in-in-Stranger.result (SameClients i.clients c.take_in-in-Stranger.new.self) _ (λ same. ((refl, refl, refl), same)) c.take_in-in-Stranger.ensures.unchanged

pub returns-in-Stranger-clause-dropped : goal.returns-in-Stranger-clause-dropped
returns-in-Stranger-clause-dropped g c = λ err.
    let s = c.args.self.now in
    let same : c.in-Some.bytes.now ≡ take c.args.len s.room.items = grind (arith, common_steps, c.in-Some.ensures.lookup, c.deref.ensures.value) in
    subst (λ (b : List ℕ). MayDrop c.args.from b s.hearing.peers.items s.inbound) same (inr (c.in-Stranger.ensures.stranger refl, c.take_in-in-Stranger.ensures.dropped err))

pub returns-in-Closed-clause-comes : goal.returns-in-Closed-clause-comes
returns-in-Closed-clause-comes g c = inr (inr (refl, inr (c.in-Closed.ensures.closed refl)))

pub returns-in-Says-clause-comes : goal.returns-in-Says-clause-comes
returns-in-Says-clause-comes g c =
    let s = c.args.self.now in
    let same : c.in-Some.bytes.now ≡ take c.args.len s.room.items = grind (arith, common_steps, c.in-Some.ensures.lookup, c.deref.ensures.value) in
    subst (λ (b : List ℕ). Comes c.args.from b s.now s.hearing.peers.items s.inbound s.inbound) same (inr (inr (refl, inl (c.in-Says.ensures.says refl))))

pub returns-in-Open-clause-known : goal.returns-in-Open-clause-known
returns-in-Open-clause-known g c =
    let s = c.args.self.now in
    let same : c.in-Some.bytes.now ≡ take c.args.len s.room.items = grind (arith, common_steps, c.in-Some.ensures.lookup, c.deref.ensures.value) in
    subst (λ (b : List ℕ). AreKnownBy s.hearing.me c.args.from b s.now s.hearing.peers.items c.note.new.self.peers.items) same c.note.ensures.known

pub returns-in-Stranger-clause-known : goal.returns-in-Stranger-clause-known
returns-in-Stranger-clause-known g c =
    let s = c.args.self.now in
    let same : c.in-Some.bytes.now ≡ take c.args.len s.room.items = grind (arith, common_steps, c.in-Some.ensures.lookup, c.deref.ensures.value) in
    subst (λ (b : List ℕ). AreKnownBy s.hearing.me c.args.from b s.now s.hearing.peers.items c.note.new.self.peers.items) same c.note.ensures.known

pub returns-in-Closed-clause-known : goal.returns-in-Closed-clause-known
returns-in-Closed-clause-known g c =
    let s = c.args.self.now in
    let same : c.in-Some.bytes.now ≡ take c.args.len s.room.items = grind (arith, common_steps, c.in-Some.ensures.lookup, c.deref.ensures.value) in
    subst (λ (b : List ℕ). AreKnownBy s.hearing.me c.args.from b s.now s.hearing.peers.items c.note.new.self.peers.items) same c.note.ensures.known

pub returns-in-Says-clause-known : goal.returns-in-Says-clause-known
returns-in-Says-clause-known g c =
    let s = c.args.self.now in
    let same : c.in-Some.bytes.now ≡ take c.args.len s.room.items = grind (arith, common_steps, c.in-Some.ensures.lookup, c.deref.ensures.value) in
    subst (λ (b : List ℕ). AreKnownBy s.hearing.me c.args.from b s.now s.hearing.peers.items c.note.new.self.peers.items) same c.note.ensures.known

pub returns-in-Open-clause-window : goal.returns-in-Open-clause-window
returns-in-Open-clause-window g c =
    let s = c.args.self.now in
    let same : c.in-Some.bytes.now ≡ take c.args.len s.room.items = grind (arith, common_steps, c.in-Some.ensures.lookup, c.deref.ensures.value) in
    subst (λ (b : List ℕ). WindowTakes c.args.from b s.now s.hearing.peers.items s.outbound.window c.note_received.new.self.window) same (inl (c.in-Open.ensures.peer refl, c.note_received.ensures.window))
