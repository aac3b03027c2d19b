-- What a port over another gives and may send, from call to call.
use Rattle.std.proofs.Common.{◌≡◌, ℕ, List, refl, ap, subst, inl}
use Rattle.crsm_port.specs.Passing.{Datagrams, NoMore, OneMore, PassesOn, Rests, either}
use Rattle.crsm_port_flow.proofs.Keepings.{gives_kept, gives_same}
use Rattle.crsm_port_flow.proofs.Sendings.{passed, rests, said}
use Rattle.crsm_port_flow.specs.Acks.{SaysHearing, held_in, sent_with}
use Rattle.crsm_port_flow.specs.Kept.{KeepsOnly, given_by, kept_in}
use Rattle.crsm_port_flow.specs.declared.acks.Ack.{Ack}
use Rattle.crsm_port_flow.specs.declared.acks.LastAcks.{LastAcks}
use Rattle.crsm_port_flow.specs.declared.inbound.Inbound.{Inbound}
use Rattle.crsm_port_flow.specs.declared.outbound.Outbound.{Outbound}

pub no_more_then : (D E F : Datagrams) → NoMore D E → NoMore E F → NoMore D F
no_more_then D E F one other a b has = one a b (other a b has)

-- the same port gives the same
pub no_more_of : {X : Type 0} (F : X → Datagrams) (x y : X) → y ≡ x → NoMore (F x) (F y)
no_more_of F x y same a b has = subst (λ z. F z a b) same has

pub one_more_of : {X : Type 0} (F : X → Datagrams) (x y z : X) (to : ℕ) (bytes : List ℕ) → y ≡ x → OneMore to bytes (F y) (F z) → OneMore to bytes (F x) (F z)
one_more_of F x y z to bytes same one = subst (λ w. OneMore to bytes (F w) (F z)) same one

pub none_more : (to : ℕ) (bytes : List ℕ) (D E : Datagrams) → NoMore D E → OneMore to bytes D E
none_more to bytes D E more a b has = inl (more a b has)

-- ---- over a port, where `G` and `S` are what it gives and may send

module _ {X : Type 0} (G S : X → Datagrams) where
  -- a send that waits
  pub waits : (port after : X) (i j : Inbound) (old same new : List Ack) (to : ℕ) (bytes : List ℕ) → after ≡ port → NoMore (kept_in i) (kept_in j) → same ≡ old → OneMore to bytes (held_in same) (held_in new)
      → PassesOn (given_by (G port) i) (given_by (G after) j) (sent_with (S port) old) (sent_with (S after) new) to bytes
  waits port after i j old same new to bytes is stays held_same held = record {
    no_more_given = gives_same (G port) (G after) (no_more_of G port after is) i j stays;
    one_more_sent = passed (S port) (S after) old new to bytes (none_more to bytes (S port) (S after) (no_more_of S port after is)) (subst (λ (acks : List Ack). OneMore to bytes (held_in acks) (held_in new)) held_same held);
  }

  -- a send that goes below
  pub goes : (port between after : X) (i j : Inbound) (old same new : List Ack) (to : ℕ) (bytes : List ℕ) → between ≡ port → NoMore (kept_in i) (kept_in j) → same ≡ old → OneMore to bytes (held_in same) (held_in new)
      → PassesOn (G between) (G after) (S between) (S after) to bytes → PassesOn (given_by (G port) i) (given_by (G after) j) (sent_with (S port) old) (sent_with (S after) new) to bytes
  goes port between after i j old same new to bytes is stays held_same held went = record {
    no_more_given = gives_same (G port) (G after) (no_more_then (G port) (G between) (G after) (no_more_of G port between is) went.no_more_given) i j stays;
    one_more_sent = passed (S port) (S after) old new to bytes (one_more_of S port between after to bytes is went.one_more_sent) (subst (λ (acks : List Ack). OneMore to bytes (held_in acks) (held_in new)) held_same held);
  }

  -- held acknowledgements go, and then what a node says of its hearing
  pub flushed : (port between said_port after : X) (i : Inbound) (old new : List Ack) → NoMore (G port) (G between) → NoMore (sent_with (S port) old) (sent_with (S between) new) → NoMore (G between) (G said_port)
      → NoMore (either (S between) SaysHearing) (S said_port) → NoMore (G said_port) (G after) → NoMore (S said_port) (S after)
      → Rests (given_by (G port) i) (given_by (G after) i) (sent_with (S port) old) (sent_with (S after) new)
  flushed port between said_port after i old new gives sends gives_then sends_then gives_last sends_last = record {
    no_more_given =
        gives_same (G port) (G after) (no_more_then (G port) (G between) (G after) gives (no_more_then (G between) (G said_port) (G after) gives_then gives_last)) i i (λ a b h. h);
    no_more_sent =
        no_more_then (sent_with (S port) old) (sent_with (S between) new) (sent_with (S after) new) sends
        (said (S between) (S after) new new (no_more_then (either (S between) SaysHearing) (S said_port) (S after) sends_then sends_last) refl);
  }

  -- a datagram that came up is kept
  pub came_up : (port asked after : X) (i j : Inbound) (from : ℕ) (bytes : List ℕ) → NoMore (G port) (G asked) → after ≡ asked → G port from bytes → KeepsOnly from bytes (kept_in i) (kept_in j)
      → NoMore (given_by (G port) i) (given_by (G after) j)
  came_up port asked after i j from bytes one same came keeps =
      gives_kept (G port) (G after) (no_more_then (G port) (G asked) (G after) one (no_more_of G asked after same)) i j from bytes came keeps

  pub given_before : (port between : X) (i : Inbound) → NoMore (G port) (G between) → NoMore (given_by (G port) i) (given_by (G between) i)
  given_before port between i gives = gives_same (G port) (G between) gives i i (λ a b h. h)

  -- a receive, after held acknowledgements went
  pub received : (port between after : X) (i j : Inbound) (old new last : List Ack) → NoMore (G port) (G between) → NoMore (sent_with (S port) old) (sent_with (S between) new)
      → NoMore (given_by (G between) i) (given_by (G after) j) → NoMore (S between) (S after) → last ≡ new → Rests (given_by (G port) i) (given_by (G after) j) (sent_with (S port) old) (sent_with (S after) last)
  received port between after i j old new last gives sends gives_then sends_then same = record {
    no_more_given = no_more_then (given_by (G port) i) (given_by (G between) i) (given_by (G after) j) (given_before port between i gives) gives_then;
    no_more_sent = no_more_then (sent_with (S port) old) (sent_with (S between) new) (sent_with (S after) last) sends (rests (S between) (S after) new last sends_then same);
  }

  -- datagrams are read ahead, and memory is reserved
  pub reserved : (port between after : X) (i looked j : Inbound) (old new : List Ack) → NoMore (kept_in i) (kept_in looked) → NoMore (given_by (G port) looked) (given_by (G between) j) → NoMore (S port) (S between) → new ≡ old
      → Rests (G between) (G after) (S between) (S after) → Rests (given_by (G port) i) (given_by (G after) j) (sent_with (S port) old) (sent_with (S after) new)
  reserved port between after i looked j old new stays gives sends same last = record {
    no_more_given =
        no_more_then (given_by (G port) i) (given_by (G port) looked) (given_by (G after) j) (gives_same (G port) (G port) (λ a b h. h) i looked stays)
        (no_more_then (given_by (G port) looked) (given_by (G between) j) (given_by (G after) j) gives (given_before between after j last.no_more_given));
    no_more_sent = rests (S port) (S after) old new (no_more_then (S port) (S between) (S after) sends last.no_more_sent) same;
  }

  -- the port receives, and nothing more is kept
  pub given_after : (D : Datagrams) (port after : X) (i j : Inbound) → NoMore D (given_by (G port) i) → NoMore (G port) (G after) → NoMore (kept_in i) (kept_in j) → NoMore D (given_by (G after) j)
  given_after D port after i j before more stays = no_more_then D (given_by (G port) i) (given_by (G after) j) before (gives_same (G port) (G after) more i j stays)

pub kept_same : (i j : Inbound) → j ≡ i → NoMore (kept_in i) (kept_in j)
kept_same i j same a b has = subst (λ (x : Inbound). kept_in x a b) same has

pub outbound_same : (a b : Outbound) → a ≡ b → a.acks ≡ b.acks
outbound_same a b same = ap (λ (o : Outbound). o.acks) same

pub acks_same : (a b : LastAcks) → a ≡ b → a.acks.items ≡ b.acks.items
acks_same a b same = ap (λ (x : LastAcks). x.acks.items) same
