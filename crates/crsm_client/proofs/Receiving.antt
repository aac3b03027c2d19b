-- One receive as an exchange.
use Rattle.std.proofs.Common.{◌≡◌, ◌∙◌, ℕ, ◌+◌, List, [], ◌∷◌, ◌++◌, length, take, drop, min, Option, Some, None, Result, Ok, Err, IsErrAnd, refl, sym, ap, ap₂, subst, append-nil, arith}
use Rattle.std.proofs.lemmas.List.{take_at}
use Rattle.crsm_base.specs.declared.Command.{Command}
use Rattle.crsm_base.specs.declared.Outcome.{Outcome}
use Rattle.crsm_port.specs.Cluster.{over}
use Rattle.crsm_port.specs.Meaning.{Framing, Meaning, Packet, Receives, Takes, Traffic}
use Rattle.crsm_port.specs.declared.port.Recv.TheVariants.{Datagram, Nothing}
use Rattle.crsm_client.specs.Exchange.{Exchange, Moves, received_of}
use Rattle.crsm_wire.specs.Marks.{mark_in, stripped}
use Rattle.crsm_client.specs.Turns.{BringsReply, ReadsReply, ReceivesOnce}
use Rattle.crsm_client.specs.declared.error.AskError.{AskError}
use Rattle.crsm_client.specs.declared.error.AskError.TheVariants.{NoMemory}
use Rattle.crsm_client.proofs.Marking.{seen}

abbrev one_empty : Exchange
one_empty = record { received = []; empties = 1; requests = 0 }

abbrev one_datagram : Packet → Exchange
one_datagram d = record { received = d ∷ []; empties = 0; requests = 0 }

-- ---- where nothing came

empty_moved : (framing : Framing) (request : Packet) (t : Traffic) → Moves framing request one_empty t t
empty_moved framing request t = record { packets = []; received_are = refl; waited = refl; taken = sym (append-nil t.taken); sent = sym (append-nil t.sent) }

nothing_came : (cluster : ℕ) (old new : Meaning) (before after : List ℕ) → Receives old new before after (Ok Nothing) → ReceivesOnce cluster one_empty old new
nothing_came cluster old new before after r = record {
  once = refl;
  none_sent = refl;
  exchanges = λ request. record {
    told = r.told;
    moves = λ t u is at. subst (λ (v : Traffic). Moves (over cluster old.framing) request one_empty t v) (sym (r.taken t u is at).1) (empty_moved (over cluster old.framing) request t);
    empties = r.empties.0;
    same_framing = r.framing;
    borrowed_as = r.borrowed_as;
  };
  quiet = record { faults = r.no_fault; losses = r.losses };
}

pub brings_nothing : (cluster to : ℕ) (command : Command) (old new : Meaning) (before after : List ℕ) → Receives old new before after (Ok Nothing) → BringsReply cluster to command old new (Ok None)
brings_nothing cluster to command old new before after r = (one_empty, nothing_came cluster old new before after r, tt)

-- ---- where a datagram came

-- what stands in the buffer after the receive
pub in_buffer : (cluster len n : ℕ) (own mark kept view buffer rest : List ℕ) → own ≡ stripped mark (take len view) → mark ≡ kept → kept ≡ mark_in cluster → view ≡ take n (buffer ++ rest)
    → length buffer ≡ n → own ≡ stripped (mark_in cluster) (take len buffer)
in_buffer cluster len n own mark kept view buffer rest is same marked seen_is size =
    is ∙ ap₂ (λ (m v : List ℕ). stripped m (take len v)) (same ∙ marked) (seen_is ∙ take_at buffer rest n size)

same_packet : {a b : ℕ} {x y : List ℕ} → a ≡ b → x ≡ y → Path Packet (record { address = a; bytes = x }) (record { address = b; bytes = y })
same_packet e f = rw (e, f) refl

one_moved : (framing : Framing) (request d e : Packet) (rest : List Packet) (t : Traffic) → e ≡ received_of framing d → t.waiting ≡ d ∷ rest
    → Moves framing request (one_datagram e) t (record t { waiting = rest; taken = t.taken ++ d ∷ [] })
one_moved framing request d e rest t is waits = record { packets = d ∷ []; received_are = ap (λ (p : Packet). p ∷ []) is; waited = waits; taken = refl; sent = sym (append-nil t.sent) }

module _ (cluster from len : ℕ) (old new : Meaning) (before after own : List ℕ) (r : Receives old new before after (Ok (Datagram from len)))
    (room : length before ≡ 8192 + length (mark_in cluster)) (own_is : own ≡ stripped (mark_in cluster) (take len after)) where
  moved : (request : Packet) (t u : Traffic) → Takes old.framing t u before after (Datagram from len) → Moves (over cluster old.framing) request (one_datagram (record { address = from; bytes = own })) t u
  moved request t u (d, rest, waits, address, size, copied, gone) =
      let bytes = (old.framing.unwrap d).bytes in
      let fits = size ∙ ap (λ (n : ℕ). min n (length bytes)) room in
      let is = same_packet address (own_is ∙ seen cluster len bytes after (drop len before) fits copied) in
      subst (λ (v : Traffic). Moves (over cluster old.framing) request (one_datagram (record { address = from; bytes = own })) t v) (sym gone)
      (one_moved (over cluster old.framing) request d (record { address = from; bytes = own }) rest t is waits)

  datagram_came : ReceivesOnce cluster (one_datagram (record { address = from; bytes = own })) old new
  datagram_came = record {
    once = refl;
    none_sent = refl;
    exchanges = λ request. record {
      told = r.told;
      moves = λ t u is at. moved request t u (r.taken t u is at);
      empties = let same : new.empties ≡ old.empties = r.empties in omega arith;
      same_framing = r.framing;
      borrowed_as = r.borrowed_as;
    };
    quiet = record { faults = r.no_fault; losses = r.losses };
  }

  pub brings : (to : ℕ) (command : Command) (found : Option Outcome) → ReadsReply to command (record { address = from; bytes = own }) (Ok found) → BringsReply cluster to command old new (Ok found)
  brings to command None other = (one_datagram (record { address = from; bytes = own }), datagram_came, (other, tt))
  brings to command (Some outcome) reply = (one_datagram (record { address = from; bytes = own }), record { address = from; bytes = own }, datagram_came, refl, reply)

  pub starves : (to : ℕ) (command : Command) (result : Result (Option Outcome) AskError) → IsErrAnd result (λ e. e ≡ NoMemory) → BringsReply cluster to command old new result
  starves to command (Ok found) is = absurd is
  starves to command (Err e) is = rw is (one_datagram (record { address = from; bytes = own }), datagram_came)
