-- A client has its answers if and only if they are among the datagrams received.
use Rattle.std.proofs.Common.{◌≡◌, ℕ, List, [], ◌∷◌, ◌++◌, map, Option, Some, None, IsSome, Result, Ok, Err, inl, inr, refl, sym, ◌∙◌, ap, subst, append_assoc}
use Rattle.std.proofs.lemmas.List.{append_cancel_left, map-append}
use Rattle.crsm_base.specs.declared.Command.{Command}
use Rattle.crsm_base.specs.declared.command.Op.{Op}
use Rattle.crsm_base.specs.declared.answer.Outcome.{Outcome}
use Rattle.crsm_client.specs.Asking.{EndsWithReply}
use Rattle.crsm_client.specs.Exchange.{Exchange, received_of}
use Rattle.crsm_client.specs.declared.error.AskError.{AskError}
use Rattle.crsm_client.specs.declared.error.AskError.TheVariants.{NoAnswer}
use Rattle.crsm_lease.specs.Locks.{LocksHaveOneValue}
use Rattle.crsm_lease.specs.declared.rule.NextStep.{NextStep}
use Rattle.crsm_lease.specs.declared.told.Told.{Told}
use Rattle.crsm_port.specs.Cluster.{over}
use Rattle.crsm_port.specs.Meaning.{Framing, Meaning, Packet, Traffic}
use Rattle.crsm_cmd_lock.specs.Answers.{HasFirstReply, IsServed, TookAnswers}
use Rattle.crsm_cmd_lock.specs.Learning.{AsksFor, AsksNext, Fails, IsRuled, Learns, follows_of, look_of}
use Rattle.crsm_cmd_lock.specs.declared.command.LockOrder.{LockOrder}
use Rattle.crsm_cmd_lock.proofs.Firsts.{no_first, one_first, one_next}

-- the last of what was received is the first reply
ends_first : (to : ℕ) (command : Command) (outcome : Outcome) (received : List Packet) → EndsWithReply to command outcome received → HasFirstReply to command received outcome []
ends_first to command outcome received e = record { others = e.others; reply = e.reply; are = e.received_are; none_before = e.none_before; is_reply = e.is_reply }

-- and stays it before more
more_after : (to : ℕ) (command : Command) (outcome : Outcome) (received more : List Packet) → EndsWithReply to command outcome received → HasFirstReply to command (received ++ more) outcome more
more_after to command outcome received more e = record {
  others = e.others;
  reply = e.reply;
  are = ap (λ (l : List Packet). l ++ more) e.received_are ∙ append_assoc e.others (e.reply ∷ []) more;
  none_before = e.none_before;
  is_reply = e.is_reply;
}

-- a port whose traffic is specified before has it specified after
told_after : (o : Option Traffic) → IsSome o → (u : Traffic) × (o ≡ Some u)
told_after None is = absurd (cc)
told_after (Some u) is = (u, refl)

some_of : (o : Option Traffic) (t : Traffic) → o ≡ Some t → IsSome o
some_of o t is = subst (λ (x : Option Traffic). IsSome x) (sym is) refl

module _ (order : LockOrder) (old : Meaning) where
  abbrev pub seen : Packet → Packet
  seen = received_of (over 0 old.framing)

  -- what was taken while one request was asked
  record Took (command : Command) (x : Exchange) (t u : Traffic) : Type 0 where
    pub packets : List Packet
    pub taken : u.taken ≡ t.taken ++ packets
    pub received : x.received ≡ map seen packets

  took : (command : Command) (result : Result Outcome AskError) (new : Meaning) (a : AsksFor order command old new result) (t u : Traffic) → old.traffic ≡ Some t → new.traffic ≡ Some u
      → Took command a.exchange t u
  took command result new a t u is at = let m = a.exchanges.moves t u is at in record { packets = m.packets; taken = m.taken; received = m.received_are }

  -- what was taken while both were
  pub record TookBoth (op : Op) (new : Meaning) (result : Result Outcome AskError) (a : AsksNext order op old new result) (t u : Traffic) : Type 0 where
    pub packets : List Packet
    pub taken : u.taken ≡ t.taken ++ packets
    pub first : HasFirstReply order.to (look_of order) (map seen packets) a.found a.asks.exchange.received

  module _ (op : Op) (new : Meaning) (result : Result Outcome AskError) (a : AsksNext order op old new result) (t u : Traffic) (is : old.traffic ≡ Some t) (at : new.traffic ≡ Some u) where
    between_told : (v : Traffic) × (a.between.traffic ≡ Some v)
    between_told = told_after a.between.traffic (a.looks.exchanges.told.0 (some_of old.traffic t is))

    second : (v : Traffic) → a.between.traffic ≡ Some v → Took (follows_of order op) a.asks.exchange v u
    second v mid =
        let m = a.asks.exchanges.moves v u mid at in
        record { packets = m.packets; taken = m.taken; received = m.received_are ∙ ap (λ (k : Framing). map (received_of (over 0 k)) m.packets) a.looks.exchanges.same_framing }

    pub took_both : TookBoth op new result a t u
    took_both =
        let v = between_told.0 in
        let one = took (look_of order) (Ok a.found) a.between a.looks t v is between_told.1 in
        let two = second v between_told.1 in
        let all : map seen (one.packets ++ two.packets) ≡ a.looks.exchange.received ++ a.asks.exchange.received =
        map-append seen one.packets two.packets ∙ ap (λ (l : List Packet). l ++ map seen two.packets) (sym one.received) ∙ ap (λ (l : List Packet). a.looks.exchange.received ++ l) (sym two.received) in
        record {
          packets = one.packets ++ two.packets;
          taken = two.taken ∙ ap (λ (l : List Packet). l ++ two.packets) one.taken ∙ append_assoc t.taken one.packets two.packets;
          first = subst (λ (l : List Packet). HasFirstReply order.to (look_of order) l a.found a.asks.exchange.received) (sym all)
              (more_after order.to (look_of order) a.found a.looks.exchange.received a.asks.exchange.received a.looks.ended.reply);
        }

-- ---- all that was taken is the same

same_packets : (t u : Traffic) (xs ys : List Packet) → u.taken ≡ t.taken ++ xs → u.taken ≡ t.taken ++ ys → xs ≡ ys
same_packets t u xs ys a b = append_cancel_left t.taken xs ys (sym a ∙ b)

-- ---- no answer is missed

served_is : (order : LockOrder) (rest received : List Packet) (next : NextStep) (op : Op) → rest ≡ received → next ≡ NextStep.Ask op → IsServed order rest next → IsServed order received (NextStep.Ask op)
served_is order rest received next op same is served = subst (λ (l : List Packet). IsServed order l (NextStep.Ask op)) same (subst (λ (n : NextStep). IsServed order rest n) is served)

module _ (one : LocksHaveOneValue) (order : LockOrder) (old new : Meaning) (t u : Traffic) (is : old.traffic ≡ Some t) (at : new.traffic ≡ Some u) (all : TookAnswers order old.framing t u) where
  look_missed : AsksFor order (look_of order) old new (Err NoAnswer) → ⊥
  look_missed a =
      let mine = took order old (look_of order) (Err NoAnswer) new a t u is at in
      let same = same_packets t u all.packets mine.packets all.taken mine.taken in
      let looked = subst (λ (l : List Packet). HasFirstReply order.to (look_of order) l all.answers.found all.answers.rest) (ap (map (seen order old)) same ∙ sym mine.received) all.answers.looked in
      no_first order.to (look_of order) a.exchange.received all.answers.found all.answers.rest a.ended.none looked

  next_missed : (op : Op) → AsksNext order op old new (Err NoAnswer) → ⊥
  next_missed op a =
      let mine = took_both order old op new (Err NoAnswer) a t u is at in
      let same = same_packets t u all.packets mine.packets all.taken mine.taken in
      let received = a.asks.exchange.received in
      let looked = subst (λ (l : List Packet). HasFirstReply order.to (look_of order) l all.answers.found all.answers.rest) (ap (map (seen order old)) same) all.answers.looked in
      let firsts = one_first order.to (look_of order) (map (seen order old) mine.packets) all.answers.found a.found all.answers.rest received looked mine.first in
      let ruled = subst (λ (found : Outcome). IsRuled order found all.answers.next) firsts.outcome all.answers.ruled in
      let served = served_is order all.answers.rest received all.answers.next op firsts.rest_is (one_next one order a.found all.answers.next (NextStep.Ask op) ruled a.ruled) all.answers.served in
      no_first order.to (follows_of order op) received served.0 served.1 a.asks.ended.none served.2

  pub missed : Fails order old new NoAnswer → ⊥
  missed fails = elim fails [ inl a ↦ look_missed a | inr (op, a) ↦ next_missed op a ]

-- ---- nor is one made up

module _ (order : LockOrder) (old new : Meaning) (told : Told) (t u : Traffic) (is : old.traffic ≡ Some t) (at : new.traffic ≡ Some u) where
  pub took_answers : Learns order old new told → TookAnswers order old.framing t u
  took_answers learnt = elim learnt [
    | inl a ↦ let mine = took order old (look_of order) (Ok a.found) new a.looks t u is at in
        record {
          packets = mine.packets;
          taken = mine.taken;
          answers = record {
            found = a.found;
            rest = [];
            looked = subst (λ (l : List Packet). HasFirstReply order.to (look_of order) l a.found []) mine.received
                (ends_first order.to (look_of order) a.found a.looks.exchange.received a.looks.ended.reply);
            next = NextStep.End told;
            ruled = a.ruled;
            served = tt;
          };
        }
    | inr a ↦ let mine = took_both order old a.op new (Ok a.outcome) a.asked t u is at in
        record {
          packets = mine.packets;
          taken = mine.taken;
          answers = record {
            found = a.asked.found;
            rest = a.asked.asks.exchange.received;
            looked = mine.first;
            next = NextStep.Ask a.op;
            ruled = a.asked.ruled;
            served = (a.outcome, [], ends_first order.to (follows_of order a.op) a.outcome a.asked.asks.exchange.received a.asked.asks.ended.reply);
          };
        }
  ]
