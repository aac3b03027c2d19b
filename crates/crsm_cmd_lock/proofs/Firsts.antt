-- There is one first reply, and one next step after it.
use Rattle.std.proofs.Common.{◌≡◌, ℕ, List, [], ◌∷◌, ◌++◌, Option, Some, None, sym, ◌∙◌, ap, subst, inl, inr}
use Rattle.std.specs.List.{AllByRecursion}
use Rattle.crsm_base.specs.declared.Command.{Command}
use Rattle.crsm_base.specs.declared.Datagram.{Datagram}
use Rattle.crsm_base.specs.declared.Datagram.TheVariants.{Reply}
use Rattle.crsm_base.specs.declared.answer.Answer.{Answer}
use Rattle.crsm_base.specs.declared.answer.Outcome.{Outcome}
use Rattle.crsm_base.specs.MessageReading.{datagram_of}
use Rattle.crsm_base.proofs.DatagramLaws.{datagram_of-bytes}
use Rattle.crsm_client.specs.Asking.{IsOther, IsReply}
use Rattle.crsm_lease.specs.Locks.{HasLock, LocksHaveOneValue}
use Rattle.crsm_lease.specs.Rules as rules
use Rattle.crsm_lease.specs.Rules.{found_by, next_of, rule}
use Rattle.crsm_lease.specs.declared.lock.Lock.{Lock}
use Rattle.crsm_lease.specs.declared.rule.NextStep.{NextStep}
use Rattle.crsm_port.specs.Meaning.{Packet}
use Rattle.crsm_cmd_lock.specs.Answers.{HasFirstReply}
use Rattle.crsm_cmd_lock.specs.Learning.{IsRuled}
use Rattle.crsm_cmd_lock.specs.declared.command.LockOrder.{LockOrder}

-- ---- of replies

-- the datagram that is in these bytes
reads : (to : ℕ) (command : Command) (outcome : Outcome) (d : Packet) → IsReply to command outcome d → datagram_of d.bytes ≡ Some (Reply command.client command.number outcome)
reads to command outcome d is = ap datagram_of is.spelt.is ∙ datagram_of-bytes (Reply command.client command.number outcome) is.spelt.fits

same_reply : (client number : ℕ) (a b : Outcome) → ◌≡◌ {A = Option Datagram} (Some (Reply client number a)) (Some (Reply client number b)) → a ≡ b
same_reply client number a b e = cc

pub one_outcome : (to : ℕ) (command : Command) (a b : Outcome) (d : Packet) → IsReply to command a d → IsReply to command b d → a ≡ b
one_outcome to command a b d is is2 = same_reply command.client command.number a b (sym (reads to command a d is) ∙ reads to command b d is2)

-- the same first reply, with the same datagrams after it
pub record AreSame (a b : Outcome) (rest after : List Packet) : Type 0 where
  pub outcome : a ≡ b
  pub rest_is : rest ≡ after

module _ (to : ℕ) (command : Command) where
  same_first : (xs ys rest after : List Packet) (d e : Packet) (a b : Outcome) → xs ++ d ∷ rest ≡ ys ++ e ∷ after → AllByRecursion (IsOther to command) xs → AllByRecursion (IsOther to command) ys
      → IsReply to command a d → IsReply to command b e → AreSame a b rest after
  same_first [] [] rest after d e a b is xs_other ys_other reply reply2 =
      let same : d ≡ e = cc in record { outcome = one_outcome to command a b e (subst (IsReply to command a) same reply) reply2; rest_is = cc }
  same_first [] (y ∷ ys) rest after d e a b is xs_other ys_other reply reply2 = let same : d ≡ y = cc in absurd (ys_other.0 a (subst (IsReply to command a) same reply))
  same_first (x ∷ xs) [] rest after d e a b is xs_other ys_other reply reply2 = let same : e ≡ x = cc in absurd (xs_other.0 b (subst (IsReply to command b) same reply2))
  same_first (x ∷ xs) (y ∷ ys) rest after d e a b is xs_other ys_other reply reply2 =
      let tail : xs ++ d ∷ rest ≡ ys ++ e ∷ after = cc in same_first xs ys rest after d e a b tail xs_other.1 ys_other.1 reply reply2

  pub one_first : (received : List Packet) (a b : Outcome) (rest after : List Packet) → HasFirstReply to command received a rest → HasFirstReply to command received b after → AreSame a b rest after
  one_first received a b rest after f g =
      same_first f.others g.others rest after f.reply g.reply a b (sym f.are ∙ g.are) f.none_before g.none_before f.is_reply g.is_reply

  -- where no reply is, none is the first
  no_first_in : (xs rest : List Packet) (d : Packet) (a : Outcome) → AllByRecursion (IsOther to command) (xs ++ d ∷ rest) → IsReply to command a d → ⊥
  no_first_in [] rest d a others reply = others.0 a reply
  no_first_in (x ∷ xs) rest d a others reply = no_first_in xs rest d a others.1 reply

  pub no_first : (received : List Packet) (a : Outcome) (rest : List Packet) → AllByRecursion (IsOther to command) received → HasFirstReply to command received a rest → ⊥
  no_first received a rest others f = no_first_in f.others rest f.reply a (subst (AllByRecursion (IsOther to command)) f.are others) f.is_reply

-- ---- of what follows

module _ (one : LocksHaveOneValue) where
  one_lock : (found : Option (List ℕ)) (a b : Lock) → HasLock found a → HasLock found b → a ≡ b
  one_lock None a b has has2 = has ∙ sym has2
  one_lock (Some value) a b has has2 = one a b has.fits has2.fits (sym has.is ∙ has2.is)

  one_ruling : (order : LockOrder) (found : Option (List ℕ)) (m n : NextStep) → rules.IsRuled order.action order.client order.key found m → rules.IsRuled order.action order.client order.key found n → m ≡ n
  one_ruling order found m n ruled ruled2 = elim ruled [
    | inl (lock, has, is) ↦ elim ruled2 [
      | inl (lock2, has2, is2) ↦ is ∙ ap (λ (l : Lock). next_of order.key found (rule order.action order.client (found_by order.client l))) (one_lock found lock lock2 has has2) ∙ sym is2
      | inr (none, is2) ↦ absurd (none lock has)
    ]
    | inr (none, is) ↦ elim ruled2 [ inl (lock2, has2, is2) ↦ absurd (none lock2 has2) | inr (none2, is2) ↦ is ∙ sym is2 ]
  ]

  pub one_next : (order : LockOrder) (found : Outcome) (m n : NextStep) → IsRuled order found m → IsRuled order found n → m ≡ n
  one_next order (Outcome.Answered (Answer.Found value)) m n ruled ruled2 = one_ruling order (Some value) m n ruled ruled2
  one_next order (Outcome.Answered Answer.Missing) m n ruled ruled2 = one_ruling order None m n ruled ruled2
  one_next order (Outcome.Answered (Answer.Stale number)) m n ruled ruled2 = ruled ∙ sym ruled2
  one_next order (Outcome.Answered Answer.NoRoom) m n ruled ruled2 = ruled ∙ sym ruled2
  one_next order (Outcome.Answered Answer.Done) m n ruled ruled2 = ruled ∙ sym ruled2
  one_next order (Outcome.Answered (Answer.Differs value)) m n ruled ruled2 = ruled ∙ sym ruled2
  one_next order (Outcome.Refused why) m n ruled ruled2 = ruled ∙ sym ruled2
