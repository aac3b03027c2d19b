-- The operation that follows a read, and its result.
use Rattle.std.proofs.Common.{◌≡◌, ℕ, ◌<◌, ◌-◌, ◌^◌, List, length, Option, Some, None, Result, Ok, Err, inl, inr, refl, ◌∙◌, sym, ap, subst, arith}
use Rattle.crsm_base.specs.declared.command.Op.{Op}
use Rattle.crsm_base.specs.declared.answer.Answer.{Answer}
use Rattle.crsm_base.specs.declared.answer.Outcome.{Outcome}
use Rattle.crsm_base.specs.Spelling.{FitsCommand, FitsKey, FitsOp, FitsOption, FitsVal}
use Rattle.crsm_client.specs.declared.error.AskError.{AskError}
use Rattle.crsm_client.specs.declared.error.AskError.TheVariants.{NoAnswer, PortFault, NoMemory}
use Rattle.crsm_lease.specs.Locks.{HasLock, lock_bytes}
use Rattle.crsm_lease.specs.Rules as rules
use Rattle.crsm_lease.specs.Rules.{Asks, FollowsGet, cas_to, next_of}
use Rattle.crsm_lease.specs.declared.lock.Lock.{Lock}
use Rattle.crsm_lease.specs.declared.rule.NextStep.{NextStep}
use Rattle.crsm_lease.specs.declared.rule.Ruling.{Ruling}
use Rattle.crsm_lease.specs.declared.told.Told.{Told}
use Rattle.crsm_port.specs.Meaning.{Meaning}
use Rattle.crsm_cmd_lock.specs.Learning.{AsksFor, AsksNext, IsCasOf, IsRuled, Learns, LearnsOr, TellsNext, follows_of, look_of}
use Rattle.crsm_cmd_lock.specs.Commands.{LockRan, WritesTold}
use Rattle.crsm_cmd_lock.specs.declared.command.LockEnd.{LockEnd}
use Rattle.crsm_cmd_lock.specs.declared.command.LockEnd.TheVariants as end
use Rattle.crsm_cmd_lock.specs.declared.command.LockOrder.{LockOrder}

-- ---- what is asked fits

-- the value of every lock has 17 bytes
abbrev HasFew : Type 0
HasFew = (lock : Lock) → length (lock_bytes lock) ≡ 17

value_fits : HasFew → (lock : Lock) (value : List ℕ) → value ≡ lock_bytes lock → FitsVal value
value_fits few lock value is = record { most = omega (arith, ap (λ (v : List ℕ). length v) is, few lock) }

found_fits : HasFew → (found : Option (List ℕ)) (lock : Lock) → HasLock found lock → FitsOption FitsVal found
found_fits few None lock has = tt
found_fits few (Some value) lock has = value_fits few lock value has.is

pub asked_fits : HasFew → (order : LockOrder) (op : Op) → FitsKey order.key → order.client < 2 ^ 64 → order.number < 2 ^ 64 - 1 → Asks order.action order.client op → IsCasOf order.key op
    → FitsCommand (follows_of order op)
asked_fits few order op key client number asks cas = record { client = client; number = omega (arith, number); op = subst FitsOp (sym asks.is) op_fits }
  where
    same : Op.Cas asks.key asks.found (Some (lock_bytes asks.wanted)) ≡ Op.Cas order.key cas.expected cas.new
    same = sym asks.is ∙ cas.is

    key_is : asks.key ≡ order.key
    key_is = cc

    op_fits : FitsOp (cas_to asks.key asks.found asks.wanted)
    op_fits = (subst FitsKey (sym key_is) key, found_fits few asks.found asks.lock asks.has, value_fits few asks.wanted (lock_bytes asks.wanted) refl)

-- ---- it is of the key

of_ruling : (key : List ℕ) (found : Option (List ℕ)) (ruling : Ruling) (op : Op) → NextStep.Ask op ≡ next_of key found ruling → IsCasOf key op
of_ruling key found (Ruling.Becomes lock) op is = record { expected = found; new = Some (lock_bytes lock); is = cc }
of_ruling key found (Ruling.Tells told) op is = absurd (cc)

not_an_end : (op : Op) (told : Told) → NextStep.Ask op ≡ NextStep.End told → ⊥
not_an_end op told is = cc

module _ (order : LockOrder) (op : Op) where
  of_value : (found : Option (List ℕ)) → rules.IsRuled order.action order.client order.key found (NextStep.Ask op) → IsCasOf order.key op
  of_value found ruled = elim ruled [
    | inl (lock, has, is) ↦ of_ruling order.key found (rules.rule order.action order.client (rules.found_by order.client lock)) op is
    | inr (none, is) ↦ absurd (not_an_end op Told.NotALock is)
  ]

  pub of_key : (found : Outcome) → IsRuled order found (NextStep.Ask op) → IsCasOf order.key op
  of_key (Outcome.Answered (Answer.Found value)) ruled = of_value (Some value) ruled
  of_key (Outcome.Answered Answer.Missing) ruled = of_value None ruled
  of_key (Outcome.Answered (Answer.Stale number)) ruled = absurd (not_an_end op (Told.Stale number) ruled)
  of_key (Outcome.Answered Answer.NoRoom) ruled = absurd (not_an_end op Told.NoRoom ruled)
  of_key (Outcome.Answered Answer.Done) ruled = absurd (not_an_end op Told.Odd ruled)
  of_key (Outcome.Answered (Answer.Differs value)) ruled = absurd (not_an_end op Told.Odd ruled)
  of_key (Outcome.Refused why) ruled = absurd (cc)

-- ---- what is learnt of it

module _ (order : LockOrder) (op : Op) (found : Outcome) (old between new : Meaning) (looks : AsksFor order (look_of order) old between (Ok found)) (ruled : IsRuled order found (NextStep.Ask op)) where
  after : (result : Result Outcome AskError) → AsksFor order (follows_of order op) between new result → AsksNext order op old new result
  after result asks = record { between = between; found = found; looks = looks; ruled = ruled; asks = asks }

  pub learns : (result : Result Told AskError) → TellsNext order op between new result → LearnsOr order old new result
  learns (Ok told) (outcome, asks, tells) = inr (record { op = op; outcome = outcome; asked = after (Ok outcome) asks; ruled = tells })
  learns (Err NoAnswer) asks = inr (op, after (Err NoAnswer) asks)
  learns (Err PortFault) asks = inr (op, after (Err PortFault) asks)
  learns (Err NoMemory) asks = inr (inr (inr (op, after (Err NoMemory) asks)))

-- ---- what is written

pub writes : (order : LockOrder) (old new : Meaning) (told : Told) (had has : Option (List ℕ)) (ended : LockEnd) → Learns order old new told → WritesTold told had has ended
    → LockRan order old new had has ended
writes order old new told had has end.Done learnt put = (told, learnt, put)
writes order old new told had has end.WriteFault learnt put = (told, learnt, put)
writes order old new told had has end.NoMemory learnt same = (inr (told, learnt), same)
writes order old new told had has end.PortFault learnt never = absurd never
writes order old new told had has end.NoAnswer learnt never = absurd never
