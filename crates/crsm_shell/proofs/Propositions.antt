-- The proof that a record or a datagram has an encoding is unique.
use Rattle.std.proofs.Common.{◌≡◌, ◌+◌, ◌<◌, ℕ, List, [], ◌∷◌, ap, inl, inr, arith}
use Rattle.std.specs.Prelude.{◌⊎◌, Option, Some, None}
use Rattle.std.specs.List.{AllByRecursion}
use Rattle.std.specs.Coded.{×_prop, Unit-prop}
use Rattle.std.proofs.Props.{props}
use Rattle.crsm_base.specs.declared.command.Op.{Op}
use Rattle.crsm_base.specs.declared.command.Op.TheVariants.{Get, Put, Delete, Cas}
use Rattle.crsm_base.specs.declared.command.Command.{Command}
use Rattle.crsm_base.specs.declared.command.Entry.{Entry}
use Rattle.crsm_base.specs.declared.decision.Decision.{Decision}
use Rattle.crsm_base.specs.declared.answer.Answer.TheVariants.{Found, Missing, Done, Differs, Stale, NoRoom}
use Rattle.crsm_base.specs.declared.answer.Outcome.{Outcome}
use Rattle.crsm_base.specs.declared.answer.Outcome.TheVariants.{Answered, Refused}
use Rattle.crsm_base.specs.declared.datagram.InEpoch.{InEpoch}
use Rattle.crsm_base.specs.declared.datagram.InEpoch.TheVariants as payload
use Rattle.crsm_base.specs.declared.datagram.Datagram.{Datagram}
use Rattle.crsm_base.specs.declared.datagram.Datagram.TheVariants as datagram
use Rattle.crsm_base.specs.declared.rec.Rec.{Rec}
use Rattle.crsm_base.specs.declared.rec.Rec.TheVariants as rec
use Rattle.crsm_base.specs.declared.send.Send.{Send}
use Rattle.crsm_base.specs.Members.{IsMembers, RisesWithin}
use Rattle.crsm_base.specs.Messages.{FitsDatagram, FitsPayload}
use Rattle.crsm_base.specs.Records.{FitsRec}
use Rattle.crsm_base.specs.Spelling.{FitsCommand, FitsDecision, FitsEntries, FitsEntry, FitsOp, FitsOption, FitsOutcome, FitsVal, IsBefore, Rises, RisesAfter}
use Rattle.crsm_base.specs.declared.send.To.{To}
use Rattle.crsm_base.specs.declared.send.To.TheVariants as to_whom
use Rattle.crsm_core.specs.Core.{FitsSent, FitsTo}

option_prop : {X : Type 0} (Fits : X → Type 0) → ((x : X) → IsProp (Fits x)) → (o : Option X) → IsProp (FitsOption Fits o)
option_prop Fits h None = Unit-prop
option_prop Fits h (Some x) = h x

all_prop : {X : Type 0} (P : X → Type 0) → ((x : X) → IsProp (P x)) → (xs : List X) → IsProp (AllByRecursion P xs)
all_prop P h [] = Unit-prop
all_prop P h (x ∷ xs) = ×_prop (h x) (all_prop P h xs)

-- two facts that exclude each other
either_prop : {A B : Type 0} → IsProp A → IsProp B → (A → B → ⊥) → IsProp (A ⊎ B)
either_prop p q apart (inl a) (inl b) = ap inl (p a b)
either_prop p q apart (inl a) (inr b) = absurd (apart a b)
either_prop p q apart (inr a) (inl b) = absurd (apart b a)
either_prop p q apart (inr a) (inr b) = ap inr (q a b)

-- ---- numbers in order

within_prop : (low high : ℕ) (ks : List ℕ) → IsProp (RisesWithin low high ks)
within_prop low high [] = Unit-prop
within_prop low high (k ∷ ks) = let rest = within_prop (k + 1) high ks in hlevel (props, rest)

members_prop : (ks : List ℕ) → IsProp (IsMembers ks)
members_prop [] = hlevel props
members_prop (k ∷ ks) = within_prop 0 15 (k ∷ ks)

stamps_prop : (a b : Entry) → IsProp (a.stamp.time < b.stamp.time ⊎ ((a.stamp.time ≡ b.stamp.time) × (a.stamp.origin < b.stamp.origin)))
stamps_prop a b = either_prop (hlevel props) (hlevel props) (λ l e. let t = e.0 in omega (arith, l, t))

before_prop : (a b : Entry) → IsProp (IsBefore a b)
before_prop a b =
    either_prop (hlevel props) (×_prop (hlevel props) (stamps_prop a b)) (λ l e. let t = e.0 in omega (arith, l, t))

rises_prop : (e : Entry) (es : List Entry) → IsProp (RisesAfter e es)
rises_prop e [] = Unit-prop
rises_prop e (f ∷ fs) = ×_prop (before_prop e f) (rises_prop f fs)

all_rise_prop : (es : List Entry) → IsProp (Rises es)
all_rise_prop [] = Unit-prop
all_rise_prop (e ∷ es) = rises_prop e es

-- ---- fields

val_prop : (v : List ℕ) → IsProp (FitsVal v)
val_prop v = hlevel props

maybe_val_prop : (o : Option (List ℕ)) → IsProp (FitsOption FitsVal o)
maybe_val_prop o = option_prop FitsVal val_prop o

op_prop : (o : Op) → IsProp (FitsOp o)
op_prop (Get k) = hlevel props
op_prop (Put k v) = hlevel props
op_prop (Delete k) = hlevel props
op_prop (Cas k expected new) = hlevel (props, maybe_val_prop)

command_prop : (c : Command) → IsProp (FitsCommand c)
command_prop c = let op = op_prop c.op in hlevel (props, op)

entry_prop : (e : Entry) → IsProp (FitsEntry e)
entry_prop e = let command = command_prop e.command in hlevel (props, command)

entries_prop : (es : List Entry) → IsProp (FitsEntries es)
entries_prop es = let each = all_prop FitsEntry entry_prop es in let rises = all_rise_prop es in hlevel (props, each, rises)

decision_prop : (d : Decision) → IsProp (FitsDecision d)
decision_prop d =
    let spec = option_prop IsMembers members_prop d.spec in
    let members = members_prop d.members in
    let tail = entries_prop d.tail in
    let before = all_prop (λ (e : Entry). e.epoch + 1 ≡ d.epoch) (λ e. hlevel props) d.tail in
    hlevel (props, spec, members, tail, before)

outcome_prop : (o : Outcome) → IsProp (FitsOutcome o)
outcome_prop (Answered (Found v)) = hlevel props
outcome_prop (Answered (Differs v)) = maybe_val_prop v
outcome_prop (Answered (Stale n)) = hlevel props
outcome_prop (Answered Missing) = Unit-prop
outcome_prop (Answered Done) = Unit-prop
outcome_prop (Answered NoRoom) = Unit-prop
outcome_prop (Refused r) = Unit-prop

-- ---- records and datagrams

rec_prop : (r : Rec) → IsProp (FitsRec r)
rec_prop (rec.Boot me n) = hlevel props
rec_prop (rec.Prepare entry) = entry_prop entry
rec_prop (rec.Commit stamp) = hlevel props
rec_prop (rec.Adopt place entries) = let es = entries_prop entries in hlevel (props, es)
rec_prop (rec.Suspend epoch) = hlevel props
rec_prop (rec.Promise instance ballot) = hlevel props
rec_prop (rec.Accept instance ballot decision) = let d = decision_prop decision in hlevel (props, d)
rec_prop (rec.Decide decision) = decision_prop decision
rec_prop (rec.Enter epoch) = hlevel props

payload_prop : (p : InEpoch) → IsProp (FitsPayload p)
payload_prop (payload.Prepare entry) = entry_prop entry
payload_prop (payload.PrepareOk stamp at) = hlevel props
payload_prop (payload.ClockTime at) = hlevel props

datagram_prop : (d : Datagram) → IsProp (FitsDatagram d)
datagram_prop (datagram.Frame from to epoch seq payload) = let p = payload_prop payload in hlevel (props, p)
datagram_prop (datagram.Ack from to epoch next) = hlevel props
datagram_prop (datagram.Part from to boot number index count bytes) = hlevel props
datagram_prop (datagram.Request command) = command_prop command
datagram_prop (datagram.Reply client number outcome) = let o = outcome_prop outcome in hlevel (props, o)
datagram_prop (datagram.Operate members) = members_prop members

pub records_prop : (recs : List Rec) → IsProp (AllByRecursion FitsRec recs)
records_prop recs = all_prop FitsRec rec_prop recs

to_prop : (to : To) → IsProp (FitsTo to)
to_prop (to_whom.Replica k) = hlevel props
to_prop (to_whom.Address address) = Unit-prop

pub sends_prop : (sends : List Send) → IsProp (AllByRecursion FitsSent sends)
sends_prop sends = all_prop FitsSent (λ s. ×_prop (to_prop s.to) (datagram_prop s.datagram)) sends
