-- The proof that a record or a message has an encoding is unique.
use Rattle.std.proofs.Common.{ℕ, List, [], ◌∷◌}
use Rattle.std.specs.Prelude.{Option, Some, None}
use Rattle.std.specs.List.{AllByRecursion}
use Rattle.std.specs.Coded.{×_prop, Unit-prop}
use Rattle.std.proofs.Props.{props}
use Rattle.crsm_base.specs.declared.command.Op.{Op}
use Rattle.crsm_base.specs.declared.command.Op.TheVariants.{Get, Put, Delete, Cas}
use Rattle.crsm_base.specs.declared.command.Command.{Command}
use Rattle.crsm_base.specs.Spelling.{FitsCommand, FitsOp, FitsOption, FitsVal}
use Rattle.crsm_mpreplica.specs.Fitting.{FitsAccepted, FitsChosen, FitsMessage}
use Rattle.crsm_mpspec.specs.declared.accepts.MpAccepted.{MpAccepted}
use Rattle.crsm_mpspec.specs.declared.choices.MpChosen.{MpChosen}
use Rattle.crsm_mpspec.specs.declared.message.MpMessage.{MpMessage}
use Rattle.crsm_mpspec.specs.declared.rec.MpRec.{MpRec}
use Rattle.crsm_mpspec.specs.declared.send.MpSend.{MpSend}
use Rattle.crsm_mpspec.specs.Types.{Value}
use Rattle.crsm_mpspec.specs.Records.{FitsRec}
use Rattle.crsm_mpworld.specs.Fits.{FitsSend}

option_prop : {X : Type 0} (Fits : X → Type 0) → ((x : X) → IsProp (Fits x)) → (o : Option X) → IsProp (FitsOption Fits o)
option_prop Fits h None = Unit-prop
option_prop Fits h (Some x) = h x

val_prop : (o : Option (List ℕ)) → IsProp (FitsOption FitsVal o)
val_prop o = option_prop FitsVal (λ v. hlevel props) o

op_prop : (o : Op) → IsProp (FitsOp o)
op_prop (Get k) = hlevel props
op_prop (Put k v) = hlevel props
op_prop (Delete k) = hlevel props
op_prop (Cas k expected new) = hlevel (props, val_prop)

command_prop : (c : Command) → IsProp (FitsCommand c)
command_prop c = let op = op_prop c.op in hlevel (props, op)

value_prop : (v : Value) → IsProp (FitsOption FitsCommand v)
value_prop v = option_prop FitsCommand command_prop v

rec_prop : (r : MpRec) → IsProp (FitsRec r)
rec_prop MpRec.Boot = Unit-prop
rec_prop (MpRec.Promise b) = hlevel props
rec_prop (MpRec.Accept slot b v) = let value = value_prop v in hlevel (props, value)
rec_prop (MpRec.Choose slot v) = let value = value_prop v in hlevel (props, value)

pub records_prop : (recs : List MpRec) → IsProp (AllByRecursion FitsRec recs)
records_prop [] = Unit-prop
records_prop (r ∷ recs) = ×_prop (rec_prop r) (records_prop recs)

-- ---- messages

accepted_prop : (a : MpAccepted) → IsProp (FitsAccepted a)
accepted_prop a = let value = value_prop a.value in hlevel (props, value)

accepts_prop : (xs : List MpAccepted) → IsProp (AllByRecursion FitsAccepted xs)
accepts_prop [] = Unit-prop
accepts_prop (a ∷ xs) = ×_prop (accepted_prop a) (accepts_prop xs)

chosen_prop : (c : MpChosen) → IsProp (FitsChosen c)
chosen_prop c = let value = value_prop c.value in hlevel (props, value)

choices_prop : (cs : List MpChosen) → IsProp (AllByRecursion FitsChosen cs)
choices_prop [] = Unit-prop
choices_prop (c ∷ cs) = ×_prop (chosen_prop c) (choices_prop cs)

pub message_prop : (m : MpMessage) → IsProp (FitsMessage m)
message_prop (MpMessage.Prep b start) = hlevel props
message_prop (MpMessage.Prom b accepted chosen) = let told = accepts_prop accepted in let known = choices_prop chosen in hlevel (props, told, known)
message_prop (MpMessage.No p) = hlevel props
message_prop (MpMessage.Acc b slot v) = let value = value_prop v in hlevel (props, value)
message_prop (MpMessage.Accd b slot) = hlevel props
message_prop (MpMessage.Learn slot v) = let value = value_prop v in hlevel (props, value)
message_prop (MpMessage.Ask start) = Unit-prop

-- of messages to be sent
pub sends_prop : (sends : List MpSend) → IsProp (AllByRecursion FitsSend sends)
sends_prop [] = Unit-prop
sends_prop (s ∷ sends) = ×_prop (message_prop s.message) (sends_prop sends)
